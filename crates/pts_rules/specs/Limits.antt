-- TooDeep and TooMany: what is nested too deep, and the limits that an item passes.
use Rattle.std.specs.Prelude.{ℕ, ◌+◌, ◌^◌, nat_lt, Bool, true, false, ◌||◌, length, sum, map}
use Rattle.std.specs.List.{list_any}
use Rattle.pts_tree.specs.declared.script.ArrayDecl.{ArrayDecl}
use Rattle.pts_tree.specs.declared.script.FunctionDecl.{FunctionDecl}
use Rattle.pts_tree.specs.declared.script.Item.{Item}
use Rattle.pts_tree.specs.declared.script.Item.TheVariants as items
use Rattle.pts_rules.specs.Parts.{Simple, Loop, statements}
use Rattle.pts_rules.specs.declared.meaning.Meaning.{Meaning}
use Rattle.pts_rules.specs.declared.meaning.Meaning.TheVariants.{Array}
use Rattle.pts_rules.specs.Known.{Scope, natural, number}
use Rattle.pts_rules.specs.Counts.{depth_of, size_of, nesting, runs, statement_points, loop_positions}

-- TooDeep: calls of functions, or blocks, are more than 16 deep
abbrev pub is_too_deep : Scope → Item → Bool
is_too_deep scope (items.Function x) = nat_lt 16 (depth_of scope x.body)
is_too_deep scope (items.Block x) = nat_lt 16 (nesting x)
is_too_deep scope _ = false

abbrev pub cells_of : Meaning → ℕ
cells_of (Array kind length) = natural length
cells_of _ = 0

-- the cells of all arrays
abbrev pub cells : Scope → ℕ
cells scope = sum (map (λ entry. cells_of entry.1) scope)

abbrev pub is_statement : Item → Bool
is_statement (items.Const x) = false
is_statement (items.Array x) = false
is_statement (items.Function x) = false
is_statement _ = true

-- an array passes the cells of all arrays, where the others have this many
abbrev pub has_many_cells : Scope → ℕ → ArrayDecl → Bool
has_many_cells scope cells x = nat_lt (2 ^ 20) (natural (number scope x.length) + cells)

-- a function has too many parameters or too large a size
abbrev pub is_large : Scope → FunctionDecl → Bool
is_large scope x = nat_lt 8 (length x.params) || nat_lt 65536 (size_of scope x.body)

-- a loop of more than 1,048,576 positions
abbrev pub is_long : Scope → Simple → Bool
is_long scope (Loop x) = nat_lt (2 ^ 20) (loop_positions scope x)
is_long scope _ = false

-- the points of an item
abbrev pub points : Item → ℕ
points x = sum (map statement_points (statements x))

-- more than 4,096 statements, 1,024 points, or a loop that is too long, behind this many statements
abbrev pub has_many : Scope → ℕ → Item → Bool
has_many scope before x = nat_lt 4096 (before + 1) || nat_lt 1024 (points x) || list_any (is_long scope) (statements x)

-- TooMany: 1,048,576 cells, 8 parameters, a size of 65,536, 64 `run` in one block, or a limit of every statement is passed,
-- behind this many statements and in a scope of arrays with this many cells
abbrev pub is_too_many : Scope → ℕ → ℕ → Item → Bool
is_too_many scope before cells (items.Const x) = false
is_too_many scope before cells (items.Array x) = has_many_cells scope cells x
is_too_many scope before cells (items.Function x) = is_large scope x
is_too_many scope before cells (items.Block x) = list_any (nat_lt 64) (runs x) || has_many scope before (items.Block x)
is_too_many scope before cells x = has_many scope before x
