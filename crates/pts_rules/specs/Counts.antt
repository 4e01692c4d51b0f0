-- How deep and how large functions, blocks and statements are.
use Rattle.std.specs.Prelude.{ℕ, ◌+◌, ◌-◌, ◌/◌, max, Bool, true, false, ◌&&◌, ◌||◌, if◌then◌else◌, is_some, Option, Some, None, List, [], ◌∷◌, length, sum, map, flat_map, ℤ, pos, ◌-ℤ◌, nat_abs, int_lt}
use Rattle.pts_tree.specs.declared.sum.Sum.{Sum}
use Rattle.pts_tree.specs.declared.call.CallForm.{CallForm}
use Rattle.pts_tree.specs.declared.call.CallForm.TheVariants as forms
use Rattle.pts_tree.specs.declared.expr.Expr.{Expr}
use Rattle.pts_tree.specs.declared.expr.Expr.TheOpen.{Expr-F}
use Rattle.pts_tree.specs.declared.expr.Expr.TheFolds.{fold-Expr}
use Rattle.pts_tree.specs.declared.loops.Loop as loops
use Rattle.pts_tree.specs.declared.loops.Clause.{Clause}
use Rattle.pts_tree.specs.declared.loops.Clause.TheVariants as clauses
use Rattle.pts_tree.specs.declared.loops.Initial.TheVariants as initials
use Rattle.pts_tree.specs.declared.loops.BodyStmt.{BodyStmt}
use Rattle.pts_tree.specs.declared.loops.BodyStmt.TheOpen.{BodyStmt-F}
use Rattle.pts_tree.specs.declared.loops.BodyStmt.TheFolds.{fold-BodyStmt}
use Rattle.pts_tree.specs.declared.block.Block.{Block}
use Rattle.pts_tree.specs.declared.block.TaskStmt.TheOpen.{TaskStmt-F}
use Rattle.pts_tree.specs.declared.block.TaskStmt.TheFolds.{fold-Block}
use Rattle.pts_rules.specs.Parts.{Simple, Throw, Assign, Call, Loop}
use Rattle.pts_rules.specs.declared.meaning.Signature.{Signature}
use Rattle.pts_rules.specs.Known.{Scope, function_of, constant_of, number}

-- ---- functions

-- the greatest of these
abbrev pub greatest : List ℕ → ℕ
greatest [] = 0
greatest (x ∷ xs) = max x (greatest xs)

abbrev pub function_depth : Option Signature → ℕ
function_depth None = 0
function_depth (Some f) = f.depth

-- a call has the depth of its function or of its arguments; an expression that calls none has 0
abbrev pub calls_step : Scope → Expr-F ℕ ℕ → ℕ
calls_step scope (Expr-F.Call name xs) = max (function_depth (function_of scope name)) (greatest xs)
calls_step scope (Expr-F.Element name x) = x
calls_step scope (Expr-F.Convert to x) = x
calls_step scope (Expr-F.Paren x) = x
calls_step scope (Expr-F.Minus x) = x
calls_step scope (Expr-F.Not x) = x
calls_step scope (Expr-F.Chain x xs) = max x (greatest xs)
calls_step scope (Expr-F.Compare op x y) = max x y
calls_step scope (Expr-F.All xs) = greatest xs
calls_step scope (Expr-F.Any xs) = greatest xs
calls_step scope (Expr-F.If x y z) = max x (max y z)
calls_step scope _ = 0

-- the greatest depth of the functions that an expression calls
unfoldable pub called_depth : Scope → Expr → ℕ
called_depth scope = fold-Expr ℕ ℕ (calls_step scope) (λ part. part.operand)

-- the depth of a function with this body
abbrev pub depth_of : Scope → Expr → ℕ
depth_of scope x = 1 + called_depth scope x

abbrev pub function_size : Option Signature → ℕ
function_size None = 0
function_size (Some f) = f.size

-- a size, and whether it is that of a number or a constant name alone
pub record Size : Type 0 where
  pub nodes : ℕ
  pub literal : Bool

abbrev pub sized : ℕ → Size
sized n = record { nodes = n; literal = false }

abbrev pub nodes_of : List Size → ℕ
nodes_of xs = sum (map (λ x. x.nodes) xs)

-- operators, operands, conversions and `if`s count 1; parentheses do not; a `-` before a number or a constant name is a part of it;
-- a call counts 1, its arguments and the size of the function
abbrev pub size_step : Scope → Expr-F Size Size → Size
size_step scope (Expr-F.Number n) = record { nodes = 1; literal = true }
size_step scope (Expr-F.Name name) = record { nodes = 1; literal = is_some (constant_of scope name) }
size_step scope (Expr-F.Call name xs) = sized (1 + nodes_of xs + function_size (function_of scope name))
size_step scope (Expr-F.Element name x) = sized (1 + x.nodes)
size_step scope (Expr-F.Convert to x) = sized (1 + x.nodes)
size_step scope (Expr-F.Paren x) = sized x.nodes
size_step scope (Expr-F.Minus x) = sized (if x.literal then 1 else 1 + x.nodes)
size_step scope (Expr-F.Not x) = sized (1 + x.nodes)
size_step scope (Expr-F.Chain x xs) = sized (x.nodes + nodes_of xs + length xs)
size_step scope (Expr-F.Compare op x y) = sized (1 + x.nodes + y.nodes)
size_step scope (Expr-F.All xs) = sized (nodes_of xs + (length xs - 1))
size_step scope (Expr-F.Any xs) = sized (nodes_of xs + (length xs - 1))
size_step scope (Expr-F.If x y z) = sized (1 + x.nodes + y.nodes + z.nodes)
size_step scope _ = sized 1

-- an expression by its size when its calls are expanded
unfoldable pub sizing : Scope → Expr → Size
sizing scope = fold-Expr Size Size (size_step scope) (λ part. part.operand)

-- the size of a function with this body
abbrev pub size_of : Scope → Expr → ℕ
size_of scope x = (sizing scope x).nodes

-- ---- blocks

abbrev pub nesting_step : TaskStmt-F ℕ ℕ → ℕ
nesting_step (TaskStmt-F.Run xs) = greatest xs
nesting_step (TaskStmt-F.Block x) = x
nesting_step _ = 0

-- how many blocks stand inside each other, this one included
unfoldable pub nesting : Block → ℕ
nesting = fold-Block ℕ ℕ nesting_step (λ x. 1 + greatest x.body)

-- a statement by whether it is a `run`, and by the numbers of `run` of each block inside it
pub record Runs : Type 0 where
  pub own : ℕ
  pub inner : List ℕ

abbrev pub runs_step : TaskStmt-F Runs (List ℕ) → Runs
runs_step (TaskStmt-F.Run xs) = record { own = 1; inner = flat_map (λ x. x.inner) xs }
runs_step (TaskStmt-F.Block x) = record { own = 0; inner = x }
runs_step _ = record { own = 0; inner = [] }

-- how many `run` stand directly in each block, this one and those inside it
unfoldable pub runs : Block → List ℕ
runs = fold-Block Runs (List ℕ) runs_step (λ x. sum (map (λ y. y.own) x.body) ∷ flat_map (λ y. y.inner) x.body)

-- ---- points

abbrev pub reads_step : Expr-F ℕ ℕ → ℕ
reads_step (Expr-F.Call name xs) = sum xs
reads_step (Expr-F.Element name x) = 1 + x
reads_step (Expr-F.Convert to x) = x
reads_step (Expr-F.Paren x) = x
reads_step (Expr-F.Minus x) = x
reads_step (Expr-F.Not x) = x
reads_step (Expr-F.Chain x xs) = x + sum xs
reads_step (Expr-F.Compare op x y) = x + y
reads_step (Expr-F.All xs) = sum xs
reads_step (Expr-F.Any xs) = sum xs
reads_step (Expr-F.If x y z) = x + y + z
reads_step _ = 0

-- how many elements an expression reads
unfoldable pub reads : Expr → ℕ
reads = fold-Expr ℕ ℕ reads_step (λ part. part.operand)

-- 1 where the part is there
abbrev pub there : {A : Type 0} → Option A → ℕ
there None = 0
there (Some x) = 1

abbrev pub else_points : Option (List ℕ) → ℕ
else_points None = 0
else_points (Some xs) = sum xs

-- the reads of its expression and one point of its own; an index that is written has no reads
abbrev pub body_points_step : BodyStmt-F ℕ → ℕ
body_points_step (BodyStmt-F.Assign at x) = reads x + 1
body_points_step (BodyStmt-F.Let name x) = reads x + 1
body_points_step (BodyStmt-F.Combine name x) = reads x + 1
body_points_step (BodyStmt-F.If x xs ys) = reads x + 1 + sum xs + else_points ys
body_points_step (BodyStmt-F.VecOff xs) = sum xs
body_points_step (BodyStmt-F.Ordered at op x) = reads x + 1

-- how many points a statement of a body has
unfoldable pub body_points : BodyStmt → ℕ
body_points = fold-BodyStmt ℕ body_points_step

-- an induction with a cell, and each reduction, writes it
abbrev pub clause_points : Clause → ℕ
clause_points (clauses.Reduce x) = 1
clause_points (clauses.Induct x) = elim x.initial [ initials.Val y ↦ 0 | initials.Cell y ↦ 1 ]

-- `for_each` writes the range that it reads
abbrev pub own_points : CallForm → ℕ
own_points forms.ForEach = 2
own_points _ = 1

-- how many points a statement has: a read for each source, a write of the target, and one for the cell of the answer
abbrev pub statement_points : Simple → ℕ
statement_points (Throw n) = 0
statement_points (Assign at x) = reads x + 1
statement_points (Call x) = own_points x.form + there x.second + there x.target + there x.store
statement_points (Loop x) = sum (map clause_points x.clauses) + sum (map body_points x.body)

-- ---- loops

-- the step as it is written, or 1
abbrev pub step_of : Scope → Option Sum → ℤ
step_of scope None = pos 1
step_of scope (Some x) = number scope x

-- the step leads from a towards b
abbrev pub leads_to : ℤ → ℤ → ℤ → Bool
leads_to a b step = (int_lt (pos 0) step && int_lt a b) || (int_lt step (pos 0) && int_lt b a)

-- how many numbers a, a + step, a + 2 * step and so on stand before b
abbrev pub positions : ℤ → ℤ → ℤ → ℕ
positions a b step = if leads_to a b step then 1 + (nat_abs (b -ℤ a) - 1) / nat_abs step else 0

-- the positions of a loop; one whose step leads nowhere, or away from its end, has none
abbrev pub loop_positions : Scope → loops.Loop → ℕ
loop_positions scope x = positions (number scope x.low) (number scope x.high) (step_of scope x.step)
