-- What the items before an item leave to it.
use Rattle.std.specs.Prelude.{◌≡◌, ℕ, ◌<◌, ◌^◌, Bool, false, IsTrue, All, List, count_by, length}
use Rattle.pts_tree.specs.declared.script.Item.{Item}
use Rattle.pts_tree.specs.declared.script.Item.TheVariants as items
use Rattle.pts_rules.specs.Known.{Scope, natural, number}
use Rattle.pts_rules.specs.Limits.{cells, is_large, is_statement, is_too_deep, is_too_many}
use Rattle.pts_rules.specs.Mistyped.{item_right}
use Rattle.pts_rules.specs.Indices.{is_not_affine, is_out_at}
use Rattle.pts_rules.specs.Parts.{statements}
use Rattle.pts_rules.specs.Scopes.{known}
use Rattle.pts_rules.specs.Steps.{is_backward_range}
use Rattle.pts_lowering.specs.Fitting.{HasNumbers}
use Rattle.pts_points.specs.Inside.{IsSound}
use Rattle.pts_points.specs.Points.{item_points}
use Rattle.pts_program.specs.declared.standing.Standing.{Standing}

-- this is what these items leave
pub record IsStanding (before : List Item) (standing : Standing) : Type 0 where
  pub scope : standing.scope ≡ known before
  pub statements : standing.statements ≡ count_by is_statement before
  pub cells : standing.cells ≡ cells (known before)

-- what later steps ask of an item that breaks no rule
pub record IsAcceptable (standing : Standing) (x : Item) : Type 0 where
  pub right : IsTrue (item_right standing.scope x)
  pub shallow : is_too_deep standing.scope x ≡ false
  pub few : is_too_many standing.scope standing.statements standing.cells x ≡ false
  pub forward : is_backward_range standing.scope x ≡ false
  pub affine : is_not_affine standing.scope x ≡ false
  pub stays : (p : ℕ) → ¬ IsTrue (is_out_at standing.scope x p)

-- a function of too many parameters or too large a size
abbrev pub is_large_function : Scope → Item → Bool
is_large_function scope (items.Function x) = is_large scope x
is_large_function scope x = false

-- an item that is right, and whose signature is small if it is a function
pub record IsDeclarable (scope : Scope) (x : Item) : Type 0 where
  pub right : IsTrue (item_right scope x)
  pub shallow : is_too_deep scope x ≡ false
  pub few : is_large_function scope x ≡ false

-- an item that can be added to the lists of those before it, where this many calls stand before its own
pub record IsAddable (scope : Scope) (earlier : ℕ) (x : Item) : Type 0 where
  pub declarable : IsDeclarable scope x
  pub numbered : HasNumbers scope
  pub sound : All (IsSound scope) (statements x)
  pub few : length (item_points scope earlier x) < 2 ^ 32

-- the cells of the array that an item declares
abbrev pub cells_in : Scope → Item → ℕ
cells_in scope (items.Array x) = natural (number scope x.length)
cells_in scope x = 0
