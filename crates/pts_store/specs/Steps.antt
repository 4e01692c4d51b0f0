-- Writes one after another, each to a cell.
use Rattle.std.specs.Prelude.{◌≡◌, ℕ, ◌==◌, ◌&&◌, if◌then◌else◌, Option, None, Some, List, [], ◌∷◌}
use Rattle.pts_types.specs.declared.value.Value.{Value}
use Rattle.pts_store.specs.Writes.{Writes, written, over}

-- a value for a cell
pub record Step : Type 0 where
  pub array : ℕ
  pub index : ℕ
  pub value : Value

-- what a step writes to a cell
abbrev pub step_at : Step → ℕ → ℕ → Option Value
step_at step array index = if array == step.array && index == step.index then Some step.value else None

-- what the last of the steps to a cell writes there
unfoldable pub last_at : List Step → ℕ → ℕ → Option Value
last_at [] array index = None
last_at (step ∷ rest) array index = over (step_at step array index) (last_at rest array index)

-- the writes are those of the steps: at each cell the value of the last step there, and nothing where there is none
pub record AreOf (steps : List Step) (writes : Writes) : Type 0 where
  pub cell : (array index : ℕ) → written writes array index ≡ last_at steps array index
