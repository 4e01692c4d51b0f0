-- Laws of stores and writes.
use Rattle.std.specs.Prelude.{◌≡◌, ℕ, ◌⊎◌, None, [], ◌∷◌, ◌++◌, List, length}
use Rattle.pts_types.specs.Arithmetic.{IsValueOf}
use Rattle.pts_types.specs.declared.value.Kind.{Kind}
use Rattle.pts_types.specs.declared.value.Value.{Value}
use Rattle.pts_store.specs.Kinds.{HasKinds, WritesKinds}
use Rattle.pts_store.specs.Steps.{Step, AreOf}
use Rattle.pts_store.specs.Stores.{Store, cells_in, put_cell, accepted}
use Rattle.pts_store.specs.Writes.{Writes, written, SameWrites, PutsCell, Merges}

-- no cell has a value in both
pub record AreApart (first second : Writes) : Type 0 where
  pub cell : (array index : ℕ) → (written first array index ≡ None) ⊎ (written second array index ≡ None)

-- accepted one after the other, writes give what the merged ones give
abbrev pub AcceptedInTurn : Type 0
AcceptedInTurn =
    (store : Store) (first second both : Writes) → Merges first second both
    → accepted store both ≡ accepted (accepted store first) second

-- writes that are apart may be merged in any order
abbrev pub MergeInAnyOrder : Type 0
MergeInAnyOrder =
    (first second one other : Writes) → AreApart first second → Merges first second one → Merges second first other → SameWrites one other

-- and so may they be accepted
abbrev pub AcceptedInAnyOrder : Type 0
AcceptedInAnyOrder =
    (store : Store) (first second : Writes) → AreApart first second
    → accepted (accepted store first) second ≡ accepted (accepted store second) first

-- of three, the first two or the last two may be merged first
abbrev pub MergesAreAssociative : Type 0
MergesAreAssociative =
    (first second third front back left right : Writes) → Merges first second front → Merges front third left
    → Merges second third back → Merges first back right → SameWrites left right

-- a store keeps the number of its arrays and their lengths
pub record SameShape (old new : Store) : Type 0 where
  pub arrays : length new ≡ length old
  pub cells : (array : ℕ) → length (cells_in new array) ≡ length (cells_in old array)

abbrev pub AcceptingKeepsShape : Type 0
AcceptingKeepsShape = (store : Store) (writes : Writes) → SameShape store (accepted store writes)

abbrev pub PuttingKeepsShape : Type 0
PuttingKeepsShape = (store : Store) (array index : ℕ) (value : Value) → SameShape store (put_cell store array index value)

-- where what is written is of the right kinds, a store keeps its kinds
abbrev pub AcceptingKeepsKinds : Type 0
AcceptingKeepsKinds =
    (kinds : ℕ → Kind) (store : Store) (writes : Writes) → HasKinds kinds store → WritesKinds kinds writes → HasKinds kinds (accepted store writes)

abbrev pub PuttingKeepsKinds : Type 0
PuttingKeepsKinds =
    (kinds : ℕ → Kind) (store : Store) (array index : ℕ) (value : Value) → HasKinds kinds store → IsValueOf (kinds array) value
    → HasKinds kinds (put_cell store array index value)

-- one more write of the right kind, and writes of the right kinds together
abbrev pub WritingKeepsKinds : Type 0
WritingKeepsKinds =
    (kinds : ℕ → Kind) (old new : Writes) (array index : ℕ) (value : Value) → WritesKinds kinds old → IsValueOf (kinds array) value
    → PutsCell old new array index value → WritesKinds kinds new

abbrev pub MergingKeepsKinds : Type 0
MergingKeepsKinds =
    (kinds : ℕ → Kind) (old later new : Writes) → WritesKinds kinds old → WritesKinds kinds later → Merges old later new → WritesKinds kinds new

-- no writes are those of no steps
abbrev pub NoSteps : Type 0
NoSteps = AreOf [] []

-- one more write is one more step at the end
abbrev pub OneStepMore : Type 0
OneStepMore =
    (steps : List Step) (old new : Writes) (array index : ℕ) (value : Value) → AreOf steps old → PutsCell old new array index value
    → AreOf (steps ++ record { array = array; index = index; value = value } ∷ []) new

-- merged writes are those of both lists of steps, one after the other
abbrev pub StepsOfBoth : Type 0
StepsOfBoth =
    (steps more : List Step) (old later new : Writes) → AreOf steps old → AreOf more later → Merges old later new → AreOf (steps ++ more) new
