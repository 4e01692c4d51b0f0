-- What each kernel gives, as a plain function of lists.
use Rattle.std.specs.Prelude.{ℕ, Bool, false, ℤ, List, [], ◌∷◌, length, slice_index, fold, nat_lt, if◌then◌else◌, Option, None, Some, Result, Ok}
use Rattle.std.specs.Int.{int_min, int_max}
use Rattle.pts_types.specs.Arithmetic.{IsReduction, u64_under}
use Rattle.pts_types.specs.declared.operation.ScalarOp.{ScalarOp}
use Rattle.pts_types.specs.declared.operation.ScalarOp.TheVariants.{Minus, Less, LessEqual, Greater, GreaterEqual, Equal, NotEqual}
use Rattle.pts_types.specs.declared.value.Thrown.{Thrown}
use Rattle.pts_types.specs.declared.value.Value.{Value}
use Rattle.pts_types.specs.declared.value.Value.TheVariants as values
use Rattle.pts_types.specs.declared.value.Value.TheVariants.{U64}

-- ---- operations

-- one of the eight operations that give a number for any two numbers of kind u64: the seven of a reduction, and Minus
abbrev pub GivesNumbers : ScalarOp → Type 0
GivesNumbers Minus = Unit {0}
GivesNumbers op = IsReduction op

-- one of the six comparisons
abbrev pub IsComparison : ScalarOp → Type 0
IsComparison Less = Unit {0}
IsComparison LessEqual = Unit {0}
IsComparison Greater = Unit {0}
IsComparison GreaterEqual = Unit {0}
IsComparison Equal = Unit {0}
IsComparison NotEqual = Unit {0}
IsComparison op = ⊥

-- the number that was given, and 0 where it was none
abbrev pub number_in : Result Value Thrown → ℕ
number_in (Ok (U64 n)) = n
number_in given = 0

-- the truth that was given, and false where it was none
abbrev pub truth_in : Result Value Thrown → Bool
truth_in (Ok (values.Bool b)) = b
truth_in given = false

-- the number, or the truth, that an operation gives on two numbers of kind u64
abbrev pub number_under : ScalarOp → ℕ → ℕ → ℕ
number_under op m n = number_in (u64_under op m n)

abbrev pub truth_under : ScalarOp → ℕ → ℕ → Bool
truth_under op m n = truth_in (u64_under op m n)

-- ---- lists

-- f of the items at each place of two lists
abbrev pub pairwise : {A B C : Type 0} → (A → B → C) → List A → List B → List C
pairwise f [] ys = []
pairwise f (x ∷ xs) [] = []
pairwise f (x ∷ xs) (y ∷ ys) = f x y ∷ pairwise f xs ys

-- at each place the item of the first list where the mask is true, and else that of the second
abbrev pub chosen : {A : Type 0} → List Bool → List A → List A → List A
chosen [] xs ys = []
chosen (m ∷ mask) [] ys = []
chosen (m ∷ mask) (x ∷ xs) [] = []
chosen (m ∷ mask) (x ∷ xs) (y ∷ ys) = (if m then x else y) ∷ chosen mask xs ys

-- the least and the greatest of the items, where there are any
abbrev pub extremes_of : List ℤ → Option (ℤ × ℤ)
extremes_of [] = None
extremes_of (x ∷ xs) = Some (fold int_min x xs, fold int_max x xs)

-- the cell at a place, and 0 where the list has no such place
abbrev pub cell_at : List ℕ → ℕ → ℕ
cell_at cells at = if nat_lt at (length cells) then slice_index cells at else 0
