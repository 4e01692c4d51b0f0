-- Which orders of evaluations an order between them allows.
use Rattle.std.specs.Prelude.{◌≡◌, ◌≤◌, ◌<◌, ℕ, suc, Bool, true, false, List, [], ◌∷◌, if◌then◌else◌, ⊤}
use Rattle.pts_orders.specs.Evaluations.{Evaluation, is_same, is_earlier, one_if, times, Pairs}

-- each evaluation stands in the list once, and nothing else does
abbrev pub IsOnceEach : (Evaluation → Bool) → List Evaluation → Type 0
IsOnceEach is_evaluation l = (x : Evaluation) → times x l ≡ one_if (is_evaluation x)

-- all evaluations, each once, and none behind one that it is before
pub record IsLinearExtension (is_evaluation : Evaluation → Bool) (before : Evaluation → Evaluation → Bool) (l : List Evaluation) : Type 0 where
  pub each_once : IsOnceEach is_evaluation l
  pub in_order : Pairs (λ x y. before y x ≡ false) l

-- the first place at which an evaluation stands; the length of the list where it does not
abbrev pub place : Evaluation → List Evaluation → ℕ
place x [] = 0
place x (y ∷ ys) = if is_same x y then 0 else suc (place x ys)

-- the same in the words of places: where x is before y, x stands at the lower place
pub record IsInOrder (is_evaluation : Evaluation → Bool) (before : Evaluation → Evaluation → Bool) (l : List Evaluation) : Type 0 where
  pub each_once : IsOnceEach is_evaluation l
  pub places : (x y : Evaluation) → is_evaluation x ≡ true → is_evaluation y ≡ true → before x y ≡ true → place x l < place y l

-- nothing is before itself
abbrev pub IsIrreflexive : (Evaluation → Evaluation → Bool) → Type 0
IsIrreflexive before = (x : Evaluation) → before x x ≡ false

-- no evaluation is before one that is earlier in index order
abbrev pub GoesForward : (Evaluation → Bool) → (Evaluation → Evaluation → Bool) → Type 0
GoesForward is_evaluation before =
    (x y : Evaluation) → is_evaluation x ≡ true → is_evaluation y ≡ true → is_earlier x y ≡ true → before y x ≡ false

-- an evaluation at one position is before none at another
abbrev pub StaysAtPositions : (Evaluation → Evaluation → Bool) → Type 0
StaysAtPositions before = (x y : Evaluation) → before x y ≡ true → x.position ≡ y.position

-- no evaluation from a point on is before one that has a lower point
abbrev pub IsCut : (Evaluation → Bool) → (Evaluation → Evaluation → Bool) → ℕ → Type 0
IsCut is_evaluation before b =
    (x y : Evaluation) → is_evaluation x ≡ true → is_evaluation y ≡ true → x.point < b → b ≤ y.point → before y x ≡ false

-- each number is a cut
abbrev pub AreCuts : (Evaluation → Bool) → (Evaluation → Evaluation → Bool) → List ℕ → Type 0
AreCuts is_evaluation before [] = ⊤
AreCuts is_evaluation before (b ∷ bs) = IsCut is_evaluation before b × AreCuts is_evaluation before bs
