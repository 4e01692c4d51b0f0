-- Folding over lanes is folding over what they hold, for an operation that may be grouped and turned freely.
use Rattle.std.proofs.Common.{◌≡◌, ℕ, List, [], ◌∷◌, ◌++◌, length, fold, refl, ap, sym, ◌∙◌, arith}
use lib.Lanes.{zip2}
use Rattle.std.proofs.lemmas.List.Sums.{fold-append}
use Rattle.std.proofs.lemmas.Simd.{length-zip2}
use Rattle.pts_lanes.specs.Kernels.{number_in, number_under}
use Rattle.pts_lanes.specs.Lanes.{StandFor}
use Rattle.pts_types.specs.Arithmetic.{IsReduction}
use Rattle.pts_types.specs.Laws.{IsAssociative, IsCommutative, IsU64}
use Rattle.pts_types.specs.declared.operation.ScalarOp.{ScalarOp}
use Rattle.pts_types.specs.declared.operation.ScalarOp.TheVariants.{Plus, Multiplies, BitAnd, BitOr, BitXor, Min, Max}
use Rattle.pts_types.specs.declared.value.Value.TheVariants.{U64}

module _ {A : Type 0} (f : A → A → A) (grouped : (x y z : A) → f (f x y) z ≡ f x (f y z)) (turned : (x y : A) → f x y ≡ f y x) where
  -- an item may come last
  fold-later : (a y : A) (xs : List A) → fold f (f a y) xs ≡ f (fold f a xs) y
  fold-later a y [] = refl
  fold-later a y (x ∷ xs) = ap (λ b. fold f b xs) (grouped a y x ∙ ap (f a) (turned y x) ∙ sym (grouped a x y)) ∙ fold-later (f a x) y xs

  -- one list joined to another item by item is folded as the one and then the other
  pub fold-joined : (a : A) (xs ys : List A) → length xs ≡ length ys → fold f a (zip2 f xs ys) ≡ fold f (fold f a xs) ys
  fold-joined a [] [] p = refl
  fold-joined a [] (y ∷ ys) p = absurd (omega arith)
  fold-joined a (x ∷ xs) [] p = absurd (omega arith)
  fold-joined a (x ∷ xs) (y ∷ ys) p =
      fold-joined (f a (f x y)) xs ys (omega arith)
      ∙ ap (λ b. fold f b ys) (ap (λ b. fold f b xs) (sym (grouped a x y)) ∙ fold-later (f a x) y xs)

-- eight lanes that are joined stand for the items of both
pub stand-joined : (f : ℕ → ℕ → ℕ) → ((x y z : ℕ) → f (f x y) z ≡ f x (f y z)) → ((x y : ℕ) → f x y ≡ f y x)
    → {T : Type 0} (step : ℕ → T → ℕ) (u v : List ℕ) (xs ys : List T) → StandFor f step u xs → StandFor f step v ys
    → StandFor f step (zip2 f u v) (xs ++ ys)
stand-joined f grouped turned step u v xs ys p q = (
  length-zip2 f u v (p.0 ∙ sym q.0) ∙ p.0,
  λ a. fold-joined f grouped turned a u v (p.0 ∙ sym q.0) ∙ ap (λ b. fold f b v) (p.1 a) ∙ q.1 (fold step a xs) ∙ sym (fold-append step a xs ys),
)

-- ---- the seven operations

pub number-grouped : (op : ScalarOp) → IsReduction op → IsAssociative IsU64 op → (x y z : ℕ) → number_under op (number_under op x y) z ≡ number_under op x (number_under op y z)
number-grouped Plus h law x y z = ap number_in (law (U64 x) (U64 y) (U64 z) tt tt tt)
number-grouped Multiplies h law x y z = ap number_in (law (U64 x) (U64 y) (U64 z) tt tt tt)
number-grouped BitAnd h law x y z = ap number_in (law (U64 x) (U64 y) (U64 z) tt tt tt)
number-grouped BitOr h law x y z = ap number_in (law (U64 x) (U64 y) (U64 z) tt tt tt)
number-grouped BitXor h law x y z = ap number_in (law (U64 x) (U64 y) (U64 z) tt tt tt)
number-grouped Min h law x y z = ap number_in (law (U64 x) (U64 y) (U64 z) tt tt tt)
number-grouped Max h law x y z = ap number_in (law (U64 x) (U64 y) (U64 z) tt tt tt)
number-grouped op h law x y z = absurd h

pub number-turned : (op : ScalarOp) → IsCommutative IsU64 op → (x y : ℕ) → number_under op x y ≡ number_under op y x
number-turned op law x y = ap number_in (law (U64 x) (U64 y) tt tt)

-- for each of the seven operations, lanes that are joined stand for the items of both
pub reduction-joined : (op : ScalarOp) → IsReduction op → IsAssociative IsU64 op → IsCommutative IsU64 op
    → {T : Type 0} (step : ℕ → T → ℕ) (u v : List ℕ) (xs ys : List T) → StandFor (number_under op) step u xs → StandFor (number_under op) step v ys
    → StandFor (number_under op) step (zip2 (number_under op) u v) (xs ++ ys)
reduction-joined op h grouped turned step u v xs ys p q =
    stand-joined (number_under op) (number-grouped op h grouped) (number-turned op turned) step u v xs ys p q
