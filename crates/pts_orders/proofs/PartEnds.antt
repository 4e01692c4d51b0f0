-- The ends of parts that keep joined points together.
use Rattle.std.proofs.Common.{◌≡◌, ℕ, zero, suc, ◌+◌, ◌≤◌, ◌<◌, Bool, true, false, ◌∷◌, if◌then◌else◌, refl, subst, arith}
use Rattle.std.proofs.lemmas.Bool.Decides.{nat_tests}
use Rattle.pts_orders.specs.Evaluations.{Evaluation, is_within}
use Rattle.pts_orders.specs.Extensions.{IsCut, AreCuts}
use Rattle.pts_orders.specs.Grids.{part_ends, Rises}

module _ (joined : ℕ → Bool) where
  rise : (low first count last : ℕ) → low ≤ first → first + suc count ≡ last → Rises low (part_ends joined first (suc count)) last
  rise low first zero last h e = ((let up : low ≤ suc first = omega arith in up), (let end : suc first ≡ last = omega arith in end))
  rise low first (suc count) last h e =
      by (joined first) (rise low (suc first) count last (omega arith) (omega arith)) (rise (suc first) (suc first) count last (omega arith) (omega arith))
    where
      by : (b : Bool) → Rises low (part_ends joined (suc first) (suc count)) last → Rises (suc first) (part_ends joined (suc first) (suc count)) last
          → Rises low (if b then part_ends joined (suc first) (suc count) else suc first ∷ part_ends joined (suc first) (suc count)) last
      by true one other = one
      by false one other = ((let up : low ≤ suc first = omega arith in up), other)

  cuts : (test : Evaluation → Bool) (before : Evaluation → Evaluation → Bool) (first count last : ℕ) → first + suc count ≡ last
      → IsCut test before last → ((k : ℕ) → first ≤ k → suc k < last → joined k ≡ false → IsCut test before (suc k))
      → AreCuts test before (part_ends joined first (suc count))
  cuts test before first zero last e end at_ends = ((let same : last ≡ suc first = omega arith in subst (IsCut test before) same end), tt)
  cuts test before first (suc count) last e end at_ends =
      by (joined first) refl (cuts test before (suc first) count last (omega arith) end (λ k h. at_ends k (omega arith)))
    where
      by : (b : Bool) → joined first ≡ b → AreCuts test before (part_ends joined (suc first) (suc count))
          → AreCuts test before (if b then part_ends joined (suc first) (suc count) else suc first ∷ part_ends joined (suc first) (suc count))
      by true p rest = rest
      by false p rest = (at_ends first (omega arith) (omega arith) p, rest)

-- the ends are cuts, and lead up to the last point
pub parts_end_at_cuts : (before : Evaluation → Evaluation → Bool) (joined : ℕ → Bool) (positions first count : ℕ)
    → ((k : ℕ) → first ≤ k → suc k < first + count → joined k ≡ false → IsCut (is_within 0 positions first (first + count)) before (suc k))
    → AreCuts (is_within 0 positions first (first + count)) before (part_ends joined first count)
    × Rises first (part_ends joined first count) (first + count)
parts_end_at_cuts before joined positions first zero at_ends = (tt, (let same : first ≡ first + 0 = omega arith in same))
parts_end_at_cuts before joined positions first (suc count) at_ends = (
  cuts joined (is_within 0 positions first (first + suc count)) before first count (first + suc count) refl none at_ends,
  rise joined first first count (first + suc count) (omega arith) refl,
)
  where
    none : IsCut (is_within 0 positions first (first + suc count)) before (first + suc count)
    none x y a b low high = absurd (grind (arith, nat_tests))
