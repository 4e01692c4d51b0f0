-- What holds of the points of a loop and of their steps.
use Rattle.std.proofs.Common.{◌≡◌, ℕ, zero, suc, ◌+◌, Some, List, [], ◌∷◌, length, slice_get, refl, ap, ◌∙◌, arith, subst}
use Rattle.std.specs.Prelude.{All, unwrap_or}
use Rattle.std.proofs.lemmas.Option.{none-some}
use Rattle.pts_tree.specs.declared.loops.Loop as loops
use Rattle.pts_tree.specs.declared.script.Item.TheVariants as items
use Rattle.pts_rules.specs.Known.{Scope}
use Rattle.pts_rules.specs.Parts.{Loop}
use Rattle.pts_points.specs.Pieces.{Deed, Reads, Assigns, Updates, Notes, Tests, Gives, LivesOut, Point}
use Rattle.pts_points.specs.Points.{context_of, form_of, item_points, loop_piece}
use Rattle.pts_points.specs.Standings.{IsNoted, IsNotedBefore, StandsBehind}
use Rattle.pts_points.proofs.Each.{all_of, at_place}
use Rattle.pts_points.proofs.Builds.{append_nothing}
use Rattle.pts_points.proofs.LetNotes.{lets_noted}
use Rattle.pts_points.proofs.PointLists.{number_at}
use Rattle.pts_points.proofs.Standing.{IsRight}
use Rattle.pts_points.proofs.Wholes.{good_loop}
use Rattle.pts_steps.specs.declared.step.Step.{Step}
use Rattle.pts_steps.specs.declared.step.Step.TheVariants as steps
use Rattle.pts_steps.specs.Steps.{AreSteps, Does, Fits, form_shown, loop_points}

-- ---- steps

module _ (names : Scope) (x : loops.Loop) where
  pub as_many : (points : List Point) (ss : List Step) → AreSteps names x points ss → length ss ≡ length points
  as_many [] [] h = refl
  as_many [] (s ∷ ss) h = absurd h
  as_many (p ∷ points) [] h = absurd h
  as_many (p ∷ points) (s ∷ ss) h = ap (λ n. suc n) (as_many points ss h.1)

  pub fits_at : (points : List Point) (ss : List Step) → AreSteps names x points ss
      → (k : ℕ) (point : Point) (step : Step) → slice_get points k ≡ Some point → slice_get ss k ≡ Some step → Fits names x point step
  fits_at [] [] h k point step e f = absurd (none-some point e)
  fits_at [] (s ∷ ss) h k point step e f = absurd h
  fits_at (p ∷ points) [] h k point step e f = absurd h
  fits_at (p ∷ points) (s ∷ ss) h zero point step e f =
      subst (λ q. Fits names x q step) (ap (λ o. unwrap_or o p) e) (subst (λ z. Fits names x p z) (ap (λ o. unwrap_or o s) f) h.0)
  fits_at (p ∷ points) (s ∷ ss) h (suc k) point step e f = fits_at points ss h.1 k point step e f

  pub form_is : (point : Point) (step : Step) → Fits names x point step → form_shown step ≡ form_of point.deed
  form_is point step h = by_deed point.deed step h
    where
      by_deed : (deed : Deed) (step : Step) → Does names x point.context.lets deed step → form_shown step ≡ form_of deed
      by_deed (Reads array index) steps.Read h = refl
      by_deed (Assigns array index wanted) (steps.Write code) h = refl
      by_deed (Updates array index op wanted) (steps.Update applied code) h = refl
      by_deed (Notes wanted) (steps.Note code) h = refl
      by_deed (Tests wanted) (steps.Test code) h = refl
      by_deed (Gives view wanted) (steps.Give clause code) h = refl
      by_deed (LivesOut array line) steps.LiveOut h = refl
      by_deed deed step h = absurd h

-- ---- points

pub numbers_here : (names : Scope) (x : loops.Loop) (k : ℕ) (point : Point) → slice_get (loop_points names x) k ≡ Some point → point.number ≡ k
numbers_here names x k point e =
    let g = good_loop names x in
    let from : point.number ≡ 0 + k = number_at 0 (0 + (loop_piece names x).size) (loop_points names x) k point (g.numbered (context_of names 0 (Loop x)) 0 0) e in
    omega (arith, from)

pub behind_needs : (names : Scope) (x : loops.Loop) (k : ℕ) (point : Point) → slice_get (loop_points names x) k ≡ Some point → StandsBehind point
behind_needs names x k point e =
    let g = good_loop names x in
    let right = at_place IsRight (loop_points names x) k point (g.right (context_of names 0 (Loop x)) 0 0 (record { tests = omega arith; lets = tt })) e in
    record {
      tests = right.stands.tests;
      lets = all_of (IsNotedBefore point.number) point.context.lets right.stands.lets;
      reads = right.owes.0;
    }

-- the points of an item that is a loop
alone : (names : Scope) (x : loops.Loop) → item_points names 0 (items.Loop x) ≡ loop_points names x
alone names x = append_nothing (loop_points names x)

pub noted_here : (names : Scope) (x : loops.Loop) (k : ℕ) (point : Point) → slice_get (loop_points names x) k ≡ Some point → All (IsNoted (loop_points names x)) point.context.lets
noted_here names x k point e =
    subst (λ ps. All (IsNoted ps) point.context.lets) (alone names x)
    (lets_noted names 0 (items.Loop x) k point (ap (λ ps. slice_get ps k) (alone names x) ∙ e))
