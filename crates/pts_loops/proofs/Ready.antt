-- A loop that is ready: its points, its steps and its text at the same numbers.
use Rattle.std.proofs.Common.{◌≡◌, ℕ, zero, suc, ◌+◌, ◌-◌, ◌<◌, Some, List, [], ◌∷◌, length, map, refl, ap, sym, ◌∙◌, arith}
use Rattle.std.specs.Prelude.{slice_get}
use Rattle.std.proofs.lemmas.List.Sums.{count_by-le-length}
use Rattle.std.proofs.lemmas.List.{length-map}
use Rattle.std.proofs.lemmas.Option.{none-some}
use Rattle.pts_code.specs.Codes.{Sight}
use Rattle.pts_code.specs.Compiling.{Holds}
use Rattle.pts_code.specs.Functions.{environment_of}
use Rattle.pts_points.specs.declared.point.PointInfo.{PointInfo}
use Rattle.pts_points.specs.Pieces.{Point}
use Rattle.pts_points.specs.Points.{info}
use Rattle.pts_steps.specs.declared.step.Step.{Step}
use Rattle.pts_steps.proofs.PointsOfLoops.{as_many, fits_at}
use Rattle.pts_store.specs.Overlays.{Layer}
use Rattle.pts_store.specs.Stores.{Store, cells_in}
use Rattle.pts_store.proofs.Changes.{length-cells_in-accepted}
use Rattle.pts_orders.specs.Evaluations.{at}
use Rattle.pts_cells.specs.WrittenCells.{WrittenCells}
use Rattle.pts_outcomes.specs.Calls.{effect}
use Rattle.pts_outcomes.specs.Effects.{Effect}
use Rattle.pts_passes.specs.Passes.{call_of, cells_named, is_live_out, names, text_points}
use Rattle.pts_loop_points.specs.LoopPoints.{moved}
use Rattle.pts_loops.specs.declared.run.Run.{Run}
use Rattle.pts_loops.specs.declared.turn.Turn.{Turn}
use Rattle.pts_clear.specs.Showing.{HasCells}
use Rattle.pts_loops.specs.Points.{effect_of}
use Rattle.pts_loops.specs.Turns.{IsAtPoint, IsReady, Stands, last, pass_of}
use Rattle.pts_loops.proofs.Tied.{arrays_hold, effect_is}

-- an element of a list that was mapped is that of an element
pub record IsFrom {A B : Type 0} (f : A → B) (xs : List A) (k : ℕ) (y : B) : Type 0 where
  pub element : A
  pub there : slice_get xs k ≡ Some element
  pub same : f element ≡ y

from : {A B : Type 0} (f : A → B) (xs : List A) (k : ℕ) (y : B) → slice_get (map f xs) k ≡ Some y → IsFrom f xs k y
from f [] k y e = absurd (none-some y e)
from f (x ∷ xs) zero y e = record { element = x; there = refl; same = cc }
from f (x ∷ xs) (suc k) y e = let rest = from f xs k y e in record { element = rest.element; there = rest.there; same = rest.same }

whole : (points : List Point) → cells_named points + (length points - cells_named points) ≡ length points
whole points = let few = count_by-le-length (λ (x : Point). is_live_out x.deed) points in omega (arith, few)

module _ (now : Run) (ready : IsReady now) (store : Store) where
  pub steps_are : length now.steps.now ≡ last now store
  steps_are = as_many (names (pass_of now)) now.text.now (text_points (pass_of now)) now.steps.now ready.steps ∙ sym (whole (text_points (pass_of now)))

  pub points_are : length now.points.now ≡ last now store
  points_are = ap length ready.points ∙ length-map (text_points (pass_of now)) _ ∙ sym (whole (text_points (pass_of now)))

  pub step_there : (k : ℕ) → k < last now store → k < length now.steps.now
  step_there k h = let size = steps_are in omega (arith, h, size)

  pub point_there : (k : ℕ) → k < last now store → k < length now.points.now
  point_there k h = let size = points_are in omega (arith, h, size)

  -- the overlay has the same cells
  pub layer_cells : (layer : Layer) (memory : WrittenCells) → HasCells now.arrays.now store → Stands store memory layer → HasCells now.arrays.now layer.stands
  layer_cells layer memory has stands = record {
    cells = λ a. ap (λ t. length (cells_in t a)) stands.stands ∙ length-cells_in-accepted store layer.writes a ∙ has.cells a;
  }

  pub effect_made : (turn : Turn) (p k : ℕ) (sight : Sight) (point : PointInfo) (step : Step) (made : Effect) → (so_far : IsAtPoint now store p k turn)
      → slice_get now.points.now k ≡ Some point → slice_get now.steps.now k ≡ Some step → sight.values ≡ turn.values.items → sight.notes ≡ turn.notes.items
      → Holds sight [] (environment_of now.functions.now) → made ≡ effect_of now.first_point turn.layer.stands sight p point step
      → made ≡ effect store (call_of (pass_of now) store) (at p k) turn.notes.items so_far.state.memory
  effect_made turn p k sight point step made so_far point_is step_is values notes holds is =
      let x = from (λ y. moved ready.item (Some now.call) now.first_point ready.offs_before (info 0 y)) (text_points (pass_of now)) k point (sym (ap (λ l. slice_get l k) ready.points) ∙ point_is) in
      is
      ∙ ap (λ i. effect_of now.first_point turn.layer.stands sight p i step) (sym x.same)
      ∙ effect_is (pass_of now) store so_far.state.memory turn.layer so_far.running.stands sight p (values ∙ so_far.values) (arrays_hold sight (environment_of now.functions.now) now.arrays.now holds)
      ready.item now.first_point ready.offs_before (Some now.call) k x.element step x.there
      (fits_at (names (pass_of now)) now.text.now (text_points (pass_of now)) now.steps.now ready.steps k x.element step x.there step_is) (ready.lines k x.element x.there)
      ∙ ap (λ l. effect store (call_of (pass_of now) store) (at p k) l so_far.state.memory) notes
