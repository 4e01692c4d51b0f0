-- What code does at a point is what its evaluation does.
use Rattle.std.proofs.Common.{◌≡◌, ℕ, ◌+◌, ◌-◌, ◌&&◌, if◌then◌else◌, nat_lt, Option, Some, Ok, Err, List, [], ◌∷◌, length, map, fold, pos, negsuc, ℤ, refl, ap, sym, ◌∙◌, arith, option_map}
use Rattle.std.specs.Prelude.{Result, slice_get}
use Rattle.std.proofs.lemmas.Option.{slice_get-map}
use Rattle.pts_types.specs.declared.value.Thrown.{Thrown}
use Rattle.pts_affine.specs.declared.line.Line.{Line}
use Rattle.pts_code.specs.declared.code.Code.{Code}
use Rattle.pts_code.specs.Codes.{Sight, gives}
use Rattle.pts_code.specs.Compiling.{Holds}
use Rattle.pts_code.specs.Outcomes.{and_then, operate}
use Rattle.pts_code.specs.Values.{Environment, note}
use Rattle.pts_points.specs.declared.point.Branch.{Branch}
use Rattle.pts_points.specs.declared.point.PointInfo.{PointInfo}
use Rattle.pts_points.specs.Pieces as texts
use Rattle.pts_points.specs.Points.{array_of, info, line_of_deed}
use Rattle.pts_program.specs.declared.info.ArrayInfo.{ArrayInfo}
use Rattle.pts_steps.specs.declared.step.Step.{Step}
use Rattle.pts_steps.specs.declared.step.Step.TheVariants as steps
use Rattle.pts_steps.specs.Steps.{Computes, Does, Fits, value_at}
use Rattle.pts_store.specs.Overlays.{Layer}
use Rattle.pts_store.specs.Stores.{Store, cells_in}
use Rattle.pts_store.proofs.Changes.{length-cells_in-accepted}
use Rattle.pts_orders.specs.Effects as effects
use Rattle.pts_orders.specs.Evaluations.{at}
use Rattle.pts_cells.specs.WrittenCells.{Cell, WrittenCells, seen}
use Rattle.pts_cells.proofs.Values.{seen_accepted}
use Rattle.pts_outcomes.specs.Acts as acts
use Rattle.pts_outcomes.specs.Acts.{Notes, Place}
use Rattle.pts_outcomes.specs.Calls.{effect}
use Rattle.pts_types.specs.declared.value.Thrown.TheVariants.{Overflow}
use Rattle.pts_outcomes.specs.Effects.{act_effect, beside, cell_with, given, index_at, is_reached, is_side, notes_value, place_at, point_effect, puts}
use Rattle.pts_passes.specs.Inductions.{head_values}
use Rattle.pts_passes.specs.Passes as passes
use Rattle.pts_passes.specs.Passes.{Pass, call_of, computed, globals, names, point_of, text_points, with_array}
use Rattle.pts_loop_points.specs.LoopPoints.{IsOnLine, moved, moved_branch}
use Rattle.pts_loops.specs.Points.{act_of, effect_of, held, is_reached_behind, place_of}
use Rattle.pts_loops.specs.Turns.{Stands}

-- ---- names

pub arrays_hold : (sight : Sight) (env : Environment) (arrays : List ArrayInfo) → Holds sight [] env → Holds sight [] (fold with_array env arrays)
arrays_hold sight env [] h = h
arrays_hold sight env (a ∷ rest) h = arrays_hold sight (with_array env a) rest h

-- ---- branches

pub reached_behind : (first : ℕ) (notes : Notes) (bs : List Branch) → is_reached_behind first notes (map (moved_branch first) bs) ≡ is_reached notes bs
reached_behind first notes [] = refl
reached_behind first notes (b ∷ bs) =
    let same : (first + b.test) - first ≡ b.test = omega arith in
    λ i. is_side b.taken (note notes (same i)) && reached_behind first notes bs i

-- ---- acts

then_same : {A B : Type 0} (r : Result A Thrown) (f g : A → Result B Thrown) → ((x : A) → f x ≡ g x) → and_then r f ≡ and_then r g
then_same (Ok x) f g h = h x
then_same (Err thrown) f g h = refl

module _ (pass : Pass) (store : Store) (memory : WrittenCells) (layer : Layer) (s : Stands store memory layer) (sight : Sight) (p : ℕ)
    (values : sight.values ≡ head_values store pass.head p) (holds : Holds sight [] (globals pass)) where
  held_is : (c : Cell) → held layer.stands c ≡ given (seen store memory c)
  held_is c =
      ap given (sym (seen_accepted store memory layer.writes c.array c.index s.written ∙ ap (λ t. slice_get (cells_in t c.array) c.index) (sym s.stands)))

  same_cell : (array : ℕ) (z : ℤ) → cell_with layer.stands array z ≡ cell_with store array z
  same_cell array (pos n) =
      let size : length (cells_in layer.stands array) ≡ length (cells_in store array) = ap (λ t. length (cells_in t array)) s.stands ∙ length-cells_in-accepted store layer.writes array in
      ap (λ l. if nat_lt n l then Ok (record { array = array; index = n }) else Err Overflow) size
  same_cell array (negsuc n) = refl

  same_place : (place : Place) → place_at layer.stands place p sight.notes ≡ place_at store place p sight.notes
  same_place place = then_same (index_at place.index p sight.notes) (cell_with layer.stands place.array) (cell_with store place.array) (same_cell place.array)

  value_is : (lets : List texts.LetPoint) (wanted : texts.Computation) (code : Code) → Computes (names pass) pass.text lets wanted code
      → gives sight code ≡ computed pass store lets wanted p sight.notes
  value_is lets wanted code h =
      h.gives (globals pass) sight refl holds
      ∙ ap (λ v. value_at pass.text lets (globals pass) (record { functions = []; values = v; notes = sight.notes }) wanted) values

  module _ (point : PointInfo) (lets : List texts.LetPoint) where
    -- the cell of the point
    shown_place : (array : ℕ) (line : Line) → point.array ≡ array → point.line ≡ line
        → place_at layer.stands (place_of point) p sight.notes ≡ place_at store (record { array = array; index = acts.Along line }) p sight.notes
    shown_place array line a l =
        same_place (place_of point) ∙ (λ i. place_at store (record { array = a i; index = acts.Along (l i) }) p sight.notes)

    act_is : (deed : texts.Deed) (step : Step) → Does (names pass) pass.text lets deed step → IsOnLine deed → point.array ≡ array_of deed → point.line ≡ line_of_deed deed
        → act_of layer.stands sight p point step ≡ act_effect store (passes.act_of (computed pass store lets) deed) p sight.notes memory
    act_is (texts.Reads array (texts.Along line)) steps.Read fits on a l =
        ap (λ r. effects.Notes (and_then r (held layer.stands))) (shown_place array line a l)
        ∙ ap effects.Notes (then_same (place_at store (record { array = array; index = acts.Along line }) p sight.notes) (held layer.stands) (λ c. given (seen store memory c)) held_is)
    act_is (texts.Reads array (texts.Computed x)) steps.Read fits on a l = absurd on
    act_is (texts.Assigns array (texts.Along line) x) (steps.Write code) fits on a l =
        ap (λ r. puts (and_then r (λ c. beside c (gives sight code)))) (shown_place array line a l)
        ∙ ap (λ v. puts (and_then (place_at store (record { array = array; index = acts.Along line }) p sight.notes) (λ c. beside c v))) (value_is lets x code fits)
    act_is (texts.Assigns array (texts.Computed y) x) (steps.Write code) fits on a l = absurd on
    act_is (texts.Updates array (texts.Along line) op x) (steps.Update applied code) fits on a l =
        let there = place_at store (record { array = array; index = acts.Along line }) p sight.notes in
        ap (λ r. puts (and_then r (λ c. beside c (operate (held layer.stands c) (applied, gives sight code))))) (shown_place array line a l)
        ∙ (λ i. puts (and_then there (λ c. beside c (operate (held layer.stands c) (fits.0 i, value_is lets x code fits.1 i)))))
        ∙ ap puts (then_same there (λ c. beside c (operate (held layer.stands c) (op, computed pass store lets x p sight.notes)))
        (λ c. beside c (operate (given (seen store memory c)) (op, computed pass store lets x p sight.notes)))
        (λ c. ap (λ v. beside c (operate v (op, computed pass store lets x p sight.notes))) (held_is c)))
    act_is (texts.Updates array (texts.Computed y) op x) (steps.Update applied code) fits on a l = absurd on
    act_is (texts.Notes x) (steps.Note code) fits on a l = ap notes_value (value_is lets x code fits)
    act_is (texts.Tests x) (steps.Test code) fits on a l = ap notes_value (value_is lets x code fits)
    act_is (texts.Gives view x) (steps.Give clause code) fits on a l = ap notes_value (value_is lets x code fits.1)
    act_is (texts.LivesOut array line) steps.LiveOut fits on a l = refl
    act_is deed step fits on a l = absurd fits

  pub effect_is : (item first offs : ℕ) (call : Option ℕ) (k : ℕ) (x : texts.Point) (step : Step) → slice_get (text_points pass) k ≡ Some x → Fits (names pass) pass.text x step → IsOnLine x.deed
      → effect_of first layer.stands sight p (moved item call first offs (info 0 x)) step ≡ effect store (call_of pass store) (at p k) sight.notes memory
  effect_is item first offs call k x step there fits on =
      (λ i. if reached_behind first sight.notes x.context.branches i then act_is (moved item call first offs (info 0 x)) x.context.lets x.deed step fits on refl refl i else effects.Skips)
      ∙ sym (ap (λ o. point_effect store o p sight.notes memory) (slice_get-map (point_of pass store) (text_points pass) k ∙ ap (option_map (point_of pass store)) there))
