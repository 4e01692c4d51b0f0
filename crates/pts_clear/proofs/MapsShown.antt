-- The lists of a program show its map calls.
use Rattle.std.proofs.Common.{◌≡◌, ℕ, zero, suc, ◌+◌, ◌<◌, Option, Some, None, List, [], ◌∷◌, ap, subst, arith}
use Rattle.std.specs.Prelude.{IfSome, slice_get}
use Rattle.std.proofs.lemmas.Option.{none-some}
use Rattle.pts_code.specs.declared.function.FunctionInfo.{FunctionInfo}
use Rattle.pts_points.specs.declared.point.PointForm.TheVariants as forms
use Rattle.pts_lowering.specs.declared.forms.CellRange.{CellRange}
use Rattle.pts_lowering.specs.declared.forms.LoweredCall.TheVariants as lowered
use Rattle.pts_lowering.specs.declared.forms.Transform.{Transform}
use Rattle.pts_program.specs.declared.lists.Lists.{Lists}
use Rattle.pts_store.specs.Stores.{Store}
use Rattle.pts_conflict.specs.Conflicts.{is_loop_form}
use Rattle.pts_outcomes.specs.Acts.{Computation, Point, Writes}
use Rattle.pts_outcomes.specs.MapCalls.{always, applied, as_transform, place_of, reads, shared_positions, transform_points}
use Rattle.pts_clear.specs.MapShowing.{ForEachIsShown, TransformIsShown}
use Rattle.pts_clear.specs.Showing.{IsShown}
use Rattle.pts_clear.proofs.MapLists.{all_told, at_number}
use Rattle.pts_clear.proofs.MapPoints.{HasCellsOf, ShowsCall}

module _ (lists : Lists) (c : ℕ) where
  read_shown : (range : CellRange) → HasCellsOf lists.points (Some c) forms.Read range → IsShown lists c (reads range)
  read_shown range h = record { info = h.point; there = h.there; call = h.of_call; act = (h.of_form, record { array = h.of_array; index = h.of_line }) }

  write_shown : (range : CellRange) (x : Computation) → HasCellsOf lists.points (Some c) forms.Write range → IsShown lists c (always (Writes (place_of range) x))
  write_shown range x h = record { info = h.point; there = h.there; call = h.of_call; act = (h.of_form, record { array = h.of_array; index = h.of_line }) }

  -- each of these points
  abbrev AllShown : List Point → Type 0
  AllShown points = (k : ℕ) (point : Point) → slice_get points k ≡ Some point → IsShown lists c point

  none_shown : AllShown []
  none_shown k point e = absurd (none-some point e)

  one_shown : (p : Point) (ps : List Point) → IsShown lists c p → AllShown ps → AllShown (p ∷ ps)
  one_shown p ps h rest zero point e = let same : p ≡ point = cc in subst (IsShown lists c) same h
  one_shown p ps h rest (suc k) point e = rest k point e

  abbrev written : List FunctionInfo → Transform → List ℕ → Point
  written functions x numbers = always (Writes (place_of x.target) (applied functions x.function numbers))

  points_shown : (functions : List FunctionInfo) (second : Option CellRange) (x : Transform) → HasCellsOf lists.points (Some c) forms.Read x.first
      → IfSome second (HasCellsOf lists.points (Some c) forms.Read) → HasCellsOf lists.points (Some c) forms.Write x.target → AllShown (transform_points functions second x)
  points_shown functions None x first h target =
      let last : Point = written functions x (0 ∷ []) in
      one_shown (reads x.first) (last ∷ []) (read_shown x.first first)
      (one_shown last [] (write_shown x.target (applied functions x.function (0 ∷ [])) target) none_shown)
  points_shown functions (Some r) x first h target =
      let last : Point = written functions x (0 ∷ 1 ∷ []) in
      one_shown (reads x.first) (reads r ∷ last ∷ []) (read_shown x.first first)
      (one_shown (reads r) (last ∷ []) (read_shown r h)
      (one_shown last [] (write_shown x.target (applied functions x.function (0 ∷ 1 ∷ [])) target) none_shown))

target_holds : (store : Store) (second : Option CellRange) (x : Transform) → 0 < shared_positions store second x → x.target.low < x.target.high
target_holds store None x h = omega (arith, h)
target_holds store (Some r) x h = omega (arith, h)

pub transform_is_shown : TransformIsShown
transform_is_shown lists store c x program is =
    let h = at_number lists.points 0 c lists.calls lists.lowered_calls (lowered.Transform x) (all_told lists program) is in
    let shows = subst (λ d. ShowsCall lists.points (Some d) (lowered.Transform x)) (let e : 0 + c ≡ c = omega arith in e) h.points_shown in
    record {
      info = h.call;
      there = h.there;
      same_policy = h.policy;
      no_loop = ap is_loop_form is;
      points = λ some. points_shown lists c lists.functions x.second x shows.0 shows.1 (shows.2 (target_holds store x.second x some));
    }

pub for_each_is_shown : ForEachIsShown
for_each_is_shown lists store c x program is =
    let h = at_number lists.points 0 c lists.calls lists.lowered_calls (lowered.ForEach x) (all_told lists program) is in
    let shows = subst (λ d. ShowsCall lists.points (Some d) (lowered.ForEach x)) (let e : 0 + c ≡ c = omega arith in e) h.points_shown in
    record {
      info = h.call;
      there = h.there;
      same_policy = h.policy;
      no_loop = ap is_loop_form is;
      points = λ some. points_shown lists c lists.functions None (as_transform x) shows.0 tt shows.1;
    }
