-- The list of a program shows the points of each of its loops.
use Rattle.std.proofs.Common.{◌≡◌, ℕ, ◌+◌, None, Some, List, length, map, option_map, sym, ap, ◌∙◌, subst, arith}
use Rattle.std.specs.Prelude.{slice_get}
use Rattle.std.proofs.lemmas.Option.{slice_get-map}
use Rattle.pts_tree.specs.declared.loops.Loop as loops
use Rattle.pts_rules.specs.Known.{Scope}
use Rattle.pts_rules.specs.Parts.{Name, Loop}
use Rattle.pts_rules.specs.Scopes.{known}
use Rattle.pts_points.specs.declared.point.CallInfo.{CallInfo}
use Rattle.pts_points.specs.declared.point.PointInfo.{PointInfo}
use Rattle.pts_points.specs.Pieces.{Point}
use Rattle.pts_points.specs.Points.{context_of, info, loop_piece}
use Rattle.pts_points.proofs.Builds.{map_length, sized}
use Rattle.pts_points.proofs.Wholes.{good_loop}
use Rattle.pts_steps.specs.Shown.{HasItsNumber, IsLoopOf}
use Rattle.pts_steps.specs.Steps.{loop_points}
use Rattle.pts_steps.proofs.PointsOfLoops.{numbers_here}
use Rattle.pts_lowering.specs.declared.forms.LoweredCall.{LoweredCall}
use Rattle.pts_program.specs.declared.lists.Lists.{Lists}
use Rattle.pts_program.specs.Globals.{globals_of}
use Rattle.pts_program.specs.Lists.{IsProgram}
use Rattle.pts_layout.specs.Layout.{points_before}
use Rattle.pts_layout.proofs.Items.{all_placed}
use Rattle.pts_loop_points.specs.LoopPoints.{IsOnLine, ShowsLoop, moved}
use Rattle.pts_loop_points.proofs.ElementArrays.{IsArray}
use Rattle.pts_loop_points.proofs.LoopFits.{loop_fits}
use Rattle.pts_loop_points.proofs.Loops.{IsLoopText}
use Rattle.pts_loop_points.proofs.LoopMoves.{shown_by_text}
use Rattle.pts_loop_points.proofs.Numbers.{globals_plain, numbers_at_last}

module _ (lists : Lists) (h : IsProgram lists) (c : ℕ) (call : CallInfo) (x : loops.Loop) (form : LoweredCall) (told : IsLoopText (known h.script.items) lists.points c x call form) where
  abbrev names : Scope
  names = globals_of lists

  -- its arrays have their numbers among the names of the program's arrays and functions
  numbers : (name : Name) → IsArray told.scope name → HasItsNumber told.scope names name
  numbers name array =
      let kept = told.kept name array in
      numbers_at_last lists h name kept.array ∙ ap (λ o. elim o [ None ↦ 0 | Some n ↦ n ]) kept.number

  pub fits : IsLoopOf told.scope names told.source
  fits = loop_fits told.scope names numbers told.source (globals_plain lists) told.ready told.lines

  abbrev shows : Point → PointInfo
  shows y = moved call.item (Some c) call.first_point told.offs (info 0 y)

  abbrev listed : List PointInfo
  listed = map (info call.item) ((loop_piece told.scope told.source).points (context_of told.scope c (Loop told.source)) call.first_point told.offs)

  by_text : (listed ≡ map shows (loop_points names x)) × ((k : ℕ) (y : Point) → slice_get (loop_points names x) k ≡ Some y → IsOnLine y.deed)
  by_text = shown_by_text told.scope names told.source x call.item c call.first_point told.offs fits told.is

  same : map shows (loop_points names x) ≡ listed
  same = sym by_text.0

  pub on_lines : (k : ℕ) (y : Point) → slice_get (loop_points names x) k ≡ Some y → IsOnLine y.deed
  on_lines = by_text.1

  as_many : length (loop_points names x) ≡ call.points
  as_many =
      let own = (loop_piece told.scope told.source).points (context_of told.scope c (Loop told.source)) call.first_point told.offs in
      sym (map_length shows (loop_points names x)) ∙ ap length same ∙ map_length (info call.item) own
      ∙ sized (loop_piece told.scope told.source) (good_loop told.scope told.source) (context_of told.scope c (Loop told.source)) call.first_point told.offs ∙ sym told.size

  one_shown : (k : ℕ) (point : Point) → slice_get (loop_points names x) k ≡ Some point
      → slice_get lists.points (points_before lists.points call.item + (call.first_point + k)) ≡ Some (shows point)
  one_shown k point at =
      let part : slice_get listed k ≡ Some (shows point) = ap (λ ps. slice_get ps k) (sym same) ∙ slice_get-map shows (loop_points names x) k ∙ ap (option_map shows) at in
      let found : slice_get lists.points (told.start + call.first_point + k) ≡ Some (shows point) = told.shown.at k (shows point) part in
      let place : told.start + call.first_point + k ≡ points_before lists.points call.item + (call.first_point + point.number) = (all_placed lists h).places (told.start + call.first_point + k) (shows point) found in
      let number : point.number ≡ k = numbers_here names x k point at in
      subst (λ j. slice_get lists.points j ≡ Some (shows point)) (omega (arith, place, number)) found

  pub loop_shown : ShowsLoop lists c call x
  loop_shown = record { offs = told.offs; count = as_many; shown = one_shown }
