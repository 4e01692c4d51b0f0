-- The loops of a program in its lists.
use Rattle.std.proofs.Common.{◌≡◌, ℕ, zero, suc, ◌+◌, ◌-◌, ◌&&◌, true, Some, List, [], ◌∷◌, length, take, drop, map, option_map, refl, sym, ap, ◌∙◌, subst, arith}
use Rattle.std.specs.Prelude.{All, slice_get, slice_range, unwrap_or}
use Rattle.std.specs.List.{list_all}
use Rattle.std.proofs.lemmas.Bool.{and_parts}
use Rattle.std.proofs.lemmas.List.{length-map}
use Rattle.std.proofs.lemmas.List.Elements.{All-get_or}
use Rattle.std.proofs.lemmas.Option.{none-some, slice_get-map, slice_get_within, unwrap_or-slice_get}
use Rattle.pts_types.specs.declared.value.Kind.TheVariants as kinds
use Rattle.pts_tree.specs.Spelling.{if_there}
use Rattle.pts_tree.specs.declared.loops.Loop as loops
use Rattle.pts_rules.specs.Counts.{step_of}
use Rattle.pts_rules.specs.Known.{Scope, holds, number, sum_is}
use Rattle.pts_rules.specs.Mistyped.{all_right, body_scope, checked_stmt, clause_right, loop_right}
use Rattle.pts_rules.specs.Parts.{Loop}
use Rattle.pts_rules.specs.Scopes.{known}
use Rattle.pts_points.specs.declared.point.CallInfo.{CallInfo}
use Rattle.pts_points.specs.declared.point.PointInfo.{PointInfo}
use Rattle.pts_points.specs.Pieces.{Point}
use Rattle.pts_points.specs.Points.{context_of, info, loop_piece}
use Rattle.pts_points.proofs.Each.{all_of}
use Rattle.pts_lowering.specs.declared.forms.LoweredCall.{LoweredCall}
use Rattle.pts_lowering.specs.declared.forms.LoweredCall.TheVariants as lowered
use Rattle.pts_lowering.specs.declared.forms.LoweredLoop.{LoweredLoop}
use Rattle.pts_lowering.specs.Forms.{loop_of}
use Rattle.pts_program.specs.declared.lists.Lists.{Lists}
use Rattle.pts_program.specs.Globals.{globals_of}
use Rattle.pts_program.specs.Lists.{IsProgram}
use Rattle.pts_program.specs.Ranges.{IsInRange}
use Rattle.pts_program.proofs.ExactSums.{tested}
use Rattle.pts_program.proofs.Insides.{points_in_range}
use Rattle.pts_program.proofs.RightTexts.{IsReady}
use Rattle.pts_layout.specs.Layout.{call_start, points_before, points_of_call}
use Rattle.pts_layout.proofs.Places.{each_by_place}
use Rattle.pts_steps.specs.Steps.{loop_points}
use Rattle.pts_loop_points.specs.LoopPoints.{HasClauseCell, HasIndices, IsLoopCall, ShowsLoop, moved}
use Rattle.pts_loop_points.proofs.ClauseCells.{Stands, clause_cells}
use Rattle.pts_loop_points.proofs.Indices.{index_held}
use Rattle.pts_loop_points.proofs.Loops.{IsLoopText, loop_told}
use Rattle.pts_loop_points.proofs.Shown.{fits, loop_shown, on_lines}

-- ---- the head of a loop that breaks no rule

loop_indices : (scope : Scope) (x : loops.Loop) → IsReady scope (Loop x) → HasIndices (loop_of scope x)
loop_indices scope x h p within =
    let right : loop_right scope x ≡ true = h.sound.right in
    let p4 = and_parts _ (all_right (body_scope scope x) (map checked_stmt x.body)) right in
    let p3 = and_parts _ (list_all (clause_right scope) x.clauses) p4.0 in
    let p2 = and_parts (sum_is scope (holds kinds.I64) x.low && sum_is scope (holds kinds.I64) x.high) (if_there (sum_is scope (holds kinds.I64)) x.step) p3.0 in
    let p1 = and_parts (sum_is scope (holds kinds.I64) x.low) (sum_is scope (holds kinds.I64) x.high) p2.0 in
    index_held (number scope x.low) (number scope x.high) (step_of scope x.step) p (tested scope [] (holds kinds.I64) x.low p1.0) (tested scope [] (holds kinds.I64) x.high p1.1) within

-- ---- a loop in the lists

in_all : {A : Type 0} (P : A → Type 0) (xs : List A) (k : ℕ) (x : A) → slice_get xs k ≡ Some x → All P xs → P x
in_all P xs k x at h = subst P (sym (unwrap_or-slice_get xs k x) ∙ ap (λ o. unwrap_or o x) at) (All-get_or P xs k x (slice_get_within xs k x at) h)

module _ (lists : Lists) (h : IsProgram lists) (c : ℕ) (call : CallInfo) (x : loops.Loop) (form : LoweredCall) (told : IsLoopText (known h.script.items) lists.points c x call form) where
  abbrev own : List Point
  own = (loop_piece told.scope told.source).points (context_of told.scope c (Loop told.source)) call.first_point told.offs

  one_in_range : (k : ℕ) (y : Point) → slice_get own k ≡ Some y → Stands told.scope lists.arrays call.item y
  one_in_range k y at =
      let place = told.start + call.first_point + k in
      let shown : slice_get (map (info call.item) own) k ≡ Some (info call.item y) = slice_get-map (info call.item) own k ∙ ap (option_map (info call.item)) at in
      let found : slice_get lists.points place ≡ Some (info call.item y) = told.shown.at k (info call.item y) shown in
      in_all (IsInRange lists.arrays) lists.points place (info call.item y) found (points_in_range lists h)

  cells_there : All (HasClauseCell lists.arrays) (loop_of told.scope told.source).clauses
  cells_there =
      all_of (HasClauseCell lists.arrays) (loop_of told.scope told.source).clauses
      (clause_cells told.scope lists.arrays call.item told.source (context_of told.scope c (Loop told.source)) call.first_point told.offs (each_by_place (Stands told.scope lists.arrays call.item) own one_in_range))

pub loop_stands : (lists : Lists) (c : ℕ) (call : CallInfo) (head : LoweredLoop) → IsProgram lists → slice_get lists.calls c ≡ Some call → slice_get lists.lowered_calls c ≡ Some (lowered.Loop head)
    → IsLoopCall lists c call head
loop_stands lists c call head h called is =
    let at = loop_told lists h c call head called is in
    let told = at.told in
    let same : loop_of told.scope told.source ≡ head = let e = told.form_is in cc in
    record {
      text = at.text;
      there = at.there;
      shows = loop_shown lists h c call at.text (lowered.Loop head) told;
      lines = on_lines lists h c call at.text (lowered.Loop head) told;
      scope = told.scope;
      source = told.source;
      text_is = told.is;
      source_fits = fits lists h c call at.text (lowered.Loop head) told;
      policy = told.policy ∙ ap (λ y. y.policy) same;
      indices = subst HasIndices same (loop_indices told.scope told.source told.ready);
      cells = subst (λ y. All (HasClauseCell lists.arrays) y.clauses) same (cells_there lists h c call at.text (lowered.Loop head) told);
    }

-- ---- the points of a loop as a part of the list

dropped_at : {A : Type 0} (n : ℕ) (xs : List A) (k : ℕ) → slice_get (drop n xs) k ≡ slice_get xs (n + k)
dropped_at zero xs k = let e : k ≡ 0 + k = omega arith in ap (slice_get xs) e
dropped_at {A} (suc n) [] k = none k
  where
    none : (k : ℕ) → slice_get {X = A} [] k ≡ slice_get [] (suc n + k)
    none k = refl
dropped_at (suc n) (x ∷ xs) k = let e : suc (n + k) ≡ suc n + k = omega arith in dropped_at n xs k ∙ ap (slice_get (x ∷ xs)) e

front_is : {A : Type 0} (xs part : List A) → ((k : ℕ) (x : A) → slice_get part k ≡ Some x → slice_get xs k ≡ Some x) → take (length part) xs ≡ part
front_is xs [] f = refl
front_is [] (y ∷ part) f = absurd (none-some y (f 0 y refl))
front_is (x ∷ xs) (y ∷ part) f =
    let same : x ≡ y = let e = f 0 y refl in cc in
    λ i. same i ∷ front_is xs part (λ k z at. f (suc k) z at) i

range_is : {A : Type 0} (xs part : List A) (n size : ℕ) → length part ≡ size → ((k : ℕ) (x : A) → slice_get part k ≡ Some x → slice_get xs (n + k) ≡ Some x)
    → slice_range xs n (n + size) ≡ part
range_is xs part n size is f =
    let count : n + size - n ≡ length part = omega (arith, is) in
    ap (λ m. take m (drop n xs)) count ∙ front_is (drop n xs) part (λ k x at. dropped_at n xs k ∙ f k x at)

-- the points of a loop are those that are shown
pub points_are : (lists : Lists) (c : ℕ) (call : CallInfo) (x : loops.Loop) (shows : ShowsLoop lists c call x)
    → points_of_call lists.points call ≡ map (λ y. moved call.item (Some c) call.first_point shows.offs (info 0 y)) (loop_points (globals_of lists) x)
points_are lists c call x shows =
    let f : Point → PointInfo = λ y. moved call.item (Some c) call.first_point shows.offs (info 0 y) in
    let points = loop_points (globals_of lists) x in
    range_is lists.points (map f points) (call_start lists.points call) call.points (length-map points f ∙ shows.count) (λ k y at.
    let from = mapped_at f points k y at in
    let place : points_before lists.points call.item + (call.first_point + k) ≡ call_start lists.points call + k = omega arith in
    subst (λ j. slice_get lists.points j ≡ Some y) place (shows.shown k from.0 from.1 ∙ ap Some from.2))
  where
    mapped_at : {A B : Type 0} (f : A → B) (xs : List A) (k : ℕ) (y : B) → slice_get (map f xs) k ≡ Some y → (x : A) × (slice_get xs k ≡ Some x) × (f x ≡ y)
    mapped_at f [] k y e = absurd (none-some y e)
    mapped_at f (x ∷ xs) zero y e = (x, refl, cc)
    mapped_at f (x ∷ xs) (suc k) y e = mapped_at f xs k y e
