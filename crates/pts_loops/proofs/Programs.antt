-- A loop of a program, with what it is told of it.
use Rattle.std.proofs.Common.{◌≡◌, ℕ, ◌+◌, ◌-◌, ◌<◌, Option, Some, None, List, length, map, drop, refl, sym, ap, ◌∙◌, subst, arith}
use Rattle.std.specs.Option.{option_and_then}
use Rattle.std.specs.List.{Contains}
use Rattle.std.specs.Prelude.{All, IfOk, IsSome, IsSomeAnd, Result, Ok, Err, slice_get, slice_range, unwrap_or}
use Rattle.std.proofs.lemmas.List.Elements.{All-drop, All-take, Contains-get_or}
use Rattle.std.proofs.lemmas.Option.{slice_get_within, unwrap_or-slice_get}
use Rattle.pts_types.specs.declared.value.NoMemory.{NoMemory}
use Rattle.pts_boards.specs.declared.pool.Pool.{Pool}
use Rattle.pts_tree.specs.declared.loops.Loop as loops
use Rattle.pts_constants.specs.declared.texts.CallText.{CallText}
use Rattle.pts_constants.specs.declared.texts.CallText.TheVariants as texts
use Rattle.pts_points.specs.declared.point.CallInfo.{CallInfo}
use Rattle.pts_points.specs.declared.point.PointInfo.{PointInfo}
use Rattle.pts_points.specs.Pieces.{Point}
use Rattle.pts_points.specs.Points as infos
use Rattle.pts_lowering.specs.declared.forms.LoweredCall.{LoweredCall}
use Rattle.pts_lowering.specs.declared.forms.LoweredCall.TheVariants as lowered
use Rattle.pts_lowering.specs.declared.forms.LoweredLoop.{LoweredLoop}
use Rattle.pts_program.specs.declared.lists.Lists.{Lists}
use Rattle.pts_program.specs.Globals.{globals_of}
use Rattle.pts_program.specs.Lists.{IsProgram}
use Rattle.pts_program.specs.Ranges.{IsInRange}
use Rattle.pts_program.proofs.Insides.{points_in_range}
use Rattle.pts_program.proofs.MatchedCalls.{calls_counted}
use Rattle.pts_layout.specs.Layout.{points_before, points_of_call}
use Rattle.pts_layout.proofs.Places.{within}
use Rattle.pts_steps.specs.declared.step.Step.{Step}
use Rattle.pts_steps.specs.Steps.{AreSteps, AreStepsOf, loop_points}
use Rattle.pts_store.specs.Laws.{SameShape}
use Rattle.pts_store.specs.Stores.{Store}
use Rattle.pts_conflict.specs.Conflicts as conflicts
use Rattle.pts_conflict.specs.Conflicts.{is_loop_form}
use Rattle.pts_passes.specs.Ends.{EndsAlongAll}
use Rattle.pts_passes.specs.Laws.{IsFree}
use Rattle.pts_passes.specs.Passes.{Pass, head_at, head_in, names, pass_at, pass_with, text_at, text_in, text_points}
use Rattle.pts_loop_points.specs.LoopPoints.{IsLoopCall, IsOnLine, ShowsLoop, moved}
use Rattle.pts_loop_points.proofs.GlobalNames.{names_stand}
use Rattle.pts_loop_points.proofs.LoopCalls.{loop_stands, points_are}
use Rattle.pts_loop_clear.specs.Showing.{IsLoopAt}
use Rattle.pts_loop_clear.proofs.ClearLoops.{loops_are_free}
use Rattle.pts_eval.specs.Cells.{start_store}
use Rattle.pts_eval.proofs.Starts.{start_length}
use Rattle.pts_clear.specs.Showing.{HasCells}
use Rattle.pts_loops.specs.declared.answers.LoopAnswer.{LoopAnswer}
use Rattle.pts_loops.specs.Answers.{end_of, writes_of}
use Rattle.pts_loops.specs.Turns.{IsReadyAs}

-- ---- names

-- the names of a loop are those of its program
names_are : (lists : Lists) (text : loops.Loop) (head : LoweredLoop) → globals_of lists ≡ names (record { text = text; arrays = lists.arrays; functions = lists.functions; head = head })
names_are lists text head = names_stand lists

-- ---- calls

pub a_loop : (o : Option LoweredCall) (x : LoweredLoop) → option_and_then head_in o ≡ Some x → o ≡ Some (lowered.Loop x)
a_loop None x e = absurd cc
a_loop (Some (lowered.Loop y)) x e = ap (λ (z : LoweredLoop). Some (lowered.Loop z)) (let same : y ≡ x = cc in same)
a_loop (Some (lowered.ForEach y)) x e = absurd cc
a_loop (Some (lowered.Transform y)) x e = absurd cc
a_loop (Some (lowered.FindIf y)) x e = absurd cc
a_loop (Some (lowered.CountIf y)) x e = absurd cc
a_loop (Some (lowered.Reduce y)) x e = absurd cc
a_loop (Some (lowered.Scan y)) x e = absurd cc

pub a_text : (o : Option CallText) (x : loops.Loop) → option_and_then text_in o ≡ Some x → o ≡ Some (texts.Loop x)
a_text None x e = absurd cc
a_text (Some (texts.Loop y)) x e = ap (λ (z : loops.Loop). Some (texts.Loop z)) (let same : y ≡ x = cc in same)
a_text (Some (texts.Call y)) x e = absurd cc

-- a call that has a head is a loop with this number, and has a text
module _ (lists : Lists) (program : IsProgram lists) (c : ℕ) where
  with_head : (o : Option LoweredCall) → IsSome (option_and_then head_in o) → (head : LoweredLoop) × (o ≡ Some (lowered.Loop head))
  with_head None h = absurd (cc)
  with_head (Some (lowered.Loop y)) h = (y, refl)
  with_head (Some (lowered.ForEach y)) h = absurd (cc)
  with_head (Some (lowered.Transform y)) h = absurd (cc)
  with_head (Some (lowered.FindIf y)) h = absurd (cc)
  with_head (Some (lowered.CountIf y)) h = absurd (cc)
  with_head (Some (lowered.Reduce y)) h = absurd (cc)
  with_head (Some (lowered.Scan y)) h = absurd (cc)

  pub loop_number : IsSome (head_at lists c) → (c < length lists.calls) × (c < length lists.texts)
  loop_number h =
      let own = with_head (slice_get lists.lowered_calls c) h in
      let inside = slice_get_within lists.lowered_calls c (lowered.Loop own.0) own.1 in
      let counts = calls_counted lists program in
      let texts = counts.0 in let forms = counts.1 in
      (omega (arith, inside, forms), omega (arith, inside, forms, texts))

  pub text_there : IsSome (head_at lists c) → IsSome (text_at lists c)
  text_there h =
      let own = with_head (slice_get lists.lowered_calls c) h in
      let call = within lists.calls c (loop_number h).0 in
      let stands = loop_stands lists c call.element own.0 program call.there own.1 in
      subst (λ o. IsSome (option_and_then text_in o)) (sym stands.there) refl

-- ---- parts of lists

contained : {A : Type 0} (xs : List A) (k : ℕ) (x : A) → slice_get xs k ≡ Some x → Contains xs x
contained xs k x at = subst (Contains xs) (sym (unwrap_or-slice_get xs k x) ∙ ap (λ o. unwrap_or o x) at) (Contains-get_or xs k x (slice_get_within xs k x at))

part_in : {A : Type 0} (P : A → Type 0) (xs : List A) (a b : ℕ) → All P xs → All P (slice_range xs a b)
part_in P xs a b h = All-take P (b - a) (drop a xs) (All-drop P a xs h)

-- ---- a loop of a program

-- the cells of its arrays are there
pub has_cells : (lists : Lists) (store : Store) → SameShape (start_store lists) store → HasCells lists.arrays store
has_cells lists store shape = record { cells = λ a. shape.cells a ∙ start_length lists.arrays a }

module _ (lists : Lists) (program : IsProgram lists) (c : ℕ) (info : CallInfo) (text : loops.Loop) (head : LoweredLoop) (called : slice_get lists.calls c ≡ Some info)
    (form : slice_get lists.lowered_calls c ≡ Some (lowered.Loop head)) (written : slice_get lists.texts c ≡ Some (texts.Loop text)) where
  abbrev pass : Pass
  pass = record { text = text; arrays = lists.arrays; functions = lists.functions; head = head }

  stands : IsLoopCall lists c info head
  stands = loop_stands lists c info head program called form

  same_text : stands.text ≡ text
  same_text = let e = sym stands.there ∙ written in cc

  shows : ShowsLoop lists c info text
  shows = subst (ShowsLoop lists c info) same_text stands.shows

  on_lines : (k : ℕ) (x : Point) → slice_get (text_points pass) k ≡ Some x → IsOnLine x.deed
  on_lines k x at = stands.lines k x (ap (λ t. slice_get (loop_points (globals_of lists) t) k) same_text ∙ ap (λ s. slice_get (loop_points s text) k) (names_are lists text head) ∙ at)

  at_loop : IsLoopAt lists c pass
  at_loop = record {
    info = info;
    there = called;
    same_policy = stands.policy;
    loop = ap is_loop_form form;
    item = info.item;
    points_before = info.first_point;
    offs_before = shows.offs;
    shown = λ k x at.
        let place = points_before lists.points info.item + (info.first_point + k) in
        contained lists.points place (moved info.item (Some c) info.first_point shows.offs (infos.info 0 x))
        (shows.shown k x (ap (λ s. slice_get (loop_points s text) k) (names_are lists text head) ∙ at));
    lines = on_lines;
  }

  -- what a loop is told of its program makes it ready
  pub told : (steps : List Step) (points : List PointInfo) → ((x : CallText) → slice_get lists.texts c ≡ Some x → AreStepsOf (globals_of lists) x steps)
      → ((x : CallInfo) → slice_get lists.calls c ≡ Some x → points ≡ points_of_call lists.points x) → IsReadyAs pass c info.first_point steps points
  told steps points have are = record {
    steps = subst (λ s. AreSteps s text (loop_points s text) steps) (names_are lists text head) (have (texts.Loop text) written);
    item = info.item;
    offs_before = shows.offs;
    points =
        are info called ∙ points_are lists c info text shows
        ∙ ap (λ s. map (λ x. moved info.item (Some c) info.first_point shows.offs (infos.info 0 x)) (loop_points s text)) (names_are lists text head);
    lines = on_lines;
    range = subst (All (IsInRange lists.arrays)) (sym (are info called)) (part_in (IsInRange lists.arrays) lists.points _ _ (points_in_range lists program));
    indices = stands.indices;
    clause_cells = stands.cells;
  }

  pub is_free : (store : Store) → SameShape (start_store lists) store → conflicts.IsClear lists → IsFree pass store
  is_free store shape clear = loops_are_free lists store c pass clear (has_cells lists store shape) at_loop

-- ---- the loop of a number

-- a loop that has a text and a head
record HasParts (lists : Lists) (text : Option loops.Loop) (head : Option LoweredLoop) (pass : Pass) : Type 0 where
  pub text_is : text ≡ Some pass.text
  pub head_is : head ≡ Some pass.head
  pub arrays_are : pass.arrays ≡ lists.arrays
  pub functions_are : pass.functions ≡ lists.functions

parts : (lists : Lists) (text : Option loops.Loop) (head : Option LoweredLoop) (pass : Pass) → pass_with lists text head ≡ Some pass → HasParts lists text head pass
parts lists None head pass e = absurd (cc)
parts lists (Some text) None pass e = absurd (cc)
parts lists (Some text) (Some head) pass e =
    let same : record { text = text; arrays = lists.arrays; functions = lists.functions; head = head } ≡ pass = cc in
    record { text_is = ap (λ p. Some p.text) same; head_is = ap (λ p. Some p.head) same; arrays_are = sym (ap (λ p. p.arrays) same); functions_are = sym (ap (λ p. p.functions) same) }

module _ (lists : Lists) (program : IsProgram lists) (c : ℕ) (pass : Pass) (is : pass_at lists c ≡ Some pass) (store : Store) (shape : SameShape (start_store lists) store) where
  own : HasParts lists (text_at lists c) (head_at lists c) pass
  own = parts lists (text_at lists c) (head_at lists c) pass is

  -- the cells of the loop's arrays are there
  pub cells_there : HasCells pass.arrays store
  cells_there = subst (λ a. HasCells a store) (sym own.arrays_are) (has_cells lists store shape)

  pub free : conflicts.IsClear lists → IsFree pass store
  free clear =
      let form = a_loop (slice_get lists.lowered_calls c) pass.head own.head_is in
      let written = a_text (slice_get lists.texts c) pass.text own.text_is in
      let inside = slice_get_within lists.lowered_calls c (lowered.Loop pass.head) form in
      let forms = (calls_counted lists program).1 in
      let call = within lists.calls c (omega (arith, inside, forms)) in
      subst (λ p. IsFree p store) (λ i. record { text = pass.text; arrays = sym own.arrays_are i; functions = sym own.functions_are i; head = pass.head })
      (is_free lists program c call.element pass.text pass.head call.there form written store shape clear)

-- without conflict a loop that has run ends so along each order
pub in_each_order : (pool : Pool) (store : Store) (found : Option Pass) (pass : Pass) (r : Result LoopAnswer NoMemory) → found ≡ Some pass → IsFree pass store
    → IfOk r (λ answer. IsFree pass store → EndsAlongAll pool pass store (end_of answer) (writes_of answer))
    → IfOk r (λ answer. IsSomeAnd found (λ p. EndsAlongAll pool p store (end_of answer) (writes_of answer)))
in_each_order pool store found pass (Ok answer) is clear h = subst (λ o. IsSomeAnd o (λ p. EndsAlongAll pool p store (end_of answer) (writes_of answer))) (sym is) (h clear)
in_each_order pool store found pass (Err fault) is clear h = h
