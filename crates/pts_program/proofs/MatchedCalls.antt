-- Each call has its text at its number, with its policy and its positions.
use Rattle.std.proofs.Common.{◌≡◌, ℕ, zero, suc, ◌+◌, ◌&&◌, true, Option, Some, None, option_map, List, [], ◌∷◌, ◌++◌, length, slice_get, refl, sym, ap, subst, arith}
use Rattle.std.specs.Prelude.{⊤, flat_map, ◌-ℤ◌, is_some}
use Rattle.std.proofs.lemmas.Bool.{and_parts}
use Rattle.std.proofs.lemmas.List.{length-append}
use Rattle.std.proofs.lemmas.Option.{none-some}
use Rattle.pts_types.specs.declared.value.Kind.TheVariants as kinds
use Rattle.pts_tree.specs.Spelling.{if_there}
use Rattle.pts_tree.specs.declared.sum.Sum.{Sum}
use Rattle.pts_tree.specs.declared.call.Call as call
use Rattle.pts_tree.specs.declared.loops.Loop as loops
use Rattle.pts_tree.specs.declared.script.Item.{Item}
use Rattle.pts_rules.specs.Counts.{positions, step_of}
use Rattle.pts_rules.specs.Known.{Scope, holds, is_place, kind_of_array, natural, number, sum_is}
use Rattle.pts_rules.specs.Mistyped.{call_right, loop_right, range_right}
use Rattle.pts_rules.specs.Parts.{Simple, Throw, Assign, Call, Loop, statements}
use Rattle.pts_rules.specs.Scopes.{known}
use Rattle.pts_constants.specs.Resolved.{resolved_sum}
use Rattle.pts_constants.specs.Texts.{text_of, texts_of}
use Rattle.pts_constants.specs.declared.texts.CallText.{CallText}
use Rattle.pts_points.specs.declared.point.CallInfo.{CallInfo}
use Rattle.pts_points.specs.Points.{call_at, calls_from, calls_of, statement_piece}
use Rattle.pts_program.specs.declared.lists.Lists.{Lists}
use Rattle.pts_lowering.specs.Forms.{lowered_calls, lowered_of}
use Rattle.pts_program.specs.Lists.{no_lists, IsProgram}
use Rattle.pts_program.specs.Matching.{IsCallOf}
use Rattle.pts_program.proofs.ExactSums.{exact_held, exact_place}
use Rattle.pts_program.proofs.ItemTurns.{IsTurn, by_items}
use Rattle.pts_program.proofs.RightTexts.{IsReady, item_ready}
use Rattle.pts_points.proofs.Each.{Each}

-- as many of the one as of the other, in one order
abbrev AreCallsOf : List CallText → List CallInfo → Type 0
AreCallsOf [] [] = ⊤
AreCallsOf (t ∷ ts) (c ∷ cs) = IsCallOf t c × AreCallsOf ts cs
AreCallsOf _ _ = ⊥

-- ---- one statement

module _ (scope : Scope) where
  -- the elements of the first range
  call_positions : (x : call.Call) → call_right scope x ≡ true
      → natural (number scope x.first.high -ℤ number scope x.first.low) ≡ natural (number [] (resolved_sum scope x.first.high) -ℤ number [] (resolved_sum scope x.first.low))
  call_positions x h =
      let p1 = and_parts _ _ (and_parts _ _ (and_parts _ _ h).0).0 in
      let first : range_right scope x.first ≡ true = p1.0 in
      let sides = and_parts (is_some (kind_of_array scope x.first.array) && sum_is scope is_place x.first.low) (sum_is scope is_place x.first.high) first in
      let front = and_parts (is_some (kind_of_array scope x.first.array)) (sum_is scope is_place x.first.low) sides.0 in
      λ i. natural (sym (exact_place scope [] x.first.high sides.1) i -ℤ sym (exact_place scope [] x.first.low front.1) i)

  step_same : (o : Option Sum) → if_there (sum_is scope (holds kinds.I64)) o ≡ true → step_of [] (option_map (resolved_sum scope) o) ≡ step_of scope o
  step_same None h = refl
  step_same (Some x) h = exact_held scope [] kinds.I64 x h

  -- the turns of the loop
  turns_same : (x : loops.Loop) → loop_right scope x ≡ true
      → positions (number scope x.low) (number scope x.high) (step_of scope x.step)
      ≡ positions (number [] (resolved_sum scope x.low)) (number [] (resolved_sum scope x.high)) (step_of [] (option_map (resolved_sum scope) x.step))
  turns_same x h =
      let p2 = and_parts _ (if_there (sum_is scope (holds kinds.I64)) x.step) (and_parts _ _ (and_parts _ _ h).0).0 in
      let p1 = and_parts (sum_is scope (holds kinds.I64) x.low) (sum_is scope (holds kinds.I64) x.high) p2.0 in
      λ i. positions (sym (exact_held scope [] kinds.I64 x.low p1.0) i) (sym (exact_held scope [] kinds.I64 x.high p1.1) i) (sym (step_same x.step p2.1) i)

  -- calls behind calls, and texts behind texts
  behind : (ts us : List CallText) (cs ds : List CallInfo) → AreCallsOf ts cs → AreCallsOf us ds → AreCallsOf (ts ++ us) (cs ++ ds)
  behind [] us [] ds h k = k
  behind [] us (c ∷ cs) ds h k = absurd h
  behind (t ∷ ts) us [] ds h k = absurd h
  behind (t ∷ ts) us (c ∷ cs) ds h k = (h.0, behind ts us cs ds h.1 k)

  one_matched : (item n : ℕ) (s : Simple) → IsReady scope s → AreCallsOf (text_of scope s) (call_at scope item n s)
  one_matched item n (Throw code) h = tt
  one_matched item n (Assign at x) h = tt
  one_matched item n (Call x) h = ((refl, call_positions x h.sound.right), tt)
  one_matched item n (Loop x) h = ((refl, turns_same x h.sound.right), tt)

  all_matched : (item n : ℕ) (ss : List Simple) → Each (IsReady scope) ss → AreCallsOf (flat_map (text_of scope) ss) (calls_from scope item n ss)
  all_matched item n [] h = tt
  all_matched item n (s ∷ ss) h =
      behind (text_of scope s) (flat_map (text_of scope) ss) (call_at scope item n s) (calls_from scope item (n + (statement_piece scope s).size) ss)
      (one_matched item n s h.0) (all_matched item (n + (statement_piece scope s).size) ss h.1)

  -- a form for each call
  lowered_count : (item n : ℕ) (ss : List Simple) → length (flat_map (lowered_of scope) ss) ≡ length (calls_from scope item n ss)
  lowered_count item n [] = refl
  lowered_count item n (Throw code ∷ ss) = lowered_count item (n + (statement_piece scope (Throw code)).size) ss
  lowered_count item n (Assign at x ∷ ss) = lowered_count item (n + (statement_piece scope (Assign at x)).size) ss
  lowered_count item n (Call x ∷ ss) = ap suc (lowered_count item (n + (statement_piece scope (Call x)).size) ss)
  lowered_count item n (Loop x ∷ ss) = ap suc (lowered_count item (n + (statement_piece scope (Loop x)).size) ss)

-- ---- all items

record AreMatched (before : List Item) (lists : Lists) : Type 0 where
  pub texts : AreCallsOf lists.texts lists.calls
  pub lowered : length lists.lowered_calls ≡ length lists.calls

matched_turn : IsTurn AreMatched
matched_turn before x lists keeps written h =
    let scope = known before in
    let item = length before + 1 in
    let new : List CallInfo = calls_of scope item (length lists.calls) x in
    let size = length-append lists.lowered_calls (lowered_calls scope x) in
    let same = lowered_count scope item 0 (statements x) in
    let count = length-append lists.calls new in
    let old = h.lowered in
    record {
      texts = behind scope lists.texts (texts_of scope x) lists.calls new h.texts (all_matched scope item 0 (statements x) (item_ready before x keeps written.allowed));
      lowered = omega (arith, size, same, count, old);
    }

nothing_matched : AreMatched [] no_lists
nothing_matched = record { texts = tt; lowered = refl }

as_many : (ts : List CallText) (cs : List CallInfo) → AreCallsOf ts cs → length ts ≡ length cs
as_many [] [] h = refl
as_many [] (c ∷ cs) h = absurd h
as_many (t ∷ ts) [] h = absurd h
as_many (t ∷ ts) (c ∷ cs) h = ap suc (as_many ts cs h.1)

at_number : (ts : List CallText) (cs : List CallInfo) (n : ℕ) (text : CallText) (info : CallInfo) → AreCallsOf ts cs → slice_get ts n ≡ Some text → slice_get cs n ≡ Some info → IsCallOf text info
at_number [] [] n text info h is there = absurd (none-some text is)
at_number [] (c ∷ cs) n text info h is there = absurd h
at_number (t ∷ ts) [] n text info h is there = absurd h
at_number (t ∷ ts) (c ∷ cs) zero text info h is there =
    let same : t ≡ text = cc in
    let own : c ≡ info = cc in
    subst (λ y. IsCallOf text y) own (subst (λ y. IsCallOf y c) same h.0)
at_number (t ∷ ts) (c ∷ cs) (suc n) text info h is there = at_number ts cs n text info h.1 is there

pub calls_counted : (lists : Lists) → IsProgram lists → (length lists.texts ≡ length lists.calls) × (length lists.lowered_calls ≡ length lists.calls)
calls_counted lists h = let m = by_items AreMatched matched_turn nothing_matched lists h in (as_many lists.texts lists.calls m.texts, m.lowered)

pub calls_match : (lists : Lists) (n : ℕ) (text : CallText) (info : CallInfo) → IsProgram lists → slice_get lists.texts n ≡ Some text → slice_get lists.calls n ≡ Some info → IsCallOf text info
calls_match lists n text info h is there = at_number lists.texts lists.calls n text info (by_items AreMatched matched_turn nothing_matched lists h).texts is there
