-- What is known of the loops of a program: where each comes from, and where its points stand in the list.
use Rattle.std.proofs.Common.{◌≡◌, ◌≢◌, ℕ, zero, suc, ◌+◌, false, Some, List, [], ◌∷◌, ◌++◌, length, map, refl, sym, ap, ◌∙◌, subst, append-nil, arith}
use Rattle.std.specs.Prelude.{⊤, flat_map, slice_get, unwrap_or}
use Rattle.std.specs.List.{list_any}
use Rattle.std.proofs.lemmas.Bool.{or_parts}
use Rattle.std.proofs.lemmas.Option.{none-some}
use Rattle.pts_tree.specs.declared.call.Call as call
use Rattle.pts_tree.specs.declared.call.CallForm.{CallForm}
use Rattle.pts_tree.specs.declared.call.CallForm.TheVariants as forms
use Rattle.pts_tree.specs.declared.loops.Loop as loops
use Rattle.pts_tree.specs.declared.script.Item.{Item}
use Rattle.pts_rules.specs.Indices.{has_not_affine}
use Rattle.pts_rules.specs.Known.{Scope}
use Rattle.pts_rules.specs.Parts.{Simple, Throw, Assign, Call, Loop, statements}
use Rattle.pts_rules.specs.Scopes.{after, known}
use Rattle.pts_constants.specs.Resolved.{resolved_loop}
use Rattle.pts_constants.specs.Texts.{text_of, texts_of}
use Rattle.pts_constants.specs.declared.texts.CallText.{CallText}
use Rattle.pts_constants.specs.declared.texts.CallText.TheVariants as texts
use Rattle.pts_points.specs.declared.point.CallInfo.{CallInfo}
use Rattle.pts_points.specs.declared.point.PointInfo.{PointInfo}
use Rattle.pts_points.specs.Points.{calls_from, calls_in, calls_of, context_of, info, loop_piece, points_from, points_of, statement_piece}
use Rattle.pts_points.proofs.Builds.{map_both, map_length, sized}
use Rattle.pts_points.proofs.Each.{Each}
use Rattle.pts_points.proofs.Wholes.{good_statement}
use Rattle.pts_lowering.specs.declared.forms.LoweredCall.{LoweredCall}
use Rattle.pts_lowering.specs.declared.forms.LoweredCall.TheVariants as lowered
use Rattle.pts_lowering.specs.declared.forms.LoweredLoop.{LoweredLoop}
use Rattle.pts_lowering.specs.Forms.{call_by_form, loop_of, lowered_calls, lowered_of}
use Rattle.pts_program.specs.declared.lists.Lists.{Lists}
use Rattle.pts_program.specs.Lists.{IsProgram}
use Rattle.pts_program.proofs.Declared.{known_more}
use Rattle.pts_program.proofs.ItemTurns.{IsTurn, by_items}
use Rattle.pts_program.proofs.RightTexts.{IsReady, item_ready}
use Rattle.pts_layout.proofs.Places.{IsPart, back_part, front_part, in_longer, second_part}
use Rattle.pts_loop_points.proofs.Numbers.{IsKeptIn, kept_behind, kept_self, kept_through}

-- The loop y without constants is call c, in numbers this form. It was another loop, ready in an earlier scope, whose points stand
-- together in the list.
pub record IsLoopText (next : Scope) (points : List PointInfo) (c : ℕ) (y : loops.Loop) (call : CallInfo) (form : LoweredCall) : Type 0 where
  pub scope : Scope
  pub source : loops.Loop
  pub is : y ≡ resolved_loop scope source
  pub form_is : form ≡ lowered.Loop (loop_of scope source)
  pub policy : call.policy ≡ source.policy
  pub ready : IsReady scope (Loop source)
  pub lines : has_not_affine scope (Loop source) ≡ false
  pub kept : IsKeptIn scope next
  pub offs : ℕ
  pub start : ℕ
  pub size : call.points ≡ (loop_piece scope source).size
  pub shown : IsPart points (start + call.first_point) (map (info call.item) ((loop_piece scope source).points (context_of scope c (Loop source)) call.first_point offs))

abbrev IsNoLoop : LoweredCall → Type 0
IsNoLoop form = (head : LoweredLoop) → form ≢ lowered.Loop head

abbrev Told : Scope → List PointInfo → ℕ → CallText → CallInfo → LoweredCall → Type 0
Told next points c (texts.Call x) call form = IsNoLoop form
Told next points c (texts.Loop x) call form = IsLoopText next points c x call form

-- the calls and loops from number c on
abbrev AreTold : Scope → List PointInfo → ℕ → List CallText → List CallInfo → List LoweredCall → Type 0
AreTold next points c [] [] [] = ⊤
AreTold next points c (t ∷ ts) (k ∷ ks) (l ∷ ls) = Told next points c t k l × AreTold next points (c + 1) ts ks ls
AreTold next points c _ _ _ = ⊥

-- ---- in a later scope and a longer list

module _ (next later : Scope) (points more : List PointInfo) (kept : IsKeptIn next later) where
  told_later : (c : ℕ) (t : CallText) (k : CallInfo) (l : LoweredCall) → Told next points c t k l → Told later (points ++ more) c t k l
  told_later c (texts.Call x) k l h = h
  told_later c (texts.Loop x) k l h = record {
    scope = h.scope;
    source = h.source;
    is = h.is;
    form_is = h.form_is;
    policy = h.policy;
    ready = h.ready;
    lines = h.lines;
    kept = kept_through h.scope next later h.kept kept;
    offs = h.offs;
    start = h.start;
    size = h.size;
    shown = record { at = λ j x is. in_longer points more (h.start + k.first_point + j) x (h.shown.at j x is) };
  }

  all_later : (c : ℕ) (ts : List CallText) (ks : List CallInfo) (ls : List LoweredCall) → AreTold next points c ts ks ls → AreTold later (points ++ more) c ts ks ls
  all_later c [] [] [] h = tt
  all_later c [] [] (l ∷ ls) h = absurd h
  all_later c [] (k ∷ ks) ls h = absurd h
  all_later c (t ∷ ts) [] ls h = absurd h
  all_later c (t ∷ ts) (k ∷ ks) [] h = absurd h
  all_later c (t ∷ ts) (k ∷ ks) (l ∷ ls) h = (told_later c t k l h.0, all_later (c + 1) ts ks ls h.1)

module _ (next : Scope) (points : List PointInfo) where
  told_behind : (c : ℕ) (ts us : List CallText) (ks js : List CallInfo) (ls ms : List LoweredCall) → AreTold next points c ts ks ls → AreTold next points (c + length ks) us js ms
      → AreTold next points c (ts ++ us) (ks ++ js) (ls ++ ms)
  told_behind c [] us [] js [] ms h g = let e : c + 0 ≡ c = omega arith in subst (λ n. AreTold next points n us js ms) e g
  told_behind c [] us [] js (l ∷ ls) ms h g = absurd h
  told_behind c [] us (k ∷ ks) js ls ms h g = absurd h
  told_behind c (t ∷ ts) us [] js ls ms h g = absurd h
  told_behind c (t ∷ ts) us (k ∷ ks) js [] ms h g = absurd h
  told_behind c (t ∷ ts) us (k ∷ ks) js (l ∷ ls) ms h g =
      let e : c + suc (length ks) ≡ c + 1 + length ks = omega arith in
      (h.0, told_behind (c + 1) ts us ks js ls ms h.1 (subst (λ n. AreTold next points n us js ms) e g))

-- ---- the loops of one item

no_loop : (scope : Scope) (x : call.Call) (form : CallForm) → IsNoLoop (call_by_form form scope x)
no_loop scope x forms.ForEach = λ head e. cc
no_loop scope x forms.Transform = λ head e. cc
no_loop scope x forms.FindIf = λ head e. cc
no_loop scope x forms.CountIf = λ head e. cc
no_loop scope x forms.Reduce = λ head e. cc
no_loop scope x forms.TransformReduce = λ head e. cc
no_loop scope x forms.InclusiveScan = λ head e. cc
no_loop scope x forms.ExclusiveScan = λ head e. cc
no_loop scope x forms.TransformInclusiveScan = λ head e. cc
no_loop scope x forms.TransformExclusiveScan = λ head e. cc

module _ (scope : Scope) (points : List PointInfo) (start item : ℕ) where
  abbrev here : ℕ → ℕ → ℕ → Simple → List PointInfo
  here n m c s = map (info item) ((statement_piece scope s).points (context_of scope c s) n m)

  abbrev behind : ℕ → ℕ → ℕ → Simple → List Simple → List PointInfo
  behind n m c s ss = map (info item) (points_from scope (n + (statement_piece scope s).size) (m + (statement_piece scope s).offs) (c + calls_in s) ss)

  -- the points of the first statement, and those of the others
  both_parts : (n m c : ℕ) (s : Simple) (ss : List Simple) → IsPart points (start + n) (map (info item) (points_from scope n m c (s ∷ ss)))
      → IsPart points (start + n) (here n m c s) × IsPart points (start + (n + (statement_piece scope s).size)) (behind n m c s ss)
  both_parts n m c s ss h =
      let own = (statement_piece scope s).points (context_of scope c s) n m in
      let size : length (here n m c s) ≡ (statement_piece scope s).size = map_length (info item) own ∙ sized (statement_piece scope s) (good_statement scope s) (context_of scope c s) n m in
      let all = subst (IsPart points (start + n)) (map_both (info item) own (points_from scope (n + (statement_piece scope s).size) (m + (statement_piece scope s).offs) (c + calls_in s) ss)) h in (
        front_part points (start + n) (here n m c s) (behind n m c s ss) all,
        back_part points (start + n) (start + (n + (statement_piece scope s).size)) (here n m c s) (behind n m c s ss) (omega (arith, size)) all,
      )

  told_from : (n m c : ℕ) (ss : List Simple) → Each (IsReady scope) ss → list_any (has_not_affine scope) ss ≡ false → IsPart points (start + n) (map (info item) (points_from scope n m c ss))
      → AreTold scope points c (flat_map (text_of scope) ss) (calls_from scope item n ss) (flat_map (lowered_of scope) ss)
  told_from n m c [] ready lines h = tt
  told_from n m c (Throw code ∷ ss) ready lines h =
      let e : c + 0 ≡ c = omega arith in
      let x = statement_piece scope (Throw code) in
      subst (λ k. AreTold scope points k (flat_map (text_of scope) ss) (calls_from scope item (n + x.size) ss) (flat_map (lowered_of scope) ss)) e
      (told_from (n + x.size) (m + x.offs) (c + 0) ss ready.1 (or_parts (has_not_affine scope (Throw code)) (list_any (has_not_affine scope) ss) lines).1 (both_parts n m c (Throw code) ss h).1)
  told_from n m c (Assign at y ∷ ss) ready lines h =
      let e : c + 0 ≡ c = omega arith in
      let x = statement_piece scope (Assign at y) in
      subst (λ k. AreTold scope points k (flat_map (text_of scope) ss) (calls_from scope item (n + x.size) ss) (flat_map (lowered_of scope) ss)) e
      (told_from (n + x.size) (m + x.offs) (c + 0) ss ready.1 (or_parts (has_not_affine scope (Assign at y)) (list_any (has_not_affine scope) ss) lines).1 (both_parts n m c (Assign at y) ss h).1)
  told_from n m c (Call y ∷ ss) ready lines h =
      let x = statement_piece scope (Call y) in
      (no_loop scope y y.form, told_from (n + x.size) (m + x.offs) (c + 1) ss ready.1 (or_parts (has_not_affine scope (Call y)) (list_any (has_not_affine scope) ss) lines).1 (both_parts n m c (Call y) ss h).1)
  told_from n m c (Loop y ∷ ss) ready lines h =
      let x = statement_piece scope (Loop y) in
      let parts = or_parts (has_not_affine scope (Loop y)) (list_any (has_not_affine scope) ss) lines in
      let both = both_parts n m c (Loop y) ss h in (
        record { scope = scope; source = y; is = refl; form_is = refl; policy = refl; ready = ready.0; lines = parts.0; kept = kept_self scope; offs = m; start = start; size = refl; shown = both.0 },
        told_from (n + x.size) (m + x.offs) (c + 1) ss ready.1 parts.1 both.1,
      )

-- ---- all items

abbrev LoopsTold : List Item → Lists → Type 0
LoopsTold before lists = AreTold (known before) lists.points 0 lists.texts lists.calls lists.lowered_calls

told_turn : IsTurn LoopsTold
told_turn before x lists keeps written h =
    let scope = known before in
    let item = length before + 1 in
    let new = points_of scope item (length lists.calls) x in
    let points = lists.points ++ new in
    let calls = calls_of scope item (length lists.calls) x in
    let from : length lists.points ≡ length lists.points + 0 = omega arith in
    let first : length lists.calls ≡ 0 + length lists.calls = omega arith in
    let own : AreTold scope points (length lists.calls) (texts_of scope x) calls (lowered_calls scope x) =
    told_from scope points (length lists.points) item 0 0 (length lists.calls) (statements x) (item_ready before x keeps written.allowed) keeps.affine (second_part lists.points new (length lists.points + 0) from) in
    let all : AreTold scope points 0 (lists.texts ++ texts_of scope x) (lists.calls ++ calls) (lists.lowered_calls ++ lowered_calls scope x) =
    told_behind scope points 0 lists.texts (texts_of scope x) lists.calls calls lists.lowered_calls (lowered_calls scope x)
    (all_later scope scope lists.points new (kept_self scope) 0 lists.texts lists.calls lists.lowered_calls h)
    (subst (λ n. AreTold scope points n (texts_of scope x) calls (lowered_calls scope x)) first own) in
    subst (λ next. AreTold next points 0 (lists.texts ++ texts_of scope x) (lists.calls ++ calls) (lists.lowered_calls ++ lowered_calls scope x)) (sym (known_more before x))
    (in_scope scope (after scope x) points (kept_behind before x keeps) 0 (lists.texts ++ texts_of scope x) (lists.calls ++ calls) (lists.lowered_calls ++ lowered_calls scope x) all)
  where
    in_scope : (next later : Scope) (points : List PointInfo) → IsKeptIn next later → (c : ℕ) (ts : List CallText) (ks : List CallInfo) (ls : List LoweredCall)
        → AreTold next points c ts ks ls → AreTold later points c ts ks ls
    in_scope next later points kept c ts ks ls h = subst (λ ps. AreTold later ps c ts ks ls) (append-nil points) (all_later next later points [] kept c ts ks ls h)

pub loops_told : (lists : Lists) (h : IsProgram lists) → AreTold (known h.script.items) lists.points 0 lists.texts lists.calls lists.lowered_calls
loops_told = by_items LoopsTold told_turn tt

-- a loop that these lists have at a number
pub record LoopTold (next : Scope) (points : List PointInfo) (c : ℕ) (ts : List CallText) (n : ℕ) (call : CallInfo) (form : LoweredCall) : Type 0 where
  pub text : loops.Loop
  pub there : slice_get ts n ≡ Some (texts.Loop text)
  pub told : IsLoopText next points c text call form

module _ (next : Scope) (points : List PointInfo) where
  one_told : (c : ℕ) (t : CallText) (k : CallInfo) (head : LoweredLoop) → Told next points c t k (lowered.Loop head) → LoopTold next points c (t ∷ []) 0 k (lowered.Loop head)
  one_told c (texts.Call x) k head h = absurd (h head refl)
  one_told c (texts.Loop x) k head h = record { text = x; there = refl; told = h }

  told_at : (c : ℕ) (ts : List CallText) (ks : List CallInfo) (ls : List LoweredCall) (n : ℕ) (call : CallInfo) (head : LoweredLoop) → AreTold next points c ts ks ls
      → slice_get ks n ≡ Some call → slice_get ls n ≡ Some (lowered.Loop head) → LoopTold next points (c + n) ts n call (lowered.Loop head)
  told_at c [] [] [] n call head h called is = absurd (none-some call called)
  told_at c [] [] (l ∷ ls) n call head h called is = absurd h
  told_at c [] (k ∷ ks) ls n call head h called is = absurd h
  told_at c (t ∷ ts) [] ls n call head h called is = absurd h
  told_at c (t ∷ ts) (k ∷ ks) [] n call head h called is = absurd h
  told_at c (t ∷ ts) (k ∷ ks) (l ∷ ls) zero call head h called is =
      let e : c ≡ c + 0 = omega arith in
      let own : Told next points c t call (lowered.Loop head) =
      subst (λ o. Told next points c t o (lowered.Loop head)) (ap (λ o. unwrap_or o k) called) (subst (λ o. Told next points c t k o) (ap (λ o. unwrap_or o l) is) h.0) in
      let one = one_told c t call head own in
      record { text = one.text; there = one.there; told = subst (λ d. IsLoopText next points d one.text call (lowered.Loop head)) e one.told }
  told_at c (t ∷ ts) (k ∷ ks) (l ∷ ls) (suc n) call head h called is =
      let e : c + 1 + n ≡ c + suc n = omega arith in
      let rest = told_at (c + 1) ts ks ls n call head h.1 called is in
      record { text = rest.text; there = rest.there; told = subst (λ d. IsLoopText next points d rest.text call (lowered.Loop head)) e rest.told }

-- what is known of the loop of a number
pub loop_told : (lists : Lists) (h : IsProgram lists) (c : ℕ) (call : CallInfo) (head : LoweredLoop) → slice_get lists.calls c ≡ Some call → slice_get lists.lowered_calls c ≡ Some (lowered.Loop head)
    → LoopTold (known h.script.items) lists.points c lists.texts c call (lowered.Loop head)
loop_told lists h c call head called is =
    let e : 0 + c ≡ c = omega arith in
    subst (λ d. LoopTold (known h.script.items) lists.points d lists.texts c call (lowered.Loop head)) e
    (told_at (known h.script.items) lists.points 0 lists.texts lists.calls lists.lowered_calls c call head (loops_told lists h) called is)
