-- Map calls in the lists of a program, with their points.
use Rattle.std.proofs.Common.{◌≡◌, ℕ, zero, suc, ◌+◌, ◌<◌, ◌≤◌, ◌^◌, Option, Some, None, List, [], ◌∷◌, ◌++◌, length, map, flat_map, refl, sym, ◌∙◌, subst, arith, pos, ◌≤ℤ◌}
use Rattle.std.specs.Prelude.{IfSome, slice_get}
use Rattle.std.specs.List.{Contains}
use Rattle.std.proofs.lemmas.List.{map-append}
use Rattle.std.proofs.lemmas.List.Elements.{All-nil, Contains-append_left, Contains-append_right}
use Rattle.pts_tree.specs.declared.script.Item.{Item}
use Rattle.pts_rules.specs.Known.{Scope}
use Rattle.pts_rules.specs.Parts.{Simple, Throw, Assign, Call, Loop, statements}
use Rattle.pts_rules.specs.Scopes.{known}
use Rattle.pts_points.specs.declared.point.CallInfo.{CallInfo}
use Rattle.pts_points.specs.declared.point.PointForm.TheVariants as forms
use Rattle.pts_points.specs.declared.point.PointInfo.{PointInfo}
use Rattle.pts_points.specs.Lines.{line_of_range}
use Rattle.pts_points.specs.Points.{call_piece, calls_from, calls_in, calls_of, context_of, info, points_from, points_of, statement_piece}
use Rattle.pts_points.proofs.Each.{Each}
use Rattle.pts_lowering.specs.declared.forms.LoweredCall.{LoweredCall}
use Rattle.pts_lowering.specs.declared.forms.LoweredCall.TheVariants as lowered
use Rattle.pts_lowering.specs.Forms.{call_by_form, lowered_calls, lowered_of}
use Rattle.pts_lowering.proofs.Cells.{call_cells}
use Rattle.pts_tree.specs.declared.call.Call as call
use Rattle.pts_tree.specs.declared.call.CallForm.{CallForm}
use Rattle.pts_tree.specs.declared.call.CallForm.TheVariants as call_forms
use Rattle.pts_program.specs.declared.lists.Lists.{Lists}
use Rattle.pts_program.specs.Lists.{no_lists, IsProgram}
use Rattle.pts_program.proofs.ItemTurns.{IsTurn, by_items}
use Rattle.pts_program.proofs.RightTexts.{IsReady, item_ready}
use Rattle.pts_points.specs.Inside.{HasRoom}
use Rattle.pts_program.specs.Ranges.{IsInRange, IsOfKind}
use Rattle.pts_program.proofs.Insides.{AreInside, inside_more}
use Rattle.pts_syntax.proofs.Writable.{few_items}
use Rattle.pts_layout.proofs.Items.{one_more}
use Rattle.pts_clear.proofs.MapPoints.{HasCellsOf, ShowsCall, call_shown, still_has}

-- ---- one call

abbrev pub HasPolicy : CallInfo → LoweredCall → Type 0
HasPolicy i (lowered.ForEach x) = i.policy ≡ x.policy
HasPolicy i (lowered.Transform x) = i.policy ≡ x.policy
HasPolicy i x = Unit {0}

-- calls and their forms, from a number on, with their points
abbrev pub AreCalls : List PointInfo → ℕ → List CallInfo → List LoweredCall → Type 0
AreCalls points c [] [] = Unit {0}
AreCalls points c (i ∷ is) (l ∷ ls) = HasPolicy i l × ShowsCall points (Some c) l × AreCalls points (c + 1) is ls
AreCalls points c _ _ = ⊥

module _ (points more : List PointInfo) (f : (y : PointInfo) → Contains points y → Contains more y) where
  still_second : (c : Option ℕ) (o : Option _) → IfSome o (HasCellsOf points c forms.Read) → IfSome o (HasCellsOf more c forms.Read)
  still_second c None h = h
  still_second c (Some r) h = still_has points more c forms.Read r f h

  still_shown : (c : Option ℕ) (l : LoweredCall) → ShowsCall points c l → ShowsCall more c l
  still_shown c (lowered.ForEach x) h = (still_has points more c forms.Read x.range f h.0, still_has points more c forms.Write x.range f h.1)
  still_shown c (lowered.Transform x) h =
      (still_has points more c forms.Read x.first f h.0, still_second c x.second h.1, λ some. still_has points more c forms.Write x.target f (h.2 some))
  still_shown c (lowered.FindIf x) h = tt
  still_shown c (lowered.CountIf x) h = tt
  still_shown c (lowered.Reduce x) h = tt
  still_shown c (lowered.Scan x) h = tt
  still_shown c (lowered.Loop x) h = tt

  still_calls : (c : ℕ) (is : List CallInfo) (ls : List LoweredCall) → AreCalls points c is ls → AreCalls more c is ls
  still_calls c [] [] h = tt
  still_calls c [] (l ∷ ls) h = absurd h
  still_calls c (i ∷ is) [] h = absurd h
  still_calls c (i ∷ is) (l ∷ ls) h = (h.0, still_shown (Some c) l h.1, still_calls (c + 1) is ls h.2)

calls_behind : (points : List PointInfo) (c d : ℕ) (is js : List CallInfo) (ls ms : List LoweredCall) → d ≡ c + length is → AreCalls points c is ls → AreCalls points d js ms
    → AreCalls points c (is ++ js) (ls ++ ms)
calls_behind points c d [] js [] ms e h k = subst (λ n. AreCalls points n js ms) (e ∙ (let n : c + 0 ≡ c = omega arith in n)) k
calls_behind points c d [] js (l ∷ ls) ms e h k = absurd h
calls_behind points c d (i ∷ is) js [] ms e h k = absurd h
calls_behind points c d (i ∷ is) js (l ∷ ls) ms e h k =
    (h.0, h.1, calls_behind points (c + 1) d is js ls ms (e ∙ (let n : c + suc (length is) ≡ (c + 1) + length is = omega arith in n)) h.2 k)

-- ---- statements

has_policy : (scope : Scope) (x : call.Call) (i : CallInfo) (form : CallForm) → i.policy ≡ x.policy → HasPolicy i (call_by_form form scope x)
has_policy scope x i call_forms.ForEach e = e
has_policy scope x i call_forms.Transform e = e
has_policy scope x i call_forms.FindIf e = tt
has_policy scope x i call_forms.CountIf e = tt
has_policy scope x i call_forms.Reduce e = tt
has_policy scope x i call_forms.TransformReduce e = tt
has_policy scope x i call_forms.InclusiveScan e = tt
has_policy scope x i call_forms.ExclusiveScan e = tt
has_policy scope x i call_forms.TransformInclusiveScan e = tt
has_policy scope x i call_forms.TransformExclusiveScan e = tt

module _ (scope : Scope) (room : HasRoom scope) (item : ℕ) where
  abbrev shown : ℕ → ℕ → ℕ → List Simple → List PointInfo
  shown n m c ss = map (info item) (points_from scope n m c ss)

  behind_them : (n m c : ℕ) (s : Simple) (ss : List Simple) (y : PointInfo)
      → Contains (shown (n + (statement_piece scope s).size) (m + (statement_piece scope s).offs) (c + calls_in s) ss) y → Contains (shown n m c (s ∷ ss)) y
  behind_them n m c s ss y h =
      subst (λ l. Contains l y)
      (sym (map-append (info item) ((statement_piece scope s).points (context_of scope c s) n m) (points_from scope (n + (statement_piece scope s).size) (m + (statement_piece scope s).offs) (c + calls_in s) ss)))
      (Contains-append_right (map (info item) ((statement_piece scope s).points (context_of scope c s) n m)) _ y h)

  before_them : (n m c : ℕ) (s : Simple) (ss : List Simple) (y : PointInfo) → Contains (map (info item) ((statement_piece scope s).points (context_of scope c s) n m)) y
      → Contains (shown n m c (s ∷ ss)) y
  before_them n m c s ss y h =
      subst (λ l. Contains l y)
      (sym (map-append (info item) ((statement_piece scope s).points (context_of scope c s) n m) (points_from scope (n + (statement_piece scope s).size) (m + (statement_piece scope s).offs) (c + calls_in s) ss)))
      (Contains-append_left (map (info item) ((statement_piece scope s).points (context_of scope c s) n m)) _ y h)

  all_calls : (n m c : ℕ) (ss : List Simple) → Each (IsReady scope) ss → AreCalls (shown n m c ss) c (calls_from scope item n ss) (flat_map (lowered_of scope) ss)
  all_calls n m c [] ready = tt
  all_calls n m c (Throw code ∷ ss) ready =
      let s = Throw code in
      subst (λ d. AreCalls (shown n m c (s ∷ ss)) d (calls_from scope item (n + (statement_piece scope s).size) ss) (flat_map (lowered_of scope) ss)) (let e : c + 0 ≡ c = omega arith in e)
      (still_calls _ _ (behind_them n m c s ss) (c + 0) _ _ (all_calls (n + (statement_piece scope s).size) (m + (statement_piece scope s).offs) (c + 0) ss ready.1))
  all_calls n m c (Assign at x ∷ ss) ready =
      let s = Assign at x in
      subst (λ d. AreCalls (shown n m c (s ∷ ss)) d (calls_from scope item (n + (statement_piece scope s).size) ss) (flat_map (lowered_of scope) ss)) (let e : c + 0 ≡ c = omega arith in e)
      (still_calls _ _ (behind_them n m c s ss) (c + 0) _ _ (all_calls (n + (statement_piece scope s).size) (m + (statement_piece scope s).offs) (c + 0) ss ready.1))
  all_calls n m c (Call x ∷ ss) ready =
      let s = Call x in (
        has_policy scope x (record { item = item; policy = x.policy; positions = (line_of_range scope x.first).n; first_point = n; points = (call_piece scope x).size }) x.form refl,
        still_shown _ _ (before_them n m c s ss) (Some c) (call_by_form x.form scope x)
            (call_shown item scope x (call_cells scope room x (ready.0).sound) (context_of scope c s) n m),
        still_calls _ _ (behind_them n m c s ss) (c + 1) _ _ (all_calls (n + (statement_piece scope s).size) (m + (statement_piece scope s).offs) (c + 1) ss ready.1),
      )
  all_calls n m c (Loop x ∷ ss) ready =
      let s = Loop x in
      (tt, tt, still_calls _ _ (behind_them n m c s ss) (c + 1) _ _ (all_calls (n + (statement_piece scope s).size) (m + (statement_piece scope s).offs) (c + 1) ss ready.1))

-- ---- programs

record AreTold (before : List Item) (lists : Lists) : Type 0 where
  pub inside : AreInside before lists
  pub calls : AreCalls lists.points 0 lists.calls lists.lowered_calls

-- for so few items that arrays have numbers of 32 bits
abbrev ToldOfFew : List Item → Lists → Type 0
ToldOfFew before lists = length before ≤ 2 ^ 32 → AreTold before lists

told_turn : IsTurn ToldOfFew
told_turn before x lists keeps written h few =
    let scope = known before in
    let item = length before + 1 in
    let size = one_more before x in
    let old = h (omega (arith, few, size)) in
    let less : length before < 2 ^ 32 = omega (arith, few, size) in
    let arrays = old.inside.few in
    let room : HasRoom scope = record { short = old.inside.short; few = omega (arith, arrays, less) } in
    let new : List PointInfo = points_of scope item (length lists.calls) x in
    record {
      inside = inside_more before x lists keeps less old.inside;
      calls =
          calls_behind (lists.points ++ new) 0 (length lists.calls) lists.calls (calls_of scope item (length lists.calls) x) lists.lowered_calls (lowered_calls scope x) (omega arith)
          (still_calls lists.points (lists.points ++ new) (λ y. Contains-append_left lists.points new y) 0 lists.calls lists.lowered_calls old.calls)
          (still_calls new (lists.points ++ new) (λ y. Contains-append_right lists.points new y) (length lists.calls) (calls_of scope item (length lists.calls) x) (lowered_calls scope x)
          (all_calls scope room item 0 0 (length lists.calls) (statements x) (item_ready before x keeps written.allowed)));
    }

none_inside : AreInside [] no_lists
unfolding known
none_inside = record { sizes = refl; short = All-nil (λ z. z ≤ℤ pos (2 ^ 20)); few = omega arith; points = All-nil (IsInRange []); kinds = All-nil IsOfKind }

nothing_told : ToldOfFew [] no_lists
nothing_told few = record { inside = none_inside; calls = tt }

pub all_told : (lists : Lists) → IsProgram lists → AreCalls lists.points 0 lists.calls lists.lowered_calls
all_told lists h =
    let few = few_items h.script h.spelled in
    (by_items ToldOfFew told_turn nothing_told lists h (omega (arith, few))).calls

-- the call of a number
pub record IsThere (points : List PointInfo) (c : ℕ) (is : List CallInfo) (k : ℕ) (l : LoweredCall) : Type 0 where
  pub call : CallInfo
  pub there : slice_get is k ≡ Some call
  pub policy : HasPolicy call l
  pub points_shown : ShowsCall points (Some (c + k)) l

pub at_number : (points : List PointInfo) (c k : ℕ) (is : List CallInfo) (ls : List LoweredCall) (l : LoweredCall) → AreCalls points c is ls → slice_get ls k ≡ Some l → IsThere points c is k l
at_number points c k [] [] l h e = absurd cc
at_number points c k [] (m ∷ ls) l h e = absurd h
at_number points c k (i ∷ is) [] l h e = absurd h
at_number points c zero (i ∷ is) (m ∷ ls) l h e =
    let same : m ≡ l = cc in
    record {
      call = i;
      there = refl;
      policy = subst (HasPolicy i) same h.0;
      points_shown = subst (λ d. ShowsCall points (Some d) l) (let n : c ≡ c + 0 = omega arith in n) (subst (ShowsCall points (Some c)) same h.1);
    }
at_number points c (suc k) (i ∷ is) (m ∷ ls) l h e =
    let rest = at_number points (c + 1) k is ls l h.2 e in
    record {
      call = rest.call;
      there = rest.there;
      policy = rest.policy;
      points_shown = subst (λ d. ShowsCall points (Some d) l) (let n : (c + 1) + k ≡ c + suc k = omega arith in n) rest.points_shown;
    }
