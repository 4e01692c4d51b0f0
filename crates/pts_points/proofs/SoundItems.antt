-- The points of a sound item lie in their arrays, and none of their numbers is cut.
use Rattle.std.proofs.Common.{◌≡◌, ℕ, ◌+◌, ◌-◌, ◌^◌, ◌<◌, ◌≤◌, Bool, true, false, ℤ, pos, negsuc, ◌+ℤ◌, ◌*ℤ◌, ◌-ℤ◌, Option, Some, None, List, [], ◌∷◌, ◌++◌, map, refl, arith}
use Rattle.std.specs.Prelude.{◌≤ℤ◌, ◌<ℤ◌, ◌==◌, ◌&&◌, ◌||◌, nat_le, nat_lt, int_lt, if◌then◌else◌, is_some, flat_map, All}
use Rattle.std.specs.List.{list_all}
use Rattle.std.proofs.lemmas.Int.{ints}
use Rattle.std.proofs.lemmas.Bool.{and_parts, or_parts, false≢true}
use Rattle.std.proofs.lemmas.List.Elements.{All-head, All-tail}
use Rattle.pts_types.specs.declared.value.Kind.TheVariants as kinds
use Rattle.pts_types.specs.Arithmetic.{least_i64, greatest_i64}
use Rattle.pts_tree.specs.Spelling.{if_there}
use Rattle.pts_tree.specs.declared.sum.Sum.{Sum}
use Rattle.pts_tree.specs.declared.sum.Range.{Range}
use Rattle.pts_tree.specs.declared.sum.Cell.{Cell}
use Rattle.pts_tree.specs.declared.call.Call as call
use Rattle.pts_tree.specs.declared.call.CallForm.{CallForm}
use Rattle.pts_tree.specs.declared.call.CallForm.TheVariants as forms
use Rattle.pts_tree.specs.declared.loops.Loop as loops
use Rattle.pts_tree.specs.declared.loops.Clause.{Clause}
use Rattle.pts_tree.specs.declared.loops.Clause.TheVariants as clauses
use Rattle.pts_tree.specs.declared.loops.Initial.{Initial}
use Rattle.pts_tree.specs.declared.loops.Initial.TheVariants as initials
use Rattle.pts_tree.specs.declared.script.Item.{Item}
use Rattle.pts_rules.specs.Parts.{Simple, Throw, Assign, Call, Loop, statements}
use Rattle.pts_rules.specs.Known.{Scope, kind_of_array, has, holds, is_place, number, natural, sum_is, sum_value}
use Rattle.pts_rules.specs.Counts.{loop_positions, step_of}
use Rattle.pts_rules.specs.Indices.{reaches, Reach, Span, line_of, length_of, place_reach, cell_reach, range_reach, clause_reach, reach_of, loop_line, elements, places}
use Rattle.pts_rules.specs.Mistyped.{all_right, body_scope, checked_stmt, clause_right, range_right, call_right, loop_right, form_right}
use Rattle.pts_rules.specs.Steps.{is_backward, goes_backward}
use Rattle.pts_points.specs.Lines.{array_at, cells_from, line_of_range, line_of_cell, space_of, no_loop}
use Rattle.pts_points.specs.Widths.{clamp}
use Rattle.pts_points.specs.Pieces.{Along, Deed, Reads, Fills, LivesOut, Answers, Piece, taken, seeing, nothing, behind, sequence, alone}
use Rattle.pts_points.specs.Points.{array_of, line_of_deed, live_out, initial_piece, clause_piece, loop_piece, source_piece, target_piece, answer_piece, piece_of, own_piece, call_piece, reads_of, statement_piece, context_of, calls_in, points_from, item_points, info, points_of, body_piece}
use Rattle.pts_points.specs.Inside.{IsInside, HasRoom, IsSound}
use Rattle.pts_points.specs.Building.{IsKept, AreKept}
use Rattle.pts_points.proofs.Each.{Each, front, back, both, weaker, all_of, mapped}
use Rattle.pts_points.proofs.Ranges.{clamp_same, small_same, is_short, array_few, within}
use Rattle.pts_points.proofs.Interiors.{Stays, each_stays, IsHeld, HoldsPoint, AllHeld, line_held, all_placed, reads_inside, body_inside}

-- ---- numbers

pub known_number : (o : Option ℤ) (test : ℤ → Bool) → has test o ≡ true → test (elim o [ None ↦ pos 0 | Some z ↦ z ]) ≡ true
known_number None test h = absurd (false≢true h)
known_number (Some z) test h = h

pub place_bounds : (z : ℤ) → is_place z ≡ true → (pos 0 ≤ℤ z) × (z ≤ℤ greatest_i64)
place_bounds z h = grind (arith, h)

pub word_bounds : (z : ℤ) → holds kinds.I64 z ≡ true → (least_i64 ≤ℤ z) × (z ≤ℤ greatest_i64)
word_bounds z h = grind (arith, h)

natural_same : (z : ℤ) → pos 0 ≤ℤ z → pos (natural z) ≡ z
natural_same (pos n) h = refl
natural_same (negsuc n) h = absurd (grind (arith, h))

pub not_less : (x y : ℤ) → int_lt x y ≡ false → y ≤ℤ x
not_less x y h = grind (arith, h)

not_more : (n : ℕ) → nat_lt (2 ^ 20) n ≡ false → n ≤ 2 ^ 20
not_more n h = grind (arith, h)

-- ---- ranges and cells

pub span_end : (low high size : ℤ) → Stays (Span low high size) → high ≤ℤ size
span_end low high size h = let e : (int_lt size high && natural (size -ℤ low) == natural (size -ℤ low)) ≡ false = h (natural (size -ℤ low)) in grind (arith, e)

-- a range of k cells from low on
range_cells : (low size : ℤ) (k : ℕ) → pos 0 ≤ℤ low → (low +ℤ pos k) ≤ℤ size → (p : ℕ) → p < k
    → (pos 0 ≤ℤ ((if nat_le k 1 then pos 0 else pos 1) *ℤ pos p +ℤ low)) × (((if nat_le k 1 then pos 0 else pos 1) *ℤ pos p +ℤ low) <ℤ size)
range_cells low size k a b p h = by_width (nat_le k 1)
  where
    by_width : (t : Bool) → (pos 0 ≤ℤ ((if t then pos 0 else pos 1) *ℤ pos p +ℤ low)) × (((if t then pos 0 else pos 1) *ℤ pos p +ℤ low) <ℤ size)
    by_width true = (grind (arith, a), grind (arith, a, b, h))
    by_width false = (grind (arith, a), grind (arith, a, b, h))

not_negative : (low high : ℤ) → low ≤ℤ high → pos 0 ≤ℤ (high -ℤ low)
not_negative low high h = omega (arith, ints, h)

kept_place : (z : ℤ) → pos 0 ≤ℤ z → z ≤ℤ greatest_i64 → clamp z ≡ z
kept_place z low high = clamp_same z (omega (arith, ints, low)) high

few_in_word : (k : ℕ) → k ≤ 2 ^ 20 → k ≤ 2 ^ 32 - 1
few_in_word k h = omega (arith, h)

few_cells : (low high size : ℤ) (k : ℕ) → pos k ≡ high -ℤ low → pos 0 ≤ℤ low → high ≤ℤ size → size ≤ℤ pos (2 ^ 20) → k ≤ 2 ^ 20
few_cells low high size k count l0 fits short = omega (arith, ints, count, l0, fits, short)

wide_cells : (low high size : ℤ) (k : ℕ) → pos k ≡ high -ℤ low → high ≤ℤ size → (low +ℤ pos k) ≤ℤ size
wide_cells low high size k count fits = omega (arith, ints, count, fits)

level_range : (k : ℕ) → k ≤ 1 → (if nat_le k 1 then pos 0 else pos 1) ≡ pos 0
level_range k h = grind (arith, h)

slope_kept : (k : ℕ) → clamp (if nat_le k 1 then pos 0 else pos 1) ≡ (if nat_le k 1 then pos 0 else pos 1)
slope_kept k = by_width (nat_le k 1)
  where
    by_width : (t : Bool) → clamp (if t then pos 0 else pos 1) ≡ (if t then pos 0 else pos 1)
    by_width true = refl
    by_width false = refl

pub range_held : (scope : Scope) → HasRoom scope → (x : Range) → range_right scope x ≡ true → is_backward scope x ≡ false → Each Stays (range_reach scope x)
    → IsHeld scope (array_at scope x.array) (line_of_range scope x)
range_held scope room x right forward stays =
    let low : ℤ = number scope x.low in
    let high : ℤ = number scope x.high in
    let size : ℤ = length_of scope x.array in
    let sides : ((is_some (kind_of_array scope x.array) && sum_is scope is_place x.low) && sum_is scope is_place x.high) ≡ true = right in
    let p1 : ((is_some (kind_of_array scope x.array) && sum_is scope is_place x.low) ≡ true) × (sum_is scope is_place x.high ≡ true) = and_parts _ _ sides in
    let p2 : (is_some (kind_of_array scope x.array) ≡ true) × (sum_is scope is_place x.low ≡ true) = and_parts _ _ p1.0 in
    let l : (pos 0 ≤ℤ low) × (low ≤ℤ greatest_i64) = place_bounds low (known_number (sum_value scope x.low) is_place p2.1) in
    let l0 : pos 0 ≤ℤ low = l.0 in
    let ordered : low ≤ℤ high = not_less high low forward in
    let fits : high ≤ℤ size = span_end low high size stays.0 in
    let short : size ≤ℤ pos (2 ^ 20) = is_short scope room x.array in
    let k : ℕ = natural (high -ℤ low) in
    let rest : pos 0 ≤ℤ (high -ℤ low) = not_negative low high ordered in
    let count : pos k ≡ high -ℤ low = natural_same (high -ℤ low) rest in
    let few : k ≤ 2 ^ 20 = few_cells low high size k count l0 fits short in
    let wide : (low +ℤ pos k) ≤ℤ size = wide_cells low high size k count fits in
    record {
      inside = within scope room x.array (cells_from low k) few (level_range k) (range_cells low size k l0 wide);
      kept = λ i. record { c = slope_kept k i; d = kept_place low l0 l.1 i; n = small_same k (few_in_word k few) i };
      few = array_few scope room x.array;
    }

pub cell_held : (scope : Scope) → HasRoom scope → (x : Cell) → Each Stays (cell_reach scope x) → IsHeld scope (array_at scope x.array) (line_of_cell scope x)
cell_held scope room x stays = line_held scope room x.array (line_of_cell scope x) (omega arith) (λ h. refl) (λ h. absurd (omega (arith, h))) stays.0

-- ---- pieces

pub behind_held : (scope : Scope) (x y : Piece) → AllHeld scope x → AllHeld scope y → AllHeld scope (behind x y)
behind_held scope x y f g context n m =
    both (HoldsPoint scope) (x.points context n m) (y.points (seeing (x.lets context n) context) (n + x.size) (taken context.off x.offs m)) (f context n m)
    (g (seeing (x.lets context n) context) (n + x.size) (taken context.off x.offs m))

none_held : (scope : Scope) → AllHeld scope nothing
none_held scope context n m = tt

alone_held : (scope : Scope) (deed : Deed) → IsHeld scope (array_of deed) (line_of_deed deed) → AllHeld scope (alone deed)
alone_held scope deed h context n m = (h, tt)

-- ---- calls

module _ (scope : Scope) (room : HasRoom scope) where
  abbrev RangeRight : Range → Type 0
  RangeRight x = (range_right scope x ≡ true) × (is_backward scope x ≡ false) × Each Stays (range_reach scope x)

  source_held : (x : Range) → RangeRight x → AllHeld scope (source_piece scope x)
  source_held x h = alone_held scope (Reads (array_at scope x.array) (Along (line_of_range scope x))) (range_held scope room x h.0 h.1 h.2)

  target_held : (x : Range) → RangeRight x → AllHeld scope (target_piece scope x)
  target_held x h = alone_held scope (Fills (array_at scope x.array) (line_of_range scope x)) (range_held scope room x h.0 h.1 h.2)

  optional_held : (f : Range → Piece) → ((x : Range) → RangeRight x → AllHeld scope (f x)) → (x : Option Range) → if_there (range_right scope) x ≡ true → has (is_backward scope) x ≡ false
      → Each Stays (reach_of (range_reach scope) x) → AllHeld scope (piece_of f x)
  optional_held f held None right forward stays = none_held scope
  optional_held f held (Some x) right forward stays = held x (right, forward, stays)

  answer_held : (x : Option Cell) → Each Stays (reach_of (cell_reach scope) x) → AllHeld scope (piece_of (answer_piece scope) x)
  answer_held None stays = none_held scope
  answer_held (Some x) stays = alone_held scope (Answers (array_at scope x.array) (line_of_cell scope x)) (cell_held scope room x stays)

  own_held : (form : CallForm) (x : Range) → RangeRight x → AllHeld scope (own_piece scope form x)
  own_held forms.ForEach x h = target_held x h
  own_held forms.Transform x h = none_held scope
  own_held forms.FindIf x h = none_held scope
  own_held forms.CountIf x h = none_held scope
  own_held forms.Reduce x h = none_held scope
  own_held forms.TransformReduce x h = none_held scope
  own_held forms.InclusiveScan x h = none_held scope
  own_held forms.ExclusiveScan x h = none_held scope
  own_held forms.TransformInclusiveScan x h = none_held scope
  own_held forms.TransformExclusiveScan x h = none_held scope

  call_held : (x : call.Call) → call_right scope x ≡ true → goes_backward scope (Call x) ≡ false
      → Each Stays (range_reach scope x.first ++ reach_of (range_reach scope) x.second ++ reach_of (range_reach scope) x.target ++ reach_of (cell_reach scope) x.store)
      → AllHeld scope (call_piece scope x) × RangeRight x.first
  call_held x right forward stays =
      let first : List Reach = range_reach scope x.first in
      let second : List Reach = reach_of (range_reach scope) x.second in
      let target : List Reach = reach_of (range_reach scope) x.target in
      let store : List Reach = reach_of (cell_reach scope) x.store in
      let s1 : Each Stays (first ++ second ++ target) = front Stays (first ++ second ++ target) store stays in
      let s2 : Each Stays (first ++ second) = front Stays (first ++ second) target s1 in
      let a : Bool = range_right scope x.first in
      let b : Bool = if_there (range_right scope) x.second in
      let c : Bool = if_there (range_right scope) x.target in
      let r1 : ((a && b && c) ≡ true) × (form_right x.form scope x ≡ true) = and_parts (a && b && c) (form_right x.form scope x) right in
      let r2 : ((a && b) ≡ true) × (c ≡ true) = and_parts (a && b) c r1.0 in
      let r3 : (a ≡ true) × (b ≡ true) = and_parts a b r2.0 in
      let d : Bool = is_backward scope x.first in
      let e : Bool = has (is_backward scope) x.second in
      let f : Bool = has (is_backward scope) x.target in
      let f1 : ((d || e) ≡ false) × (f ≡ false) = or_parts (d || e) f forward in
      let f2 : (d ≡ false) × (e ≡ false) = or_parts d e f1.0 in
      let own : RangeRight x.first = (r3.0, f2.0, front Stays first second s2) in
      let reading = behind_held scope (source_piece scope x.first) (piece_of (source_piece scope) x.second) (source_held x.first own)
      (optional_held (source_piece scope) source_held x.second r3.1 f2.1 (back Stays first second s2)) in
      let ending = behind_held scope (piece_of (target_piece scope) x.target) (piece_of (answer_piece scope) x.store)
      (optional_held (target_piece scope) target_held x.target r2.1 f1.1 (back Stays (first ++ second) target s1)) (answer_held x.store (back Stays (first ++ second ++ target) store stays)) in (
        behind_held scope (behind (source_piece scope x.first) (piece_of (source_piece scope) x.second))
            (behind (own_piece scope x.form x.first) (behind (piece_of (target_piece scope) x.target) (piece_of (answer_piece scope) x.store))) reading
            (behind_held scope (own_piece scope x.form x.first) (behind (piece_of (target_piece scope) x.target) (piece_of (answer_piece scope) x.store)) (own_held x.form x.first own) ending),
        own,
      )

  -- ---- loops

  live_out_held : (x : Cell) → Each Stays (cell_reach scope x) → AllHeld scope (live_out scope x)
  live_out_held x stays = alone_held scope (LivesOut (array_at scope x.array) (line_of_cell scope x)) (cell_held scope room x stays)

  initial_held : (x : Initial) → Each Stays (elim x [ initials.Val y ↦ [] | initials.Cell y ↦ cell_reach scope y ]) → AllHeld scope (initial_piece scope x)
  initial_held (initials.Val x) stays = none_held scope
  initial_held (initials.Cell x) stays = live_out_held x stays

  clause_held : (x : Clause) → Each Stays (clause_reach scope x) → AllHeld scope (clause_piece scope x)
  clause_held (clauses.Reduce x) stays = live_out_held x.cell stays
  clause_held (clauses.Induct x) stays = initial_held x.initial stays

  clauses_held : (xs : List Clause) → Each Stays (flat_map (clause_reach scope) xs) → AllHeld scope (sequence (map (clause_piece scope) xs))
  clauses_held [] stays = none_held scope
  clauses_held (x ∷ xs) stays =
      behind_held scope (clause_piece scope x) (sequence (map (clause_piece scope) xs)) (clause_held x (front Stays (clause_reach scope x) (flat_map (clause_reach scope) xs) stays))
      (clauses_held xs (back Stays (clause_reach scope x) (flat_map (clause_reach scope) xs) stays))

  loop_held : (x : loops.Loop) → loop_positions scope x ≤ 2 ^ 20
      → Each Stays (flat_map (clause_reach scope) x.clauses ++ flat_map (place_reach scope (loop_line scope x) (Some x.index)) (flat_map places x.body)) → AllHeld scope (loop_piece scope x)
  loop_held x few stays =
      let heads : List Reach = flat_map (clause_reach scope) x.clauses in
      let bodies : List Reach = flat_map (place_reach scope (loop_line scope x) (Some x.index)) (flat_map places x.body) in
      behind_held scope (sequence (map (clause_piece scope) x.clauses)) (body_piece scope (space_of scope x) x.body) (clauses_held x.clauses (front Stays heads bodies stays))
      (body_inside scope room (space_of scope x) few x.body (all_placed scope room (space_of scope x) few (flat_map places x.body) (back Stays heads bodies stays)))

  -- ---- items

  pub statement_held : (x : Simple) → IsSound scope x → AllHeld scope (statement_piece scope x)
  statement_held (Throw n) sound = none_held scope
  statement_held (Assign at x) sound =
      let own : List Reach = cell_reach scope at in
      let read : List Reach = flat_map (place_reach scope (line_of (pos 0) (pos 0) 1) None) (elements x) in
      let all : Each Stays (own ++ read) = each_stays (reaches scope (Assign at x)) sound.stays in
      λ context n m.
      both (HoldsPoint scope) ((reads_of scope no_loop x).points context n m) (_ ∷ [])
      (reads_inside scope room no_loop (omega arith) x (all_placed scope room no_loop (omega arith) (elements x) (back Stays own read all)) context n m)
      (cell_held scope room at (front Stays own read all), tt)
  statement_held (Call x) sound = (call_held x sound.right sound.forward (each_stays (reaches scope (Call x)) sound.stays)).0
  statement_held (Loop x) sound = loop_held x (not_more (loop_positions scope x) sound.short) (each_stays (reaches scope (Loop x)) sound.stays)

  pub call_short : (x : call.Call) → IsSound scope (Call x) → (line_of_range scope x.first).n ≤ 2 ^ 20
  call_short x sound =
      let own = (call_held x sound.right sound.forward (each_stays (reaches scope (Call x)) sound.stays)).1 in
      (range_held scope room x.first own.0 own.1 own.2).inside.bounded.positions

  pub loop_short : (x : loops.Loop) → IsSound scope (Loop x) → loop_positions scope x ≤ 2 ^ 20
  loop_short x sound = not_more (loop_positions scope x) sound.short

  pub all_held : (n m c : ℕ) (xs : List Simple) → All (IsSound scope) xs → Each (HoldsPoint scope) (points_from scope n m c xs)
  all_held n m c [] all = tt
  all_held n m c (x ∷ xs) all =
      let own = statement_piece scope x in
      both (HoldsPoint scope) (own.points (context_of scope c x) n m) (points_from scope (n + own.size) (m + own.offs) (c + calls_in x) xs)
      (statement_held x (All-head (IsSound scope) x xs all) (context_of scope c x) n m)
      (all_held (n + own.size) (m + own.offs) (c + calls_in x) xs (All-tail (IsSound scope) x xs all))

  -- every point of a sound item has its cells in its array
  pub points_inside : (item earlier : ℕ) (x : Item) → All (IsSound scope) (statements x) → All (IsInside scope) (points_of scope item earlier x)
  points_inside item earlier x all =
      all_of (IsInside scope) (points_of scope item earlier x)
      (mapped (IsInside scope) (info item) (item_points scope earlier x)
      (weaker (HoldsPoint scope) (λ p. IsInside scope (info item p)) (λ p h. h.inside) (item_points scope earlier x) (all_held 0 0 earlier (statements x) all)))

  -- ---- what is kept

  pub step_right : (x : Option Sum) → if_there (sum_is scope (holds kinds.I64)) x ≡ true → holds kinds.I64 (step_of scope x) ≡ true
  step_right None h = refl
  step_right (Some x) h = known_number (sum_value scope x) (holds kinds.I64) h

  space_kept : (x : loops.Loop) → loop_right scope x ≡ true → IsKept (space_of scope x)
  space_kept x right =
      let a : Bool = sum_is scope (holds kinds.I64) x.low in
      let b : Bool = sum_is scope (holds kinds.I64) x.high in
      let c : Bool = if_there (sum_is scope (holds kinds.I64)) x.step in
      let d : Bool = list_all (clause_right scope) x.clauses in
      let e : Bool = all_right (body_scope scope x) (map checked_stmt x.body) in
      let r0 : ((a && b && c && d) ≡ true) × (e ≡ true) = and_parts (a && b && c && d) e right in
      let r1 : ((a && b && c) ≡ true) × (d ≡ true) = and_parts (a && b && c) d r0.0 in
      let r2 : ((a && b) ≡ true) × (c ≡ true) = and_parts (a && b) c r1.0 in
      let r3 : (a ≡ true) × (b ≡ true) = and_parts a b r2.0 in
      let first = word_bounds (number scope x.low) (known_number (sum_value scope x.low) (holds kinds.I64) r3.0) in
      let step = word_bounds (step_of scope x.step) (step_right x.step r2.1) in
      record { first_low = first.0; first_high = first.1; step_low = step.0; step_high = step.1 }

  pub sound_kept : (xs : List Simple) → All (IsSound scope) xs → AreKept scope xs
  sound_kept [] all = tt
  sound_kept (Throw n ∷ xs) all = (tt, sound_kept xs (All-tail (IsSound scope) (Throw n) xs all))
  sound_kept (Assign at x ∷ xs) all = (tt, sound_kept xs (All-tail (IsSound scope) (Assign at x) xs all))
  sound_kept (Call x ∷ xs) all = (tt, sound_kept xs (All-tail (IsSound scope) (Call x) xs all))
  sound_kept (Loop x ∷ xs) all = (space_kept x (All-head (IsSound scope) (Loop x) xs all).right, sound_kept xs (All-tail (IsSound scope) (Loop x) xs all))
