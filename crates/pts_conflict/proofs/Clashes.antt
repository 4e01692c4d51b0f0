-- Two points: what decides that they do not conflict, and the first conflict where they do.
use Rattle.std.proofs.Common.{◌≡◌, ◌≢◌, ℕ, ◌^◌, ◌≤◌, Bool, true, false, ◌&&◌, ◌||◌, ℤ, pos, ◌+ℤ◌, ◌*ℤ◌, Some, None, Option, [], ◌∷◌, refl, sym, ◌∙◌, subst, arith}
use Rattle.std.proofs.lemmas.Bool.{false≢true}
use Rattle.std.proofs.lemmas.Bool.Decides.{nat_tests}
use Rattle.std.proofs.lemmas.Int.{ints}
use Rattle.pts_affine.specs.declared.line.Line.{Line}
use Rattle.pts_affine.specs.Lines.{IsBounded, cell}
use Rattle.pts_affine.specs.Lines as lines
use Rattle.pts_points.specs.declared.point.CallInfo.{CallInfo}
use Rattle.pts_points.specs.declared.point.PointInfo.{PointInfo}
use Rattle.pts_points.specs.Standings.{IsCell}
use Rattle.pts_conflict.specs.declared.pair.Pair.{Pair}
use Rattle.pts_conflict.specs.declared.found.Found.{Found}
use Rattle.pts_conflict.specs.declared.meeting.Meeting.{Meeting}
use Rattle.pts_conflict.specs.Conflicts.{Names, are_ordered, is_at_most, rank}
use Rattle.pts_conflict.specs.Touches.{is_live_out, is_writing}
use Rattle.pts_conflict.specs.Search.{FindsFirst, MeetAlong, Meets, PairInCall, PairOfParts, by_pair, by_place, line_beside, line_in_call, no_cells, place_of, rank_of}

-- ---- lines

pub level : (line : Line) (p : ℕ) → line.c ≡ pos 0 → cell line p ≡ line.d
level line p h = (λ i. h i *ℤ pos p +ℤ line.d) ∙ flat (pos p) line.d
  where
    flat : (y z : ℤ) → pos 0 *ℤ y +ℤ z ≡ z
    flat y z = omega (arith, ints)

-- the line of a clause, at more positions
pub bounded_again : (line : Line) (n : ℕ) → IsBounded line → IsCell line → n ≤ 2 ^ 20 → IsBounded (record line { n = n })
bounded_again line n h one few = record {
  cells = λ p within.
      let first = h.cells 0 (let k = one.1 in omega (arith, k)) in
      subst lines.IsCell (level line 0 one.0 ∙ sym (level line p one.0)) first;
  positions = few;
  level = λ less. one.0;
}

pub bounded_none : IsBounded no_cells
bounded_none = record {
  cells = λ p within. absurd (omega (arith, within));
  positions = omega arith;
  level = λ less. refl;
}

-- ---- points that meet

module _ (after : Bool) (a : PointInfo) (first : Line) (b : PointInfo) (second : Line) where
  abbrev Found_by : Option Pair → Type 0
  Found_by r = FindsFirst (MeetAlong after a first b second) by_pair r

  pub other_arrays : a.array ≢ b.array → Found_by None
  other_arrays h = λ x m. h m.array

  pub none_write : (is_writing a.form || is_writing b.form) ≡ false → Found_by None
  none_write h = λ x m. false≢true (sym h ∙ m.writes)

  pub none_meet : (r : Option Meeting) → r ≡ None → FindsFirst (Meets after first second) by_place r → Found_by None
  none_meet r e f = λ x m. (subst (FindsFirst (Meets after first second) by_place) e f) (place_of x) m.meets

  pub some_meet : (r : Option Meeting) (z : Meeting) (x : Pair) → r ≡ Some z → a.array ≡ b.array → (is_writing a.form || is_writing b.form) ≡ true
      → FindsFirst (Meets after first second) by_place r → Names a b x → place_of x ≡ z → Found_by (Some x)
  some_meet r z x e array writes g names same = let f = subst (FindsFirst (Meets after first second) by_place) e g in record {
    holds = record { names = names; array = array; writes = writes; meets = subst (Meets after first second) (sym same) f.holds };
    least = λ y m. subst (λ w. is_at_most (by_place w) (by_pair y) ≡ true) (sym same) (f.least (place_of y) m.meets);
  }

-- ---- ranks of pairs of the same points

by_call : (i n k m : ℕ) (p q c p' q' c' : ℕ) → is_at_most (p ∷ q ∷ c ∷ []) (p' ∷ q' ∷ c' ∷ []) ≡ true
    → is_at_most (i ∷ 0 ∷ n ∷ p ∷ q ∷ k ∷ m ∷ c ∷ []) (i ∷ 0 ∷ n ∷ p' ∷ q' ∷ k ∷ m ∷ c' ∷ []) ≡ true
by_call i n k m p q c p' q' c' h = grind (arith, nat_tests, h)

by_parts : (i k m : ℕ) (p q c p' q' c' : ℕ) → is_at_most (p ∷ q ∷ c ∷ []) (p' ∷ q' ∷ c' ∷ []) ≡ true
    → is_at_most (i ∷ 1 ∷ k ∷ m ∷ p ∷ q ∷ c ∷ 0 ∷ []) (i ∷ 1 ∷ k ∷ m ∷ p' ∷ q' ∷ c' ∷ 0 ∷ []) ≡ true
by_parts i k m p q c p' q' c' h = grind (arith, nat_tests, h)

call_rank : (n : ℕ) (a b : PointInfo) (x y : Pair) → Names a b x → Names a b y → is_at_most (by_pair x) (by_pair y) ≡ true → is_at_most (rank (Some n) x) (rank (Some n) y) ≡ true
call_rank n a b x y h k least =
    subst (λ i. is_at_most (rank (Some n) x) (i ∷ 0 ∷ n ∷ y.p ∷ y.q ∷ y.k ∷ y.m ∷ y.cell ∷ []) ≡ true) (h.item ∙ sym k.item)
    (subst (λ j. is_at_most (rank (Some n) x) (x.item ∷ 0 ∷ n ∷ y.p ∷ y.q ∷ j ∷ y.m ∷ y.cell ∷ []) ≡ true) (h.k ∙ sym k.k)
    (subst (λ j. is_at_most (rank (Some n) x) (x.item ∷ 0 ∷ n ∷ y.p ∷ y.q ∷ x.k ∷ j ∷ y.cell ∷ []) ≡ true) (h.m ∙ sym k.m)
    (by_call x.item n x.k x.m x.p x.q x.cell y.p y.q y.cell least)))

parts_rank : (a b : PointInfo) (x y : Pair) → Names a b x → Names a b y → is_at_most (by_pair x) (by_pair y) ≡ true → is_at_most (rank None x) (rank None y) ≡ true
parts_rank a b x y h k least =
    subst (λ i. is_at_most (rank None x) (i ∷ 1 ∷ y.k ∷ y.m ∷ y.p ∷ y.q ∷ y.cell ∷ 0 ∷ []) ≡ true) (h.item ∙ sym k.item)
    (subst (λ j. is_at_most (rank None x) (x.item ∷ 1 ∷ j ∷ y.m ∷ y.p ∷ y.q ∷ y.cell ∷ 0 ∷ []) ≡ true) (h.k ∙ sym k.k)
    (subst (λ j. is_at_most (rank None x) (x.item ∷ 1 ∷ x.k ∷ j ∷ y.p ∷ y.q ∷ y.cell ∷ 0 ∷ []) ≡ true) (h.m ∙ sym k.m)
    (by_parts x.item x.k x.m x.p x.q x.cell y.p y.q y.cell least)))

-- ---- in one call

module _ (n : ℕ) (call : CallInfo) (is_loop : Bool) (a b : PointInfo) where
  abbrev In_call : Option Found → Type 0
  In_call r = FindsFirst (PairInCall n call is_loop a b) rank_of r

  pub two_clauses : (is_live_out a.form && is_live_out b.form) ≡ true → In_call None
  two_clauses h = λ x c. false≢true (sym c.single ∙ h)

  pub in_order : are_ordered call.policy is_loop a b ≡ true → In_call None
  in_order h = λ x c. false≢true (sym c.unordered ∙ h)

  abbrev Along : Option Pair → Type 0
  Along r = FindsFirst (MeetAlong true a (line_in_call call a.form a.line) b (line_in_call call b.form b.line)) by_pair r

  pub call_none : (r : Option Pair) → r ≡ None → Along r → In_call None
  call_none r e f = λ x c. (subst Along e f) x.pair c.meet

  pub call_some : (r : Option Pair) (x : Pair) (found : Found) → r ≡ Some x → (is_live_out a.form && is_live_out b.form) ≡ false → are_ordered call.policy is_loop a b ≡ false → Along r
      → found ≡ record { call = Some n; pair = x } → In_call (Some found)
  call_some r x found is single unordered g e =
      let f = subst Along is g in
      subst (λ r. In_call (Some r)) (sym e) (record {
        holds = record { of_call = refl; meet = f.holds; single = single; unordered = unordered };
        least = λ y c. subst (λ o. is_at_most (rank (Some n) x) (rank o y.pair) ≡ true) (sym c.of_call) (call_rank n a b x y.pair f.holds.names c.meet.names (f.least y.pair c.meet));
      })

-- ---- between parts

module _ (a b : PointInfo) where
  abbrev Between : Option Found → Type 0
  Between r = FindsFirst (PairOfParts a b) rank_of r

  abbrev Beside : Option Pair → Type 0
  Beside r = FindsFirst (MeetAlong false a (line_beside a.form a.line) b (line_beside b.form b.line)) by_pair r

  pub parts_none : (r : Option Pair) → r ≡ None → Beside r → Between None
  parts_none r e f = λ x c. (subst Beside e f) x.pair c.meet

  pub parts_some : (r : Option Pair) (x : Pair) (found : Found) → r ≡ Some x → Beside r → found ≡ record { call = None; pair = x } → Between (Some found)
  parts_some r x found is g e =
      let f = subst Beside is g in
      subst (λ r. Between (Some r)) (sym e) (record {
        holds = record { of_call = refl; meet = f.holds };
        least = λ y c. subst (λ o. is_at_most (rank None x) (rank o y.pair) ≡ true) (sym c.of_call) (parts_rank a b x y.pair f.holds.names c.meet.names (f.least y.pair c.meet));
      })
