-- What holds of the points of an item.
use Rattle.std.proofs.Common.{◌≡◌, ℕ, zero, suc, ◌+◌, ◌<◌, inl, inr, Option, Some, None, List, [], ◌∷◌, length, option_map, refl, sym, ap, subst, ◌∙◌, arith}
use Rattle.std.specs.Prelude.{slice_get}
use Rattle.std.proofs.lemmas.Option.{slice_get_within, slice_get-map}
use Rattle.pts_tree.specs.declared.script.Item.{Item}
use Rattle.pts_rules.specs.Parts.{Simple, Throw, Assign, Call, Loop, statements}
use Rattle.pts_rules.specs.Known.{Scope}
use Rattle.pts_points.specs.declared.point.PointForm.TheVariants.{LiveOut, Into}
use Rattle.pts_points.specs.declared.point.PointInfo.{PointInfo}
use Rattle.pts_points.specs.Building.{points_among, offs_among}
use Rattle.pts_points.specs.Pieces.{Deed, Reads, Assigns, Updates, Notes, Tests, Gives, Fills, LivesOut, Answers, Point}
use Rattle.pts_points.specs.Points.{statement_piece, context_of, calls_in, points_from, item_points, form_of, line_of_deed, info, points_of}
use Rattle.pts_points.specs.Standings.{Ascends, IsNotedBefore, IsOneCell, IsCell, StandsBehind, AreTogether}
use Rattle.pts_points.proofs.Each.{Each, both, all_of, at_place}
use Rattle.pts_points.proofs.Standing.{Numbered, numbered_both, Stands, IsRight, IsOff, IsNotOff, Front, FrontOf, Together, Grouped, grouped_both}
use Rattle.pts_points.proofs.Wholes.{good_statement}

-- ---- the points of statements

stands_outside : (scope : Scope) (c n : ℕ) (x : Simple) → Stands (context_of scope c x) n
stands_outside scope c n (Throw code) = record { tests = omega arith; lets = tt }
stands_outside scope c n (Assign at x) = record { tests = omega arith; lets = tt }
stands_outside scope c n (Call x) = record { tests = omega arith; lets = tt }
stands_outside scope c n (Loop x) = record { tests = omega arith; lets = tt }

in_no_off : (scope : Scope) (c : ℕ) (x : Simple) → (context_of scope c x).off ≡ None
in_no_off scope c (Throw code) = refl
in_no_off scope c (Assign at x) = refl
in_no_off scope c (Call x) = refl
in_no_off scope c (Loop x) = refl

pub numbered_from : (scope : Scope) (n m c : ℕ) (xs : List Simple) → Numbered n (points_from scope n m c xs) (n + points_among scope xs)
numbered_from scope n m c [] = omega arith
numbered_from scope n m c (x ∷ xs) =
    let own = statement_piece scope x in
    numbered_both n (n + own.size) (n + (own.size + points_among scope xs)) (own.points (context_of scope c x) n m) _ ((good_statement scope x).numbered (context_of scope c x) n m)
    (subst (Numbered (n + own.size) (points_from scope (n + own.size) (m + own.offs) (c + calls_in x) xs)) (omega arith) (numbered_from scope (n + own.size) (m + own.offs) (c + calls_in x) xs))

pub right_from : (scope : Scope) (n m c : ℕ) (xs : List Simple) → Each IsRight (points_from scope n m c xs)
right_from scope n m c [] = tt
right_from scope n m c (x ∷ xs) =
    let own = statement_piece scope x in
    both IsRight (own.points (context_of scope c x) n m) (points_from scope (n + own.size) (m + own.offs) (c + calls_in x) xs)
    ((good_statement scope x).right (context_of scope c x) n m (stands_outside scope c n x))
    (right_from scope (n + own.size) (m + own.offs) (c + calls_in x) xs)

pub grouped_from : (scope : Scope) (n m c : ℕ) (xs : List Simple) → Grouped m (points_from scope n m c xs) (m + offs_among scope xs)
grouped_from scope n m c [] = record { ordered = omega arith; among = tt; together = tt }
grouped_from scope n m c (x ∷ xs) =
    let own = statement_piece scope x in
    grouped_both m (m + own.offs) (m + own.offs) (m + own.offs + offs_among scope xs) (m + (own.offs + offs_among scope xs)) (own.points (context_of scope c x) n m) _
    ((good_statement scope x).outside (context_of scope c x) n m (in_no_off scope c x))
    (grouped_from scope (n + own.size) (m + own.offs) (c + calls_in x) xs) refl (omega arith)

-- ---- the place of a point in its list

pub number_at : (n e : ℕ) (ps : List Point) (k : ℕ) (p : Point) → Numbered n ps e → slice_get ps k ≡ Some p → p.number ≡ n + k
number_at n e [] k p h at = absurd (let l : k < 0 = slice_get_within [] k p at in omega (arith, l))
number_at n e (q ∷ ps) zero p h at = let same : q ≡ p = cc in let first : q.number ≡ n = h.0 in ap (λ z. z.number) (sym same) ∙ first ∙ omega arith
number_at n e (q ∷ ps) (suc k) p h at = number_at (n + 1) e ps k p h.1 at ∙ omega arith

pub length_is : (n e : ℕ) (ps : List Point) → Numbered n ps e → n + length ps ≡ e
length_is n e [] h = let l : n ≡ e = h in omega (arith, l)
length_is n e (p ∷ ps) h = let l : n + 1 + length ps ≡ e = length_is (n + 1) e ps h.1 in omega (arith, l)

-- ---- laws

module _ (scope : Scope) (earlier : ℕ) (x : Item) where
  pub number_is_place : (k : ℕ) (p : Point) → slice_get (item_points scope earlier x) k ≡ Some p → p.number ≡ k
  number_is_place k p at = number_at 0 (0 + points_among scope (statements x)) (item_points scope earlier x) k p (numbered_from scope 0 0 earlier (statements x)) at ∙ omega arith

  pub stands_behind : (k : ℕ) (p : Point) → slice_get (item_points scope earlier x) k ≡ Some p → StandsBehind p
  stands_behind k p at =
      let right = at_place IsRight (item_points scope earlier x) k p (right_from scope 0 0 earlier (statements x)) at in
      record {
        tests = right.stands.tests;
        lets = all_of (IsNotedBefore p.number) p.context.lets right.stands.lets;
        reads = right.owes.0;
      }

  pub one_cell : (k : ℕ) (p : Point) → slice_get (item_points scope earlier x) k ≡ Some p → IsOneCell p.deed
  one_cell k p at = (at_place IsRight (item_points scope earlier x) k p (right_from scope 0 0 earlier (statements x)) at).owes.1

-- two points of one `off`, and one between them
front_at : (ps : List Point) (d j k : ℕ) (y z : Point) → Front d ps → j < k → slice_get ps j ≡ Some y → slice_get ps k ≡ Some z → IsOff d z → IsOff d y
front_at [] d j k y z h less at_j at_k e = absurd (let l : j < 0 = slice_get_within [] j y at_j in omega (arith, l))
front_at (p ∷ ps) d zero k y z (inl h) less at_j at_k e = let same : p ≡ y = cc in subst (IsOff d) same h.0
front_at (p ∷ ps) d (suc j) zero y z (inl h) less at_j at_k e = absurd (omega (arith, less))
front_at (p ∷ ps) d (suc j) (suc k) y z (inl h) less at_j at_k e = front_at ps d j k y z h.1 (omega (arith, less)) at_j at_k e
front_at (p ∷ ps) d j k y z (inr h) less at_j at_k e = absurd (at_place (IsNotOff d) (p ∷ ps) k z h at_k e)

pub together_at : (ps : List Point) → Together ps → AreTogether ps
together_at [] h i j k x y z d less more at_i at_j at_k e f = absurd (let l : i < 0 = slice_get_within [] i x at_i in omega (arith, l))
together_at (p ∷ ps) h zero zero k x y z d less more at_i at_j at_k e f = absurd (omega (arith, less))
together_at (p ∷ ps) h zero (suc j) zero x y z d less more at_i at_j at_k e f = absurd (omega (arith, more))
together_at (p ∷ ps) h zero (suc j) (suc k) x y z d less more at_i at_j at_k e f =
    let same : p ≡ x = cc in
    front_at ps d j k y z (subst (λ o. FrontOf o ps) (ap (λ q. q.context.off) same ∙ e) h.0) (omega (arith, more)) at_j at_k f
together_at (p ∷ ps) h (suc i) zero k x y z d less more at_i at_j at_k e f = absurd (omega (arith, less))
together_at (p ∷ ps) h (suc i) (suc j) zero x y z d less more at_i at_j at_k e f = absurd (omega (arith, more))
together_at (p ∷ ps) h (suc i) (suc j) (suc k) x y z d less more at_i at_j at_k e f = together_at ps h.1 i j k x y z d (omega (arith, less)) (omega (arith, more)) at_i at_j at_k e f

pub offs_together : (scope : Scope) (earlier : ℕ) (x : Item) → AreTogether (item_points scope earlier x)
offs_together scope earlier x = together_at (item_points scope earlier x) (grouped_from scope 0 0 earlier (statements x)).together

-- ---- the points as lists show them

-- a point of the list that is shown
pub record IsShown (scope : Scope) (item earlier : ℕ) (x : Item) (k : ℕ) (y : PointInfo) : Type 0 where
  pub point : Point
  pub place : slice_get (item_points scope earlier x) k ≡ Some point
  pub same : info item point ≡ y

pub shown_at : (scope : Scope) (item earlier : ℕ) (x : Item) (k : ℕ) (y : PointInfo) → slice_get (points_of scope item earlier x) k ≡ Some y → IsShown scope item earlier x k y
shown_at scope item earlier x k y at = by_point (slice_get (item_points scope earlier x) k) refl (sym (slice_get-map (info item) (item_points scope earlier x) k) ∙ at)
  where
    by_point : (o : Option Point) → slice_get (item_points scope earlier x) k ≡ o → option_map (info item) o ≡ Some y → IsShown scope item earlier x k y
    by_point None is e = absurd (cc)
    by_point (Some p) is e = record { point = p; place = is; same = cc }

live_out_cell : (deed : Deed) → form_of deed ≡ LiveOut → IsOneCell deed → IsCell (line_of_deed deed)
live_out_cell (Reads array index) e h = absurd (cc)
live_out_cell (Assigns array index x) e h = absurd (cc)
live_out_cell (Updates array index op x) e h = absurd (cc)
live_out_cell (Notes x) e h = absurd (cc)
live_out_cell (Tests x) e h = absurd (cc)
live_out_cell (Gives view x) e h = absurd (cc)
live_out_cell (Fills array line) e h = absurd (cc)
live_out_cell (LivesOut array line) e h = h
live_out_cell (Answers array line) e h = absurd (cc)

into_cell : (deed : Deed) → form_of deed ≡ Into → IsOneCell deed → IsCell (line_of_deed deed)
into_cell (Reads array index) e h = absurd (cc)
into_cell (Assigns array index x) e h = absurd (cc)
into_cell (Updates array index op x) e h = absurd (cc)
into_cell (Notes x) e h = absurd (cc)
into_cell (Tests x) e h = absurd (cc)
into_cell (Gives view x) e h = absurd (cc)
into_cell (Fills array line) e h = absurd (cc)
into_cell (LivesOut array line) e h = absurd (cc)
into_cell (Answers array line) e h = h

module _ (scope : Scope) (item earlier : ℕ) (x : Item) (k : ℕ) (y : PointInfo) (at : slice_get (points_of scope item earlier x) k ≡ Some y) where
  shown : IsShown scope item earlier x k y
  shown = shown_at scope item earlier x k y at

  pub number_shown : y.number ≡ k
  number_shown = ap (λ z. z.number) (sym shown.same) ∙ number_is_place scope earlier x k shown.point shown.place

  pub tests_shown : Ascends 0 y.branches y.number
  tests_shown = subst (λ z. Ascends 0 z.branches z.number) shown.same (stands_behind scope earlier x k shown.point shown.place).tests

  pub live_out_shown : y.form ≡ LiveOut → IsCell y.line
  live_out_shown e = subst (λ z. IsCell z.line) shown.same (live_out_cell shown.point.deed (ap (λ z. z.form) shown.same ∙ e) (one_cell scope earlier x k shown.point shown.place))

  pub into_shown : y.form ≡ Into → IsCell y.line
  into_shown e = subst (λ z. IsCell z.line) shown.same (into_cell shown.point.deed (ap (λ z. z.form) shown.same ∙ e) (one_cell scope earlier x k shown.point shown.place))

pub offs_shown : (scope : Scope) (item earlier : ℕ) (x : Item) (i j k : ℕ) (a b c : PointInfo) (off : ℕ) → i < j → j < k
    → slice_get (points_of scope item earlier x) i ≡ Some a → slice_get (points_of scope item earlier x) j ≡ Some b → slice_get (points_of scope item earlier x) k ≡ Some c
    → a.off ≡ Some off → c.off ≡ Some off → b.off ≡ Some off
offs_shown scope item earlier x i j k a b c off less more at_i at_j at_k e f =
    let first = shown_at scope item earlier x i a at_i in
    let middle = shown_at scope item earlier x j b at_j in
    let last = shown_at scope item earlier x k c at_k in
    ap (λ z. z.off) (sym middle.same)
    ∙ offs_together scope earlier x i j k first.point middle.point last.point off less more first.place middle.place last.place (ap (λ z. z.off) first.same ∙ e) (ap (λ z. z.off) last.same ∙ f)
