-- By which kinds rows begin, and rows whose parts start apart from what follows them.
use Rattle.std.proofs.Common.{◌≡◌, ◌<◌, ◌⊎◌, inl, inr, Bool, true, false, ◌&&◌, ◌||◌, List, [], ◌∷◌, ◌++◌, length, refl, sym, ◌∙◌, arith}
use Rattle.std.proofs.lemmas.List.Folds.{list_any-append, list_all-append}
use Rattle.pts_tree.specs.declared.sign.SignKind.{SignKind}
use Rattle.pts_tree.specs.Signs.{Sign}
use Rattle.pts_tree.specs.Grammar.{Rule, Part, Row, One, The, Maybe, Many, rows, same, has, Among, Matches, whole, ends, sign, opens, without, with_it, no_more, one_more}
use Rattle.pts_parse.specs.Reading.{ahead}
use Rattle.pts_parse.proofs.Tables.{first, tail, begins, solid, apart, inside, goes_on, repeats, lawful, ends_within}
use Rattle.pts_parse.proofs.KindFacts.{and_both, or_either, clash, has_apart, has_inside, fit}

-- ---- by which kinds rows begin

has_left : (a b : List SignKind) (x : SignKind) → has a x ≡ true → has (a ++ b) x ≡ true
has_left a b x h = list_any-append (λ y. same y x) a b ∙ rw h refl

has_right : (a b : List SignKind) (x : SignKind) → has b x ≡ true → has (a ++ b) x ≡ true
has_right a b x h = list_any-append (λ y. same y x) a b ∙ rw h (or_true (has a x))
  where
    or_true : (s : Bool) → (s || true) ≡ true
    or_true true = refl
    or_true false = refl

pub has_either : (a b : List SignKind) (x : SignKind) → has (a ++ b) x ≡ true → (has a x ≡ true) ⊎ (has b x ≡ true)
has_either a b x h = or_either (has a x) (has b x) (sym (list_any-append (λ y. same y x) a b) ∙ h)

-- a row and what follows begin by what the row begins by, and by the rest only where the whole row may be left out
begins_either : (o row : Row) (x : SignKind) → has (begins (o ++ row)) x ≡ true → (has (begins o) x ≡ true) ⊎ ((solid o ≡ false) × (has (begins row) x ≡ true))
begins_either [] row x h = inr (refl, h)
begins_either (One ks ∷ o) row x h = inl h
begins_either (The r ∷ o) row x h = inl h
begins_either (Maybe r ∷ o) row x h = by (has_either (first r) (begins (o ++ row)) x h) (λ g. begins_either o row x g)
  where
    by : (has (first r) x ≡ true) ⊎ (has (begins (o ++ row)) x ≡ true) → (has (begins (o ++ row)) x ≡ true → (has (begins o) x ≡ true) ⊎ ((solid o ≡ false) × (has (begins row) x ≡ true)))
        → (has (first r ++ begins o) x ≡ true) ⊎ ((solid o ≡ false) × (has (begins row) x ≡ true))
    by (inl f) go = inl (has_left (first r) (begins o) x f)
    by (inr g) go = elim (go g) [ inl f ↦ inl (has_right (first r) (begins o) x f) | inr s ↦ inr s ]
begins_either (Many r ∷ o) row x h = by (has_either (first r) (begins (o ++ row)) x h) (λ g. begins_either o row x g)
  where
    by : (has (first r) x ≡ true) ⊎ (has (begins (o ++ row)) x ≡ true) → (has (begins (o ++ row)) x ≡ true → (has (begins o) x ≡ true) ⊎ ((solid o ≡ false) × (has (begins row) x ≡ true)))
        → (has (first r ++ begins o) x ≡ true) ⊎ ((solid o ≡ false) × (has (begins row) x ≡ true))
    by (inl f) go = inl (has_left (first r) (begins o) x f)
    by (inr g) go = elim (go g) [ inl f ↦ inl (has_right (first r) (begins o) x f) | inr s ↦ inr s ]

-- an alternative of a rule begins by what the table says, whatever follows it
pub opened_begins : (r : Rule) (opened row : Row) (x : SignKind) → Among opened (rows r) → has (begins (opened ++ row)) x ≡ true → has (begins opened) x ≡ true
opened_begins r opened row x i h = elim (begins_either opened row x h) [ inl f ↦ f | inr s ↦ clash (fit r opened i).filled s.0 ]

-- signs that begin a row begin it by a kind by which it begins
pub starts : (v : Bool) (row : Row) (ts : List Sign) → Matches rows v row ts → 0 < length ts → has (begins row) (ahead ts) ≡ true
starts _ _ _ whole l = absurd (omega arith)
starts _ row _ ends l = absurd (omega arith)
starts v _ _ (sign h p) l = h
starts v _ ts (opens {r = r} {row = row} opened i p) l =
    has_inside (begins opened) (first r) (ahead ts) (fit r opened i).starts (opened_begins r opened row (ahead ts) i (starts v (opened ++ row) ts p l))
starts v _ ts (without {r = r} {row = row} p) l = has_right (first r) (begins row) (ahead ts) (starts v row ts p l)
starts v _ ts (with_it {r = r} {row = row} p) l = has_left (first r) (begins row) (ahead ts) (starts v (The r ∷ row) ts p l)
starts v _ ts (no_more {r = r} {row = row} p) l = has_right (first r) (begins row) (ahead ts) (starts v row ts p l)
starts v _ ts (one_more {r = r} {row = row} p) l = has_left (first r) (begins row) (ahead ts) (starts v (The r ∷ Many r ∷ row) ts p l)

-- ---- rows whose parts start apart from what follows

-- no kind is in both lists
abbrev pub Apart : List SignKind → List SignKind → Type 0
Apart ks others = (x : SignKind) → has ks x ≡ true → has others x ≡ true → ⊥

-- behind each part the row starts apart from what the part may go on by
abbrev pub Lawful : Row → Type 0
Lawful [] = Unit {0}
Lawful (One ks ∷ row) = Lawful row
Lawful (The r ∷ row) = Apart (tail r) (begins row) × Lawful row
Lawful (Maybe r ∷ row) = Apart (first r) (begins row) × Apart (tail r) (begins row) × Lawful row
Lawful (Many r ∷ row) = Apart (tail r) (first r) × Apart (first r) (begins row) × Apart (tail r) (begins row) × Lawful row

apart_of : (ks others : List SignKind) → apart ks others ≡ true → Apart ks others
apart_of ks others a x h g = clash g (has_apart ks others x a h)

apart_left : (a b others : List SignKind) → Apart (a ++ b) others → Apart a others
apart_left a b others s x h g = s x (has_left a b x h) g

apart_right : (a b others : List SignKind) → Apart (a ++ b) others → Apart b others
apart_right a b others s x h g = s x (has_right a b x h) g

-- what the test of a part and the rest of its row says
parts_of : (p : Part) (row : Row) → lawful (p ∷ row) ≡ true → (repeats p ≡ true) × (Apart (goes_on p) (begins row)) × (lawful row ≡ true)
parts_of p row e =
    let both = and_both (repeats p && apart (goes_on p) (begins row)) (lawful row) e in
    let two = and_both (repeats p) (apart (goes_on p) (begins row)) both.0 in
    (two.0, apart_of (goes_on p) (begins row) two.1, both.1)

pub lawful_of : (row : Row) → lawful row ≡ true → Lawful row
lawful_of [] e = tt
lawful_of (One ks ∷ row) e = lawful_of row (parts_of (One ks) row e).2
lawful_of (The r ∷ row) e = ((parts_of (The r) row e).1, lawful_of row (parts_of (The r) row e).2)
lawful_of (Maybe r ∷ row) e =
    let p = parts_of (Maybe r) row e in
    (apart_left (first r) (tail r) (begins row) p.1, apart_right (first r) (tail r) (begins row) p.1, lawful_of row (parts_of (Maybe r) row e).2)
lawful_of (Many r ∷ row) e =
    let p = parts_of (Many r) row e in
    (apart_of (tail r) (first r) p.0, apart_left (first r) (tail r) (begins row) p.1, apart_right (first r) (tail r) (begins row) p.1, lawful_of row (parts_of (Many r) row e).2)

-- kinds that are apart from a row, and from what follows where the row may be left out
apart_join : (kinds ks : List SignKind) (o row : Row) → Apart kinds (begins o) → (solid o || inside kinds ks) ≡ true → Apart ks (begins row) → Apart kinds (begins (o ++ row))
apart_join kinds ks o row a e b x h g =
    elim (begins_either o row x g) [
      | inl f ↦ a x h f
      | inr s ↦ b x (elim (or_either (solid o) (inside kinds ks) e) [ inl f ↦ clash f s.0 | inr f ↦ has_inside kinds ks x f h ]) s.1
    ]

inside_left : (a b ks : List SignKind) → inside (a ++ b) ks ≡ true → inside a ks ≡ true
inside_left a b ks e = (and_both (inside a ks) (inside b ks) (sym (list_all-append (λ x. has ks x) a b) ∙ e)).0

inside_right : (a b ks : List SignKind) → inside (a ++ b) ks ≡ true → inside b ks ≡ true
inside_right a b ks e = (and_both (inside a ks) (inside b ks) (sym (list_all-append (λ x. has ks x) a b) ∙ e)).1

or_maps : (s a b : Bool) → (a ≡ true → b ≡ true) → (s || a) ≡ true → (s || b) ≡ true
or_maps true a b f e = refl
or_maps false a b f e = f e

-- a repeated part, once more
pub lawful_again : (r : Rule) (row : Row) → Lawful (Many r ∷ row) → Lawful (The r ∷ Many r ∷ row)
lawful_again r row l = ((λ x h g. elim (has_either (first r) (begins row) x g) [ inl f ↦ l.0 x h f | inr f ↦ l.2 x h f ]), l)

-- an alternative and what follows the rule
lawful_join : (ks : List SignKind) (o row : Row) → Lawful o → ends_within ks o ≡ true → Apart ks (begins row) → Lawful row → Lawful (o ++ row)
lawful_join ks [] row l e a m = m
lawful_join ks (One js ∷ o) row l e a m = lawful_join ks o row l (and_both (solid o || inside [] ks) (ends_within ks o) e).1 a m
lawful_join ks (The r ∷ o) row l e a m =
    let b = and_both (solid o || inside (tail r) ks) (ends_within ks o) e in
    (apart_join (tail r) ks o row l.0 b.0 a, lawful_join ks o row l.1 (and_both (solid o || inside (tail r) ks) (ends_within ks o) e).1 a m)
lawful_join ks (Maybe r ∷ o) row l e a m =
    let b = and_both (solid o || inside (first r ++ tail r) ks) (ends_within ks o) e in (
      apart_join (first r) ks o row l.0 (or_maps (solid o) (inside (first r ++ tail r) ks) (inside (first r) ks) (inside_left (first r) (tail r) ks) b.0) a,
      apart_join (tail r) ks o row l.1 (or_maps (solid o) (inside (first r ++ tail r) ks) (inside (tail r) ks) (inside_right (first r) (tail r) ks) b.0) a,
      lawful_join ks o row l.2 (and_both (solid o || inside (first r ++ tail r) ks) (ends_within ks o) e).1 a m,
    )
lawful_join ks (Many r ∷ o) row l e a m =
    let b = and_both (solid o || inside (first r ++ tail r) ks) (ends_within ks o) e in (
      l.0,
      apart_join (first r) ks o row l.1 (or_maps (solid o) (inside (first r ++ tail r) ks) (inside (first r) ks) (inside_left (first r) (tail r) ks) b.0) a,
      apart_join (tail r) ks o row l.2 (or_maps (solid o) (inside (first r ++ tail r) ks) (inside (tail r) ks) (inside_right (first r) (tail r) ks) b.0) a,
      lawful_join ks o row l.3 (and_both (solid o || inside (first r ++ tail r) ks) (ends_within ks o) e).1 a m,
    )

pub lawful_opened : (r : Rule) (opened row : Row) → Among opened (rows r) → Lawful (The r ∷ row) → Lawful (opened ++ row)
lawful_opened r opened row i l =
    lawful_join (tail r) opened row (lawful_of opened (fit r opened i).ordered) (fit r opened i).stops_by l.0 l.1
