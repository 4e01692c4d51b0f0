-- Kinds of signs and lists of them, and what the tables say of the alternatives of a rule.
use Rattle.std.proofs.Common.{◌≡◌, ◌≤◌, ◌⊎◌, inl, inr, Bool, true, false, ◌&&◌, ◌||◌, not, List, [], ◌∷◌, refl, sym, ap, subst, ◌∙◌, true≢false, arith, rules}
use Rattle.std.specs.List.{list_all}
use denote.Enum.Bare.{same_true}
use Rattle.pts_tree.specs.contracts.mark.Mark.{the_type}
use Rattle.pts_tree.specs.declared.mark.Mark.{Mark}
use Rattle.pts_tree.specs.declared.sign.SignKind.{SignKind}
use Rattle.pts_tree.specs.declared.sign.SignKind.TheVariants as k
use Rattle.pts_tree.specs.Grammar.{Rule, Row, One, The, Maybe, Many, rows, same, has, Among}
use Rattle.pts_parse.proofs.SameMarks.{same_marks}
use Rattle.pts_parse.proofs.Tables.{first, tail, begins, least, solid, lawful, inside, apart, ends_within, row_fits, rows_apart, fits}

-- ---- truth

pub and_both : (a b : Bool) → (a && b) ≡ true → (a ≡ true) × (b ≡ true)
and_both true b e = (refl, e)
and_both false b e = absurd (true≢false (sym e))

pub or_either : (a b : Bool) → (a || b) ≡ true → (a ≡ true) ⊎ (b ≡ true)
or_either true b e = inl refl
or_either false b e = inr e

pub not_so : (a : Bool) → not a ≡ true → a ≡ false
not_so true e = absurd (true≢false (sym e))
not_so false e = refl

-- it is true and false
pub clash : {A : Type 0} {a : Bool} → a ≡ true → a ≡ false → A
clash e f = absurd (true≢false (sym e ∙ f))

-- ---- kinds

pub one_mark : (a b : Mark) → same (k.Mark a) (k.Mark b) ≡ true → a ≡ b
one_mark a b e = same_true the_type (search rules) a b (same_marks a b ∙ e)

-- two kinds that are the same by the test are one
pub one_kind : (x y : SignKind) → same x y ≡ true → x ≡ y
one_kind (k.Mark a) (k.Mark b) e = ap (λ n. k.Mark n) (one_mark a b e)
one_kind k.Name k.Name e = refl
one_kind k.Number k.Number e = refl
one_kind k.One k.One e = refl
one_kind k.End k.End e = refl
one_kind _ _ e = absurd (true≢false (sym e))

-- what holds of each kind of a list holds of what is one of them
pub each_has : (test : SignKind → Bool) (ks : List SignKind) (x : SignKind) → list_all test ks ≡ true → has ks x ≡ true → test x ≡ true
each_has test [] x a h = absurd (true≢false (sym h))
each_has test (y ∷ ks) x a h = by (and_both (test y) (list_all test ks) a) (or_either (same y x) (has ks x) h) (λ b. each_has test ks x b)
  where
    by : (test y ≡ true) × (list_all test ks ≡ true) → (same y x ≡ true) ⊎ (has ks x ≡ true) → (list_all test ks ≡ true → has ks x ≡ true → test x ≡ true) → test x ≡ true
    by b (inl e) go = subst (λ z. test z ≡ true) (one_kind y x e) b.0
    by b (inr e) go = go b.1 e

pub has_apart : (ks others : List SignKind) (x : SignKind) → apart ks others ≡ true → has ks x ≡ true → has others x ≡ false
has_apart ks others x a h = not_so (has others x) (each_has (λ y. not (has others y)) ks x a h)

pub has_inside : (ks others : List SignKind) (x : SignKind) → inside ks others ≡ true → has ks x ≡ true → has others x ≡ true
has_inside ks others x a h = each_has (λ y. has others y) ks x a h

-- ---- alternatives

pub each_among : (test : Row → Bool) (alternatives : List Row) (opened : Row) → list_all test alternatives ≡ true → Among opened alternatives → test opened ≡ true
each_among test [] opened a i = absurd i
each_among test (row ∷ others) opened a (inl e) = subst (λ o. test o ≡ true) (sym e) (and_both (test row) (list_all test others) a).0
each_among test (row ∷ others) opened a (inr i) = each_among test others opened (and_both (test row) (list_all test others) a).1 i

-- what the tables say of an alternative of a rule
pub record Fits (r : Rule) (opened : Row) : Type 0 where
  pub filled : solid opened ≡ true
  pub starts : inside (begins opened) (first r) ≡ true
  pub ordered : lawful opened ≡ true
  pub stops_by : ends_within (tail r) opened ≡ true

fits_of : (r : Rule) (opened : Row) → row_fits r opened ≡ true → Fits r opened
fits_of r opened e =
    let all = and_both (solid opened && inside (begins opened) (first r) && lawful opened) (ends_within (tail r) opened) e in
    let three = and_both (solid opened && inside (begins opened) (first r)) (lawful opened) all.0 in
    let two = and_both (solid opened) (inside (begins opened) (first r)) three.0 in
    record { filled = two.0; starts = two.1; ordered = three.1; stops_by = all.1 }

-- the three tests of a rule
tests_of : (r : Rule) → (rows_apart (rows r) && list_all (row_fits r) (rows r) ≡ true) × (not (has (first r) k.End) ≡ true)
tests_of r = and_both (rows_apart (rows r) && list_all (row_fits r) (rows r)) (not (has (first r) k.End)) (fits r)

pub apart_rows : (r : Rule) → rows_apart (rows r) ≡ true
apart_rows r = (and_both (rows_apart (rows r)) (list_all (row_fits r) (rows r)) (tests_of r).0).0

pub fit : (r : Rule) (opened : Row) → Among opened (rows r) → Fits r opened
fit r opened i = fits_of r opened (each_among (row_fits r) (rows r) opened (and_both (rows_apart (rows r)) (list_all (row_fits r) (rows r)) (tests_of r).0).1 i)

-- no rule begins by the end
pub no_end : (r : Rule) → has (first r) k.End ≡ false
no_end r = not_so (has (first r) k.End) (tests_of r).1

pub least_of_solid : (row : Row) → solid row ≡ true → 1 ≤ least row
least_of_solid [] e = absurd (true≢false (sym e))
least_of_solid (One ks ∷ row) e = omega arith
least_of_solid (The r ∷ row) e = omega arith
least_of_solid (Maybe r ∷ row) e = least_of_solid row e
least_of_solid (Many r ∷ row) e = least_of_solid row e
