-- Reading along a rule by one of its alternatives, and along parts that are optional or repeated.
use Rattle.std.proofs.Common.{◌≡◌, ◌∙◌, ℕ, zero, suc, ◌≤◌, inl, inr, Bool, true, false, ◌&&◌, ◌||◌, not, List, [], ◌∷◌, ◌++◌, length, Option, Some, None, refl, sym, arith, append_assoc}
use Rattle.std.specs.List.{list_all}
use Rattle.pts_tree.specs.declared.sign.SignKind.{SignKind}
use Rattle.pts_tree.specs.Signs.{Sign}
use Rattle.pts_tree.specs.Grammar.{Rule, Row, The, Maybe, Many, rows, same, has, Among, Matches, opens, without, with_it, no_more, one_more}
use Rattle.pts_parse.specs.declared.reader.Stop.TheVariants as stops
use Rattle.pts_parse.specs.Reading.{Read, Parser, ahead, unexpected, many, each_of, optional}
use Rattle.pts_parse.proofs.Tables.{first, begins, least, apart, rows_apart}
use Rattle.pts_parse.proofs.KindFacts.{and_both, not_so, clash, has_apart, each_among, fit, apart_rows, no_end, least_of_solid}
use Rattle.pts_parse.proofs.Passes.{Alone, NoneBegins, Stops, none_chosen, chosen, left_out, put_in, no_further, one_further, at_wrong, at_bracket, Along, reads, fails, along_unexpected, least-append, steps_down, step, done, test_along}

-- ---- one row leads to another

-- before these signs, reading the first row goes on as reading the second one
pub record Leads (from to : Row) (ts : List Sign) : Type 0 where
  pub stops : (w : Bool) (more : Row) (left : ℕ) → Stops w (to ++ more) ts left → Stops w (from ++ more) ts left
  pub matches : (v : Bool) (more : Row) → Matches rows v (to ++ more) ts → Matches rows v (from ++ more) ts
  pub takes : least from ≤ least to

pub along_leads : {A : Type 0} {Q : A → List Sign → Type 0} {from to : Row} {room room' : ℕ} {ts : List Sign} {o : Read A} → Leads from to ts
    → Along to room room' Q ts o → Along from room room' Q ts o
along_leads {from = from} {to = to} l (reads x after q p) = reads x after q (record {
  stops = λ w more left s. l.stops w more left (p.stops w more left s);
  matches = λ v more h. l.matches v more (p.matches v more h);
  takes = omega (arith, l.takes, p.takes);
  within = p.within;
})
along_leads l (fails _ (at_wrong left s b)) = fails (stops.Unexpected left) (at_wrong left (λ more. l.stops false more left (s more)) b)
along_leads l (fails _ (at_bracket left s b)) = fails (stops.Nesting left) (at_bracket left (λ more. l.stops true more left (s more)) b)

-- ---- alternatives

leads_chosen : {ts : List Sign} (r : Rule) (opened row : Row) → Among opened (rows r) → Alone opened (rows r) (ahead ts) → Leads (The r ∷ row) (opened ++ row) ts
leads_chosen r opened row i a = record {
  stops = λ w more left s. chosen opened i a (rw (append_assoc opened row more) at s);
  matches = λ v more h. opens opened i (rw (append_assoc opened row more) at h);
  takes = omega (arith, least-append opened row, least_of_solid opened (fit r opened i).filled);
}

-- the alternative at this place
abbrev pub pick : ℕ → List Row → Row
pick n [] = []
pick zero (row ∷ others) = row
pick (suc n) (row ∷ others) = pick n others

-- no alternative begins by this kind
abbrev pub none_begins : List Row → SignKind → Bool
none_begins alternatives x = list_all (λ o. not (has (begins o) x)) alternatives

-- there is an alternative at this place, and no other begins by this kind
abbrev pub only_pick : ℕ → List Row → SignKind → Bool
only_pick n [] x = false
only_pick zero (row ∷ others) x = none_begins others x
only_pick (suc n) (row ∷ others) x = not (has (begins row) x) && only_pick n others x

none_of : (alternatives : List Row) (x : SignKind) → none_begins alternatives x ≡ true → NoneBegins alternatives x
none_of alternatives x e other i = not_so (has (begins other) x) (each_among (λ o. not (has (begins o) x)) alternatives other e i)

among_pick : (n : ℕ) (alternatives : List Row) (x : SignKind) → only_pick n alternatives x ≡ true → Among (pick n alternatives) alternatives
among_pick n [] x e = clash e refl
among_pick zero (row ∷ others) x e = inl refl
among_pick (suc n) (row ∷ others) x e = inr (among_pick n others x (and_both (not (has (begins row) x)) (only_pick n others x) e).1)

alone_pick : (n : ℕ) (alternatives : List Row) (x : SignKind) → only_pick n alternatives x ≡ true → Alone (pick n alternatives) alternatives x
alone_pick n [] x e other i = absurd i
alone_pick zero (row ∷ others) x e other (inl p) = inl p
alone_pick zero (row ∷ others) x e other (inr i) = inr (none_of others x e other i)
alone_pick (suc n) (row ∷ others) x e other (inl p) =
    inr (rw p (not_so (has (begins row) x) (and_both (not (has (begins row) x)) (only_pick n others x) e).0))
alone_pick (suc n) (row ∷ others) x e other (inr i) = alone_pick n others x (and_both (not (has (begins row) x)) (only_pick n others x) e).1 other i

among_by : (n : ℕ) (alternatives : List Row) (x : SignKind) → has (begins (pick n alternatives)) x ≡ true → Among (pick n alternatives) alternatives
among_by n [] x h = clash h refl
among_by zero (row ∷ others) x h = inl refl
among_by (suc n) (row ∷ others) x h = inr (among_by n others x h)

-- where rows start apart, one of them begins by a kind
alone_by : (n : ℕ) (alternatives : List Row) (x : SignKind) → rows_apart alternatives ≡ true → has (begins (pick n alternatives)) x ≡ true
    → Alone (pick n alternatives) alternatives x
alone_by n [] x a h other i = absurd i
alone_by zero (row ∷ others) x a h other (inl p) = inl p
alone_by zero (row ∷ others) x a h other (inr i) =
    inr (has_apart (begins row) (begins other) x (each_among (λ o. apart (begins row) (begins o)) others other (and_both (list_all (λ o. apart (begins row) (begins o)) others) (rows_apart others) a).0 i) h)
alone_by (suc n) (row ∷ others) x a h other (inl p) = inr (rw p (by (has (begins row) x) refl))
  where
    by : (b : Bool) → has (begins row) x ≡ b → b ≡ false
    by false e = refl
    by true e = clash h (has_apart (begins row) (begins (pick n others)) x
        (each_among (λ o. apart (begins row) (begins o)) others (pick n others) (and_both (list_all (λ o. apart (begins row) (begins o)) others) (rows_apart others) a).0 (among_by n others x h)) e)
alone_by (suc n) (row ∷ others) x a h other (inr i) = alone_by n others x (and_both (list_all (λ o. apart (begins row) (begins o)) others) (rows_apart others) a).1 h other i

-- a rule with one alternative
pub alone : {A : Type 0} {Q : A → List Sign → Type 0} {row opened : Row} {room room' : ℕ} {ts : List Sign} {o : Read A}
    (r : Rule) → rows r ≡ opened ∷ [] → Along (opened ++ row) room room' Q ts o → Along (The r ∷ row) room room' Q ts o
alone {row = row} {opened = opened} {ts = ts} r e a =
    along_leads (leads_chosen r opened row (rw e (inl refl)) (rw e (λ other i. elim i [ inl p ↦ inl p | inr n ↦ absurd n ]))) a

-- the alternative at this place, where no other begins by the next sign
pub choice : {A : Type 0} {Q : A → List Sign → Type 0} {row : Row} {room room' : ℕ} {ts : List Sign} {o : Read A} {x : SignKind}
    (r : Rule) (n : ℕ) → ahead ts ≡ x → only_pick n (rows r) x ≡ true → Along (pick n (rows r) ++ row) room room' Q ts o → Along (The r ∷ row) room room' Q ts o
choice {row = row} {x = x} r n e h a =
    along_leads (leads_chosen r (pick n (rows r)) row (among_pick n (rows r) x h) (rw e (alone_pick n (rows r) x h))) a

-- no alternative begins by the next sign
pub no_choice : {A : Type 0} {Q : A → List Sign → Type 0} {row : Row} {room room' : ℕ} {ts : List Sign} {x : SignKind}
    (r : Rule) → ahead ts ≡ x → none_begins (rows r) x ≡ true → Along (The r ∷ row) room room' Q ts (unexpected ts)
no_choice {ts = ts} {x = x} r e h = along_unexpected (λ more. none_chosen (rw e (none_of (rows r) x h)))

-- the alternative at this place, where it begins by the next sign
pub choice_by : {A : Type 0} {Q : A → List Sign → Type 0} {row : Row} {room room' : ℕ} {ts : List Sign} {o : Read A}
    (r : Rule) (n : ℕ) → has (begins (pick n (rows r))) (ahead ts) ≡ true → Along (pick n (rows r) ++ row) room room' Q ts o → Along (The r ∷ row) room room' Q ts o
choice_by {row = row} {ts = ts} r n h a =
    along_leads (leads_chosen r (pick n (rows r)) row (among_by n (rows r) (ahead ts) h) (alone_by n (rows r) (ahead ts) (apart_rows r) h)) a

-- ---- optional and repeated parts

-- a test of the next sign that sees by which kinds a rule begins
abbrev pub SeesRule : Rule → (SignKind → Bool) → Type 0
SeesRule r sees = (x : SignKind) → sees x ≡ has (first r) x

-- the test for one kind
pub sees_one : (y x : SignKind) → same y x ≡ has (y ∷ []) x
sees_one y x = or_none (same y x)
  where
    or_none : (b : Bool) → b ≡ (b || false)
    or_none true = refl
    or_none false = refl

pub without_part : {A : Type 0} {Q : A → List Sign → Type 0} {row : Row} {room room' : ℕ} {ts : List Sign} {o : Read A}
    (r : Rule) → has (first r) (ahead ts) ≡ false → Along row room room' Q ts o → Along (Maybe r ∷ row) room room' Q ts o
without_part r h a = along_leads (record { stops = λ w more left s. left_out h s; matches = λ v more m. without m; takes = omega arith }) a

pub with_part : {A : Type 0} {Q : A → List Sign → Type 0} {row : Row} {room room' : ℕ} {ts : List Sign} {o : Read A}
    (r : Rule) → has (first r) (ahead ts) ≡ true → Along (The r ∷ row) room room' Q ts o → Along (Maybe r ∷ row) room room' Q ts o
with_part r h a = along_leads (record { stops = λ w more left s. put_in h s; matches = λ v more m. with_it m; takes = omega arith }) a

pub without_more : {A : Type 0} {Q : A → List Sign → Type 0} {row : Row} {room room' : ℕ} {ts : List Sign} {o : Read A}
    (r : Rule) → has (first r) (ahead ts) ≡ false → Along row room room' Q ts o → Along (Many r ∷ row) room room' Q ts o
without_more r h a = along_leads (record { stops = λ w more left s. no_further h s; matches = λ v more m. no_more m; takes = omega arith }) a

pub with_more : {A : Type 0} {Q : A → List Sign → Type 0} {row : Row} {room room' : ℕ} {ts : List Sign} {o : Read A}
    (r : Rule) → has (first r) (ahead ts) ≡ true → Along (The r ∷ Many r ∷ row) room room' Q ts o → Along (Many r ∷ row) room room' Q ts o
with_more r h a = along_leads (record { stops = λ w more left s. one_further h s; matches = λ v more m. one_more m; takes = omega arith }) a

-- a part where the first sign says that it follows
pub optional_along : {A : Type 0} {QA : A → List Sign → Type 0} {Q : Option A → List Sign → Type 0} {room : ℕ} {sees : SignKind → Bool} {ts : List Sign}
    (r : Rule) (part : Parser A) → SeesRule r sees → Along (The r ∷ []) room room QA ts (part ts) → Q None ts → ((x : A) (after : List Sign) → QA x after → Q (Some x) after)
    → Along (Maybe r ∷ []) room room Q ts (optional sees part ts)
unfolding optional
optional_along {sees = sees} {ts = ts} r part agrees a none some =
    test_along (sees (ahead ts))
    (λ e. with_part r (sym (agrees (ahead ts)) ∙ e) (step a (λ x q. done (some x.0 x.1 q))))
    (λ e. without_part r (sym (agrees (ahead ts)) ∙ e) (done none))

-- a part as often as the first sign says that one follows
pub many_along : {A : Type 0} {room : ℕ} {sees : SignKind → Bool} {part : Parser A}
    (QA : List Sign → A → List Sign → Type 0) (Q : List Sign → List A → List Sign → Type 0) (r : Rule) → SeesRule r sees
    → ((ts : List Sign) → Along (The r ∷ []) room room (QA ts) ts (part ts))
    → ((ts : List Sign) → Q ts [] ts)
    → ((x : A) (xs : List A) (before mid after : List Sign) → QA before x mid → Q mid xs after → Q before (x ∷ xs) after)
    → (n : ℕ) (ts : List Sign) → length ts ≤ n → Along (Many r ∷ []) room room (Q ts) ts (many sees part n ts)
unfolding many
many_along QA Q r agrees a none more zero [] l = without_more r (no_end r) (done (none []))
many_along QA Q r agrees a none more zero (t ∷ ts) l = absurd (omega arith)
many_along {sees = sees} QA Q r agrees a none more (suc n) ts l =
    test_along (sees (ahead ts))
    (λ e. with_more r (sym (agrees (ahead ts)) ∙ e) (
    steps_down (a ts) (λ x q less. step (many_along QA Q r agrees a none more n x.1 (omega arith)) (λ xs qs. done (more x.0 xs.0 ts x.1 xs.1 q qs)))))
    (λ e. without_more r (sym (agrees (ahead ts)) ∙ e) (done (none ts)))

pub all_along : {A : Type 0} {room : ℕ} {sees : SignKind → Bool} {part : Parser A}
    (QA : List Sign → A → List Sign → Type 0) (Q : List Sign → List A → List Sign → Type 0) (r : Rule) → SeesRule r sees
    → ((ts : List Sign) → Along (The r ∷ []) room room (QA ts) ts (part ts))
    → ((ts : List Sign) → Q ts [] ts)
    → ((x : A) (xs : List A) (before mid after : List Sign) → QA before x mid → Q mid xs after → Q before (x ∷ xs) after)
    → (ts : List Sign) → Along (Many r ∷ []) room room (Q ts) ts (each_of sees part ts)
all_along QA Q r agrees a none more ts = many_along QA Q r agrees a none more (length ts) ts (omega arith)
