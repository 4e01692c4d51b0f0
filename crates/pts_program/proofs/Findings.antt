-- What the tests of an item find is its verdict.
use Rattle.std.proofs.Common.{◌≡◌, ℕ, ◌≤◌, inl, inr, Bool, true, false, IsTrue, Option, Some, None, List, [], ◌∷◌, ◌++◌, refl, sym, ap, ◌∙◌, subst}
use Rattle.std.specs.List.{list_any}
use Rattle.std.specs.Option.{option_or}
use Rattle.std.specs.Prelude.{◌||◌, if◌then◌else◌, not, MatchOption, Ok, Err}
use Rattle.std.proofs.lemmas.Bool.{or_parts}
use Rattle.pts_tree.specs.declared.script.Item.{Item}
use Rattle.pts_rules.specs.Indices.{is_not_affine, is_out_at}
use Rattle.pts_rules.specs.Known.{Scope}
use Rattle.pts_rules.specs.Limits.{is_too_deep, is_too_many}
use Rattle.pts_rules.specs.Mistyped.{is_mistyped, item_right}
use Rattle.pts_rules.specs.Names.{is_twice, is_unknown}
use Rattle.pts_rules.specs.Steps.{is_bad_identity, is_bad_step, is_backward_range, lengths_differ}
use Rattle.pts_program.specs.declared.fault.BuildFault.{BuildFault}
use Rattle.pts_program.specs.declared.fault.BuildFault.TheVariants.{OutOfRange, NoMemory}
use Rattle.pts_program.specs.declared.standing.Standing.{Standing}
use Rattle.pts_program.specs.Faults.{Rule, rules, first_fault, IsClean, IsFirstOut, IsOutOfRange}
use Rattle.pts_program.specs.Findings.{IsVerdict, limit_rules, name_rules, step_rules, tested_fault}
use Rattle.pts_program.specs.Standings.{IsAcceptable, IsStanding}

-- ---- tests, one after the other

or_here : (b : Bool) (f : BuildFault) (r s t : Option BuildFault) → r ≡ option_or s t → (if b then Some f else r) ≡ option_or (if b then Some f else s) t
or_here true f r s t e = refl
or_here false f r s t e = e

faults_in_turn : (n : ℕ) (xs ys : List (Rule × Bool)) → first_fault n (xs ++ ys) ≡ option_or (first_fault n xs) (first_fault n ys)
faults_in_turn n [] ys = refl
faults_in_turn n (test ∷ xs) ys = or_here test.1 (test.0 n) (first_fault n (xs ++ ys)) (first_fault n xs) (first_fault n ys) (faults_in_turn n xs ys)

abbrev some_holds : List (Rule × Bool) → Bool
some_holds tests = list_any (λ test. test.1) tests

none_here : (b c : Bool) (f : BuildFault) (r : Option BuildFault) → (r ≡ None → c ≡ false) → (if b then Some f else r) ≡ None → (b || c) ≡ false
none_here true c f r later e = absurd (cc)
none_here false c f r later e = later e

-- where there is no fault no test holds
pub none_holds : (n : ℕ) (tests : List (Rule × Bool)) → first_fault n tests ≡ None → list_any (λ test. test.1) tests ≡ false
none_holds n [] e = refl
none_holds n (test ∷ tests) e = none_here test.1 (some_holds tests) (test.0 n) (first_fault n tests) (none_holds n tests) e

no_fault_here : (b c : Bool) (f : BuildFault) (r : Option BuildFault) → (c ≡ false → r ≡ None) → (b || c) ≡ false → (if b then Some f else r) ≡ None
no_fault_here true c f r later e = absurd (cc)
no_fault_here false c f r later e = later e

-- and the other way round
pub no_fault : (n : ℕ) (tests : List (Rule × Bool)) → list_any (λ test. test.1) tests ≡ false → first_fault n tests ≡ None
no_fault n [] e = refl
no_fault n (test ∷ tests) e = no_fault_here test.1 (some_holds tests) (test.0 n) (first_fault n tests) (no_fault n tests) e

-- ---- the rules against what the items before leave

-- all of them, in the scope of these items and behind so many statements and cells
abbrev rules_at : Item → Scope → ℕ → ℕ → List (Rule × Bool)
rules_at x scope statements cells =
    name_rules scope x ++ (limit_rules (record { scope = scope; statements = statements; cells = cells }) x ++ step_rules scope x)

tested_is : (version n : ℕ) (s : Standing) (before : List Item) (x : Item) → IsStanding before s → tested_fault s n x ≡ first_fault n (rules version before x)
tested_is version n s before x h =
    sym (faults_in_turn n (name_rules s.scope x) (limit_rules s x ++ step_rules s.scope x)
    ∙ ap (option_or (first_fault n (name_rules s.scope x))) (faults_in_turn n (limit_rules s x) (step_rules s.scope x)))
    ∙ (λ i. first_fault n (rules_at x (h.scope i) (h.statements i) (h.cells i)))

module _ (before : List Item) (x : Item) (s : Standing) (n : ℕ) (h : IsStanding before s) where
  pub fault_verdict : {A : Type 0} (fault : BuildFault) → Some fault ≡ tested_fault s n x → IsVerdict before x n {A = A} (Err fault)
  fault_verdict fault e =
      record { clean = tt; fault = inr (record { in_each = λ version. subst (λ o. MatchOption o (IsOutOfRange before x n fault) (λ first. fault ≡ first)) (e ∙ tested_is version n s before x h) refl }) }

  pub out_verdict : {A : Type 0} (p : ℕ) → None ≡ tested_fault s n x → IsTrue (is_out_at s.scope x p)
      → ((q : ℕ) → IsTrue (is_out_at s.scope x q) → p ≤ q) → IsVerdict before x n {A = A} (Err (OutOfRange n p))
  out_verdict p e out first =
      let is : IsFirstOut before x p = record {
        out = subst (λ (e : Scope). IsTrue (is_out_at e x p)) h.scope out;
        first = λ q o. first q (subst (λ (e : Scope). IsTrue (is_out_at e x q)) (sym h.scope) o);
      } in
      record {
        clean = tt;
        fault = inr (record { in_each = λ version. subst (λ o. MatchOption o (IsOutOfRange before x n (OutOfRange n p)) (λ fault. OutOfRange n p ≡ fault)) (e ∙ tested_is version n s before x h) (p, is, refl) });
      }

  pub clean_verdict : {A : Type 0} (u : A) → None ≡ tested_fault s n x → ((p : ℕ) → ¬ IsTrue (is_out_at s.scope x p)) → IsVerdict before x n {A = A} (Ok u)
  clean_verdict u e within =
      let is : (version : ℕ) → IsClean version before x = λ version. record {
        none = none_holds n (rules version before x) (sym (e ∙ tested_is version n s before x h));
        stays = λ p out. within p (subst (λ (e : Scope). IsTrue (is_out_at e x p)) (sym h.scope) out);
      } in
      record { clean = is; fault = tt }

pub no_memory : {A : Type 0} (before : List Item) (x : Item) (n : ℕ) → IsVerdict before x n {A = A} (Err NoMemory)
no_memory before x n = record { clean = tt; fault = inl refl }

-- ---- an item that may be declared

three_none : (a b c : Option BuildFault) → option_or a (option_or b c) ≡ None → (a ≡ None) × (b ≡ None) × (c ≡ None)
three_none (Some r) b c e = absurd (cc)
three_none None (Some r) c e = absurd (cc)
three_none None None c e = (refl, refl, e)

is_right : (b : Bool) → not b ≡ false → IsTrue b
is_right true e = refl
is_right false e = absurd (cc)

pub acceptable : (s : Standing) (n : ℕ) (x : Item) → None ≡ tested_fault s n x → ((p : ℕ) → ¬ IsTrue (is_out_at s.scope x p)) → IsAcceptable s x
acceptable s n x e within =
    let none = three_none (first_fault n (name_rules s.scope x)) (first_fault n (limit_rules s x)) (first_fault n (step_rules s.scope x)) (sym e) in
    let unknown = or_parts (is_unknown s.scope x) _ (none_holds n (name_rules s.scope x) none.0) in
    let twice = or_parts (is_twice s.scope x) _ unknown.1 in
    let mistyped = or_parts (is_mistyped s.scope x) _ twice.1 in
    let deep = or_parts (is_too_deep s.scope x) _ (none_holds n (limit_rules s x) none.1) in
    let many = or_parts (is_too_many s.scope s.statements s.cells x) _ deep.1 in
    let steps = or_parts (is_bad_step s.scope x) _ (none_holds n (step_rules s.scope x) none.2) in
    let backward = or_parts (is_backward_range s.scope x) _ steps.1 in
    let lengths = or_parts (lengths_differ s.scope x) _ backward.1 in
    let identities = or_parts (is_bad_identity s.scope x) _ lengths.1 in
    let affine = or_parts (is_not_affine s.scope x) _ identities.1 in
    record {
      right = is_right (item_right s.scope x) mistyped.0;
      shallow = deep.0;
      few = many.0;
      forward = backward.0;
      affine = affine.0;
      stays = within;
    }

-- no rule on names is broken
pub later : (a r : Option BuildFault) (rest : Option BuildFault) → None ≡ a → r ≡ rest → r ≡ option_or a rest
later None r rest e d = d
later (Some fault) r rest e d = absurd (cc)
