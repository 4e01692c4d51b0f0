-- Where an expression fits, it fits without its constants too, in a scope without them.
use Rattle.std.proofs.Common.{◌≡◌, ℕ, Bool, true, false, ◌&&◌, if◌then◌else◌, Option, Some, None, List, [], ◌∷◌, map, option_map, option_and_then, ℤ, pos, negsuc, refl, sym, ap, ◌∙◌, subst, arith}
use Rattle.std.specs.Option.{option_or}
use Rattle.std.specs.Prelude.{unwrap_or, int_lt, nat_abs, nat_le, neg_ℤ, is_some}
use Rattle.std.specs.List.{list_all}
use Rattle.std.proofs.lemmas.Bool.{and_parts, false≢true}
use Rattle.std.proofs.lemmas.Bool.Decides.{nat_tests}
use Rattle.std.proofs.lemmas.Int.{ints}
use Rattle.std.proofs.lemmas.Option.{none-some}
use Rattle.pts_types.specs.declared.value.Kind.{Kind}
use Rattle.pts_types.specs.declared.value.Kind.TheVariants as kinds
use Rattle.pts_types.specs.declared.operation.ScalarOp.{ScalarOp}
use Rattle.pts_tree.specs.declared.expr.ChainPart.{ChainPart}
use Rattle.pts_tree.specs.declared.expr.Expr.{Expr}
use Rattle.pts_tree.specs.declared.expr.Expr.TheVariants as e
use Rattle.pts_tree.specs.Expressions.{Shape, chain_level, compare_mark, is_at, is_link, link, shape, shape_allowed}
use Rattle.pts_tree.specs.Spelling.{has_two, is_filled}
use Rattle.pts_tree.proofs.Shapes.{shape-Call, shape-Convert, shape-Paren, shape-Minus, shape-Not, shape-Chain, shape-Compare, shape-All, shape-Any, shape-If, link-is}
use Rattle.pts_rules.specs.declared.meaning.Meaning.{Meaning}
use Rattle.pts_rules.specs.declared.meaning.Meaning.TheVariants.{Constant, Array, Function, Value, View}
use Rattle.pts_rules.specs.declared.meaning.Signature.{Signature}
use Rattle.pts_rules.specs.Kinds.{Typing, typing, typed, literal_of, name_typing, minus_typing, call_typing, element_typing, chain_typing, first_kind, each_fits, arguments_fit, compares, sides_kind}
use Rattle.pts_rules.specs.Known.{Scope, meaning_of, as_function, as_array, constant_of, kind_of_array, holds}
use Rattle.pts_rules.specs.Parts.{Name}
use Rattle.pts_rules.proofs.Typings.{typing-Number, typing-True, typing-False, typing-Name, typing-Call, typing-Element, typing-Convert, typing-Throw, typing-Paren, typing-Minus, typing-Not, typing-Chain, typing-Compare, typing-All, typing-Any, typing-If}
use Rattle.pts_constants.specs.Resolved.{resolved_expr, resolved_part, constant_expr, number_expr, minus_expr, named}
use Rattle.pts_constants.proofs.Resolutions.{resolved-Number, resolved-True, resolved-False, resolved-Name, resolved-Call, resolved-Element, resolved-Convert, resolved-Throw, resolved-Paren, resolved-Minus, resolved-Not, resolved-Chain, resolved-Compare, resolved-All, resolved-Any, resolved-If, constant-Number, constant-True, constant-False, constant-Name, constant-Call, constant-Element, constant-Convert, constant-Throw, constant-Paren, constant-Not, constant-Chain, constant-Compare, constant-All, constant-Any, constant-If}
use Rattle.pts_code.proofs.Induction.{AllOf, AllParts, Forms, every}
use Rattle.pts_program.proofs.Truths.{both}

-- a signature by its kinds alone
abbrev pub plain : Signature → Signature
plain f = record { params = f.params; kind = f.kind; depth = 0; size = 0 }

-- The constants of a scope are those of an outer one, and each other name that an expression may use stands for the same among
-- these names; no value has the name of a constant of the outer scope.
pub record Carries (reads : Bool) (scope outer names : Scope) : Type 0 where
  pub constants : (name : Name) (z : ℤ) → meaning_of scope name ≡ Some (Constant z) → constant_of outer name ≡ Some z
  pub shown : (name : Name) (kind : Kind) → meaning_of scope name ≡ Some (Value kind) → constant_of outer name ≡ None
  pub values : (name : Name) (kind : Kind) → meaning_of scope name ≡ Some (Value kind) → meaning_of names name ≡ Some (Value kind)
  pub functions : (name : Name) (f : Signature) → meaning_of scope name ≡ Some (Function f) → meaning_of names name ≡ Some (Function (plain f))
  pub arrays : reads ≡ true → (name : Name) (kind : Kind) (length : ℤ) → meaning_of scope name ≡ Some (Array kind length) → kind_of_array names name ≡ Some kind

-- ---- numbers

-- a bare expression that fits where this number does
record IsNumber (z : ℤ) (a : Typing) : Type 0 where
  pub own : a.own ≡ None
  pub fits : (asked : Kind) → holds asked z ≡ true → a.fits asked ≡ true

number_at : (z : ℤ) (a b : Typing) → a ≡ b → IsNumber z b → IsNumber z a
number_at z a b is h = subst (IsNumber z) (sym is) h

below_zero : (z : ℤ) → int_lt z (pos 0) ≡ true → neg_ℤ (pos (nat_abs z)) ≡ z
below_zero (pos n) h = absurd (grind (arith, ints, h))
below_zero (negsuc n) h = omega (arith, ints)

from_zero : (z : ℤ) → int_lt z (pos 0) ≡ false → pos (nat_abs z) ≡ z
from_zero (pos n) h = omega (arith, ints)
from_zero (negsuc n) h = absurd (grind (arith, ints, h))

module _ (reads : Bool) (names : Scope) where
  -- a number with `-` before it
  minus_number : (n : ℕ) → IsNumber (neg_ℤ (pos n)) (typing reads names (e.Minus (e.Number n)))
  minus_number n =
      number_at (neg_ℤ (pos n)) (typing reads names (e.Minus (e.Number n))) (minus_typing (literal_of (pos n)) (Some (pos n)))
      (typing-Minus reads names (e.Number n) ∙ ap (λ (a : Typing). minus_typing a a.literal) (typing-Number reads names n))
      (record { own = refl; fits = λ asked h. h })

  plain_number : (n : ℕ) → IsNumber (pos n) (typing reads names (e.Number n))
  plain_number n = number_at (pos n) (typing reads names (e.Number n)) (literal_of (pos n)) (typing-Number reads names n) (record { own = refl; fits = λ asked h. h })

  number_is : (z : ℤ) → IsNumber z (typing reads names (number_expr z))
  number_is z = by_sign (int_lt z (pos 0)) refl
    where
      by_sign : (below : Bool) → int_lt z (pos 0) ≡ below → IsNumber z (typing reads names (if below then e.Minus (e.Number (nat_abs z)) else e.Number (nat_abs z)))
      by_sign true h = subst (λ y. IsNumber y (typing reads names (e.Minus (e.Number (nat_abs z))))) (below_zero z h) (minus_number (nat_abs z))
      by_sign false h = subst (λ y. IsNumber y (typing reads names (e.Number (nat_abs z)))) (from_zero z h) (plain_number (nat_abs z))

module _ (reads : Bool) (scope outer names : Scope) (carries : Carries reads scope outer names) where
  -- an expression where its constants are known, without them, and where they are not known
  abbrev t : Expr → Typing
  t = typing reads scope

  abbrev r : Expr → Expr
  r = resolved_expr outer

  abbrev u : Expr → Typing
  u = typing reads names

  -- with the kind of its own that it had, it fits again
  record FitsAgain (x : Expr) (asked : Kind) : Type 0 where
    pub own : (u (r x)).own ≡ (t x).own
    pub fits : (u (r x)).fits asked ≡ true

  -- no number, so that `-` before it is an operation
  record IsOperand (x : Expr) : Type 0 where
    pub constant : constant_expr outer x ≡ None
    pub literal : (u (r x)).literal ≡ None

  record IsKept (x : Expr) : Type 0 where
    pub fits : (asked : Kind) → (t x).fits asked ≡ true → FitsAgain x asked
    pub negated : (z : ℤ) → (t x).literal ≡ Some z → IsNumber (neg_ℤ z) (u (minus_expr (constant_expr outer x) (r x)))
    pub operand : (asked : Kind) → (t x).literal ≡ None → (shape x).level ≡ 0 → (t x).fits asked ≡ true → IsOperand x

  abbrev IsGrammatical : Expr → Type 0
  IsGrammatical x = (shape x).allowed ≡ true → IsKept x

  fits_by : (x : Expr) (asked : Kind) (a b : Typing) → t x ≡ a → u (r x) ≡ b → b.own ≡ a.own → b.fits asked ≡ true → FitsAgain x asked
  fits_by x asked a b was is own fit = record {
    own = ap (λ (ty : Typing). ty.own) is ∙ own ∙ sym (ap (λ (ty : Typing). ty.own) was);
    fits = ap (λ (ty : Typing). ty.fits asked) is ∙ fit;
  }

  -- what is no number by itself
  kept : (x : Expr) (a b : Typing) → t x ≡ a → u (r x) ≡ b → a.literal ≡ None → b.literal ≡ None → constant_expr outer x ≡ None
      → ((asked : Kind) → a.fits asked ≡ true → (b.own ≡ a.own) × (b.fits asked ≡ true)) → IsKept x
  kept x a b was is bare bare_again constant fit = record {
    fits = λ asked h. let again = fit asked (sym (ap (λ (ty : Typing). ty.fits asked) was) ∙ h) in fits_by x asked a b was is again.0 again.1;
    negated = λ z h. absurd (none-some z (sym bare ∙ sym (ap (λ (ty : Typing). ty.literal) was) ∙ h));
    operand = λ asked h level fits. record { constant = constant; literal = ap (λ (ty : Typing). ty.literal) is ∙ bare_again };
  }

  -- what fits nowhere
  nowhere : (x : Expr) (a : Typing) → t x ≡ a → a.literal ≡ None → ((asked : Kind) → a.fits asked ≡ true → ⊥) → IsKept x
  nowhere x a was bare never = record {
    fits = λ asked h. absurd (never asked (sym (ap (λ (ty : Typing). ty.fits asked) was) ∙ h));
    negated = λ z h. absurd (none-some z (sym bare ∙ sym (ap (λ (ty : Typing). ty.literal) was) ∙ h));
    operand = λ asked h level fits. absurd (never asked (sym (ap (λ (ty : Typing). ty.fits asked) was) ∙ fits));
  }

  some_is : (y z : ℤ) → Some y ≡ Some z → y ≡ z
  some_is y z h = ap (λ o. unwrap_or o y) h

  -- ---- names and numbers

  -- a constant is its number
  constant_kept : (name : Name) (z : ℤ) → t (e.Name name) ≡ literal_of z → r (e.Name name) ≡ number_expr z → constant_expr outer (e.Name name) ≡ Some z → IsKept (e.Name name)
  constant_kept name z was is constant =
      let again = subst (λ x. IsNumber z (u x)) (sym is) (number_is reads names z) in
      record {
        fits = λ asked h. record {
          own = again.own ∙ sym (ap (λ (ty : Typing). ty.own) was);
          fits = again.fits asked (sym (ap (λ (ty : Typing). ty.fits asked) was) ∙ h);
        };
        negated = λ y h.
            let same : z ≡ y = some_is z y (sym (ap (λ (ty : Typing). ty.literal) was) ∙ h) in
            subst (λ c. IsNumber (neg_ℤ y) (u (minus_expr c (r (e.Name name))))) (sym constant)
            (subst (λ w. IsNumber (neg_ℤ w) (u (number_expr (neg_ℤ z)))) same (number_is reads names (neg_ℤ z)));
        operand = λ asked h level fits. absurd (none-some z (sym h ∙ ap (λ (ty : Typing). ty.literal) was));
      }

  name_kept : (name : Name) (o : Option Meaning) → meaning_of scope name ≡ o → IsKept (e.Name name)
  name_kept name None is = nowhere (e.Name name) (name_typing None) (typing-Name reads scope name ∙ ap name_typing is) refl (λ asked h. false≢true h)
  name_kept name (Some (Constant z)) is =
      let known = carries.constants name z is in
      constant_kept name z (typing-Name reads scope name ∙ ap name_typing is) (resolved-Name outer name ∙ ap (λ c. (named name c).tree) known) (constant-Name outer name ∙ known)
  name_kept name (Some (Array kind length)) is =
      nowhere (e.Name name) (name_typing (Some (Array kind length))) (typing-Name reads scope name ∙ ap name_typing is) refl (λ asked h. false≢true h)
  name_kept name (Some (Function f)) is =
      nowhere (e.Name name) (name_typing (Some (Function f))) (typing-Name reads scope name ∙ ap name_typing is) refl (λ asked h. false≢true h)
  name_kept name (Some (Value kind)) is =
      let shown = carries.shown name kind is in
      kept (e.Name name) (typed kind true) (typed kind true) (typing-Name reads scope name ∙ ap name_typing is)
      (ap u (resolved-Name outer name ∙ ap (λ c. (named name c).tree) shown) ∙ typing-Name reads names name ∙ ap name_typing (carries.values name kind is)) refl refl
      (constant-Name outer name ∙ shown) (λ asked h. (refl, h))
  name_kept name (Some (View kind)) is =
      nowhere (e.Name name) (name_typing (Some (View kind))) (typing-Name reads scope name ∙ ap name_typing is) refl (λ asked h. false≢true h)

  number_kept : (n : ℕ) → IsKept (e.Number n)
  number_kept n =
      let again = subst (λ x. IsNumber (pos n) (u x)) (sym (resolved-Number outer n)) (plain_number reads names n) in
      record {
        fits = λ asked h. record {
          own = again.own ∙ sym (ap (λ (ty : Typing). ty.own) (typing-Number reads scope n));
          fits = again.fits asked (sym (ap (λ (ty : Typing). ty.fits asked) (typing-Number reads scope n)) ∙ h);
        };
        negated = λ y h.
            let same : pos n ≡ y = some_is (pos n) y (sym (ap (λ (ty : Typing). ty.literal) (typing-Number reads scope n)) ∙ h) in
            subst (λ c. IsNumber (neg_ℤ y) (u (minus_expr c (r (e.Number n))))) (sym (constant-Number outer n))
            (subst (λ x. IsNumber (neg_ℤ y) (u (e.Minus x))) (sym (resolved-Number outer n))
            (subst (λ w. IsNumber (neg_ℤ w) (u (e.Minus (e.Number n)))) same (minus_number reads names n)));
        operand = λ asked h level fits. absurd (none-some (pos n) (sym h ∙ ap (λ (ty : Typing). ty.literal) (typing-Number reads scope n)));
      }

  -- ---- lists

  arguments_kept : (asked : List Kind) (xs : List Expr) → AllOf IsKept xs → arguments_fit asked (map t xs) ≡ true → arguments_fit asked (map u (map r xs)) ≡ true
  arguments_kept [] [] known h = refl
  arguments_kept [] (x ∷ xs) known h = absurd (false≢true h)
  arguments_kept (kind ∷ asked) [] known h = absurd (false≢true h)
  arguments_kept (kind ∷ asked) (x ∷ xs) known h =
      let parts = and_parts ((t x).fits kind) (arguments_fit asked (map t xs)) h in
      both ((u (r x)).fits kind) (arguments_fit asked (map u (map r xs))) (known.0.fits kind parts.0).fits (arguments_kept asked xs known.1 parts.1)

  each_kept : (asked : Kind) (xs : List Expr) → AllOf IsKept xs → each_fits asked (map t xs) ≡ true → each_fits asked (map u (map r xs)) ≡ true
  each_kept asked [] known h = refl
  each_kept asked (x ∷ xs) known h =
      let parts = and_parts ((t x).fits asked) (each_fits asked (map t xs)) h in
      both ((u (r x)).fits asked) (each_fits asked (map u (map r xs))) (known.0.fits asked parts.0).fits (each_kept asked xs known.1 parts.1)

  -- the operands of a chain
  abbrev had : List ChainPart → List Typing
  had parts = map (λ y. t y.operand) parts

  abbrev has_now : List ChainPart → List Typing
  has_now parts = map (λ y. u y.operand) (map (resolved_part outer) parts)

  parts_kept : (asked : Kind) (parts : List ChainPart) → AllParts IsKept parts → each_fits asked (had parts) ≡ true
      → (first_kind (has_now parts) ≡ first_kind (had parts)) × (each_fits asked (has_now parts) ≡ true)
  parts_kept asked [] known h = (refl, refl)
  parts_kept asked (y ∷ ys) known h =
      let parts = and_parts ((t y.operand).fits asked) (each_fits asked (had ys)) h in
      let here = known.0.fits asked parts.0 in
      let rest = parts_kept asked ys known.1 parts.1 in
      ((λ i. option_or (here.own i) (rest.0 i)), both ((u (r y.operand)).fits asked) (each_fits asked (has_now ys)) here.fits rest.1)

  -- ---- calls and elements

  called : (name : Name) (xs : List Expr) (o : Option Meaning) → meaning_of scope name ≡ o → AllOf IsKept xs → IsKept (e.Call name xs)
  called name xs None is known =
      nowhere (e.Call name xs) (call_typing None (map t xs)) (typing-Call reads scope name xs ∙ ap (λ m. call_typing (option_and_then as_function m) (map t xs)) is) refl (λ asked h. false≢true h)
  called name xs (Some (Constant z)) is known =
      nowhere (e.Call name xs) (call_typing None (map t xs)) (typing-Call reads scope name xs ∙ ap (λ m. call_typing (option_and_then as_function m) (map t xs)) is) refl (λ asked h. false≢true h)
  called name xs (Some (Array kind length)) is known =
      nowhere (e.Call name xs) (call_typing None (map t xs)) (typing-Call reads scope name xs ∙ ap (λ m. call_typing (option_and_then as_function m) (map t xs)) is) refl (λ asked h. false≢true h)
  called name xs (Some (Value kind)) is known =
      nowhere (e.Call name xs) (call_typing None (map t xs)) (typing-Call reads scope name xs ∙ ap (λ m. call_typing (option_and_then as_function m) (map t xs)) is) refl (λ asked h. false≢true h)
  called name xs (Some (View kind)) is known =
      nowhere (e.Call name xs) (call_typing None (map t xs)) (typing-Call reads scope name xs ∙ ap (λ m. call_typing (option_and_then as_function m) (map t xs)) is) refl (λ asked h. false≢true h)
  called name xs (Some (Function f)) is known =
      kept (e.Call name xs) (call_typing (Some f) (map t xs)) (call_typing (Some (plain f)) (map u (map r xs)))
      (typing-Call reads scope name xs ∙ ap (λ m. call_typing (option_and_then as_function m) (map t xs)) is)
      (ap u (resolved-Call outer name xs) ∙ typing-Call reads names name (map r xs) ∙ ap (λ m. call_typing (option_and_then as_function m) (map u (map r xs))) (carries.functions name f is))
      refl refl (constant-Call outer name xs)
      (λ asked h. let own = and_parts _ _ h in (refl, both _ _ own.0 (arguments_kept f.params xs known own.1)))

  -- where no elements are read, one fits nowhere
  unread : (b : Bool) (o : Option Kind) (asked : Kind) → b ≡ false → (element_typing b o).fits asked ≡ true → ⊥
  unread b None asked off h = false≢true h
  unread b (Some kind) asked off h = false≢true (sym off ∙ (and_parts _ _ h).1)

  element_bare : (o : Option Kind) → (element_typing reads o).literal ≡ None
  element_bare None = refl
  element_bare (Some kind) = refl

  abbrev array_kind : Option Meaning → Option Kind
  array_kind m = option_map (λ a. a.0) (option_and_then as_array m)

  element_kept : (name : Name) (x : Expr) (o : Option Meaning) (b : Bool) → meaning_of scope name ≡ o → reads ≡ b → IsKept (e.Element name x)
  element_kept name x o false is off =
      nowhere (e.Element name x) (element_typing reads (kind_of_array scope name)) (typing-Element reads scope name x) (element_bare (kind_of_array scope name))
      (λ asked h. unread reads (kind_of_array scope name) asked off h)
  element_kept name x (Some (Array kind length)) true is on =
      kept (e.Element name x) (element_typing reads (Some kind)) (element_typing reads (Some kind))
      (typing-Element reads scope name x ∙ ap (λ m. element_typing reads (array_kind m)) is)
      (ap u (resolved-Element outer name x) ∙ typing-Element reads names name (r x) ∙ ap (element_typing reads) (carries.arrays on name kind length is))
      refl refl (constant-Element outer name x) (λ asked h. (refl, h))
  element_kept name x None true is on = nowhere (e.Element name x) (element_typing reads None) (typing-Element reads scope name x ∙ ap (λ m. element_typing reads (array_kind m)) is) refl (λ asked h. false≢true h)
  element_kept name x (Some (Constant z)) true is on = nowhere (e.Element name x) (element_typing reads None) (typing-Element reads scope name x ∙ ap (λ m. element_typing reads (array_kind m)) is) refl (λ asked h. false≢true h)
  element_kept name x (Some (Function f)) true is on = nowhere (e.Element name x) (element_typing reads None) (typing-Element reads scope name x ∙ ap (λ m. element_typing reads (array_kind m)) is) refl (λ asked h. false≢true h)
  element_kept name x (Some (Value kind)) true is on = nowhere (e.Element name x) (element_typing reads None) (typing-Element reads scope name x ∙ ap (λ m. element_typing reads (array_kind m)) is) refl (λ asked h. false≢true h)
  element_kept name x (Some (View kind)) true is on = nowhere (e.Element name x) (element_typing reads None) (typing-Element reads scope name x ∙ ap (λ m. element_typing reads (array_kind m)) is) refl (λ asked h. false≢true h)

  -- ---- `-`

  -- `-` is one level above the operands that it takes
  above : (x : Expr) → (shape (e.Minus x)).level ≡ 0 → ⊥
  above x h = let one : 1 ≡ 0 = sym (ap (λ (s : Shape). s.level) (shape-Minus x)) ∙ h in omega (arith, one)

  lowest : (n : ℕ) → nat_le n 0 ≡ true → n ≡ 0
  lowest n h = grind (arith, nat_tests, h)

  minus_again : (x : Expr) (asked : Kind) → t (e.Minus x) ≡ typed kinds.I64 ((t x).fits kinds.I64) → IsOperand x → FitsAgain x kinds.I64 → (typed kinds.I64 ((t x).fits kinds.I64)).fits asked ≡ true → FitsAgain (e.Minus x) asked
  minus_again x asked was operand again h =
      fits_by (e.Minus x) asked (typed kinds.I64 ((t x).fits kinds.I64)) (typed kinds.I64 ((u (r x)).fits kinds.I64)) was
      (ap u (resolved-Minus outer x ∙ ap (λ c. minus_expr c (r x)) operand.constant) ∙ typing-Minus reads names (r x) ∙ ap (minus_typing (u (r x))) operand.literal) refl
      (both _ _ (and_parts _ _ h).0 again.fits)

  minus_kept : (x : Expr) (o : Option ℤ) → (t x).literal ≡ o → IsKept x → (shape x).level ≡ 0 → IsKept (e.Minus x)
  minus_kept x None is known level =
      let was : t (e.Minus x) ≡ typed kinds.I64 ((t x).fits kinds.I64) = typing-Minus reads scope x ∙ ap (minus_typing (t x)) is in
      record {
        fits = λ asked h.
            let fit = sym (ap (λ (ty : Typing). ty.fits asked) was) ∙ h in
            let inner = (and_parts _ _ fit).1 in
            minus_again x asked was (known.operand kinds.I64 is level inner) (known.fits kinds.I64 inner) fit;
        negated = λ z h. absurd (none-some z (sym (ap (λ (ty : Typing). ty.literal) was) ∙ h));
        operand = λ asked h low fits. absurd (above x low);
      }
  minus_kept x (Some z) is known level =
      let was : t (e.Minus x) ≡ minus_typing (t x) (Some z) = typing-Minus reads scope x ∙ ap (minus_typing (t x)) is in
      let number = known.negated z is in
      record {
        fits = λ asked h.
            fits_by (e.Minus x) asked (minus_typing (t x) (Some z)) (u (minus_expr (constant_expr outer x) (r x))) was (ap u (resolved-Minus outer x)) number.own
            (number.fits asked (sym (ap (λ (ty : Typing). ty.fits asked) was) ∙ h));
        negated = λ y h. absurd (none-some y (sym (ap (λ (ty : Typing). ty.literal) was) ∙ h));
        operand = λ asked h low fits. absurd (above x low);
      }

  -- ---- all forms

  all_known : (test : Shape → Bool) → ((s : Shape) → test s ≡ true → s.allowed ≡ true) → (xs : List Expr) → AllOf IsGrammatical xs → list_all test (map shape xs) ≡ true → AllOf IsKept xs
  all_known test allows [] h g = tt
  all_known test allows (x ∷ xs) h g =
      let parts = and_parts (test (shape x)) (list_all test (map shape xs)) g in
      (h.0 (allows (shape x) parts.0), all_known test allows xs h.1 parts.1)

  links_known : (level : ℕ) (parts : List ChainPart) → AllParts IsGrammatical parts → list_all (is_link level) (map link parts) ≡ true → AllParts IsKept parts
  links_known level [] h g = tt
  links_known level (y ∷ ys) h g =
      let parts = and_parts (is_link level (link y)) (list_all (is_link level) (map link ys)) g in
      (h.0 (and_parts _ _ (ap (is_link level) (sym (link-is y)) ∙ parts.0)).1, links_known level ys h.1 parts.1)

  at_allowed : (level : ℕ) (s : Shape) → is_at level s ≡ true → s.allowed ≡ true
  at_allowed level s h = (and_parts (nat_le s.level level) s.allowed h).1

  of_shape : (x : Expr) (s : Shape) → shape x ≡ s → (shape x).allowed ≡ true → s.allowed ≡ true
  of_shape x s is h = sym (ap (λ (z : Shape). z.allowed) is) ∙ h

  chain_kept : (x : Expr) (parts : List ChainPart) → IsKept x → AllParts IsKept parts → IsKept (e.Chain x parts)
  chain_kept x parts known rest =
      kept (e.Chain x parts) (chain_typing (t x ∷ had parts)) (chain_typing (u (r x) ∷ has_now parts)) (typing-Chain reads scope x parts)
      (ap u (resolved-Chain outer x parts) ∙ typing-Chain reads names (r x) (map (resolved_part outer) parts)) refl refl (constant-Chain outer x parts)
      (λ asked h.
      let own = and_parts _ _ h in
      let all = and_parts ((t x).fits asked) (each_fits asked (had parts)) own.1 in
      let here = known.fits asked all.0 in
      let behind = parts_kept asked parts rest all.1 in
      ((λ i. option_or (here.own i) (behind.0 i)), both _ _ own.0 (both ((u (r x)).fits asked) (each_fits asked (has_now parts)) here.fits behind.1)))

  compare_kept : (op : ScalarOp) (x y : Expr) → IsKept x → IsKept y → IsKept (e.Compare op x y)
  compare_kept op x y known other =
      kept (e.Compare op x y) _ _ (typing-Compare reads scope op x y) (ap u (resolved-Compare outer op x y) ∙ typing-Compare reads names op (r x) (r y)) refl refl (constant-Compare outer op x y)
      (λ asked h.
      let kind = sides_kind (t x) (t y) in
      let own = and_parts _ _ h in
      let right = and_parts _ _ own.1 in
      let left = and_parts _ _ right.0 in
      let here = known.fits kind left.1 in
      let there = other.fits kind right.1 in
      let same : kind ≡ sides_kind (u (r x)) (u (r y)) = λ i. unwrap_or (option_or (sym here.own i) (sym there.own i)) kinds.U64 in (
        refl,
        both _ _ own.0
            (subst (λ k. (compares op k && (u (r x)).fits k && (u (r y)).fits k) ≡ true) same (both _ _ (both _ _ left.0 here.fits) there.fits)),
      ))

  if_kept : (x y z : Expr) → IsKept x → IsKept y → IsKept z → IsKept (e.If x y z)
  if_kept x y z test known other =
      kept (e.If x y z) _ _ (typing-If reads scope x y z) (ap u (resolved-If outer x y z) ∙ typing-If reads names (r x) (r y) (r z)) refl refl (constant-If outer x y z)
      (λ asked h.
      let right = and_parts _ _ h in
      let left = and_parts _ _ right.0 in
      let here = known.fits asked left.1 in
      let there = other.fits asked right.1 in
      ((λ i. option_or (here.own i) (option_or (there.own i) None)), both _ _ (both _ _ (test.fits kinds.Bool left.0).fits here.fits) there.fits))

  convert_kept : (to : Kind) (x : Expr) → IsKept x → IsKept (e.Convert to x)
  convert_kept to x known =
      kept (e.Convert to x) _ _ (typing-Convert reads scope to x) (ap u (resolved-Convert outer to x) ∙ typing-Convert reads names to (r x)) refl refl (constant-Convert outer to x)
      (λ asked h.
      let own = and_parts _ _ h in
      let here = known.fits (unwrap_or (t x).own to) own.1 in
      (refl, both _ _ own.0 (subst (λ o. (u (r x)).fits (unwrap_or o to) ≡ true) (sym here.own) here.fits)))

  forms : Forms IsGrammatical
  forms = record {
    Number = λ n allowed. number_kept n;
    True = λ allowed. kept e.True _ _ (typing-True reads scope) (ap u (resolved-True outer) ∙ typing-True reads names) refl refl (constant-True outer) (λ asked h. (refl, h));
    False = λ allowed. kept e.False _ _ (typing-False reads scope) (ap u (resolved-False outer) ∙ typing-False reads names) refl refl (constant-False outer) (λ asked h. (refl, h));
    Name = λ name allowed. name_kept name (meaning_of scope name) refl;
    Call = λ name xs h allowed.
        called name xs (meaning_of scope name) refl
        (all_known shape_allowed (λ s g. g) xs h (and_parts (is_filled (map shape xs)) (list_all shape_allowed (map shape xs)) (of_shape (e.Call name xs) _ (shape-Call name xs) allowed)).1);
    Element = λ name x h allowed. element_kept name x (meaning_of scope name) reads refl refl;
    Convert = λ to x h allowed. convert_kept to x (h (of_shape (e.Convert to x) _ (shape-Convert to x) allowed));
    Throw = λ n allowed. kept (e.Throw n) _ _ (typing-Throw reads scope n) (ap u (resolved-Throw outer n) ∙ typing-Throw reads names n) refl refl (constant-Throw outer n) (λ asked h. (refl, h));
    Paren = λ x h allowed.
        let known = h (of_shape (e.Paren x) _ (shape-Paren x) allowed) in
        kept (e.Paren x) _ _ (typing-Paren reads scope x) (ap u (resolved-Paren outer x) ∙ typing-Paren reads names (r x)) refl refl (constant-Paren outer x)
        (λ asked fit. let again = known.fits asked fit in (again.own, again.fits));
    Minus = λ x h allowed.
        let own = and_parts (nat_le (shape x).level 0) (shape x).allowed (of_shape (e.Minus x) _ (shape-Minus x) allowed) in
        minus_kept x (t x).literal refl (h own.1) (lowest (shape x).level own.0);
    Not = λ x h allowed.
        let known = h (at_allowed 0 (shape x) (of_shape (e.Not x) _ (shape-Not x) allowed)) in
        kept (e.Not x) _ _ (typing-Not reads scope x) (ap u (resolved-Not outer x) ∙ typing-Not reads names (r x)) refl refl (constant-Not outer x)
        (λ asked fit. let own = and_parts _ _ fit in (refl, both _ _ own.0 (known.fits kinds.Bool own.1).fits));
    Chain = λ x parts h hs allowed.
        let own = of_shape (e.Chain x parts) _ (shape-Chain x parts) allowed in
        let level = chain_level (map link parts) in
        let all = and_parts _ (list_all (is_link level) (map link parts)) own in
        chain_kept x parts (h (and_parts _ _ all.0).1) (links_known level parts hs all.1);
    Compare = λ op x y h hs allowed.
        let own = and_parts (is_some (compare_mark op) && is_at 4 (shape x)) (is_at 4 (shape y)) (of_shape (e.Compare op x y) _ (shape-Compare op x y) allowed) in
        compare_kept op x y (h (at_allowed 4 (shape x) (and_parts (is_some (compare_mark op)) (is_at 4 (shape x)) own.0).1)) (hs (at_allowed 4 (shape y) own.1));
    All = λ xs h allowed.
        let known = all_known (is_at 5) (at_allowed 5) xs h (and_parts (has_two (map shape xs)) (list_all (is_at 5) (map shape xs)) (of_shape (e.All xs) _ (shape-All xs) allowed)).1 in
        kept (e.All xs) _ _ (typing-All reads scope xs) (ap u (resolved-All outer xs) ∙ typing-All reads names (map r xs)) refl refl (constant-All outer xs)
        (λ asked fit. let own = and_parts _ _ fit in (refl, both _ _ own.0 (each_kept kinds.Bool xs known own.1)));
    Any = λ xs h allowed.
        let known = all_known (is_at 6) (at_allowed 6) xs h (and_parts (has_two (map shape xs)) (list_all (is_at 6) (map shape xs)) (of_shape (e.Any xs) _ (shape-Any xs) allowed)).1 in
        kept (e.Any xs) _ _ (typing-Any reads scope xs) (ap u (resolved-Any outer xs) ∙ typing-Any reads names (map r xs)) refl refl (constant-Any outer xs)
        (λ asked fit. let own = and_parts _ _ fit in (refl, both _ _ own.0 (each_kept kinds.Bool xs known own.1)));
    If = λ x y z h hy hz allowed.
        let own = and_parts (is_at 7 (shape x) && is_at 7 (shape y)) (is_at 7 (shape z)) (of_shape (e.If x y z) _ (shape-If x y z) allowed) in
        let front = and_parts (is_at 7 (shape x)) (is_at 7 (shape y)) own.0 in
        if_kept x y z (h (at_allowed 7 (shape x) front.0)) (hy (at_allowed 7 (shape y) front.1)) (hz (at_allowed 7 (shape z) own.1));
  }

  all_kept : (x : Expr) → IsGrammatical x
  all_kept = every IsGrammatical forms

  -- where an expression of the grammar fits, it fits without its constants
  pub resolved_fits : (kind : Kind) (x : Expr) → (shape x).allowed ≡ true → (t x).fits kind ≡ true → (u (r x)).fits kind ≡ true
  resolved_fits kind x allowed h = ((all_kept x allowed).fits kind h).fits

  -- and has the kind of its own that it had
  pub resolved_own : (kind : Kind) (x : Expr) → (shape x).allowed ≡ true → (t x).fits kind ≡ true → (u (r x)).own ≡ (t x).own
  resolved_own kind x allowed h = ((all_kept x allowed).fits kind h).own
