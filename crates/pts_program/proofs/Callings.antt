-- The bodies of functions use parameters and earlier functions alone.
use Rattle.std.proofs.Common.{◌≡◌, Bool, true, false, Option, Some, None, List, [], ◌∷◌, map, option_and_then, if◌then◌else◌, ℤ, pos, refl, sym, ap, ◌∙◌, subst}
use Rattle.std.specs.Prelude.{◌&&◌, unwrap_or, int_lt, nat_abs, neg_ℤ}
use Rattle.std.proofs.lemmas.Bool.{and_parts, false≢true}
use Rattle.std.proofs.lemmas.Option.{none-some}
use Rattle.pts_types.specs.declared.value.Kind.{Kind}
use Rattle.pts_types.specs.declared.value.Kind.TheVariants as kinds
use Rattle.pts_tree.specs.declared.expr.Expr.{Expr, roll-Expr}
use Rattle.pts_tree.specs.declared.expr.Expr.TheOpen.{Expr-F}
use Rattle.pts_tree.specs.declared.expr.Expr.TheVariants as e
use Rattle.pts_tree.specs.declared.expr.Expr.TheFolds.{map-Expr, ind-Expr}
use Rattle.pts_tree.specs.declared.expr.ChainPart.{ChainPart}
use Rattle.pts_rules.specs.declared.meaning.Meaning.{Meaning}
use Rattle.pts_rules.specs.declared.meaning.Meaning.TheVariants.{Constant, Array, Function, Value, View}
use Rattle.pts_rules.specs.declared.meaning.Signature.{Signature}
use Rattle.pts_rules.specs.Known.{Scope, meaning_of, constant_of, as_function, function_of, kind_of_array}
use Rattle.pts_rules.specs.Kinds.{Typing, typing, each_fits, name_typing, call_typing, element_typing, minus_typing, arguments_fit}
use Rattle.pts_rules.specs.Parts.{Name}
use Rattle.pts_rules.proofs.Typings.{typing-Name, typing-Call, typing-Element, typing-Convert, typing-Paren, typing-Minus, typing-Not, typing-Chain, typing-Compare, typing-All, typing-Any, typing-If}
use Rattle.pts_constants.specs.Resolved.{resolved_expr, resolved_part, constant_expr, number_expr, minus_expr, named}
use Rattle.pts_constants.proofs.Resolutions.{resolved-Number, resolved-True, resolved-False, resolved-Name, resolved-Call, resolved-Convert, resolved-Throw, resolved-Paren, resolved-Minus, resolved-Not, resolved-Chain, resolved-Compare, resolved-All, resolved-Any, resolved-If}
use Rattle.pts_program.specs.Callings.{is_one_of, each, uses_only}
use Rattle.pts_program.proofs.UseForms.{using-Number, using-True, using-False, using-Name, using-Call, using-Convert, using-Throw, using-Paren, using-Minus, using-Not, using-Chain, using-Compare, using-All, using-Any, using-If}

-- each value and each function of a scope is one of these, and its constants are those of another scope
pub record AreThese (scope outer : Scope) (values functions : List Name) : Type 0 where
  pub constants_known : (name : Name) (z : ℤ) → meaning_of scope name ≡ Some (Constant z) → constant_of outer name ≡ Some z
  pub values_known : (name : Name) (kind : Kind) → meaning_of scope name ≡ Some (Value kind) → is_one_of values name ≡ true
  pub functions_known : (name : Name) (f : Signature) → meaning_of scope name ≡ Some (Function f) → is_one_of functions name ≡ true

both : (a b : Bool) → a ≡ true → b ≡ true → (a && b) ≡ true
both a b h k = ap (λ x. x && b) h ∙ k

-- a number has no names
number_free : (values functions : List Name) (z : ℤ) → uses_only values functions (number_expr z) ≡ true
number_free values functions z = by_sign (int_lt z (pos 0))
  where
    by_sign : (below : Bool) → uses_only values functions (if below then e.Minus (e.Number (nat_abs z)) else e.Number (nat_abs z)) ≡ true
    by_sign true = using-Minus values functions (e.Number (nat_abs z)) ∙ using-Number values functions (nat_abs z)
    by_sign false = using-Number values functions (nat_abs z)

module _ (scope outer : Scope) (values functions : List Name) (these : AreThese scope outer values functions) where
  abbrev t : Expr → Typing
  t = typing false scope

  -- an expression without its constants, and what it uses
  abbrev r : Expr → Expr
  r = resolved_expr outer

  abbrev u : Expr → Bool
  u = uses_only values functions

  -- a number by itself, and what fits somewhere
  record IsClosed (x : Expr) : Type 0 where
    pub literal : (z : ℤ) → (t x).literal ≡ Some z → u (r x) ≡ true
    pub fits : (asked : Kind) → (t x).fits asked ≡ true → u (r x) ≡ true

  abbrev IsClosedPart : ChainPart → Type 0
  IsClosedPart x = IsClosed x.operand

  -- an expression, and a part of a chain, with what is known of it
  abbrev Known : Type 0
  Known = (x : Expr) × IsClosed x

  abbrev KnownPart : Type 0
  KnownPart = (x : ChainPart) × IsClosedPart x

  closed : (x : Expr) (a : Typing) → t x ≡ a → a.literal ≡ None → ((asked : Kind) → a.fits asked ≡ true → u (r x) ≡ true) → IsClosed x
  closed x a is bare fit = record {
    literal = λ z h. absurd (none-some z (sym bare ∙ sym (ap (λ (ty : Typing). ty.literal) is) ∙ h));
    fits = λ asked h. fit asked (sym (ap (λ (ty : Typing). ty.fits asked) is) ∙ h);
  }

  always : (x : Expr) → u (r x) ≡ true → IsClosed x
  always x h = record { literal = λ z l. h; fits = λ asked l. h }

  -- ---- names

  -- a value with the name of a constant of the other scope is its number there
  value_closed : (name : Name) (c : Option ℤ) → is_one_of values name ≡ true → u (named name c).tree ≡ true
  value_closed name None h = using-Name values functions name ∙ h
  value_closed name (Some z) h = number_free values functions z

  name_closed : (name : Name) (o : Option Meaning) → meaning_of scope name ≡ o → IsClosed (e.Name name)
  name_closed name None is = closed (e.Name name) (name_typing None) (typing-Name false scope name ∙ ap name_typing is) refl (λ asked h. absurd (false≢true h))
  name_closed name (Some (Constant z)) is =
      always (e.Name name) (ap u (resolved-Name outer name ∙ ap (λ c. (named name c).tree) (these.constants_known name z is)) ∙ number_free values functions z)
  name_closed name (Some (Array kind length)) is =
      closed (e.Name name) (name_typing (Some (Array kind length))) (typing-Name false scope name ∙ ap name_typing is) refl (λ asked h. absurd (false≢true h))
  name_closed name (Some (Function f)) is =
      closed (e.Name name) (name_typing (Some (Function f))) (typing-Name false scope name ∙ ap name_typing is) refl (λ asked h. absurd (false≢true h))
  name_closed name (Some (Value kind)) is =
      always (e.Name name) (ap u (resolved-Name outer name) ∙ value_closed name (constant_of outer name) (these.values_known name kind is))
  name_closed name (Some (View kind)) is =
      closed (e.Name name) (name_typing (Some (View kind))) (typing-Name false scope name ∙ ap name_typing is) refl (λ asked h. absurd (false≢true h))

  -- ---- lists

  abbrev firsts : List Known → List Expr
  firsts ys = map (λ (z : Known). z.0) ys

  abbrev first_parts : List KnownPart → List ChainPart
  first_parts ys = map (λ (z : KnownPart). z.0) ys

  arguments_closed : (asked : List Kind) (ys : List Known) → arguments_fit asked (map t (firsts ys)) ≡ true → each (map u (map r (firsts ys))) ≡ true
  arguments_closed [] [] h = refl
  arguments_closed [] (y ∷ ys) h = absurd (false≢true h)
  arguments_closed (kind ∷ asked) [] h = absurd (false≢true h)
  arguments_closed (kind ∷ asked) (y ∷ ys) h =
      let parts = and_parts ((t y.0).fits kind) (arguments_fit asked (map t (firsts ys))) h in
      both (u (r y.0)) (each (map u (map r (firsts ys)))) (y.1.fits kind parts.0) (arguments_closed asked ys parts.1)

  all_closed : (asked : Kind) (ys : List Known) → each_fits asked (map t (firsts ys)) ≡ true → each (map u (map r (firsts ys))) ≡ true
  all_closed asked [] h = refl
  all_closed asked (y ∷ ys) h =
      let parts = and_parts ((t y.0).fits asked) (each_fits asked (map t (firsts ys))) h in
      both (u (r y.0)) (each (map u (map r (firsts ys)))) (y.1.fits asked parts.0) (all_closed asked ys parts.1)

  parts_closed : (asked : Kind) (ys : List KnownPart) → each_fits asked (map (λ y. t y.operand) (first_parts ys)) ≡ true
      → each (map (λ y. u y.operand) (map (resolved_part outer) (first_parts ys))) ≡ true
  parts_closed asked [] h = refl
  parts_closed asked (y ∷ ys) h =
      let parts = and_parts ((t y.0.operand).fits asked) (each_fits asked (map (λ y. t y.operand) (first_parts ys))) h in
      both (u (r y.0.operand)) (each (map (λ y. u y.operand) (map (resolved_part outer) (first_parts ys)))) (y.1.fits asked parts.0) (parts_closed asked ys parts.1)

  -- ---- calls and elements

  call_bare : (o : Option Signature) (xs : List Typing) → (call_typing o xs).literal ≡ None
  call_bare None xs = refl
  call_bare (Some f) xs = refl

  element_bare : (o : Option Kind) → (element_typing false o).literal ≡ None
  element_bare None = refl
  element_bare (Some kind) = refl

  nowhere : (o : Option Kind) (asked : Kind) → (element_typing false o).fits asked ≡ true → ⊥
  nowhere None asked h = false≢true h
  nowhere (Some kind) asked h = false≢true (and_parts _ _ h).1

  called : (name : Name) (ys : List Known) (o : Option Meaning) (asked : Kind) → meaning_of scope name ≡ o → (call_typing (option_and_then as_function o) (map t (firsts ys))).fits asked ≡ true
      → (is_one_of functions name && each (map u (map r (firsts ys)))) ≡ true
  called name ys None asked is h = absurd (false≢true h)
  called name ys (Some (Constant z)) asked is h = absurd (false≢true h)
  called name ys (Some (Array kind length)) asked is h = absurd (false≢true h)
  called name ys (Some (Function f)) asked is h =
      both (is_one_of functions name) (each (map u (map r (firsts ys)))) (these.functions_known name f is) (arguments_closed f.params ys (and_parts _ _ h).1)
  called name ys (Some (Value kind)) asked is h = absurd (false≢true h)
  called name ys (Some (View kind)) asked is h = absurd (false≢true h)

  -- ---- `-`

  minus_bare : (x : Typing) (o : Option ℤ) → (minus_typing x o).literal ≡ None
  minus_bare x None = refl
  minus_bare x (Some z) = refl

  operand_closed : (x : Expr) (o : Option ℤ) (asked : Kind) → IsClosed x → (t x).literal ≡ o → (minus_typing (t x) o).fits asked ≡ true → u (r x) ≡ true
  operand_closed x None asked x_closed is h = x_closed.fits kinds.I64 (and_parts _ _ h).1
  operand_closed x (Some z) asked x_closed is h = x_closed.literal z is

  minus_free : (x : Expr) (c : Option ℤ) → u (r x) ≡ true → u (minus_expr c (r x)) ≡ true
  minus_free x None h = using-Minus values functions (r x) ∙ h
  minus_free x (Some z) h = number_free values functions (neg_ℤ z)

  -- ---- all forms

  by_form : (y : Expr-F Known KnownPart) → IsClosed (roll-Expr (map-Expr Known KnownPart Expr ChainPart (λ z. z.0) (λ z. z.0) y))
  by_form (Expr-F.Number n) = subst IsClosed (sym (e.rolls-Number n)) (always (e.Number n) (ap u (resolved-Number outer n) ∙ using-Number values functions n))
  by_form Expr-F.True = subst IsClosed (sym e.rolls-True) (always e.True (ap u (resolved-True outer) ∙ using-True values functions))
  by_form Expr-F.False = subst IsClosed (sym e.rolls-False) (always e.False (ap u (resolved-False outer) ∙ using-False values functions))
  by_form (Expr-F.Name name) = subst IsClosed (sym (e.rolls-Name name)) (name_closed name (meaning_of scope name) refl)
  by_form (Expr-F.Call name ys) =
      let xs = firsts ys in
      subst IsClosed (sym (e.rolls-Call name xs))
      (closed (e.Call name xs) _ (typing-Call false scope name xs) (call_bare (function_of scope name) (map t xs))
      (λ asked h. ap u (resolved-Call outer name xs) ∙ using-Call values functions name (map r xs) ∙ called name ys (meaning_of scope name) asked refl h))
  by_form (Expr-F.Element name y) =
      subst IsClosed (sym (e.rolls-Element name y.0))
      (closed (e.Element name y.0) _ (typing-Element false scope name y.0) (element_bare (kind_of_array scope name)) (λ asked h. absurd (nowhere (kind_of_array scope name) asked h)))
  by_form (Expr-F.Convert to y) =
      subst IsClosed (sym (e.rolls-Convert to y.0))
      (closed (e.Convert to y.0) _ (typing-Convert false scope to y.0) refl
      (λ asked h. ap u (resolved-Convert outer to y.0) ∙ using-Convert values functions to (r y.0) ∙ y.1.fits (unwrap_or (t y.0).own to) (and_parts _ _ h).1))
  by_form (Expr-F.Throw n) = subst IsClosed (sym (e.rolls-Throw n)) (always (e.Throw n) (ap u (resolved-Throw outer n) ∙ using-Throw values functions n))
  by_form (Expr-F.Paren y) =
      subst IsClosed (sym (e.rolls-Paren y.0))
      (closed (e.Paren y.0) _ (typing-Paren false scope y.0) refl (λ asked h. ap u (resolved-Paren outer y.0) ∙ using-Paren values functions (r y.0) ∙ y.1.fits asked h))
  by_form (Expr-F.Minus y) =
      subst IsClosed (sym (e.rolls-Minus y.0))
      (closed (e.Minus y.0) _ (typing-Minus false scope y.0) (minus_bare (t y.0) (t y.0).literal)
      (λ asked h. ap u (resolved-Minus outer y.0) ∙ minus_free y.0 (constant_expr outer y.0) (operand_closed y.0 (t y.0).literal asked y.1 refl h)))
  by_form (Expr-F.Not y) =
      subst IsClosed (sym (e.rolls-Not y.0))
      (closed (e.Not y.0) _ (typing-Not false scope y.0) refl (λ asked h. ap u (resolved-Not outer y.0) ∙ using-Not values functions (r y.0) ∙ y.1.fits kinds.Bool (and_parts _ _ h).1))
  by_form (Expr-F.Chain y ys) =
      let xs = first_parts ys in
      subst IsClosed (sym (e.rolls-Chain y.0 xs))
      (closed (e.Chain y.0 xs) _ (typing-Chain false scope y.0 xs) refl
      (λ asked h.
      let parts = and_parts _ _ (and_parts _ _ h).1 in
      ap u (resolved-Chain outer y.0 xs) ∙ using-Chain values functions (r y.0) (map (resolved_part outer) xs)
      ∙ both (u (r y.0)) (each (map (λ y. u y.operand) (map (resolved_part outer) xs))) (y.1.fits asked parts.0) (parts_closed asked ys parts.1)))
  by_form (Expr-F.Compare op y z) =
      subst IsClosed (sym (e.rolls-Compare op y.0 z.0))
      (closed (e.Compare op y.0 z.0) _ (typing-Compare false scope op y.0 z.0) refl
      (λ asked h.
      let right = and_parts _ _ (and_parts _ _ h).1 in
      let left = and_parts _ _ right.0 in
      ap u (resolved-Compare outer op y.0 z.0) ∙ using-Compare values functions op (r y.0) (r z.0)
      ∙ both (u (r y.0)) (u (r z.0)) (y.1.fits _ left.1) (z.1.fits _ right.1)))
  by_form (Expr-F.All ys) =
      let xs = firsts ys in
      subst IsClosed (sym (e.rolls-All xs))
      (closed (e.All xs) _ (typing-All false scope xs) refl
      (λ asked h. ap u (resolved-All outer xs) ∙ using-All values functions (map r xs) ∙ all_closed kinds.Bool ys (and_parts _ _ h).1))
  by_form (Expr-F.Any ys) =
      let xs = firsts ys in
      subst IsClosed (sym (e.rolls-Any xs))
      (closed (e.Any xs) _ (typing-Any false scope xs) refl
      (λ asked h. ap u (resolved-Any outer xs) ∙ using-Any values functions (map r xs) ∙ all_closed kinds.Bool ys (and_parts _ _ h).1))
  by_form (Expr-F.If x y z) =
      subst IsClosed (sym (e.rolls-If x.0 y.0 z.0))
      (closed (e.If x.0 y.0 z.0) _ (typing-If false scope x.0 y.0 z.0) refl
      (λ asked h.
      let right = and_parts _ _ h in
      let left = and_parts _ _ right.0 in
      ap u (resolved-If outer x.0 y.0 z.0) ∙ using-If values functions (r x.0) (r y.0) (r z.0)
      ∙ both (u (r x.0) && u (r y.0)) (u (r z.0)) (both (u (r x.0)) (u (r y.0)) (x.1.fits kinds.Bool left.0) (y.1.fits asked left.1)) (z.1.fits asked right.1)))

  every : (x : Expr) → IsClosed x
  every = ind-Expr IsClosed IsClosedPart (λ x y is. subst (λ z. IsClosed (roll-Expr z)) is (by_form y)) (λ x y is. subst (λ z. IsClosed z.operand) is y.operand.1)

  -- an expression that fits somewhere uses these values and functions alone
  pub uses_these : (kind : Kind) (x : Expr) → (t x).fits kind ≡ true → u (r x) ≡ true
  uses_these kind x h = (every x).fits kind h
