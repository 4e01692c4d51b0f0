-- Without its constants an expression has its operators where they belong.
use Rattle.std.proofs.Common.{◌≡◌, Bool, true, false, ◌&&◌, if◌then◌else◌, Option, Some, None, List, [], ◌∷◌, map, ℤ, pos, refl, sym, ap, ◌∙◌}
use Rattle.std.specs.Prelude.{not, int_lt, nat_abs, neg_ℤ}
use Rattle.std.specs.List.{list_all}
use Rattle.std.proofs.lemmas.Bool.{and_parts}
use Rattle.pts_tree.specs.declared.expr.ChainPart.{ChainPart}
use Rattle.pts_tree.specs.declared.expr.Expr.{Expr}
use Rattle.pts_tree.specs.declared.expr.Expr.TheVariants as e
use Rattle.pts_rules.specs.Known.{Scope, constant_of}
use Rattle.pts_rules.specs.Parts.{Name}
use Rattle.pts_constants.specs.Resolved.{resolved_expr, resolved_part, constant_expr, number_expr, minus_expr, named}
use Rattle.pts_constants.proofs.Resolutions.{resolved-Number, resolved-True, resolved-False, resolved-Name, resolved-Call, resolved-Element, resolved-Convert, resolved-Throw, resolved-Paren, resolved-Minus, resolved-Not, resolved-Chain, resolved-Compare, resolved-All, resolved-Any, resolved-If}
use Rattle.pts_code.specs.Soundness.{is_comparison, operators_right}
use Rattle.pts_code.proofs.Induction.{AllOf, AllParts, Forms, every}
use Rattle.pts_code.proofs.Operators.{part_right, right-Number, right-True, right-False, right-Name, right-Throw, right-Call, right-Element, right-Convert, right-Paren, right-Minus, right-Not, right-Chain, right-Compare, right-All, right-Any, right-If}
use Rattle.pts_program.proofs.Truths.{both}

-- a number has none
number_right : (z : ℤ) → operators_right (number_expr z) ≡ true
number_right z = by_sign (int_lt z (pos 0))
  where
    by_sign : (below : Bool) → operators_right (if below then e.Minus (e.Number (nat_abs z)) else e.Number (nat_abs z)) ≡ true
    by_sign true = right-Minus (e.Number (nat_abs z)) ∙ right-Number (nat_abs z)
    by_sign false = right-Number (nat_abs z)

module _ (scope : Scope) where
  abbrev r : Expr → Expr
  r = resolved_expr scope

  abbrev Stays : Expr → Type 0
  Stays x = operators_right x ≡ true → operators_right (r x) ≡ true

  named_right : (name : Name) (c : Option ℤ) → operators_right (named name c).tree ≡ true
  named_right name None = right-Name name
  named_right name (Some z) = number_right z

  minus_right : (x : Expr) (c : Option ℤ) → operators_right (r x) ≡ true → operators_right (minus_expr c (r x)) ≡ true
  minus_right x None h = right-Minus (r x) ∙ h
  minus_right x (Some z) h = number_right (neg_ℤ z)

  all_right : (xs : List Expr) → AllOf Stays xs → list_all (λ right. right) (map operators_right xs) ≡ true → list_all (λ right. right) (map operators_right (map r xs)) ≡ true
  all_right [] h g = refl
  all_right (x ∷ xs) h g =
      let parts = and_parts (operators_right x) (list_all (λ (right : Bool). right) (map operators_right xs)) g in
      both (operators_right (r x)) (list_all (λ (right : Bool). right) (map operators_right (map r xs))) (h.0 parts.0) (all_right xs h.1 parts.1)

  parts_right : (parts : List ChainPart) → AllParts Stays parts → list_all (λ right. right) (map part_right parts) ≡ true → list_all (λ right. right) (map part_right (map (resolved_part scope) parts)) ≡ true
  parts_right [] h g = refl
  parts_right (y ∷ ys) h g =
      let parts = and_parts (part_right y) (list_all (λ (right : Bool). right) (map part_right ys)) g in
      let here = and_parts (not (is_comparison y.op)) (operators_right y.operand) parts.0 in
      both (not (is_comparison y.op) && operators_right (r y.operand)) (list_all (λ (right : Bool). right) (map part_right (map (resolved_part scope) ys)))
      (both (not (is_comparison y.op)) (operators_right (r y.operand)) here.0 (h.0 here.1)) (parts_right ys h.1 parts.1)

  -- through what an expression and its resolved form are
  through : (x y : Expr) (a b : Bool) → operators_right x ≡ a → r x ≡ y → operators_right y ≡ b → (a ≡ true → b ≡ true) → Stays x
  through x y a b was is now h right = ap operators_right is ∙ now ∙ h (sym was ∙ right)

  forms : Forms Stays
  forms = record {
    Number = λ n. through _ _ _ _ (right-Number n) (resolved-Number scope n) (right-Number n) (λ h. h);
    True = through _ _ _ _ right-True (resolved-True scope) right-True (λ h. h);
    False = through _ _ _ _ right-False (resolved-False scope) right-False (λ h. h);
    Name = λ name h. ap operators_right (resolved-Name scope name) ∙ named_right name (constant_of scope name);
    Call = λ name xs hs. through _ _ _ _ (right-Call name xs) (resolved-Call scope name xs) (right-Call name (map r xs)) (all_right xs hs);
    Element = λ name x h. through _ _ _ _ (right-Element name x) (resolved-Element scope name x) (right-Element name (r x)) h;
    Convert = λ to x h. through _ _ _ _ (right-Convert to x) (resolved-Convert scope to x) (right-Convert to (r x)) h;
    Throw = λ n. through _ _ _ _ (right-Throw n) (resolved-Throw scope n) (right-Throw n) (λ h. h);
    Paren = λ x h. through _ _ _ _ (right-Paren x) (resolved-Paren scope x) (right-Paren (r x)) h;
    Minus = λ x h right. ap operators_right (resolved-Minus scope x) ∙ minus_right x (constant_expr scope x) (h (sym (right-Minus x) ∙ right));
    Not = λ x h. through _ _ _ _ (right-Not x) (resolved-Not scope x) (right-Not (r x)) h;
    Chain = λ x parts h hs. through _ _ _ _ (right-Chain x parts) (resolved-Chain scope x parts) (right-Chain (r x) (map (resolved_part scope) parts))
        (λ right. let own = and_parts _ _ right in both _ _ (h own.0) (parts_right parts hs own.1));
    Compare = λ op x y h hs. through _ _ _ _ (right-Compare op x y) (resolved-Compare scope op x y) (right-Compare op (r x) (r y))
        (λ right. let own = and_parts _ _ right in let sides = and_parts _ _ own.1 in both _ _ own.0 (both _ _ (h sides.0) (hs sides.1)));
    All = λ xs hs. through _ _ _ _ (right-All xs) (resolved-All scope xs) (right-All (map r xs)) (all_right xs hs);
    Any = λ xs hs. through _ _ _ _ (right-Any xs) (resolved-Any scope xs) (right-Any (map r xs)) (all_right xs hs);
    If = λ x y z h hy hz. through _ _ _ _ (right-If x y z) (resolved-If scope x y z) (right-If (r x) (r y) (r z))
        (λ right. let own = and_parts _ _ right in let sides = and_parts _ _ own.1 in both _ _ (h own.0) (both _ _ (hy sides.0) (hz sides.1)));
  }

  pub resolved_right : (x : Expr) → operators_right x ≡ true → operators_right (r x) ≡ true
  resolved_right = every Stays forms
