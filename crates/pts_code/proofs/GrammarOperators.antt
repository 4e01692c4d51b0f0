-- The operators of an expression that the grammar has stand where they belong.
use Rattle.std.proofs.Common.{◌≡◌, ℕ, Bool, true, false, ◌&&◌, IsTrue, List, [], ◌∷◌, map, refl, sym, ap, ◌∙◌, arith}
use Rattle.std.specs.Prelude.{not, is_some, nat_lt, nat_le, ◌==◌}
use Rattle.std.specs.List.{list_all}
use Rattle.std.proofs.lemmas.Bool.Decides.{nat_tests}
use Rattle.pts_types.specs.declared.operation.ScalarOp.{ScalarOp}
use Rattle.pts_types.specs.declared.operation.ScalarOp.TheVariants as ops
use Rattle.pts_tree.specs.declared.expr.ChainPart.{ChainPart}
use Rattle.pts_tree.specs.declared.expr.Expr.{Expr}
use Rattle.pts_tree.specs.declared.expr.Expr.TheVariants as e
use Rattle.pts_tree.specs.Expressions.{Shape, chain_allowed, chain_level, compare_mark, is_at, is_link, link, operator_level, shape, shape_allowed}
use Rattle.pts_tree.specs.Spelling.{has_two, is_filled}
use Rattle.pts_tree.proofs.Shapes.{shape-Call, shape-Element, shape-Convert, shape-Paren, shape-Minus, shape-Not, shape-Chain, shape-Compare, shape-All, shape-Any, shape-If, link-is}
use Rattle.pts_code.specs.Soundness.{is_comparison, operators_right}
use Rattle.pts_code.proofs.Induction.{AllOf, AllParts, Forms, every}
use Rattle.pts_code.proofs.Operators.{part_right, right-Number, right-True, right-False, right-Name, right-Throw, right-Call, right-Element, right-Convert, right-Paren, right-Minus, right-Not, right-Chain, right-Compare, right-All, right-Any, right-If}
use Rattle.pts_code.proofs.Truths.{and_left, and_right}

abbrev IsGrammatical : Expr → Type 0
IsGrammatical x = IsTrue (shape x).allowed → IsTrue (operators_right x)

both : (a b : Bool) → IsTrue a → IsTrue b → IsTrue (a && b)
both true b h g = g
both false b h g = h

-- all of them, where each that a test lets through is right
all_right : (test : Shape → Bool) → ((s : Shape) → IsTrue (test s) → IsTrue s.allowed) → (xs : List Expr) → AllOf IsGrammatical xs → IsTrue (list_all test (map shape xs)) → IsTrue (list_all (λ right. right) (map operators_right xs))
all_right test allows [] h g = refl
all_right test allows (x ∷ xs) h g =
    both (operators_right x) (list_all (λ (right : Bool). right) (map operators_right xs))
    (h.0 (allows (shape x) (and_left (test (shape x)) (list_all test (map shape xs)) g)))
    (all_right test allows xs h.1 (and_right (test (shape x)) (list_all test (map shape xs)) g))

at_allowed : (level : ℕ) (s : Shape) → IsTrue (is_at level s) → IsTrue s.allowed
at_allowed level s h = and_right (nat_le s.level level) s.allowed h

-- an operator of a level above 0 compares nothing
works : (op : ScalarOp) (level : ℕ) → IsTrue (operator_level op == level) → IsTrue (nat_lt 0 level) → not (is_comparison op) ≡ true
works ops.Less level is above = absurd (grind (arith, nat_tests))
works ops.LessEqual level is above = absurd (grind (arith, nat_tests))
works ops.Greater level is above = absurd (grind (arith, nat_tests))
works ops.GreaterEqual level is above = absurd (grind (arith, nat_tests))
works ops.Equal level is above = absurd (grind (arith, nat_tests))
works ops.NotEqual level is above = absurd (grind (arith, nat_tests))
works _ level is above = refl

not_below_zero : (n level : ℕ) → IsTrue (nat_lt n level) → IsTrue (nat_lt 0 level)
not_below_zero n level h = grind (arith, nat_tests)

links_right : (level : ℕ) → IsTrue (nat_lt 0 level) → (parts : List ChainPart) → AllParts IsGrammatical parts → IsTrue (list_all (is_link level) (map link parts)) → IsTrue (list_all (λ right. right) (map part_right parts))
links_right level above [] h g = refl
links_right level above (y ∷ ys) h g =
    let rest = list_all (is_link level) (map link ys) in
    let here : IsTrue (operator_level y.op == level && nat_lt (shape y.operand).level level && (shape y.operand).allowed) = ap (is_link level) (sym (link-is y)) ∙ and_left (is_link level (link y)) rest g in
    let first = and_left (operator_level y.op == level && nat_lt (shape y.operand).level level) (shape y.operand).allowed here in
    both (part_right y) (list_all (λ (right : Bool). right) (map part_right ys))
    (both (not (is_comparison y.op)) (operators_right y.operand) (works y.op level (and_left (operator_level y.op == level) (nat_lt (shape y.operand).level level) first) above)
    (h.0 (and_right (operator_level y.op == level && nat_lt (shape y.operand).level level) (shape y.operand).allowed here)))
    (links_right level above ys h.1 (and_right (is_link level (link y)) rest g))

allowed_is : (x : Expr) (s : Shape) → shape x ≡ s → IsTrue (shape x).allowed → IsTrue s.allowed
allowed_is x s is h = ap (λ (z : Shape). z.allowed) (sym is) ∙ h

chain_right : (x : Expr) (parts : List ChainPart) → IsGrammatical x → AllParts IsGrammatical parts → IsTrue (chain_allowed (chain_level (map link parts)) (shape x) (map link parts)) → IsTrue (operators_right x && list_all (λ right. right) (map part_right parts))
chain_right x parts h hs all =
    let level = chain_level (map link parts) in
    let links = list_all (is_link level) (map link parts) in
    let front = and_left (nat_lt (shape x).level level && (shape x).allowed) links all in
    both (operators_right x) (list_all (λ (right : Bool). right) (map part_right parts))
    (h (and_right (nat_lt (shape x).level level) (shape x).allowed front))
    (links_right level (not_below_zero (shape x).level level (and_left (nat_lt (shape x).level level) (shape x).allowed front)) parts hs (and_right (nat_lt (shape x).level level && (shape x).allowed) links all))

forms : Forms IsGrammatical
forms = record {
  Number = λ n h. right-Number n;
  True = λ h. right-True;
  False = λ h. right-False;
  Name = λ name h. right-Name name;
  Call = λ name xs h all.
      right-Call name xs ∙ all_right shape_allowed (λ s g. g) xs h (and_right (is_filled (map shape xs)) (list_all shape_allowed (map shape xs)) (allowed_is (e.Call name xs) _ (shape-Call name xs) all));
  Element = λ name x h all. right-Element name x ∙ h (allowed_is (e.Element name x) _ (shape-Element name x) all);
  Convert = λ to x h all. right-Convert to x ∙ h (allowed_is (e.Convert to x) _ (shape-Convert to x) all);
  Throw = λ n h. right-Throw n;
  Paren = λ x h all. right-Paren x ∙ h (allowed_is (e.Paren x) _ (shape-Paren x) all);
  Minus = λ x h all. right-Minus x ∙ h (at_allowed 0 (shape x) (allowed_is (e.Minus x) _ (shape-Minus x) all));
  Not = λ x h all. right-Not x ∙ h (at_allowed 0 (shape x) (allowed_is (e.Not x) _ (shape-Not x) all));
  Chain = λ x parts h hs all. right-Chain x parts ∙ chain_right x parts h hs (allowed_is (e.Chain x parts) _ (shape-Chain x parts) all);
  Compare = λ op x y h hs all.
      let own = allowed_is (e.Compare op x y) _ (shape-Compare op x y) all in
      let first = and_left (is_some (compare_mark op) && is_at 4 (shape x)) (is_at 4 (shape y)) own in
      right-Compare op x y
      ∙ both (is_comparison op) (operators_right x && operators_right y) (and_left (is_some (compare_mark op)) (is_at 4 (shape x)) first)
      (both (operators_right x) (operators_right y) (h (at_allowed 4 (shape x) (and_right (is_some (compare_mark op)) (is_at 4 (shape x)) first)))
      (hs (at_allowed 4 (shape y) (and_right (is_some (compare_mark op) && is_at 4 (shape x)) (is_at 4 (shape y)) own))));
  All = λ xs h all.
      right-All xs ∙ all_right (is_at 5) (at_allowed 5) xs h (and_right (has_two (map shape xs)) (list_all (is_at 5) (map shape xs)) (allowed_is (e.All xs) _ (shape-All xs) all));
  Any = λ xs h all.
      right-Any xs ∙ all_right (is_at 6) (at_allowed 6) xs h (and_right (has_two (map shape xs)) (list_all (is_at 6) (map shape xs)) (allowed_is (e.Any xs) _ (shape-Any xs) all));
  If = λ x y z h hy hz all.
      let own = allowed_is (e.If x y z) _ (shape-If x y z) all in
      let first = and_left (is_at 7 (shape x) && is_at 7 (shape y)) (is_at 7 (shape z)) own in
      right-If x y z
      ∙ both (operators_right x) (operators_right y && operators_right z) (h (at_allowed 7 (shape x) (and_left (is_at 7 (shape x)) (is_at 7 (shape y)) first)))
      (both (operators_right y) (operators_right z) (hy (at_allowed 7 (shape y) (and_right (is_at 7 (shape x)) (is_at 7 (shape y)) first)))
      (hz (at_allowed 7 (shape z) (and_right (is_at 7 (shape x) && is_at 7 (shape y)) (is_at 7 (shape z)) own))));
}

pub allowed_right : (x : Expr) → IsTrue (shape x).allowed → IsTrue (operators_right x)
allowed_right = every IsGrammatical forms
