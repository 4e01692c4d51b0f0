-- Whether the operators of an expression stand where they belong, form by form.
use Rattle.std.proofs.Common.{◌≡◌, ℕ, Bool, ◌&&◌, List, [], ◌∷◌, map, refl, ap, ◌∙◌}
use Rattle.std.specs.Prelude.{not}
use Rattle.pts_types.specs.declared.value.Kind.{Kind}
use Rattle.pts_types.specs.declared.operation.ScalarOp.{ScalarOp}
use Rattle.pts_tree.specs.declared.expr.ChainPart.{ChainPart}
use Rattle.pts_tree.specs.declared.expr.Expr.{Expr}
use Rattle.pts_tree.specs.declared.expr.Expr.TheOpen.{Expr-F, ChainPart-F}
use Rattle.pts_tree.specs.declared.expr.Expr.TheVariants as e
use Rattle.pts_tree.specs.declared.expr.Expr.TheFolds.{fold-ChainPart}
use Rattle.pts_rules.proofs.ExprFolds.{at-Number, at-True, at-False, at-Name, at-Throw, at-Call, at-Element, at-Convert, at-Paren, at-Minus, at-Not, at-Chain, at-Compare, at-All, at-Any, at-If, at-part}
use Rattle.pts_code.specs.Soundness.{is_comparison, operators_right, operators_step}

-- a part of a chain
abbrev pub part_right : ChainPart → Bool
part_right part = not (is_comparison part.op) && operators_right part.operand

abbrev part_step : ChainPart-F Bool Bool → Bool
part_step part = not (is_comparison part.op) && part.operand

parts_are : (parts : List ChainPart) → map (fold-ChainPart Bool Bool operators_step part_step) parts ≡ map part_right parts
unfolding operators_right
parts_are [] = refl
parts_are (x ∷ xs) = λ i. at-part Bool Bool operators_step part_step x i ∷ parts_are xs i

pub right-Number : (n : ℕ) → operators_right (e.Number n) ≡ operators_step (Expr-F.Number n)
unfolding operators_right
right-Number n = at-Number Bool Bool operators_step part_step n

pub right-True : operators_right e.True ≡ operators_step Expr-F.True
unfolding operators_right
right-True = at-True Bool Bool operators_step part_step

pub right-False : operators_right e.False ≡ operators_step Expr-F.False
unfolding operators_right
right-False = at-False Bool Bool operators_step part_step

pub right-Name : (name : List ℕ) → operators_right (e.Name name) ≡ operators_step (Expr-F.Name name)
unfolding operators_right
right-Name name = at-Name Bool Bool operators_step part_step name

pub right-Call : (name : List ℕ) (xs : List Expr) → operators_right (e.Call name xs) ≡ operators_step (Expr-F.Call name (map operators_right xs))
unfolding operators_right
right-Call name xs = at-Call Bool Bool operators_step part_step name xs

pub right-Element : (name : List ℕ) (x : Expr) → operators_right (e.Element name x) ≡ operators_step (Expr-F.Element name (operators_right x))
unfolding operators_right
right-Element name x = at-Element Bool Bool operators_step part_step name x

pub right-Convert : (to : Kind) (x : Expr) → operators_right (e.Convert to x) ≡ operators_step (Expr-F.Convert to (operators_right x))
unfolding operators_right
right-Convert to x = at-Convert Bool Bool operators_step part_step to x

pub right-Throw : (n : ℕ) → operators_right (e.Throw n) ≡ operators_step (Expr-F.Throw n)
unfolding operators_right
right-Throw n = at-Throw Bool Bool operators_step part_step n

pub right-Paren : (x : Expr) → operators_right (e.Paren x) ≡ operators_step (Expr-F.Paren (operators_right x))
unfolding operators_right
right-Paren x = at-Paren Bool Bool operators_step part_step x

pub right-Minus : (x : Expr) → operators_right (e.Minus x) ≡ operators_step (Expr-F.Minus (operators_right x))
unfolding operators_right
right-Minus x = at-Minus Bool Bool operators_step part_step x

pub right-Not : (x : Expr) → operators_right (e.Not x) ≡ operators_step (Expr-F.Not (operators_right x))
unfolding operators_right
right-Not x = at-Not Bool Bool operators_step part_step x

pub right-Chain : (x : Expr) (parts : List ChainPart) → operators_right (e.Chain x parts) ≡ operators_step (Expr-F.Chain (operators_right x) (map part_right parts))
unfolding operators_right
right-Chain x parts = at-Chain Bool Bool operators_step part_step x parts ∙ ap (λ ys. operators_step (Expr-F.Chain (operators_right x) ys)) (parts_are parts)

pub right-Compare : (op : ScalarOp) (x : Expr) (y : Expr) → operators_right (e.Compare op x y) ≡ operators_step (Expr-F.Compare op (operators_right x) (operators_right y))
unfolding operators_right
right-Compare op x y = at-Compare Bool Bool operators_step part_step op x y

pub right-All : (xs : List Expr) → operators_right (e.All xs) ≡ operators_step (Expr-F.All (map operators_right xs))
unfolding operators_right
right-All xs = at-All Bool Bool operators_step part_step xs

pub right-Any : (xs : List Expr) → operators_right (e.Any xs) ≡ operators_step (Expr-F.Any (map operators_right xs))
unfolding operators_right
right-Any xs = at-Any Bool Bool operators_step part_step xs

pub right-If : (x : Expr) (y : Expr) (z : Expr) → operators_right (e.If x y z) ≡ operators_step (Expr-F.If (operators_right x) (operators_right y) (operators_right z))
unfolding operators_right
right-If x y z = at-If Bool Bool operators_step part_step x y z
