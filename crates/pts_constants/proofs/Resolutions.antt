-- An expression without constants, form by form.
use Rattle.std.proofs.Common.{◌≡◌, ℕ, ℤ, Option, Some, None, List, [], ◌∷◌, map, refl, ap, ◌∙◌}
use Rattle.pts_types.specs.declared.value.Kind.{Kind}
use Rattle.pts_types.specs.declared.operation.ScalarOp.{ScalarOp}
use Rattle.pts_tree.specs.declared.expr.Expr.{Expr}
use Rattle.pts_tree.specs.declared.expr.Expr.TheFolds.{fold-ChainPart}
use Rattle.pts_tree.specs.declared.expr.Expr.TheVariants as e
use Rattle.pts_tree.specs.declared.expr.ChainPart.{ChainPart}
use Rattle.pts_rules.specs.Known.{Scope, constant_of}
use Rattle.pts_rules.proofs.ExprFolds.{at-Number, at-True, at-False, at-Name, at-Call, at-Element, at-Convert, at-Throw, at-Paren, at-Minus, at-Not, at-Chain, at-Compare, at-All, at-Any, at-If, at-part}
use Rattle.pts_constants.specs.Resolved.{Resolution, resolution, resolution_step, resolved_operand, resolved_expr, resolved_part, constant_expr, named, minus_expr, trees}

parts_of : (scope : Scope) (parts : List ChainPart) → map (fold-ChainPart Resolution ChainPart (resolution_step scope) resolved_operand) parts ≡ map (resolved_part scope) parts
unfolding resolution
parts_of scope [] = refl
parts_of scope (x ∷ xs) = λ i. at-part Resolution ChainPart (resolution_step scope) resolved_operand x i ∷ parts_of scope xs i

trees_of : (scope : Scope) (xs : List Expr) → trees (map (resolution scope) xs) ≡ map (resolved_expr scope) xs
trees_of scope [] = refl
trees_of scope (x ∷ xs) = λ i. resolved_expr scope x ∷ trees_of scope xs i

pub resolved-Number : (scope : Scope) (n : ℕ) → resolved_expr scope (e.Number n) ≡ e.Number n
unfolding resolution
resolved-Number scope n = ap (λ r. r.tree) (at-Number Resolution ChainPart (resolution_step scope) resolved_operand n)

pub resolved-True : (scope : Scope) → resolved_expr scope e.True ≡ e.True
unfolding resolution
resolved-True scope = ap (λ r. r.tree) (at-True Resolution ChainPart (resolution_step scope) resolved_operand)

pub resolved-False : (scope : Scope) → resolved_expr scope e.False ≡ e.False
unfolding resolution
resolved-False scope = ap (λ r. r.tree) (at-False Resolution ChainPart (resolution_step scope) resolved_operand)

pub resolved-Name : (scope : Scope) (name : List ℕ) → resolved_expr scope (e.Name name) ≡ (named name (constant_of scope name)).tree
unfolding resolution
resolved-Name scope name = ap (λ r. r.tree) (at-Name Resolution ChainPart (resolution_step scope) resolved_operand name)

pub resolved-Call : (scope : Scope) (name : List ℕ) (xs : List Expr) → resolved_expr scope (e.Call name xs) ≡ e.Call name (map (resolved_expr scope) xs)
unfolding resolution
resolved-Call scope name xs = ap (λ r. r.tree) (at-Call Resolution ChainPart (resolution_step scope) resolved_operand name xs) ∙ ap (λ ys. e.Call name ys) (trees_of scope xs)

pub resolved-Element : (scope : Scope) (name : List ℕ) (x : Expr) → resolved_expr scope (e.Element name x) ≡ e.Element name (resolved_expr scope x)
unfolding resolution
resolved-Element scope name x = ap (λ r. r.tree) (at-Element Resolution ChainPart (resolution_step scope) resolved_operand name x)

pub resolved-Convert : (scope : Scope) (to : Kind) (x : Expr) → resolved_expr scope (e.Convert to x) ≡ e.Convert to (resolved_expr scope x)
unfolding resolution
resolved-Convert scope to x = ap (λ r. r.tree) (at-Convert Resolution ChainPart (resolution_step scope) resolved_operand to x)

pub resolved-Throw : (scope : Scope) (n : ℕ) → resolved_expr scope (e.Throw n) ≡ e.Throw n
unfolding resolution
resolved-Throw scope n = ap (λ r. r.tree) (at-Throw Resolution ChainPart (resolution_step scope) resolved_operand n)

pub resolved-Paren : (scope : Scope) (x : Expr) → resolved_expr scope (e.Paren x) ≡ e.Paren (resolved_expr scope x)
unfolding resolution
resolved-Paren scope x = ap (λ r. r.tree) (at-Paren Resolution ChainPart (resolution_step scope) resolved_operand x)

pub resolved-Minus : (scope : Scope) (x : Expr) → resolved_expr scope (e.Minus x) ≡ minus_expr (constant_expr scope x) (resolved_expr scope x)
unfolding resolution
resolved-Minus scope x = ap (λ r. r.tree) (at-Minus Resolution ChainPart (resolution_step scope) resolved_operand x)

pub resolved-Not : (scope : Scope) (x : Expr) → resolved_expr scope (e.Not x) ≡ e.Not (resolved_expr scope x)
unfolding resolution
resolved-Not scope x = ap (λ r. r.tree) (at-Not Resolution ChainPart (resolution_step scope) resolved_operand x)

pub resolved-Chain : (scope : Scope) (x : Expr) (parts : List ChainPart) → resolved_expr scope (e.Chain x parts) ≡ e.Chain (resolved_expr scope x) (map (resolved_part scope) parts)
unfolding resolution
resolved-Chain scope x parts = ap (λ r. r.tree) (at-Chain Resolution ChainPart (resolution_step scope) resolved_operand x parts) ∙ ap (λ ps. e.Chain (resolved_expr scope x) ps) (parts_of scope parts)

pub resolved-Compare : (scope : Scope) (op : ScalarOp) (x y : Expr) → resolved_expr scope (e.Compare op x y) ≡ e.Compare op (resolved_expr scope x) (resolved_expr scope y)
unfolding resolution
resolved-Compare scope op x y = ap (λ r. r.tree) (at-Compare Resolution ChainPart (resolution_step scope) resolved_operand op x y)

pub resolved-All : (scope : Scope) (xs : List Expr) → resolved_expr scope (e.All xs) ≡ e.All (map (resolved_expr scope) xs)
unfolding resolution
resolved-All scope xs = ap (λ r. r.tree) (at-All Resolution ChainPart (resolution_step scope) resolved_operand xs) ∙ ap (λ ys. e.All ys) (trees_of scope xs)

pub resolved-Any : (scope : Scope) (xs : List Expr) → resolved_expr scope (e.Any xs) ≡ e.Any (map (resolved_expr scope) xs)
unfolding resolution
resolved-Any scope xs = ap (λ r. r.tree) (at-Any Resolution ChainPart (resolution_step scope) resolved_operand xs) ∙ ap (λ ys. e.Any ys) (trees_of scope xs)

pub resolved-If : (scope : Scope) (x y z : Expr) → resolved_expr scope (e.If x y z) ≡ e.If (resolved_expr scope x) (resolved_expr scope y) (resolved_expr scope z)
unfolding resolution
resolved-If scope x y z = ap (λ r. r.tree) (at-If Resolution ChainPart (resolution_step scope) resolved_operand x y z)

pub ruleset resolved_by_form = (resolved-Number, resolved-True, resolved-False, resolved-Name, resolved-Call, resolved-Element, resolved-Convert, resolved-Throw, resolved-Paren, resolved-Minus, resolved-Not, resolved-Chain, resolved-Compare, resolved-All, resolved-Any, resolved-If)

-- ---- the constant that an expression is

named_constant : (name : List ℕ) (z : Option ℤ) → (named name z).constant ≡ z
named_constant name None = refl
named_constant name (Some z) = refl

pub constant-Number : (scope : Scope) (n : ℕ) → constant_expr scope (e.Number n) ≡ None
unfolding resolution
constant-Number scope n = ap (λ r. r.constant) (at-Number Resolution ChainPart (resolution_step scope) resolved_operand n)

pub constant-True : (scope : Scope) → constant_expr scope e.True ≡ None
unfolding resolution
constant-True scope = ap (λ r. r.constant) (at-True Resolution ChainPart (resolution_step scope) resolved_operand)

pub constant-False : (scope : Scope) → constant_expr scope e.False ≡ None
unfolding resolution
constant-False scope = ap (λ r. r.constant) (at-False Resolution ChainPart (resolution_step scope) resolved_operand)

pub constant-Name : (scope : Scope) (name : List ℕ) → constant_expr scope (e.Name name) ≡ constant_of scope name
unfolding resolution
constant-Name scope name = ap (λ r. r.constant) (at-Name Resolution ChainPart (resolution_step scope) resolved_operand name) ∙ named_constant name (constant_of scope name)

pub constant-Call : (scope : Scope) (name : List ℕ) (xs : List Expr) → constant_expr scope (e.Call name xs) ≡ None
unfolding resolution
constant-Call scope name xs = ap (λ r. r.constant) (at-Call Resolution ChainPart (resolution_step scope) resolved_operand name xs)

pub constant-Element : (scope : Scope) (name : List ℕ) (x : Expr) → constant_expr scope (e.Element name x) ≡ None
unfolding resolution
constant-Element scope name x = ap (λ r. r.constant) (at-Element Resolution ChainPart (resolution_step scope) resolved_operand name x)

pub constant-Convert : (scope : Scope) (to : Kind) (x : Expr) → constant_expr scope (e.Convert to x) ≡ None
unfolding resolution
constant-Convert scope to x = ap (λ r. r.constant) (at-Convert Resolution ChainPart (resolution_step scope) resolved_operand to x)

pub constant-Throw : (scope : Scope) (n : ℕ) → constant_expr scope (e.Throw n) ≡ None
unfolding resolution
constant-Throw scope n = ap (λ r. r.constant) (at-Throw Resolution ChainPart (resolution_step scope) resolved_operand n)

pub constant-Paren : (scope : Scope) (x : Expr) → constant_expr scope (e.Paren x) ≡ None
unfolding resolution
constant-Paren scope x = ap (λ r. r.constant) (at-Paren Resolution ChainPart (resolution_step scope) resolved_operand x)

pub constant-Minus : (scope : Scope) (x : Expr) → constant_expr scope (e.Minus x) ≡ None
unfolding resolution
constant-Minus scope x = ap (λ r. r.constant) (at-Minus Resolution ChainPart (resolution_step scope) resolved_operand x)

pub constant-Not : (scope : Scope) (x : Expr) → constant_expr scope (e.Not x) ≡ None
unfolding resolution
constant-Not scope x = ap (λ r. r.constant) (at-Not Resolution ChainPart (resolution_step scope) resolved_operand x)

pub constant-Chain : (scope : Scope) (x : Expr) (parts : List ChainPart) → constant_expr scope (e.Chain x parts) ≡ None
unfolding resolution
constant-Chain scope x parts = ap (λ r. r.constant) (at-Chain Resolution ChainPart (resolution_step scope) resolved_operand x parts)

pub constant-Compare : (scope : Scope) (op : ScalarOp) (x y : Expr) → constant_expr scope (e.Compare op x y) ≡ None
unfolding resolution
constant-Compare scope op x y = ap (λ r. r.constant) (at-Compare Resolution ChainPart (resolution_step scope) resolved_operand op x y)

pub constant-All : (scope : Scope) (xs : List Expr) → constant_expr scope (e.All xs) ≡ None
unfolding resolution
constant-All scope xs = ap (λ r. r.constant) (at-All Resolution ChainPart (resolution_step scope) resolved_operand xs)

pub constant-Any : (scope : Scope) (xs : List Expr) → constant_expr scope (e.Any xs) ≡ None
unfolding resolution
constant-Any scope xs = ap (λ r. r.constant) (at-Any Resolution ChainPart (resolution_step scope) resolved_operand xs)

pub constant-If : (scope : Scope) (x y z : Expr) → constant_expr scope (e.If x y z) ≡ None
unfolding resolution
constant-If scope x y z = ap (λ r. r.constant) (at-If Resolution ChainPart (resolution_step scope) resolved_operand x y z)

pub ruleset constants_by_form = (constant-Number, constant-True, constant-False, constant-Name, constant-Call, constant-Element, constant-Convert, constant-Throw, constant-Paren, constant-Minus, constant-Not, constant-Chain, constant-Compare, constant-All, constant-Any, constant-If)
