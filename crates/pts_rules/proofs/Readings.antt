-- An expression as an index, form by form.
use Rattle.std.proofs.Common.{◌≡◌, ℕ, Option, List, [], ◌∷◌, map, refl, ap, ◌∙◌}
use Rattle.pts_types.specs.declared.value.Kind.{Kind}
use Rattle.pts_types.specs.declared.operation.ScalarOp.{ScalarOp}
use Rattle.pts_tree.specs.declared.expr.Expr.{Expr}
use Rattle.pts_tree.specs.declared.expr.Expr.TheOpen.{Expr-F, ChainPart-F}
use Rattle.pts_tree.specs.declared.expr.Expr.TheFolds.{fold-ChainPart}
use Rattle.pts_tree.specs.declared.expr.Expr.TheVariants as e
use Rattle.pts_tree.specs.declared.expr.ChainPart.{ChainPart}
use Rattle.pts_rules.specs.Parts.{Name}
use Rattle.pts_rules.specs.Known.{Scope}
use Rattle.pts_rules.specs.Indices.{Affine, Reading, reading, reading_step}
use Rattle.pts_rules.proofs.ExprFolds.{at-Number, at-True, at-False, at-Name, at-Call, at-Element, at-Convert, at-Throw, at-Paren, at-Minus, at-Not, at-Chain, at-Compare, at-All, at-Any, at-If, at-part}

-- a part of a chain by its operator and its operand's factor and offset
abbrev pub link : Scope → Option Name → ChainPart → ScalarOp × Option Affine
link scope index part = (part.op, (reading scope index part.operand).affine)

-- the same from what an operand is read as
abbrev link_step : ChainPart-F Reading (ScalarOp × Option Affine) → ScalarOp × Option Affine
link_step part = (part.op, part.operand.affine)

links : (scope : Scope) (index : Option Name) (parts : List ChainPart) → map (fold-ChainPart Reading (ScalarOp × Option Affine) (reading_step scope index) link_step) parts ≡ map (link scope index) parts
unfolding reading
links scope index [] = refl
links scope index (x ∷ xs) = λ i. at-part Reading (ScalarOp × Option Affine) (reading_step scope index) link_step x i ∷ links scope index xs i

pub reading-Number : (scope : Scope) (index : Option Name) (n : ℕ) → reading scope index (e.Number n) ≡ reading_step scope index (Expr-F.Number n)
unfolding reading
reading-Number scope index n = at-Number Reading (ScalarOp × Option Affine) (reading_step scope index) link_step n

pub reading-True : (scope : Scope) (index : Option Name) → reading scope index e.True ≡ reading_step scope index Expr-F.True
unfolding reading
reading-True scope index = at-True Reading (ScalarOp × Option Affine) (reading_step scope index) link_step

pub reading-False : (scope : Scope) (index : Option Name) → reading scope index e.False ≡ reading_step scope index Expr-F.False
unfolding reading
reading-False scope index = at-False Reading (ScalarOp × Option Affine) (reading_step scope index) link_step

pub reading-Name : (scope : Scope) (index : Option Name) (name : List ℕ) → reading scope index (e.Name name) ≡ reading_step scope index (Expr-F.Name name)
unfolding reading
reading-Name scope index name = at-Name Reading (ScalarOp × Option Affine) (reading_step scope index) link_step name

pub reading-Call : (scope : Scope) (index : Option Name) (name : List ℕ) (xs : List Expr) → reading scope index (e.Call name xs) ≡ reading_step scope index (Expr-F.Call name (map (reading scope index) xs))
unfolding reading
reading-Call scope index name xs = at-Call Reading (ScalarOp × Option Affine) (reading_step scope index) link_step name xs

pub reading-Element : (scope : Scope) (index : Option Name) (name : List ℕ) (x : Expr) → reading scope index (e.Element name x) ≡ reading_step scope index (Expr-F.Element name (reading scope index x))
unfolding reading
reading-Element scope index name x = at-Element Reading (ScalarOp × Option Affine) (reading_step scope index) link_step name x

pub reading-Convert : (scope : Scope) (index : Option Name) (to : Kind) (x : Expr) → reading scope index (e.Convert to x) ≡ reading_step scope index (Expr-F.Convert to (reading scope index x))
unfolding reading
reading-Convert scope index to x = at-Convert Reading (ScalarOp × Option Affine) (reading_step scope index) link_step to x

pub reading-Throw : (scope : Scope) (index : Option Name) (n : ℕ) → reading scope index (e.Throw n) ≡ reading_step scope index (Expr-F.Throw n)
unfolding reading
reading-Throw scope index n = at-Throw Reading (ScalarOp × Option Affine) (reading_step scope index) link_step n

pub reading-Paren : (scope : Scope) (index : Option Name) (x : Expr) → reading scope index (e.Paren x) ≡ reading_step scope index (Expr-F.Paren (reading scope index x))
unfolding reading
reading-Paren scope index x = at-Paren Reading (ScalarOp × Option Affine) (reading_step scope index) link_step x

pub reading-Minus : (scope : Scope) (index : Option Name) (x : Expr) → reading scope index (e.Minus x) ≡ reading_step scope index (Expr-F.Minus (reading scope index x))
unfolding reading
reading-Minus scope index x = at-Minus Reading (ScalarOp × Option Affine) (reading_step scope index) link_step x

pub reading-Not : (scope : Scope) (index : Option Name) (x : Expr) → reading scope index (e.Not x) ≡ reading_step scope index (Expr-F.Not (reading scope index x))
unfolding reading
reading-Not scope index x = at-Not Reading (ScalarOp × Option Affine) (reading_step scope index) link_step x

pub reading-Chain : (scope : Scope) (index : Option Name) (x : Expr) (parts : List ChainPart) → reading scope index (e.Chain x parts) ≡ reading_step scope index (Expr-F.Chain (reading scope index x) (map (link scope index) parts))
unfolding reading
reading-Chain scope index x parts = at-Chain Reading (ScalarOp × Option Affine) (reading_step scope index) link_step x parts ∙ ap (λ ps. reading_step scope index (Expr-F.Chain (reading scope index x) ps)) (links scope index parts)

pub reading-Compare : (scope : Scope) (index : Option Name) (op : ScalarOp) (x y : Expr) → reading scope index (e.Compare op x y) ≡ reading_step scope index (Expr-F.Compare op (reading scope index x) (reading scope index y))
unfolding reading
reading-Compare scope index op x y = at-Compare Reading (ScalarOp × Option Affine) (reading_step scope index) link_step op x y

pub reading-All : (scope : Scope) (index : Option Name) (xs : List Expr) → reading scope index (e.All xs) ≡ reading_step scope index (Expr-F.All (map (reading scope index) xs))
unfolding reading
reading-All scope index xs = at-All Reading (ScalarOp × Option Affine) (reading_step scope index) link_step xs

pub reading-Any : (scope : Scope) (index : Option Name) (xs : List Expr) → reading scope index (e.Any xs) ≡ reading_step scope index (Expr-F.Any (map (reading scope index) xs))
unfolding reading
reading-Any scope index xs = at-Any Reading (ScalarOp × Option Affine) (reading_step scope index) link_step xs

pub reading-If : (scope : Scope) (index : Option Name) (x y z : Expr) → reading scope index (e.If x y z) ≡ reading_step scope index (Expr-F.If (reading scope index x) (reading scope index y) (reading scope index z))
unfolding reading
reading-If scope index x y z = at-If Reading (ScalarOp × Option Affine) (reading_step scope index) link_step x y z

pub ruleset reading_by_form = (reading-Number, reading-True, reading-False, reading-Name, reading-Call, reading-Element, reading-Convert, reading-Throw, reading-Paren, reading-Minus, reading-Not, reading-Chain, reading-Compare, reading-All, reading-Any, reading-If)
