-- What holds of every expression, from what holds of each form of it.
use Rattle.std.specs.Prelude.{⊤}
use Rattle.std.proofs.Common.{ℕ, List, [], ◌∷◌, map, sym, subst}
use Rattle.pts_types.specs.declared.value.Kind.{Kind}
use Rattle.pts_types.specs.declared.operation.ScalarOp.{ScalarOp}
use Rattle.pts_tree.specs.declared.expr.Expr.{Expr, roll-Expr}
use Rattle.pts_tree.specs.declared.expr.Expr.TheOpen.{Expr-F}
use Rattle.pts_tree.specs.declared.expr.Expr.TheVariants as e
use Rattle.pts_tree.specs.declared.expr.Expr.TheFolds.{map-Expr, ind-Expr}
use Rattle.pts_tree.specs.declared.expr.ChainPart.{ChainPart}

-- it holds of each expression of a list, and of each operand of a chain
abbrev pub AllOf : (Expr → Type 0) → List Expr → Type 0
AllOf P [] = ⊤
AllOf P (x ∷ xs) = P x × AllOf P xs

abbrev pub AllParts : (Expr → Type 0) → List ChainPart → Type 0
AllParts P [] = ⊤
AllParts P (x ∷ xs) = P x.operand × AllParts P xs

pub record Forms (P : Expr → Type 0) : Type 0 where
  pub Number : (n : ℕ) → P (e.Number n)
  pub True : P e.True
  pub False : P e.False
  pub Name : (name : List ℕ) → P (e.Name name)
  pub Call : (name : List ℕ) (xs : List Expr) → AllOf P xs → P (e.Call name xs)
  pub Element : (name : List ℕ) (x : Expr) → P x → P (e.Element name x)
  pub Convert : (to : Kind) (x : Expr) → P x → P (e.Convert to x)
  pub Throw : (n : ℕ) → P (e.Throw n)
  pub Paren : (x : Expr) → P x → P (e.Paren x)
  pub Minus : (x : Expr) → P x → P (e.Minus x)
  pub Not : (x : Expr) → P x → P (e.Not x)
  pub Chain : (x : Expr) (parts : List ChainPart) → P x → AllParts P parts → P (e.Chain x parts)
  pub Compare : (op : ScalarOp) (x y : Expr) → P x → P y → P (e.Compare op x y)
  pub All : (xs : List Expr) → AllOf P xs → P (e.All xs)
  pub Any : (xs : List Expr) → AllOf P xs → P (e.Any xs)
  pub If : (x y z : Expr) → P x → P y → P z → P (e.If x y z)

module _ (P : Expr → Type 0) where
  -- an expression, and a part of a chain, with what is known of it
  abbrev Known : Type 0
  Known = (x : Expr) × P x

  abbrev KnownPart : Type 0
  KnownPart = (x : ChainPart) × P x.operand

  all_of : (ys : List Known) → AllOf P (map (λ (y : Known). y.0) ys)
  all_of [] = tt
  all_of (y ∷ ys) = (y.1, all_of ys)

  all_parts : (ys : List KnownPart) → AllParts P (map (λ (y : KnownPart). y.0) ys)
  all_parts [] = tt
  all_parts (y ∷ ys) = (y.1, all_parts ys)

  by_form : Forms P → (y : Expr-F Known KnownPart) → P (roll-Expr (map-Expr Known KnownPart Expr ChainPart (λ z. z.0) (λ z. z.0) y))
  by_form f (Expr-F.Number n) = subst P (sym (e.rolls-Number n)) (f.Number n)
  by_form f Expr-F.True = subst P (sym e.rolls-True) f.True
  by_form f Expr-F.False = subst P (sym e.rolls-False) f.False
  by_form f (Expr-F.Name name) = subst P (sym (e.rolls-Name name)) (f.Name name)
  by_form f (Expr-F.Call name ys) = subst P (sym (e.rolls-Call name (map (λ (z : Known). z.0) ys))) (f.Call name (map (λ (z : Known). z.0) ys) (all_of ys))
  by_form f (Expr-F.Element name y) = subst P (sym (e.rolls-Element name y.0)) (f.Element name y.0 y.1)
  by_form f (Expr-F.Convert to y) = subst P (sym (e.rolls-Convert to y.0)) (f.Convert to y.0 y.1)
  by_form f (Expr-F.Throw n) = subst P (sym (e.rolls-Throw n)) (f.Throw n)
  by_form f (Expr-F.Paren y) = subst P (sym (e.rolls-Paren y.0)) (f.Paren y.0 y.1)
  by_form f (Expr-F.Minus y) = subst P (sym (e.rolls-Minus y.0)) (f.Minus y.0 y.1)
  by_form f (Expr-F.Not y) = subst P (sym (e.rolls-Not y.0)) (f.Not y.0 y.1)
  by_form f (Expr-F.Chain y ys) =
      subst P (sym (e.rolls-Chain y.0 (map (λ (z : KnownPart). z.0) ys))) (f.Chain y.0 (map (λ (z : KnownPart). z.0) ys) y.1 (all_parts ys))
  by_form f (Expr-F.Compare op y z) = subst P (sym (e.rolls-Compare op y.0 z.0)) (f.Compare op y.0 z.0 y.1 z.1)
  by_form f (Expr-F.All ys) = subst P (sym (e.rolls-All (map (λ (z : Known). z.0) ys))) (f.All (map (λ (z : Known). z.0) ys) (all_of ys))
  by_form f (Expr-F.Any ys) = subst P (sym (e.rolls-Any (map (λ (z : Known). z.0) ys))) (f.Any (map (λ (z : Known). z.0) ys) (all_of ys))
  by_form f (Expr-F.If x y z) = subst P (sym (e.rolls-If x.0 y.0 z.0)) (f.If x.0 y.0 z.0 x.1 y.1 z.1)

  -- each expression has one of the forms
  pub every : Forms P → (x : Expr) → P x
  every f = ind-Expr P (λ part. P part.operand) (λ x y is. subst (λ z. P (roll-Expr z)) is (by_form f y)) (λ x y is. subst (λ z. P z.operand) is y.operand.1)
