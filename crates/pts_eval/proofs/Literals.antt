-- Which expressions are literal numbers: a number alone, since names stand for no constants.
use Rattle.std.proofs.Common.{◌≡◌, ℕ, Option, Some, None, List, map, pos, ℤ, refl, ap, ◌∙◌}
use Rattle.pts_types.specs.declared.value.Kind.{Kind}
use Rattle.pts_types.specs.declared.operation.ScalarOp.{ScalarOp}
use Rattle.pts_tree.specs.declared.expr.ChainPart.{ChainPart}
use Rattle.pts_tree.specs.declared.expr.Expr.{Expr}
use Rattle.pts_tree.specs.declared.expr.Expr.TheVariants as e
use Rattle.pts_rules.specs.Parts.{Name}
use Rattle.pts_code.specs.Values.{Bound, Local, Array, Function, Environment, Reads, Valuation, bound_to, call_valuation, element_valuation, minus_valuation, name_valuation, valuation}
use Rattle.pts_code.proofs.Valuations.{valued-Number, valued-True, valued-False, valued-Name, valued-Call, valued-Element, valued-Convert, valued-Throw, valued-Paren, valued-Minus, valued-Not, valued-Chain, valued-Compare, valued-All, valued-Any, valued-If}

module _ (env : Environment) (rs : Reads) where
  abbrev number : Valuation → Option ℤ
  number v = v.literal

  no_name : (o : Option Bound) → number (name_valuation o) ≡ None
  no_name None = refl
  no_name (Some (Local kind outcome)) = refl
  no_name (Some (Array kind)) = refl
  no_name (Some (Function f)) = refl

  no_call : (o : Option Bound) (xs : List Valuation) → number (call_valuation o xs) ≡ None
  no_call None xs = refl
  no_call (Some (Local kind outcome)) xs = refl
  no_call (Some (Array kind)) xs = refl
  no_call (Some (Function f)) xs = refl

  no_element : (name : Name) (o : Option Bound) (x : Valuation) → number (element_valuation rs name o x) ≡ None
  no_element name None x = refl
  no_element name (Some (Local kind outcome)) x = refl
  no_element name (Some (Array kind)) x = refl
  no_element name (Some (Function f)) x = refl

  no_minus : (x : Valuation) (l : Option ℤ) → number (minus_valuation x l) ≡ None
  no_minus x None = refl
  no_minus x (Some z) = refl

  pub literal-Number : (n : ℕ) → (valuation env rs (e.Number n)).literal ≡ Some (pos n)
  literal-Number n = ap number (valued-Number env rs n)

  pub literal-True : (valuation env rs e.True).literal ≡ None
  literal-True = ap number (valued-True env rs)

  pub literal-False : (valuation env rs e.False).literal ≡ None
  literal-False = ap number (valued-False env rs)

  pub literal-Name : (name : Name) → (valuation env rs (e.Name name)).literal ≡ None
  literal-Name name = ap number (valued-Name env rs name) ∙ no_name (bound_to env name)

  pub literal-Call : (name : Name) (xs : List Expr) → (valuation env rs (e.Call name xs)).literal ≡ None
  literal-Call name xs = ap number (valued-Call env rs name xs) ∙ no_call (bound_to env name) (map (valuation env rs) xs)

  pub literal-Element : (name : Name) (x : Expr) → (valuation env rs (e.Element name x)).literal ≡ None
  literal-Element name x = ap number (valued-Element env rs name x) ∙ no_element name (bound_to env name) (valuation env rs x)

  pub literal-Convert : (to : Kind) (x : Expr) → (valuation env rs (e.Convert to x)).literal ≡ None
  literal-Convert to x = ap number (valued-Convert env rs to x)

  pub literal-Throw : (n : ℕ) → (valuation env rs (e.Throw n)).literal ≡ None
  literal-Throw n = ap number (valued-Throw env rs n)

  pub literal-Paren : (x : Expr) → (valuation env rs (e.Paren x)).literal ≡ None
  literal-Paren x = ap number (valued-Paren env rs x)

  pub literal-Minus : (x : Expr) → (valuation env rs (e.Minus x)).literal ≡ None
  literal-Minus x = ap number (valued-Minus env rs x) ∙ no_minus (valuation env rs x) (valuation env rs x).literal

  pub literal-Not : (x : Expr) → (valuation env rs (e.Not x)).literal ≡ None
  literal-Not x = ap number (valued-Not env rs x)

  pub literal-Chain : (x : Expr) (parts : List ChainPart) → (valuation env rs (e.Chain x parts)).literal ≡ None
  literal-Chain x parts = ap number (valued-Chain env rs x parts)

  pub literal-Compare : (op : ScalarOp) (x y : Expr) → (valuation env rs (e.Compare op x y)).literal ≡ None
  literal-Compare op x y = ap number (valued-Compare env rs op x y)

  pub literal-All : (xs : List Expr) → (valuation env rs (e.All xs)).literal ≡ None
  literal-All xs = ap number (valued-All env rs xs)

  pub literal-Any : (xs : List Expr) → (valuation env rs (e.Any xs)).literal ≡ None
  literal-Any xs = ap number (valued-Any env rs xs)

  pub literal-If : (x y z : Expr) → (valuation env rs (e.If x y z)).literal ≡ None
  literal-If x y z = ap number (valued-If env rs x y z)

pub ruleset literal_by_form = (literal-Number, literal-True, literal-False, literal-Name, literal-Call, literal-Element, literal-Convert, literal-Throw, literal-Paren, literal-Minus, literal-Not, literal-Chain, literal-Compare, literal-All, literal-Any, literal-If)
