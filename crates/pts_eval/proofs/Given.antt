-- The value of an expression, form by form, with the numbers of its parts.
use Rattle.std.proofs.Common.{◌≡◌, ℕ, ◌+◌, true, false, Ok, Err, List, [], ◌∷◌, map, pos, ap, ◌∙◌}
use Rattle.std.specs.Prelude.{unwrap_or}
use Rattle.pts_types.specs.Arithmetic.{converted}
use Rattle.pts_types.specs.declared.operation.ScalarOp.{ScalarOp}
use Rattle.pts_types.specs.declared.value.Kind.{Kind}
use Rattle.pts_types.specs.declared.value.Kind.TheVariants as kinds
use Rattle.pts_types.specs.declared.value.Thrown.TheVariants as throws
use Rattle.pts_types.specs.declared.value.Value.TheVariants as values
use Rattle.pts_tree.specs.declared.expr.ChainPart.{ChainPart}
use Rattle.pts_tree.specs.declared.expr.Expr.{Expr}
use Rattle.pts_tree.specs.declared.expr.Expr.TheVariants as e
use Rattle.pts_code.specs.Outcomes.{and_then, inverted, from_left, all_of, any_of, choice}
use Rattle.pts_code.specs.Values.{Environment, Reads, Valuation, bound_to, call_valuation, count, element_valuation, listed, minus_valuation, name_valuation, number_value, numbers, operations, sides_kind, throw_code, truths}
use Rattle.pts_code.proofs.Counted.{counted}
use Rattle.pts_code.proofs.Valuations.{valued-Number, valued-True, valued-False, valued-Name, valued-Call, valued-Element, valued-Convert, valued-Throw, valued-Paren, valued-Minus, valued-Not, valued-Chain, valued-Compare, valued-All, valued-Any, valued-If}
use Rattle.pts_eval.specs.declared.expressions.Names.{Names}
use Rattle.pts_eval.specs.Expressions.{chosen, compared, given, names_of, part_of, valued}

module _ (names : Names) where
  abbrev env : Environment
  env = names_of names

  abbrev rs : Reads
  rs = listed names.reads.now

  -- as many numbers as are counted
  pub taken : (x : Expr) → count (valued names x) ≡ numbers false x
  taken x = counted env rs x

  pub given-Number : (kind : Kind) (first : ℕ) (n : ℕ) → given names kind first (e.Number n) ≡ Ok (number_value kind (pos n))
  given-Number kind first n = ap (λ (v : Valuation). v.value kind first) (valued-Number env rs n)

  pub given-True : (kind : Kind) (first : ℕ) → given names kind first e.True ≡ Ok (values.Bool true)
  given-True kind first = ap (λ (v : Valuation). v.value kind first) (valued-True env rs)

  pub given-False : (kind : Kind) (first : ℕ) → given names kind first e.False ≡ Ok (values.Bool false)
  given-False kind first = ap (λ (v : Valuation). v.value kind first) (valued-False env rs)

  pub given-Name : (kind : Kind) (first : ℕ) (name : List ℕ) → given names kind first (e.Name name) ≡ (name_valuation (bound_to (names_of names) name)).value kind first
  given-Name kind first name = ap (λ (v : Valuation). v.value kind first) (valued-Name env rs name)

  pub given-Call : (kind : Kind) (first : ℕ) (name : List ℕ) (xs : List Expr) → given names kind first (e.Call name xs) ≡ (call_valuation (bound_to (names_of names) name) (map (valued names) xs)).value kind first
  given-Call kind first name xs = ap (λ (v : Valuation). v.value kind first) (valued-Call env rs name xs)

  pub given-Element : (kind : Kind) (first : ℕ) (name : List ℕ) (x : Expr) → given names kind first (e.Element name x) ≡ (element_valuation (listed names.reads.now) name (bound_to (names_of names) name) (valued names x)).value kind first
  given-Element kind first name x = ap (λ (v : Valuation). v.value kind first) (valued-Element env rs name x)

  pub given-Convert : (kind : Kind) (first : ℕ) (to : Kind) (x : Expr) → given names kind first (e.Convert to x) ≡ and_then (given names (unwrap_or (valued names x).own to) first x) (converted to)
  given-Convert kind first to x = ap (λ (v : Valuation). v.value kind first) (valued-Convert env rs to x)

  pub given-Throw : (kind : Kind) (first : ℕ) (n : ℕ) → given names kind first (e.Throw n) ≡ Err (throws.Code (throw_code n))
  given-Throw kind first n = ap (λ (v : Valuation). v.value kind first) (valued-Throw env rs n)

  pub given-Paren : (kind : Kind) (first : ℕ) (x : Expr) → given names kind first (e.Paren x) ≡ given names kind first x
  given-Paren kind first x = ap (λ (v : Valuation). v.value kind first) (valued-Paren env rs x)

  pub given-Minus : (kind : Kind) (first : ℕ) (x : Expr) → given names kind first (e.Minus x) ≡ (minus_valuation (valued names x) (valued names x).literal).value kind first
  given-Minus kind first x = ap (λ (v : Valuation). v.value kind first) (valued-Minus env rs x)

  pub given-Not : (kind : Kind) (first : ℕ) (x : Expr) → given names kind first (e.Not x) ≡ and_then (given names kinds.Bool first x) (λ value. Ok (inverted value))
  given-Not kind first x = ap (λ (v : Valuation). v.value kind first) (valued-Not env rs x)

  pub given-Chain : (kind : Kind) (first : ℕ) (x : Expr) (parts : List ChainPart) → given names kind first (e.Chain x parts) ≡ from_left (given names kind first x) (operations kind (map (part_of names) parts) (first + numbers false x))
  given-Chain kind first x parts =
      ap (λ (v : Valuation). v.value kind first) (valued-Chain env rs x parts)
      ∙ ap (λ n. from_left (given names kind first x) (operations kind (map (part_of names) parts) (first + n))) (taken x)

  pub given-Compare : (kind : Kind) (first : ℕ) (op : ScalarOp) (x : Expr) (y : Expr) → given names kind first (e.Compare op x y) ≡ compared names first op x y
  given-Compare kind first op x y =
      ap (λ (v : Valuation). v.value kind first) (valued-Compare env rs op x y)
      ∙ ap (λ n. from_left (given names (sides_kind (valued names x) (valued names y)) first x) ((op, given names (sides_kind (valued names x) (valued names y)) (first + n) y) ∷ [])) (taken x)

  pub given-All : (kind : Kind) (first : ℕ) (xs : List Expr) → given names kind first (e.All xs) ≡ all_of (truths (map (valued names) xs) first)
  given-All kind first xs = ap (λ (v : Valuation). v.value kind first) (valued-All env rs xs)

  pub given-Any : (kind : Kind) (first : ℕ) (xs : List Expr) → given names kind first (e.Any xs) ≡ any_of (truths (map (valued names) xs) first)
  given-Any kind first xs = ap (λ (v : Valuation). v.value kind first) (valued-Any env rs xs)

  pub given-If : (kind : Kind) (first : ℕ) (x : Expr) (y : Expr) (z : Expr) → given names kind first (e.If x y z) ≡ chosen names kind first x y z
  given-If kind first x y z =
      ap (λ (v : Valuation). v.value kind first) (valued-If env rs x y z)
      ∙ (λ i. choice (given names kinds.Bool first x) (given names kind (first + taken x i) y) (given names kind (first + taken x i + taken y i) z))

pub ruleset given_by_form = (given-Number, given-True, given-False, given-Name, given-Call, given-Element, given-Convert, given-Throw, given-Paren, given-Minus, given-Not, given-Chain, given-Compare, given-All, given-Any, given-If)
