-- An expression takes as many numbers as are counted.
use Rattle.std.proofs.Common.{◌≡◌, ℕ, ◌+◌, Bool, true, false, Option, Some, None, List, [], ◌∷◌, ◌++◌, length, sum, map, ℤ, refl, sym, ap, ◌∙◌, arith, length-append}
use Rattle.std.proofs.lemmas.List.Sums.{sum_by-cons}
use Rattle.pts_tree.specs.declared.expr.Expr.{Expr}
use Rattle.pts_tree.specs.declared.expr.ChainPart.{ChainPart}
use Rattle.pts_rules.specs.Counts.{reads}
use Rattle.pts_rules.proofs.ElementCounts.{reads-Number, reads-True, reads-False, reads-Name, reads-Call, reads-Element, reads-Convert, reads-Throw, reads-Paren, reads-Minus, reads-Not, reads-Chain, reads-Compare, reads-All, reads-Any, reads-If}
use Rattle.pts_code.specs.Values.{Bound, Local, Array, Function, Environment, Reads, Valuation, valuation, count, elements_of, operands, name_valuation, call_valuation, element_valuation, element_arrays, minus_valuation, inside, numbers, bound_to}
use Rattle.pts_code.proofs.Induction.{AllOf, AllParts, Forms, every}
use Rattle.pts_code.proofs.NumberForms.{numbers-Number, numbers-True, numbers-False, numbers-Name, numbers-Call, numbers-Element, numbers-Convert, numbers-Throw, numbers-Paren, numbers-Minus, numbers-Not, numbers-Chain, numbers-Compare, numbers-All, numbers-Any, numbers-If}
use Rattle.pts_code.proofs.Valuations.{valued_part, valued-Number, valued-True, valued-False, valued-Name, valued-Call, valued-Element, valued-Convert, valued-Throw, valued-Paren, valued-Minus, valued-Not, valued-Chain, valued-Compare, valued-All, valued-Any, valued-If}

sum_first : (n : ℕ) (ns : List ℕ) → sum (n ∷ ns) ≡ n + sum ns
sum_first n ns = sum_by-cons (λ (m : ℕ). m) n ns

module _ (env : Environment) (rs : Reads) where
  abbrev v : Expr → Valuation
  v = valuation env rs

  abbrev c : Expr → ℕ
  c = numbers rs.indices

  abbrev IsCounted : Expr → Type 0
  IsCounted x = count (v x) ≡ c x

  name_counted : (o : Option Bound) → count (name_valuation o) ≡ 0
  name_counted None = refl
  name_counted (Some (Local kind outcome)) = refl
  name_counted (Some (Array kind)) = refl
  name_counted (Some (Function f)) = refl

  call_counted : (o : Option Bound) (vs : List Valuation) → count (call_valuation o vs) ≡ length (elements_of vs)
  call_counted None vs = refl
  call_counted (Some (Local kind outcome)) vs = refl
  call_counted (Some (Array kind)) vs = refl
  call_counted (Some (Function f)) vs = refl

  arrays_counted : (b : Bool) (name : List ℕ) (x : Valuation) → length (element_arrays b name x) ≡ 1 + inside b (count x)
  arrays_counted true name x = omega (arith, length-append x.elements (name ∷ []))
  arrays_counted false name x = refl

  element_counted : (name : List ℕ) (o : Option Bound) (x : Valuation) → count (element_valuation rs name o x) ≡ 1 + inside rs.indices (count x)
  element_counted name None x = arrays_counted rs.indices name x
  element_counted name (Some (Local kind outcome)) x = arrays_counted rs.indices name x
  element_counted name (Some (Array kind)) x = arrays_counted rs.indices name x
  element_counted name (Some (Function f)) x = arrays_counted rs.indices name x

  minus_counted : (x : Valuation) (l : Option ℤ) → count (minus_valuation x l) ≡ count x
  minus_counted x None = refl
  minus_counted x (Some z) = refl

  pub all_counted : (xs : List Expr) → AllOf IsCounted xs → length (elements_of (map v xs)) ≡ sum (map c xs)
  all_counted [] h = refl
  all_counted (x ∷ xs) h = omega (arith, length-append (v x).elements (elements_of (map v xs)), h.0, all_counted xs h.1, sum_first (c x) (map c xs))

  pub parts_counted : (parts : List ChainPart) → AllParts IsCounted parts → length (elements_of (operands (map (valued_part env rs) parts))) ≡ sum (map (λ y. c y.operand) parts)
  parts_counted [] h = refl
  parts_counted (x ∷ xs) h =
      omega (arith, length-append (v x.operand).elements (elements_of (operands (map (valued_part env rs) xs))), h.0, parts_counted xs h.1, sum_first (c x.operand) (map (λ (y : ChainPart). c y.operand) xs))

  forms : Forms IsCounted
  forms = record {
    Number = λ n. ap count (valued-Number env rs n) ∙ sym (numbers-Number rs.indices n);
    True = ap count (valued-True env rs) ∙ sym (numbers-True rs.indices);
    False = ap count (valued-False env rs) ∙ sym (numbers-False rs.indices);
    Name = λ name. ap count (valued-Name env rs name) ∙ name_counted (bound_to env name) ∙ sym (numbers-Name rs.indices name);
    Call = λ name xs h. ap count (valued-Call env rs name xs) ∙ call_counted (bound_to env name) (map v xs) ∙ all_counted xs h ∙ sym (numbers-Call rs.indices name xs);
    Element = λ name x h.
        ap count (valued-Element env rs name x)
        ∙ element_counted name (bound_to env name) (v x)
        ∙ ap (λ n. 1 + inside rs.indices n) h
        ∙ sym (numbers-Element rs.indices name x);
    Convert = λ to x h. ap count (valued-Convert env rs to x) ∙ h ∙ sym (numbers-Convert rs.indices to x);
    Throw = λ n. ap count (valued-Throw env rs n) ∙ sym (numbers-Throw rs.indices n);
    Paren = λ x h. ap count (valued-Paren env rs x) ∙ h ∙ sym (numbers-Paren rs.indices x);
    Minus = λ x h. ap count (valued-Minus env rs x) ∙ minus_counted (v x) (v x).literal ∙ h ∙ sym (numbers-Minus rs.indices x);
    Not = λ x h. ap count (valued-Not env rs x) ∙ h ∙ sym (numbers-Not rs.indices x);
    Chain = λ x parts h hs.
        ap count (valued-Chain env rs x parts)
        ∙ length-append (v x).elements (elements_of (operands (map (valued_part env rs) parts)))
        ∙ (λ i. h i + parts_counted parts hs i)
        ∙ sym (numbers-Chain rs.indices x parts);
    Compare = λ op x y h hs. ap count (valued-Compare env rs op x y) ∙ length-append (v x).elements (v y).elements ∙ (λ i. h i + hs i) ∙ sym (numbers-Compare rs.indices op x y);
    All = λ xs h. ap count (valued-All env rs xs) ∙ all_counted xs h ∙ sym (numbers-All rs.indices xs);
    Any = λ xs h. ap count (valued-Any env rs xs) ∙ all_counted xs h ∙ sym (numbers-Any rs.indices xs);
    If = λ x y z h hy hz.
        let both : count (v x) + (count (v y) + count (v z)) ≡ c x + c y + c z = omega (arith, h, hy, hz) in
        ap count (valued-If env rs x y z)
        ∙ length-append (v x).elements ((v y).elements ++ (v z).elements)
        ∙ ap (λ n. count (v x) + n) (length-append (v y).elements (v z).elements)
        ∙ both
        ∙ sym (numbers-If rs.indices x y z);
  }

  pub counted : (x : Expr) → count (valuation env rs x) ≡ numbers rs.indices x
  counted = every IsCounted forms

  all_known : (xs : List Expr) → AllOf IsCounted xs
  all_known [] = tt
  all_known (x ∷ xs) = (counted x, all_known xs)

  all_parts_known : (xs : List ChainPart) → AllParts IsCounted xs
  all_parts_known [] = tt
  all_parts_known (x ∷ xs) = (counted x.operand, all_parts_known xs)

  pub each_counted : (xs : List Expr) → length (elements_of (map (valuation env rs) xs)) ≡ sum (map (numbers rs.indices) xs)
  each_counted xs = all_counted xs (all_known xs)

  pub each_part_counted : (xs : List ChainPart) → length (elements_of (operands (map (valued_part env rs) xs))) ≡ sum (map (λ y. numbers rs.indices y.operand) xs)
  each_part_counted xs = parts_counted xs (all_parts_known xs)

-- ---- the numbers of points

all_same : (xs : List Expr) → AllOf (λ x. numbers true x ≡ reads x) xs → map (numbers true) xs ≡ map reads xs
all_same [] h = refl
all_same (x ∷ xs) h = λ i. h.0 i ∷ all_same xs h.1 i

parts_same : (xs : List ChainPart) → AllParts (λ x. numbers true x ≡ reads x) xs → map (λ y. numbers true y.operand) xs ≡ map (λ y. reads y.operand) xs
parts_same [] h = refl
parts_same (x ∷ xs) h = λ i. h.0 i ∷ parts_same xs h.1 i

same_forms : Forms (λ x. numbers true x ≡ reads x)
same_forms = record {
  Number = λ n. numbers-Number true n ∙ sym (reads-Number n);
  True = numbers-True true ∙ sym reads-True;
  False = numbers-False true ∙ sym reads-False;
  Name = λ name. numbers-Name true name ∙ sym (reads-Name name);
  Call = λ name xs h. numbers-Call true name xs ∙ ap sum (all_same xs h) ∙ sym (reads-Call name xs);
  Element = λ name x h. numbers-Element true name x ∙ ap (λ n. 1 + n) h ∙ sym (reads-Element name x);
  Convert = λ to x h. numbers-Convert true to x ∙ h ∙ sym (reads-Convert to x);
  Throw = λ n. numbers-Throw true n ∙ sym (reads-Throw n);
  Paren = λ x h. numbers-Paren true x ∙ h ∙ sym (reads-Paren x);
  Minus = λ x h. numbers-Minus true x ∙ h ∙ sym (reads-Minus x);
  Not = λ x h. numbers-Not true x ∙ h ∙ sym (reads-Not x);
  Chain = λ x parts h hs. numbers-Chain true x parts ∙ (λ i. h i + sum (parts_same parts hs i)) ∙ sym (reads-Chain x parts);
  Compare = λ op x y h hs. numbers-Compare true op x y ∙ (λ i. h i + hs i) ∙ sym (reads-Compare op x y);
  All = λ xs h. numbers-All true xs ∙ ap sum (all_same xs h) ∙ sym (reads-All xs);
  Any = λ xs h. numbers-Any true xs ∙ ap sum (all_same xs h) ∙ sym (reads-Any xs);
  If = λ x y z h hy hz. numbers-If true x y z ∙ (λ i. h i + hy i + hz i) ∙ sym (reads-If x y z);
}

-- where the elements of an index have numbers, all elements have one
pub as_points : (x : Expr) → numbers true x ≡ reads x
as_points = every (λ x. numbers true x ≡ reads x) same_forms
