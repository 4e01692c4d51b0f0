-- An index that is a line reads no elements.
use Rattle.std.proofs.Common.{◌≡◌, true, Option, Some, None, List, [], ◌∷◌, ◌++◌, fold, map, ℤ, refl, sym, ap, ◌∙◌}
use Rattle.std.specs.Prelude.{flat_map, is_some}
use Rattle.std.proofs.lemmas.Bool.{false≢true}
use Rattle.pts_types.specs.declared.operation.ScalarOp.{ScalarOp}
use Rattle.pts_tree.specs.declared.expr.ChainPart.{ChainPart}
use Rattle.pts_tree.specs.declared.expr.Expr.{Expr}
use Rattle.pts_tree.specs.declared.expr.Expr.TheVariants as e
use Rattle.pts_tree.specs.declared.expr.Place.{Place}
use Rattle.pts_rules.specs.Indices.{Affine, Reading, affine_of, affine_reading, elements, minus_affine, next_affine, reading}
use Rattle.pts_rules.specs.Known.{Scope}
use Rattle.pts_rules.specs.Parts.{Name}
use Rattle.pts_rules.proofs.Elements.{elements-Chain, elements-Minus, elements-Name, elements-Number, elements-Paren}
use Rattle.pts_rules.proofs.Readings.{link, reading-All, reading-Any, reading-Call, reading-Chain, reading-Compare, reading-Convert, reading-Element, reading-False, reading-If, reading-Minus, reading-Not, reading-Paren, reading-Throw, reading-True}
use Rattle.pts_code.proofs.Induction.{AllParts, Forms, every}

module _ (scope : Scope) (index : Option Name) where
  abbrev d : Expr → Reading
  d = reading scope index

  -- a number, and what has a factor and an offset
  record ReadsNone (x : Expr) : Type 0 where
    pub literal : is_some (d x).literal ≡ true → elements x ≡ []
    pub affine : is_some (d x).affine ≡ true → elements x ≡ []

  -- what is neither
  neither : (x : Expr) → d x ≡ affine_reading None → ReadsNone x
  neither x is = record {
    literal = λ h. absurd (false≢true (sym (ap (λ (y : Reading). is_some y.literal) is) ∙ h));
    affine = λ h. absurd (false≢true (sym (ap (λ (y : Reading). is_some y.affine) is) ∙ h));
  }

  always : (x : Expr) → elements x ≡ [] → ReadsNone x
  always x h = record { literal = λ l. h; affine = λ l. h }

  -- what is no number by itself
  whole : (x : Expr) (a : Option Affine) → d x ≡ affine_reading a → (is_some a ≡ true → elements x ≡ []) → ReadsNone x
  whole x a is h = record {
    literal = λ l. absurd (false≢true (sym (ap (λ (y : Reading). is_some y.literal) is) ∙ l));
    affine = λ l. h (sym (ap (λ (y : Reading). is_some y.affine) is) ∙ l);
  }

  minus_some : (z : Option ℤ) (a : Option Affine) (P : Type 0) → (is_some z ≡ true → P) → (is_some a ≡ true → P) → is_some (minus_affine z a) ≡ true → P
  minus_some (Some z) a P f g h = f refl
  minus_some None (Some a) P f g h = g refl
  minus_some None None P f g h = absurd (false≢true h)

  -- where a sum has a factor and an offset, both sides have them
  next_some : (o : Option Affine) (op : ScalarOp) (p : Option Affine) → is_some (next_affine o (op, p)) ≡ true → (is_some o ≡ true) × (is_some p ≡ true)
  next_some None op p h = absurd (false≢true h)
  next_some (Some y) op None h = absurd (false≢true h)
  next_some (Some y) op (Some z) h = (refl, refl)

  abbrev part_elements : List ChainPart → List Place
  part_elements parts = flat_map (λ y. elements y.operand) parts

  chain_reads : (o : Option Affine) (parts : List ChainPart) → AllParts ReadsNone parts → is_some (fold next_affine o (map (link scope index) parts)) ≡ true
      → (is_some o ≡ true) × (part_elements parts ≡ [])
  chain_reads o [] known h = (h, refl)
  chain_reads o (p ∷ ps) known h =
      let rest = chain_reads (next_affine o (p.op, (d p.operand).affine)) ps known.1 h in
      let here = next_some o p.op (d p.operand).affine rest.0 in
      (here.0, (λ i. known.0.affine here.1 i ++ rest.1 i))

  forms : Forms ReadsNone
  forms = record {
    Number = λ n. always (e.Number n) (elements-Number n);
    True = neither e.True (reading-True scope index);
    False = neither e.False (reading-False scope index);
    Name = λ name. always (e.Name name) (elements-Name name);
    Call = λ name xs h. neither (e.Call name xs) (reading-Call scope index name xs);
    Element = λ name x h. neither (e.Element name x) (reading-Element scope index name x);
    Convert = λ to x h. neither (e.Convert to x) (reading-Convert scope index to x);
    Throw = λ n. neither (e.Throw n) (reading-Throw scope index n);
    Paren = λ x known. whole (e.Paren x) (d x).affine (reading-Paren scope index x) (λ h. elements-Paren x ∙ known.affine h);
    Minus = λ x known.
        whole (e.Minus x) (minus_affine (d x).literal (d x).affine) (reading-Minus scope index x)
        (λ h. elements-Minus x ∙ minus_some (d x).literal (d x).affine (elements x ≡ []) known.literal known.affine h);
    Not = λ x h. neither (e.Not x) (reading-Not scope index x);
    Chain = λ x parts known rest.
        whole (e.Chain x parts) (fold next_affine (d x).affine (map (link scope index) parts)) (reading-Chain scope index x parts)
        (λ h.
        let all = chain_reads (d x).affine parts rest h in
        elements-Chain x parts ∙ (λ i. known.affine all.0 i ++ all.1 i));
    Compare = λ op x y h hs. neither (e.Compare op x y) (reading-Compare scope index op x y);
    All = λ xs h. neither (e.All xs) (reading-All scope index xs);
    Any = λ xs h. neither (e.Any xs) (reading-Any scope index xs);
    If = λ x y z h hy hz. neither (e.If x y z) (reading-If scope index x y z);
  }

  -- an index with a factor and an offset has no elements
  pub index_reads_none : (x : Expr) → is_some (affine_of scope index x) ≡ true → elements x ≡ []
  index_reads_none x h = (every ReadsNone forms x).affine h
