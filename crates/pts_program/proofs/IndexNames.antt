-- The names of an index that is a line: without its constants it names the loop index alone.
use Rattle.std.proofs.Common.{◌≡◌, Bool, true, false, if◌then◌else◌, Option, Some, None, List, [], ◌∷◌, fold, map, ℤ, pos, refl, sym, ap, ◌∙◌, subst}
use Rattle.std.specs.Prelude.{flat_map, int_lt, is_some, nat_abs, neg_ℤ}
use Rattle.std.specs.Str.{bytes_eq}
use Rattle.std.proofs.lemmas.Bool.{false≢true}
use Rattle.pts_types.specs.declared.operation.ScalarOp.{ScalarOp}
use Rattle.pts_tree.specs.declared.expr.ChainPart.{ChainPart}
use Rattle.pts_tree.specs.declared.expr.Expr.{Expr}
use Rattle.pts_tree.specs.declared.expr.Expr.TheVariants as e
use Rattle.pts_rules.specs.Indices.{Affine, Reading, affine_of, affine_reading, minus_affine, name_reading, next_affine, reading}
use Rattle.pts_rules.specs.Known.{Scope, constant_of, has}
use Rattle.pts_rules.specs.Parts.{Name, expr_names, is_among}
use Rattle.pts_rules.proofs.ExprNames.{names-Chain, names-Minus, names-Name, names-Number, names-Paren}
use Rattle.pts_rules.proofs.Readings.{link, reading-All, reading-Any, reading-Call, reading-Chain, reading-Compare, reading-Convert, reading-Element, reading-False, reading-If, reading-Minus, reading-Name, reading-Not, reading-Paren, reading-Throw, reading-True}
use Rattle.pts_constants.specs.Resolved.{constant_expr, minus_expr, named, number_expr, resolved_expr, resolved_part}
use Rattle.pts_constants.proofs.Resolutions.{resolved-Chain, resolved-Minus, resolved-Name, resolved-Number, resolved-Paren}
use Rattle.pts_code.proofs.Induction.{AllParts, Forms, every}
use Rattle.pts_points.proofs.Each.{Each}
use Rattle.pts_points.proofs.Each as each

-- all names are among these
abbrev pub AreOf : List Name → List Name → Type 0
AreOf ours names = Each (λ name. is_among name ours ≡ true) names

-- a number has no names
pub number_names : (z : ℤ) → expr_names (number_expr z) ≡ []
number_names z = by_sign (int_lt z (pos 0))
  where
    by_sign : (below : Bool) → expr_names (if below then e.Minus (e.Number (nat_abs z)) else e.Number (nat_abs z)) ≡ []
    by_sign true = names-Minus (e.Number (nat_abs z)) ∙ names-Number (nat_abs z)
    by_sign false = names-Number (nat_abs z)

module _ (ours : List Name) where
  pub number_of : (z : ℤ) → AreOf ours (expr_names (number_expr z))
  number_of z = subst (AreOf ours) (sym (number_names z)) tt

  -- a name that is no constant
  pub named_of : (name : Name) (c : Option ℤ) → is_among name ours ≡ true → AreOf ours (expr_names (named name c).tree)
  named_of name None h = subst (AreOf ours) (sym (names-Name name)) (h, tt)
  named_of name (Some z) h = number_of z

  -- `-` before what has these names
  pub minus_of : (x : Expr) (c : Option ℤ) → AreOf ours (expr_names x) → AreOf ours (expr_names (minus_expr c x))
  minus_of x None h = subst (AreOf ours) (sym (names-Minus x)) h
  minus_of x (Some z) h = number_of (neg_ℤ z)

module _ (outer : Scope) (index : Option Name) (ours : List Name) (mine : (name : Name) → has (bytes_eq name) index ≡ true → is_among name ours ≡ true) where
  abbrev r : Expr → Expr
  r = resolved_expr outer

  abbrev d : Expr → Reading
  d = reading outer index

  -- a number, and what has a factor and an offset
  record IsIndex (x : Expr) : Type 0 where
    pub literal : is_some (d x).literal ≡ true → AreOf ours (expr_names (r x))
    pub affine : is_some (d x).affine ≡ true → AreOf ours (expr_names (r x))

  -- what is neither
  neither : (x : Expr) → d x ≡ affine_reading None → IsIndex x
  neither x is = record {
    literal = λ h. absurd (false≢true (sym (ap (λ (y : Reading). is_some y.literal) is) ∙ h));
    affine = λ h. absurd (false≢true (sym (ap (λ (y : Reading). is_some y.affine) is) ∙ h));
  }

  always : (x : Expr) → AreOf ours (expr_names (r x)) → IsIndex x
  always x h = record { literal = λ l. h; affine = λ l. h }

  -- what is no number by itself
  whole : (x : Expr) (a : Option Affine) → d x ≡ affine_reading a → (is_some a ≡ true → AreOf ours (expr_names (r x))) → IsIndex x
  whole x a is h = record {
    literal = λ l. absurd (false≢true (sym (ap (λ (y : Reading). is_some y.literal) is) ∙ l));
    affine = λ l. h (sym (ap (λ (y : Reading). is_some y.affine) is) ∙ l);
  }

  -- ---- names

  name_index : (name : Name) (b : Bool) (c : Option ℤ) → has (bytes_eq name) index ≡ b → constant_of outer name ≡ c → IsIndex (e.Name name)
  name_index name true c is known = always (e.Name name) (subst (λ x. AreOf ours (expr_names x)) (sym (resolved-Name outer name)) (named_of ours name (constant_of outer name) (mine name is)))
  name_index name false (Some z) is known =
      always (e.Name name) (subst (λ x. AreOf ours (expr_names x)) (sym (resolved-Name outer name ∙ ap (λ k. (named name k).tree) known)) (number_of ours z))
  name_index name false None is known = neither (e.Name name) (reading-Name outer index name ∙ (λ i. name_reading (is i) (known i)))

  -- ---- `-`

  minus_some : (z : Option ℤ) (a : Option Affine) (P : Type 0) → (is_some z ≡ true → P) → (is_some a ≡ true → P) → is_some (minus_affine z a) ≡ true → P
  minus_some (Some z) a P f g h = f refl
  minus_some None (Some a) P f g h = g refl
  minus_some None None P f g h = absurd (false≢true h)

  minus_index : (x : Expr) → IsIndex x → IsIndex (e.Minus x)
  minus_index x known =
      whole (e.Minus x) (minus_affine (d x).literal (d x).affine) (reading-Minus outer index x)
      (λ h.
      subst (λ y. AreOf ours (expr_names y)) (sym (resolved-Minus outer x))
      (minus_of ours (r x) (constant_expr outer x) (minus_some (d x).literal (d x).affine (AreOf ours (expr_names (r x))) known.literal known.affine h)))

  -- ---- chains

  -- where a sum has a factor and an offset, both sides have them
  next_some : (o : Option Affine) (op : ScalarOp) (p : Option Affine) → is_some (next_affine o (op, p)) ≡ true → (is_some o ≡ true) × (is_some p ≡ true)
  next_some None op p h = absurd (false≢true h)
  next_some (Some y) op None h = absurd (false≢true h)
  next_some (Some y) op (Some z) h = (refl, refl)

  abbrev part_names : List ChainPart → List (List Name)
  part_names parts = map (λ y. expr_names y.operand) (map (resolved_part outer) parts)

  chain_index : (o : Option Affine) (parts : List ChainPart) → AllParts IsIndex parts → is_some (fold next_affine o (map (link outer index) parts)) ≡ true
      → (is_some o ≡ true) × AreOf ours (flat_map (λ y. y) (part_names parts))
  chain_index o [] known h = (h, tt)
  chain_index o (p ∷ ps) known h =
      let rest = chain_index (next_affine o (p.op, (d p.operand).affine)) ps known.1 h in
      let here = next_some o p.op (d p.operand).affine rest.0 in
      (here.0, each.both (λ name. is_among name ours ≡ true) (expr_names (r p.operand)) (flat_map (λ y. y) (part_names ps)) (known.0.affine here.1) rest.1)

  -- ---- all forms

  forms : Forms IsIndex
  forms = record {
    Number = λ n. always (e.Number n) (subst (AreOf ours) (sym (ap expr_names (resolved-Number outer n) ∙ names-Number n)) tt);
    True = neither e.True (reading-True outer index);
    False = neither e.False (reading-False outer index);
    Name = λ name. name_index name (has (bytes_eq name) index) (constant_of outer name) refl refl;
    Call = λ name xs h. neither (e.Call name xs) (reading-Call outer index name xs);
    Element = λ name x h. neither (e.Element name x) (reading-Element outer index name x);
    Convert = λ to x h. neither (e.Convert to x) (reading-Convert outer index to x);
    Throw = λ n. neither (e.Throw n) (reading-Throw outer index n);
    Paren = λ x known.
        whole (e.Paren x) (d x).affine (reading-Paren outer index x)
        (λ h. subst (AreOf ours) (sym (ap expr_names (resolved-Paren outer x) ∙ names-Paren (r x))) (known.affine h));
    Minus = minus_index;
    Not = λ x h. neither (e.Not x) (reading-Not outer index x);
    Chain = λ x parts known rest.
        whole (e.Chain x parts) (fold next_affine (d x).affine (map (link outer index) parts)) (reading-Chain outer index x parts)
        (λ h.
        let all = chain_index (d x).affine parts rest h in
        subst (AreOf ours) (sym (ap expr_names (resolved-Chain outer x parts) ∙ names-Chain (r x) (map (resolved_part outer) parts)))
        (each.both (λ name. is_among name ours ≡ true) (expr_names (r x)) (flat_map (λ y. y) (part_names parts)) (known.affine all.0) all.1));
    Compare = λ op x y h hs. neither (e.Compare op x y) (reading-Compare outer index op x y);
    All = λ xs h. neither (e.All xs) (reading-All outer index xs);
    Any = λ xs h. neither (e.Any xs) (reading-Any outer index xs);
    If = λ x y z h hy hz. neither (e.If x y z) (reading-If outer index x y z);
  }

  -- an index with a factor and an offset has these names alone
  pub index_names : (x : Expr) → is_some (affine_of outer index x) ≡ true → AreOf ours (expr_names (resolved_expr outer x))
  index_names x h = (every IsIndex forms x).affine h
