-- The Reads of an expression without constants show what those of the expression show.
use Rattle.std.proofs.Common.{◌≡◌, ℕ, Bool, true, false, if◌then◌else◌, Option, Some, None, List, [], ◌∷◌, ◌++◌, map, ℤ, pos, refl, sym, ap, subst, ◌∙◌, append_assoc}
use Rattle.std.specs.Prelude.{flat_map, int_lt, nat_abs, neg_ℤ}
use Rattle.std.proofs.lemmas.Option.{none-some}
use Rattle.pts_tree.specs.declared.expr.ChainPart.{ChainPart}
use Rattle.pts_tree.specs.declared.expr.Expr.{Expr}
use Rattle.pts_tree.specs.declared.expr.Expr.TheVariants as e
use Rattle.pts_tree.specs.declared.expr.Place.{Place}
use Rattle.pts_rules.specs.Known.{Scope, constant_of}
use Rattle.pts_rules.specs.Parts.{Name}
use Rattle.pts_rules.specs.Indices.{affine_of, elements}
use Rattle.pts_rules.proofs.Elements as el
use Rattle.pts_constants.specs.Resolved.{constant_expr, minus_expr, named, number_expr, resolved_expr, resolved_part}
use Rattle.pts_constants.proofs.Resolutions as res
use Rattle.pts_code.proofs.Induction.{AllOf, AllParts, Forms, every}
use Rattle.pts_points.specs.declared.space.IterationSpace.{IterationSpace}
use Rattle.pts_points.specs.Building.{line_along, line_of_index}
use Rattle.pts_points.specs.Lines.{no_line}
use Rattle.pts_points.specs.Pieces.{Piece, nothing, behind, sequence, served}
use Rattle.pts_points.specs.Points.{array_at, reads_of}
use Rattle.pts_points.proofs.Each.{Each, front, back}
use Rattle.pts_points.proofs.ReadForms as forms
use Rattle.pts_points.proofs.ReadTurns.{index_shown}
use Rattle.pts_steps.proofs.Alike.{Alike, AlikeDeeds, alike_behind, alike_nothing, alike_served}

-- an array has the same number, and the index is the same line without constants
pub record IsSamePlace (scope names : Scope) (index : Option Name) (at : Place) : Type 0 where
  pub array : array_at names at.array ≡ array_at scope at.array
  pub cells : affine_of names index (resolved_expr scope at.index) ≡ affine_of scope index at.index

module _ (scope names : Scope) (space : IterationSpace) where
  abbrev pub r : Expr → Expr
  r = resolved_expr scope

  abbrev pub own : Expr → Piece
  own = reads_of scope space

  abbrev pub plain : Expr → Piece
  plain = reads_of names space

  abbrev pub Same : Place → Type 0
  Same = IsSamePlace scope names space.index

  abbrev pub AreSame : List Place → Type 0
  AreSame places = Each Same places

  -- what is known of an expression: a constant has no Reads
  pub record Known (x : Expr) : Type 0 where
    pub constant : (z : ℤ) → constant_expr scope x ≡ Some z → own x ≡ nothing
    pub alike : AreSame (elements x) → Alike (plain (r x)) (own x)

  -- no constant
  never : (x : Expr) → constant_expr scope x ≡ None → (z : ℤ) → constant_expr scope x ≡ Some z → own x ≡ nothing
  never x none z some = absurd (none-some z (sym none ∙ some))

  said : (x y : Expr) (p q : Piece) → r x ≡ y → plain y ≡ p → own x ≡ q → Alike p q → Alike (plain (r x)) (own x)
  said x y p q a b c h = subst (λ z. Alike z (own x)) (sym (ap plain a ∙ b)) (subst (Alike p) (sym c) h)

  number_plain : (z : ℤ) → plain (number_expr z) ≡ nothing
  number_plain z = by_sign (int_lt z (pos 0))
    where
      by_sign : (below : Bool) → plain (if below then e.Minus (e.Number (nat_abs z)) else e.Number (nat_abs z)) ≡ nothing
      by_sign true = forms.reads-Minus names space (e.Number (nat_abs z)) ∙ forms.reads-Number names space (nat_abs z)
      by_sign false = forms.reads-Number names space (nat_abs z)

  named_plain : (name : List ℕ) (c : Option ℤ) → plain (named name c).tree ≡ nothing
  named_plain name None = forms.reads-Name names space name
  named_plain name (Some z) = number_plain z

  -- `-` before what has no constant, and before one
  minus_alike : (x : Expr) (c : Option ℤ) → constant_expr scope x ≡ c → Known x → AreSame (elements x) → Alike (plain (minus_expr c (r x))) (own x)
  minus_alike x None is k h = subst (λ p. Alike p (own x)) (sym (forms.reads-Minus names space (r x))) (k.alike h)
  minus_alike x (Some z) is k h = subst (Alike (plain (number_expr (neg_ℤ z)))) (sym (k.constant z is)) (subst (λ p. Alike p nothing) (sym (number_plain (neg_ℤ z))) alike_nothing)

  -- ---- lists

  all_alike : (xs : List Expr) → AllOf Known xs → AreSame (flat_map elements xs) → Alike (sequence (map plain (map r xs))) (sequence (map own xs))
  all_alike [] k h = alike_nothing
  all_alike (x ∷ xs) k h =
      alike_behind (plain (r x)) (own x) (sequence (map plain (map r xs))) (sequence (map own xs))
      (k.0.alike (front Same (elements x) (flat_map elements xs) h)) (all_alike xs k.1 (back Same (elements x) (flat_map elements xs) h))

  parts_alike : (xs : List ChainPart) → AllParts Known xs → AreSame (flat_map (λ y. elements y.operand) xs)
      → Alike (sequence (map (λ y. plain y.operand) (map (resolved_part scope) xs))) (sequence (map (λ y. own y.operand) xs))
  parts_alike [] k h = alike_nothing
  parts_alike (x ∷ xs) k h =
      alike_behind (plain (r x.operand)) (own x.operand) (sequence (map (λ y. plain y.operand) (map (resolved_part scope) xs))) (sequence (map (λ y. own y.operand) xs))
      (k.0.alike (front Same (elements x.operand) (flat_map (λ y. elements y.operand) xs) h)) (parts_alike xs k.1 (back Same (elements x.operand) (flat_map (λ y. elements y.operand) xs) h))

  -- ---- elements

  pub line_same : (at : Place) → Same at → line_of_index names space (r at.index) ≡ line_of_index scope space at.index
  line_same at s = ap (λ o. elim o [ None ↦ no_line | Some affine ↦ line_along space affine.factor affine.offset ]) s.cells

  read_alike : (name : List ℕ) (x : Expr) → Same (record { array = name; index = x }) → AlikeDeeds (forms.read_deed names space name (r x)) (forms.read_deed scope space name x)
  read_alike name x s =
      record {
        form = λ c d n. refl;
        array = λ c d n. s.array;
        line = λ c d n. index_shown names space (r x) c n ∙ line_same (record { array = name; index = x }) s ∙ sym (index_shown scope space x d n);
      }

  -- ---- forms

  one : (x y : Expr) → r x ≡ y → plain y ≡ nothing → own x ≡ nothing → ((z : ℤ) → constant_expr scope x ≡ Some z → own x ≡ nothing) → Known x
  one x y a b c n = record { constant = n; alike = λ h. said x y nothing nothing a b c alike_nothing }

  same_forms : Forms Known
  same_forms = record {
    Number = λ n. one (e.Number n) (e.Number n) (res.resolved-Number scope n) (forms.reads-Number names space n) (forms.reads-Number scope space n) (never (e.Number n) (res.constant-Number scope n));
    True = one e.True e.True (res.resolved-True scope) (forms.reads-True names space) (forms.reads-True scope space) (never e.True (res.constant-True scope));
    False = one e.False e.False (res.resolved-False scope) (forms.reads-False names space) (forms.reads-False scope space) (never e.False (res.constant-False scope));
    Name = λ name.
        one (e.Name name) (named name (constant_of scope name)).tree (res.resolved-Name scope name) (named_plain name (constant_of scope name)) (forms.reads-Name scope space name)
        (λ z is. forms.reads-Name scope space name);
    Call = λ name xs k. record {
      constant = never (e.Call name xs) (res.constant-Call scope name xs);
      alike = λ h.
          said (e.Call name xs) (e.Call name (map r xs)) (sequence (map plain (map r xs))) (sequence (map own xs)) (res.resolved-Call scope name xs)
          (forms.reads-Call names space name (map r xs)) (forms.reads-Call scope space name xs) (all_alike xs k (subst AreSame (el.elements-Call name xs) h));
    };
    Element = λ name x k. record {
      constant = never (e.Element name x) (res.constant-Element scope name x);
      alike = λ h.
          let all = subst AreSame (el.elements-Element name x) h in
          said (e.Element name x) (e.Element name (r x)) (served (plain (r x)) (forms.read_deed names space name (r x))) (served (own x) (forms.read_deed scope space name x)) (res.resolved-Element scope name x)
          (forms.reads-Element names space name (r x)) (forms.reads-Element scope space name x)
          (alike_served (plain (r x)) (own x) (forms.read_deed names space name (r x)) (forms.read_deed scope space name x) (k.alike all.1) (read_alike name x all.0));
    };
    Convert = λ to x k. record {
      constant = never (e.Convert to x) (res.constant-Convert scope to x);
      alike = λ h.
          said (e.Convert to x) (e.Convert to (r x)) (plain (r x)) (own x) (res.resolved-Convert scope to x)
          (forms.reads-Convert names space to (r x)) (forms.reads-Convert scope space to x) (k.alike (subst AreSame (el.elements-Convert to x) h));
    };
    Throw = λ n. one (e.Throw n) (e.Throw n) (res.resolved-Throw scope n) (forms.reads-Throw names space n) (forms.reads-Throw scope space n) (never (e.Throw n) (res.constant-Throw scope n));
    Paren = λ x k. record {
      constant = never (e.Paren x) (res.constant-Paren scope x);
      alike = λ h.
          said (e.Paren x) (e.Paren (r x)) (plain (r x)) (own x) (res.resolved-Paren scope x)
          (forms.reads-Paren names space (r x)) (forms.reads-Paren scope space x) (k.alike (subst AreSame (el.elements-Paren x) h));
    };
    Minus = λ x k. record {
      constant = never (e.Minus x) (res.constant-Minus scope x);
      alike = λ h.
          let all = subst AreSame (el.elements-Minus x) h in
          said (e.Minus x) (minus_expr (constant_expr scope x) (r x)) (plain (minus_expr (constant_expr scope x) (r x))) (own x) (res.resolved-Minus scope x)
          refl (forms.reads-Minus scope space x) (minus_alike x (constant_expr scope x) refl k all);
    };
    Not = λ x k. record {
      constant = never (e.Not x) (res.constant-Not scope x);
      alike = λ h.
          said (e.Not x) (e.Not (r x)) (plain (r x)) (own x) (res.resolved-Not scope x)
          (forms.reads-Not names space (r x)) (forms.reads-Not scope space x) (k.alike (subst AreSame (el.elements-Not x) h));
    };
    Chain = λ x parts k ks. record {
      constant = never (e.Chain x parts) (res.constant-Chain scope x parts);
      alike = λ h.
          let all = subst AreSame (el.elements-Chain x parts) h in
          let rest = flat_map (λ (y : ChainPart). elements y.operand) parts in
          let plain_rest = sequence (map (λ (y : ChainPart). plain y.operand) (map (resolved_part scope) parts)) in
          let own_rest = sequence (map (λ (y : ChainPart). own y.operand) parts) in
          said (e.Chain x parts) (e.Chain (r x) (map (resolved_part scope) parts)) (behind (plain (r x)) plain_rest) (behind (own x) own_rest) (res.resolved-Chain scope x parts)
          (forms.reads-Chain names space (r x) (map (resolved_part scope) parts)) (forms.reads-Chain scope space x parts)
          (alike_behind (plain (r x)) (own x) plain_rest own_rest (k.alike (front Same (elements x) rest all)) (parts_alike parts ks (back Same (elements x) rest all)));
    };
    Compare = λ op x y k l. record {
      constant = never (e.Compare op x y) (res.constant-Compare scope op x y);
      alike = λ h.
          let all = subst AreSame (el.elements-Compare op x y) h in
          said (e.Compare op x y) (e.Compare op (r x) (r y)) (behind (plain (r x)) (plain (r y))) (behind (own x) (own y)) (res.resolved-Compare scope op x y)
          (forms.reads-Compare names space op (r x) (r y)) (forms.reads-Compare scope space op x y)
          (alike_behind (plain (r x)) (own x) (plain (r y)) (own y) (k.alike (front Same (elements x) (elements y) all)) (l.alike (back Same (elements x) (elements y) all)));
    };
    All = λ xs k. record {
      constant = never (e.All xs) (res.constant-All scope xs);
      alike = λ h.
          said (e.All xs) (e.All (map r xs)) (sequence (map plain (map r xs))) (sequence (map own xs)) (res.resolved-All scope xs)
          (forms.reads-All names space (map r xs)) (forms.reads-All scope space xs) (all_alike xs k (subst AreSame (el.elements-All xs) h));
    };
    Any = λ xs k. record {
      constant = never (e.Any xs) (res.constant-Any scope xs);
      alike = λ h.
          said (e.Any xs) (e.Any (map r xs)) (sequence (map plain (map r xs))) (sequence (map own xs)) (res.resolved-Any scope xs)
          (forms.reads-Any names space (map r xs)) (forms.reads-Any scope space xs) (all_alike xs k (subst AreSame (el.elements-Any xs) h));
    };
    If = λ x y z k l m. record {
      constant = never (e.If x y z) (res.constant-If scope x y z);
      alike = λ h.
          let all = subst AreSame (el.elements-If x y z ∙ append_assoc (elements x) (elements y) (elements z)) h in
          let later = back Same (elements x) (elements y ++ elements z) all in
          said (e.If x y z) (e.If (r x) (r y) (r z)) (behind (plain (r x)) (behind (plain (r y)) (plain (r z)))) (behind (own x) (behind (own y) (own z))) (res.resolved-If scope x y z)
          (forms.reads-If names space (r x) (r y) (r z)) (forms.reads-If scope space x y z)
          (alike_behind (plain (r x)) (own x) (behind (plain (r y)) (plain (r z))) (behind (own y) (own z)) (k.alike (front Same (elements x) (elements y ++ elements z) all))
          (alike_behind (plain (r y)) (own y) (plain (r z)) (own z) (l.alike (front Same (elements y) (elements z) later)) (m.alike (back Same (elements y) (elements z) later))));
    };
  }

  pub reads_alike : (x : Expr) → AreSame (elements x) → Alike (plain (r x)) (own x)
  reads_alike x = (every Known same_forms x).alike
