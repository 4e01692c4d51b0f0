-- The Reads of an expression without constants, whose indices are lines, move as pieces do.
use Rattle.std.proofs.Common.{◌≡◌, ℕ, Bool, true, false, if◌then◌else◌, Option, Some, None, List, [], ◌∷◌, ◌++◌, map, ℤ, pos, refl, sym, ap, subst, ◌∙◌, append_assoc}
use Rattle.std.specs.Prelude.{flat_map, int_lt, is_some, nat_abs, neg_ℤ}
use Rattle.pts_tree.specs.declared.expr.ChainPart.{ChainPart}
use Rattle.pts_tree.specs.declared.expr.Expr.{Expr}
use Rattle.pts_tree.specs.declared.expr.Expr.TheVariants as e
use Rattle.pts_tree.specs.declared.expr.Place.{Place}
use Rattle.pts_rules.specs.Known.{Scope, constant_of}
use Rattle.pts_rules.specs.Indices.{Affine, affine_of, elements, line_of}
use Rattle.pts_rules.proofs.Elements as el
use Rattle.pts_constants.specs.Resolved.{constant_expr, minus_expr, named, number_expr, resolved_expr, resolved_part}
use Rattle.pts_constants.proofs.Resolutions as res
use Rattle.pts_code.proofs.Induction.{AllOf, AllParts, Forms, every}
use Rattle.pts_points.specs.declared.point.PointForm.TheVariants as point_forms
use Rattle.pts_points.specs.declared.space.IterationSpace.{IterationSpace}
use Rattle.pts_points.specs.Building.{line_of_index}
use Rattle.pts_points.specs.Pieces.{Along, Computed, Context, Piece, nothing, behind, sequence, served}
use Rattle.pts_points.specs.Points.{array_at, index_kind, index_of, reads_of}
use Rattle.pts_points.proofs.Each.{Each, front, back}
use Rattle.pts_points.proofs.ReadForms as forms
use Rattle.pts_points.proofs.ReadTurns.{index_shown}
use Rattle.pts_loop_points.specs.LoopPoints.{IsLine}
use Rattle.pts_loop_points.proofs.Moves.{Moves, Steady, moves_behind, moves_nothing, moves_served}

pub on_line : (names : Scope) (space : IterationSpace) (x : Expr) (c : Context) (n : ℕ) → is_some (affine_of names space.index x) ≡ true → IsLine (index_of names space x c n)
on_line names space x c n = by (affine_of names space.index x)
  where
    by : (o : Option Affine) → is_some o ≡ true
        → IsLine (elim o [
          | None ↦ Computed (record { kind = index_kind c x; first = n; expr = x })
          | Some affine ↦ Along (line_of space.first space.step space.positions affine)
        ])
    by None h = absurd cc
    by (Some affine) h = tt

module _ (scope names : Scope) (space : IterationSpace) (item : ℕ) (call : Option ℕ) (a o : ℕ) where
  abbrev r : Expr → Expr
  r = resolved_expr scope

  abbrev plain : Expr → Piece
  plain = reads_of names space

  abbrev Goes : Piece → Type 0
  Goes = Moves item call a o

  -- the index is a line without constants
  abbrev pub IsAffine : Place → Type 0
  IsAffine at = is_some (affine_of names space.index (r at.index)) ≡ true

  abbrev pub AreAffine : List Place → Type 0
  AreAffine places = Each IsAffine places

  abbrev Known : Expr → Type 0
  Known x = AreAffine (elements x) → Goes (plain (r x))

  said : (x y : Expr) (p : Piece) → r x ≡ y → plain y ≡ p → Goes p → Goes (plain (r x))
  said x y p is reads h = subst Goes (sym (ap plain is ∙ reads)) h

  none : Goes nothing
  none = moves_nothing item call a o

  together : (p q : Piece) → Goes p → Goes q → Goes (behind p q)
  together = moves_behind item call a o

  number_plain : (z : ℤ) → plain (number_expr z) ≡ nothing
  number_plain z = by_sign (int_lt z (pos 0))
    where
      by_sign : (below : Bool) → plain (if below then e.Minus (e.Number (nat_abs z)) else e.Number (nat_abs z)) ≡ nothing
      by_sign true = forms.reads-Minus names space (e.Number (nat_abs z)) ∙ forms.reads-Number names space (nat_abs z)
      by_sign false = forms.reads-Number names space (nat_abs z)

  named_plain : (name : List ℕ) (c : Option ℤ) → plain (named name c).tree ≡ nothing
  named_plain name None = forms.reads-Name names space name
  named_plain name (Some z) = number_plain z

  minus_goes : (x : Expr) (c : Option ℤ) → Known x → AreAffine (elements x) → Goes (plain (minus_expr c (r x)))
  minus_goes x None k h = subst Goes (sym (forms.reads-Minus names space (r x))) (k h)
  minus_goes x (Some z) k h = subst Goes (sym (number_plain (neg_ℤ z))) none

  -- ---- lists

  all_go : (xs : List Expr) → AllOf Known xs → AreAffine (flat_map elements xs) → Goes (sequence (map plain (map r xs)))
  all_go [] k h = none
  all_go (x ∷ xs) k h =
      together (plain (r x)) (sequence (map plain (map r xs))) (k.0 (front IsAffine (elements x) (flat_map elements xs) h))
      (all_go xs k.1 (back IsAffine (elements x) (flat_map elements xs) h))

  parts_go : (xs : List ChainPart) → AllParts Known xs → AreAffine (flat_map (λ y. elements y.operand) xs) → Goes (sequence (map (λ y. plain y.operand) (map (resolved_part scope) xs)))
  parts_go [] k h = none
  parts_go (x ∷ xs) k h =
      together (plain (r x.operand)) (sequence (map (λ y. plain y.operand) (map (resolved_part scope) xs)))
      (k.0 (front IsAffine (elements x.operand) (flat_map (λ y. elements y.operand) xs) h))
      (parts_go xs k.1 (back IsAffine (elements x.operand) (flat_map (λ y. elements y.operand) xs) h))

  -- ---- elements

  read_steady : (name : List ℕ) (x : Expr) → IsAffine (record { array = name; index = x }) → Steady (forms.read_deed names space name (r x))
  read_steady name x s =
      record {
        form = point_forms.Read;
        array = array_at names name;
        line = line_of_index names space (r x);
        same_form = λ c n. refl;
        same_array = λ c n. refl;
        same_line = λ c n. index_shown names space (r x) c n;
        on_line = λ c n. on_line names space (r x) c n s;
      }

  -- ---- forms

  same_forms : Forms Known
  same_forms = record {
    Number = λ n. λ h. said (e.Number n) (e.Number n) nothing (res.resolved-Number scope n) (forms.reads-Number names space n) none;
    True = λ h. said (e.True) e.True nothing (res.resolved-True scope) (forms.reads-True names space) none;
    False = λ h. said (e.False) e.False nothing (res.resolved-False scope) (forms.reads-False names space) none;
    Name = λ name. λ h. said (e.Name name) (named name (constant_of scope name)).tree nothing (res.resolved-Name scope name) (named_plain name (constant_of scope name)) none;
    Call = λ name xs k h.
        said (e.Call name xs) (e.Call name (map r xs)) (sequence (map plain (map r xs))) (res.resolved-Call scope name xs) (forms.reads-Call names space name (map r xs))
        (all_go xs k (subst AreAffine (el.elements-Call name xs) h));
    Element = λ name x k h.
        let all = subst AreAffine (el.elements-Element name x) h in
        said (e.Element name x) (e.Element name (r x)) (served (plain (r x)) (forms.read_deed names space name (r x))) (res.resolved-Element scope name x) (forms.reads-Element names space name (r x))
        (moves_served item call a o (plain (r x)) (forms.read_deed names space name (r x)) (k all.1) (read_steady name x all.0));
    Convert = λ to x k h.
        said (e.Convert to x) (e.Convert to (r x)) (plain (r x)) (res.resolved-Convert scope to x) (forms.reads-Convert names space to (r x)) (k (subst AreAffine (el.elements-Convert to x) h));
    Throw = λ n. λ h. said (e.Throw n) (e.Throw n) nothing (res.resolved-Throw scope n) (forms.reads-Throw names space n) none;
    Paren = λ x k h. said (e.Paren x) (e.Paren (r x)) (plain (r x)) (res.resolved-Paren scope x) (forms.reads-Paren names space (r x)) (k (subst AreAffine (el.elements-Paren x) h));
    Minus = λ x k h.
        let all = subst AreAffine (el.elements-Minus x) h in
        said (e.Minus x) (minus_expr (constant_expr scope x) (r x)) (plain (minus_expr (constant_expr scope x) (r x))) (res.resolved-Minus scope x) refl
        (minus_goes x (constant_expr scope x) k all);
    Not = λ x k h. said (e.Not x) (e.Not (r x)) (plain (r x)) (res.resolved-Not scope x) (forms.reads-Not names space (r x)) (k (subst AreAffine (el.elements-Not x) h));
    Chain = λ x parts k ks h.
        let all = subst AreAffine (el.elements-Chain x parts) h in
        let rest = flat_map (λ (y : ChainPart). elements y.operand) parts in
        let plain_rest = sequence (map (λ (y : ChainPart). plain y.operand) (map (resolved_part scope) parts)) in
        said (e.Chain x parts) (e.Chain (r x) (map (resolved_part scope) parts)) (behind (plain (r x)) plain_rest) (res.resolved-Chain scope x parts)
        (forms.reads-Chain names space (r x) (map (resolved_part scope) parts))
        (together (plain (r x)) plain_rest (k (front IsAffine (elements x) rest all)) (parts_go parts ks (back IsAffine (elements x) rest all)));
    Compare = λ op x y k l h.
        let all = subst AreAffine (el.elements-Compare op x y) h in
        said (e.Compare op x y) (e.Compare op (r x) (r y)) (behind (plain (r x)) (plain (r y))) (res.resolved-Compare scope op x y) (forms.reads-Compare names space op (r x) (r y))
        (together (plain (r x)) (plain (r y)) (k (front IsAffine (elements x) (elements y) all)) (l (back IsAffine (elements x) (elements y) all)));
    All = λ xs k h.
        said (e.All xs) (e.All (map r xs)) (sequence (map plain (map r xs))) (res.resolved-All scope xs) (forms.reads-All names space (map r xs))
        (all_go xs k (subst AreAffine (el.elements-All xs) h));
    Any = λ xs k h.
        said (e.Any xs) (e.Any (map r xs)) (sequence (map plain (map r xs))) (res.resolved-Any scope xs) (forms.reads-Any names space (map r xs))
        (all_go xs k (subst AreAffine (el.elements-Any xs) h));
    If = λ x y z k l m h.
        let all = subst AreAffine (el.elements-If x y z ∙ append_assoc (elements x) (elements y) (elements z)) h in
        let rest = back IsAffine (elements x) (elements y ++ elements z) all in
        said (e.If x y z) (e.If (r x) (r y) (r z)) (behind (plain (r x)) (behind (plain (r y)) (plain (r z)))) (res.resolved-If scope x y z) (forms.reads-If names space (r x) (r y) (r z))
        (together (plain (r x)) (behind (plain (r y)) (plain (r z))) (k (front IsAffine (elements x) (elements y ++ elements z) all))
        (together (plain (r y)) (plain (r z)) (l (front IsAffine (elements y) (elements z) rest)) (m (back IsAffine (elements y) (elements z) rest))));
  }

  pub reads_move : (x : Expr) → AreAffine (elements x) → Goes (plain (r x))
  reads_move x = every Known same_forms x
