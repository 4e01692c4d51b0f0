-- The elements of an expression that fits somewhere, and whose indices are lines, are those of arrays in scope.
use Rattle.std.proofs.Common.{◌≡◌, true, false, Option, Some, None, List, [], ◌∷◌, ◌++◌, map, ℤ, refl, sym, ap, ◌∙◌, subst}
use Rattle.std.specs.Prelude.{flat_map, is_none, is_some, unwrap_or}
use Rattle.std.specs.List.{list_any}
use Rattle.std.proofs.lemmas.Bool.{and_parts, or_parts, false≢true}
use Rattle.std.proofs.lemmas.List.Folds.{list_any-append}
use Rattle.std.proofs.lemmas.Option.{none-some}
use Rattle.pts_types.specs.declared.value.Kind.{Kind}
use Rattle.pts_types.specs.declared.value.Kind.TheVariants as kinds
use Rattle.pts_tree.specs.declared.expr.ChainPart.{ChainPart}
use Rattle.pts_tree.specs.declared.expr.Expr.{Expr}
use Rattle.pts_tree.specs.declared.expr.Expr.TheVariants as e
use Rattle.pts_tree.specs.declared.expr.Place.{Place}
use Rattle.pts_rules.specs.declared.meaning.Signature.{Signature}
use Rattle.pts_rules.specs.Indices.{affine_of, elements, index_not_affine}
use Rattle.pts_rules.specs.Kinds.{Typing, typing, call_typing, element_typing, minus_typing, arguments_fit, each_fits, sides_kind}
use Rattle.pts_rules.specs.Known.{Scope, function_of, kind_of_array}
use Rattle.pts_rules.specs.Parts.{Name}
use Rattle.pts_rules.proofs.Elements.{elements-All, elements-Any, elements-Call, elements-Chain, elements-Compare, elements-Convert, elements-Element, elements-False, elements-If, elements-Minus, elements-Name, elements-Not, elements-Number, elements-Paren, elements-Throw, elements-True}
use Rattle.pts_rules.proofs.Typings.{typing-Call, typing-Element, typing-Convert, typing-Paren, typing-Minus, typing-Not, typing-Chain, typing-Compare, typing-All, typing-Any, typing-If}
use Rattle.pts_code.proofs.Induction.{AllOf, AllParts, Forms, every}
use Rattle.pts_points.proofs.Each.{Each}
use Rattle.pts_points.proofs.Each as each
use Rattle.pts_loop_points.proofs.IndexElements.{index_reads_none}

-- the name is that of an array
abbrev pub IsArray : Scope → Name → Type 0
IsArray scope name = is_some (kind_of_array scope name) ≡ true

abbrev pub IsOfArray : Scope → Place → Type 0
IsOfArray scope at = IsArray scope at.array

abbrev pub AreOfArrays : Scope → List Place → Type 0
AreOfArrays scope ps = Each (IsOfArray scope) ps

there : {A : Type 0} (o : Option A) → is_none o ≡ false → is_some o ≡ true
there None h = absurd (false≢true (sym h))
there (Some x) h = refl

module _ (outer : Scope) (index : Option Name) where
  -- every index of these places is a line
  abbrev pub AreLines : List Place → Type 0
  AreLines ps = list_any (index_not_affine outer index) ps ≡ false

  pub lines_front : (xs ys : List Place) → AreLines (xs ++ ys) → AreLines xs
  lines_front xs ys h = (or_parts _ _ (sym (list_any-append (index_not_affine outer index) xs ys) ∙ h)).0

  pub lines_back : (xs ys : List Place) → AreLines (xs ++ ys) → AreLines ys
  lines_back xs ys h = (or_parts (list_any (index_not_affine outer index) xs) _ (sym (list_any-append (index_not_affine outer index) xs ys) ∙ h)).1

  -- the index of the first of these places has no elements
  pub first_index : (at : Place) (xs : List Place) → AreLines (at ∷ xs) → elements at.index ≡ []
  first_index at xs h =
      index_reads_none outer index at.index
      (there (affine_of outer index at.index) (or_parts (index_not_affine outer index at) (list_any (index_not_affine outer index) xs) h).0)

  module _ (scope : Scope) where
    abbrev t : Expr → Typing
    t = typing true scope

    -- a number by itself, and what fits somewhere
    record HasArrays (x : Expr) : Type 0 where
      pub literal : (z : ℤ) → (t x).literal ≡ Some z → elements x ≡ []
      pub fits : (asked : Kind) → (t x).fits asked ≡ true → AreLines (elements x) → AreOfArrays scope (elements x)

    always : (x : Expr) → elements x ≡ [] → HasArrays x
    always x none = record { literal = λ z l. none; fits = λ asked l lines. subst (AreOfArrays scope) (sym none) tt }

    -- what is no number by itself, through its elements
    made : (x : Expr) (a : Typing) (ps : List Place) → t x ≡ a → a.literal ≡ None → elements x ≡ ps
        → ((asked : Kind) → a.fits asked ≡ true → AreLines ps → AreOfArrays scope ps) → HasArrays x
    made x a ps was bare at h = record {
      literal = λ z l. absurd (none-some z (sym bare ∙ sym (ap (λ (y : Typing). y.literal) was) ∙ l));
      fits = λ asked fit lines. subst (AreOfArrays scope) (sym at) (h asked (sym (ap (λ (y : Typing). y.fits asked) was) ∙ fit) (subst AreLines at lines));
    }

    both : (xs ys : List Place) → AreOfArrays scope xs → AreOfArrays scope ys → AreOfArrays scope (xs ++ ys)
    both xs ys = each.both (IsOfArray scope) xs ys

    -- ---- lists

    arguments_arrays : (asked : List Kind) (xs : List Expr) → AllOf HasArrays xs → arguments_fit asked (map t xs) ≡ true → AreLines (flat_map elements xs) → AreOfArrays scope (flat_map elements xs)
    arguments_arrays [] [] known h lines = tt
    arguments_arrays [] (x ∷ xs) known h lines = absurd (false≢true h)
    arguments_arrays (kind ∷ asked) [] known h lines = tt
    arguments_arrays (kind ∷ asked) (x ∷ xs) known h lines =
        let parts = and_parts ((t x).fits kind) (arguments_fit asked (map t xs)) h in
        both (elements x) (flat_map elements xs) (known.0.fits kind parts.0 (lines_front (elements x) (flat_map elements xs) lines))
        (arguments_arrays asked xs known.1 parts.1 (lines_back (elements x) (flat_map elements xs) lines))

    each_arrays : (asked : Kind) (xs : List Expr) → AllOf HasArrays xs → each_fits asked (map t xs) ≡ true → AreLines (flat_map elements xs) → AreOfArrays scope (flat_map elements xs)
    each_arrays asked [] known h lines = tt
    each_arrays asked (x ∷ xs) known h lines =
        let parts = and_parts ((t x).fits asked) (each_fits asked (map t xs)) h in
        both (elements x) (flat_map elements xs) (known.0.fits asked parts.0 (lines_front (elements x) (flat_map elements xs) lines))
        (each_arrays asked xs known.1 parts.1 (lines_back (elements x) (flat_map elements xs) lines))

    abbrev part_elements : List ChainPart → List Place
    part_elements parts = flat_map (λ y. elements y.operand) parts

    parts_arrays : (asked : Kind) (parts : List ChainPart) → AllParts HasArrays parts → each_fits asked (map (λ y. t y.operand) parts) ≡ true → AreLines (part_elements parts) → AreOfArrays scope (part_elements parts)
    parts_arrays asked [] known h lines = tt
    parts_arrays asked (y ∷ ys) known h lines =
        let parts = and_parts ((t y.operand).fits asked) (each_fits asked (map (λ z. t z.operand) ys)) h in
        both (elements y.operand) (part_elements ys) (known.0.fits asked parts.0 (lines_front (elements y.operand) (part_elements ys) lines))
        (parts_arrays asked ys known.1 parts.1 (lines_back (elements y.operand) (part_elements ys) lines))

    -- ---- calls, elements and `-`

    called : (name : Name) (xs : List Expr) (o : Option Signature) → function_of scope name ≡ o → AllOf HasArrays xs → HasArrays (e.Call name xs)
    called name xs None is known =
        made (e.Call name xs) (call_typing None (map t xs)) _ (typing-Call true scope name xs ∙ ap (λ f. call_typing f (map t xs)) is) refl (elements-Call name xs) (λ asked h lines. absurd (false≢true h))
    called name xs (Some f) is known =
        made (e.Call name xs) (call_typing (Some f) (map t xs)) _ (typing-Call true scope name xs ∙ ap (λ f. call_typing f (map t xs)) is) refl (elements-Call name xs)
        (λ asked h lines. arguments_arrays f.params xs known (and_parts _ _ h).1 lines)

    element_arrays : (name : Name) (x : Expr) (o : Option Kind) → kind_of_array scope name ≡ o → HasArrays (e.Element name x)
    element_arrays name x None is =
        made (e.Element name x) (element_typing true None) _ (typing-Element true scope name x ∙ ap (element_typing true) is) refl (elements-Element name x) (λ asked h lines. absurd (false≢true h))
    element_arrays name x (Some kind) is =
        made (e.Element name x) (element_typing true (Some kind)) _ (typing-Element true scope name x ∙ ap (element_typing true) is) refl (elements-Element name x)
        (λ asked h lines. (ap is_some is, subst (AreOfArrays scope) (sym (first_index (record { array = name; index = x }) (elements x) lines)) tt))

    minus_arrays : (x : Expr) (o : Option ℤ) → (t x).literal ≡ o → HasArrays x → HasArrays (e.Minus x)
    minus_arrays x (Some z) is known = always (e.Minus x) (elements-Minus x ∙ known.literal z is)
    minus_arrays x None is known =
        made (e.Minus x) (minus_typing (t x) None) _ (typing-Minus true scope x ∙ ap (minus_typing (t x)) is) refl (elements-Minus x) (λ asked h lines. known.fits kinds.I64 (and_parts _ _ h).1 lines)

    -- ---- all forms

    forms : Forms HasArrays
    forms = record {
      Number = λ n. always (e.Number n) (elements-Number n);
      True = always e.True elements-True;
      False = always e.False elements-False;
      Name = λ name. always (e.Name name) (elements-Name name);
      Call = λ name xs known. called name xs (function_of scope name) refl known;
      Element = λ name x known. element_arrays name x (kind_of_array scope name) refl;
      Convert = λ to x known.
          made (e.Convert to x) _ _ (typing-Convert true scope to x) refl (elements-Convert to x) (λ asked h lines. known.fits (unwrap_or (t x).own to) (and_parts _ _ h).1 lines);
      Throw = λ n. always (e.Throw n) (elements-Throw n);
      Paren = λ x known. made (e.Paren x) _ _ (typing-Paren true scope x) refl (elements-Paren x) (λ asked h lines. known.fits asked h lines);
      Minus = λ x known. minus_arrays x (t x).literal refl known;
      Not = λ x known. made (e.Not x) _ _ (typing-Not true scope x) refl (elements-Not x) (λ asked h lines. known.fits kinds.Bool (and_parts _ _ h).1 lines);
      Chain = λ x parts known rest.
          made (e.Chain x parts) _ _ (typing-Chain true scope x parts) refl (elements-Chain x parts)
          (λ asked h lines.
          let all = and_parts ((t x).fits asked) (each_fits asked (map (λ z. t z.operand) parts)) (and_parts _ _ h).1 in
          both (elements x) (part_elements parts) (known.fits asked all.0 (lines_front (elements x) (part_elements parts) lines))
          (parts_arrays asked parts rest all.1 (lines_back (elements x) (part_elements parts) lines)));
      Compare = λ op x y known other.
          made (e.Compare op x y) _ _ (typing-Compare true scope op x y) refl (elements-Compare op x y)
          (λ asked h lines.
          let kind = sides_kind (t x) (t y) in
          let right = and_parts _ _ (and_parts _ _ h).1 in
          both (elements x) (elements y) (known.fits kind (and_parts _ _ right.0).1 (lines_front (elements x) (elements y) lines)) (other.fits kind right.1 (lines_back (elements x) (elements y) lines)));
      All = λ xs known.
          made (e.All xs) _ _ (typing-All true scope xs) refl (elements-All xs) (λ asked h lines. each_arrays kinds.Bool xs known (and_parts _ _ h).1 lines);
      Any = λ xs known.
          made (e.Any xs) _ _ (typing-Any true scope xs) refl (elements-Any xs) (λ asked h lines. each_arrays kinds.Bool xs known (and_parts _ _ h).1 lines);
      If = λ x y z known hy hz.
          made (e.If x y z) _ _ (typing-If true scope x y z) refl (elements-If x y z)
          (λ asked h lines.
          let right = and_parts _ _ h in
          let left = and_parts _ _ right.0 in
          let front = lines_front (elements x ++ elements y) (elements z) lines in
          both (elements x ++ elements y) (elements z)
          (both (elements x) (elements y) (known.fits kinds.Bool left.0 (lines_front (elements x) (elements y) front)) (hy.fits asked left.1 (lines_back (elements x) (elements y) front)))
          (hz.fits asked right.1 (lines_back (elements x ++ elements y) (elements z) lines)));
    }

    -- an expression that fits somewhere, and whose indices are lines
    pub fitting_arrays : (kind : Kind) (x : Expr) → (typing true scope x).fits kind ≡ true → AreLines (elements x) → AreOfArrays scope (elements x)
    fitting_arrays kind x h lines = (every HasArrays forms x).fits kind h lines
