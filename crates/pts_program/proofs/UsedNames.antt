-- The names of an expression that fits somewhere and whose indices are lines: without its constants they are those of values,
-- functions and arrays.
use Rattle.std.proofs.Common.{◌≡◌, true, false, Option, Some, None, List, [], ◌∷◌, ◌++◌, map, option_map, option_and_then, ℤ, refl, sym, ap, ◌∙◌, subst}
use Rattle.std.specs.Prelude.{flat_map, is_none, is_some, unwrap_or}
use Rattle.std.specs.Str.{bytes_eq}
use Rattle.std.specs.List.{list_any}
use Rattle.std.proofs.lemmas.Bool.{and_parts, or_parts, false≢true}
use Rattle.std.proofs.lemmas.List.Folds.{list_any-append}
use Rattle.std.proofs.lemmas.Option.{none-some}
use Rattle.pts_types.specs.declared.value.Kind.{Kind}
use Rattle.pts_types.specs.declared.value.Kind.TheVariants as kinds
use Rattle.pts_tree.specs.declared.expr.ChainPart.{ChainPart}
use Rattle.pts_tree.specs.declared.expr.Expr.{Expr}
use Rattle.pts_tree.specs.declared.expr.Expr.TheVariants as e
use Rattle.pts_tree.specs.declared.expr.Place.{Place}
use Rattle.pts_rules.specs.declared.meaning.Meaning.{Meaning}
use Rattle.pts_rules.specs.declared.meaning.Meaning.TheVariants.{Constant, Array, Function, Value, View}
use Rattle.pts_rules.specs.declared.meaning.Signature.{Signature}
use Rattle.pts_rules.specs.Indices.{affine_of, elements, index_not_affine}
use Rattle.pts_rules.specs.Kinds.{Typing, typing, name_typing, call_typing, element_typing, minus_typing, arguments_fit, each_fits, sides_kind}
use Rattle.pts_rules.specs.Known.{Scope, as_array, as_function, constant_of, has, meaning_of}
use Rattle.pts_rules.specs.Parts.{Name, expr_names, is_among}
use Rattle.pts_rules.proofs.Elements.{elements-All, elements-Any, elements-Call, elements-Chain, elements-Compare, elements-Convert, elements-Element, elements-If, elements-Minus, elements-Not, elements-Paren}
use Rattle.pts_rules.proofs.ExprNames.{names-All, names-Any, names-Call, names-Chain, names-Compare, names-Convert, names-Element, names-False, names-If, names-Not, names-Number, names-Paren, names-Throw, names-True}
use Rattle.pts_rules.proofs.Typings.{typing-Name, typing-Call, typing-Element, typing-Convert, typing-Paren, typing-Minus, typing-Not, typing-Chain, typing-Compare, typing-All, typing-Any, typing-If}
use Rattle.pts_constants.specs.Resolved.{constant_expr, named, resolved_expr, resolved_part}
use Rattle.pts_constants.proofs.Resolutions.{resolved-All, resolved-Any, resolved-Call, resolved-Chain, resolved-Compare, resolved-Convert, resolved-Element, resolved-False, resolved-If, resolved-Minus, resolved-Name, resolved-Not, resolved-Number, resolved-Paren, resolved-Throw, resolved-True}
use Rattle.pts_code.proofs.Induction.{AllOf, AllParts, Forms, every}
use Rattle.pts_points.proofs.Each.{Each}
use Rattle.pts_points.proofs.Each as each
use Rattle.pts_program.proofs.IndexNames.{AreOf, index_names, minus_of, named_of, number_of}

-- the constants of a scope are those of an outer one, and its other names are among these
pub record Owns (scope outer : Scope) (ours : List Name) : Type 0 where
  pub constants : (name : Name) (z : ℤ) → meaning_of scope name ≡ Some (Constant z) → constant_of outer name ≡ Some z
  pub values : (name : Name) (kind : Kind) → meaning_of scope name ≡ Some (Value kind) → is_among name ours ≡ true
  pub views : (name : Name) (kind : Kind) → meaning_of scope name ≡ Some (View kind) → is_among name ours ≡ true
  pub functions : (name : Name) (f : Signature) → meaning_of scope name ≡ Some (Function f) → is_among name ours ≡ true
  pub arrays : (name : Name) (kind : Kind) (size : ℤ) → meaning_of scope name ≡ Some (Array kind size) → is_among name ours ≡ true

module _ (outer : Scope) (index : Option Name) (ours : List Name) (mine : (name : Name) → has (bytes_eq name) index ≡ true → is_among name ours ≡ true) where
  -- every index of these places is a line
  abbrev pub AreLines : List Place → Type 0
  AreLines ps = list_any (index_not_affine outer index) ps ≡ false

  pub lines_front : (xs ys : List Place) → AreLines (xs ++ ys) → AreLines xs
  lines_front xs ys h = (or_parts _ _ (sym (list_any-append (index_not_affine outer index) xs ys) ∙ h)).0

  pub lines_back : (xs ys : List Place) → AreLines (xs ++ ys) → AreLines ys
  lines_back xs ys h = (or_parts (list_any (index_not_affine outer index) xs) _ (sym (list_any-append (index_not_affine outer index) xs ys) ∙ h)).1

  there : {A : Type 0} (o : Option A) → is_none o ≡ false → is_some o ≡ true
  there None h = absurd (false≢true (sym h))
  there (Some x) h = refl

  -- the names of the first index of these places
  pub line_names : (x : Place) (xs : List Place) → AreLines (x ∷ xs) → AreOf ours (expr_names (resolved_expr outer x.index))
  line_names x xs h =
      index_names outer index ours mine x.index
      (there (affine_of outer index x.index) (or_parts (index_not_affine outer index x) (list_any (index_not_affine outer index) xs) h).0)

  module _ (scope : Scope) (owns : Owns scope outer ours) where
    abbrev t : Expr → Typing
    t = typing true scope

    abbrev r : Expr → Expr
    r = resolved_expr outer

    -- a number by itself, and what fits somewhere
    record HasOurs (x : Expr) : Type 0 where
      pub literal : (z : ℤ) → (t x).literal ≡ Some z → AreOf ours (expr_names (r x))
      pub fits : (asked : Kind) → (t x).fits asked ≡ true → AreLines (elements x) → AreOf ours (expr_names (r x))

    always : (x : Expr) → AreOf ours (expr_names (r x)) → HasOurs x
    always x h = record { literal = λ z l. h; fits = λ asked l lines. h }

    -- what is no number by itself, through its names
    made : (x : Expr) (a : Typing) (names : List Name) (ps : List Place) → t x ≡ a → a.literal ≡ None → expr_names (r x) ≡ names → elements x ≡ ps
        → ((asked : Kind) → a.fits asked ≡ true → AreLines ps → AreOf ours names) → HasOurs x
    made x a names ps was bare is at h = record {
      literal = λ z l. absurd (none-some z (sym bare ∙ sym (ap (λ (y : Typing). y.literal) was) ∙ l));
      fits = λ asked fit lines. subst (AreOf ours) (sym is) (h asked (sym (ap (λ (y : Typing). y.fits asked) was) ∙ fit) (subst AreLines at lines));
    }

    nowhere : (x : Expr) (a : Typing) → t x ≡ a → a.literal ≡ None → ((asked : Kind) → a.fits asked ≡ true → ⊥) → HasOurs x
    nowhere x a was bare never = record {
      literal = λ z l. absurd (none-some z (sym bare ∙ sym (ap (λ (y : Typing). y.literal) was) ∙ l));
      fits = λ asked fit lines. absurd (never asked (sym (ap (λ (y : Typing). y.fits asked) was) ∙ fit));
    }

    -- ---- names

    name_ours : (name : Name) (o : Option Meaning) → meaning_of scope name ≡ o → HasOurs (e.Name name)
    name_ours name None is = nowhere (e.Name name) (name_typing None) (typing-Name true scope name ∙ ap name_typing is) refl (λ asked h. false≢true h)
    name_ours name (Some (Constant z)) is =
        always (e.Name name) (subst (λ x. AreOf ours (expr_names x)) (sym (resolved-Name outer name ∙ ap (λ c. (named name c).tree) (owns.constants name z is))) (number_of ours z))
    name_ours name (Some (Array kind size)) is = nowhere (e.Name name) (name_typing (Some (Array kind size))) (typing-Name true scope name ∙ ap name_typing is) refl (λ asked h. false≢true h)
    name_ours name (Some (Function f)) is = nowhere (e.Name name) (name_typing (Some (Function f))) (typing-Name true scope name ∙ ap name_typing is) refl (λ asked h. false≢true h)
    name_ours name (Some (Value kind)) is =
        always (e.Name name) (subst (λ x. AreOf ours (expr_names x)) (sym (resolved-Name outer name)) (named_of ours name (constant_of outer name) (owns.values name kind is)))
    name_ours name (Some (View kind)) is = nowhere (e.Name name) (name_typing (Some (View kind))) (typing-Name true scope name ∙ ap name_typing is) refl (λ asked h. false≢true h)

    -- ---- lists

    abbrev names_in : List Expr → List Name
    names_in xs = flat_map (λ y. y) (map expr_names (map r xs))

    arguments_ours : (asked : List Kind) (xs : List Expr) → AllOf HasOurs xs → arguments_fit asked (map t xs) ≡ true → AreLines (flat_map elements xs) → AreOf ours (names_in xs)
    arguments_ours [] [] known h lines = tt
    arguments_ours [] (x ∷ xs) known h lines = absurd (false≢true h)
    arguments_ours (kind ∷ asked) [] known h lines = tt
    arguments_ours (kind ∷ asked) (x ∷ xs) known h lines =
        let parts = and_parts ((t x).fits kind) (arguments_fit asked (map t xs)) h in
        each.both (λ name. is_among name ours ≡ true) (expr_names (r x)) (names_in xs) (known.0.fits kind parts.0 (lines_front (elements x) (flat_map elements xs) lines))
        (arguments_ours asked xs known.1 parts.1 (lines_back (elements x) (flat_map elements xs) lines))

    each_ours : (asked : Kind) (xs : List Expr) → AllOf HasOurs xs → each_fits asked (map t xs) ≡ true → AreLines (flat_map elements xs) → AreOf ours (names_in xs)
    each_ours asked [] known h lines = tt
    each_ours asked (x ∷ xs) known h lines =
        let parts = and_parts ((t x).fits asked) (each_fits asked (map t xs)) h in
        each.both (λ name. is_among name ours ≡ true) (expr_names (r x)) (names_in xs) (known.0.fits asked parts.0 (lines_front (elements x) (flat_map elements xs) lines))
        (each_ours asked xs known.1 parts.1 (lines_back (elements x) (flat_map elements xs) lines))

    abbrev part_names : List ChainPart → List Name
    part_names parts = flat_map (λ y. y) (map (λ y. expr_names y.operand) (map (resolved_part outer) parts))

    abbrev part_elements : List ChainPart → List Place
    part_elements parts = flat_map (λ y. elements y.operand) parts

    parts_ours : (asked : Kind) (parts : List ChainPart) → AllParts HasOurs parts → each_fits asked (map (λ y. t y.operand) parts) ≡ true → AreLines (part_elements parts) → AreOf ours (part_names parts)
    parts_ours asked [] known h lines = tt
    parts_ours asked (y ∷ ys) known h lines =
        let parts = and_parts ((t y.operand).fits asked) (each_fits asked (map (λ z. t z.operand) ys)) h in
        each.both (λ name. is_among name ours ≡ true) (expr_names (r y.operand)) (part_names ys) (known.0.fits asked parts.0 (lines_front (elements y.operand) (part_elements ys) lines))
        (parts_ours asked ys known.1 parts.1 (lines_back (elements y.operand) (part_elements ys) lines))

    -- ---- calls and elements

    not_called : (name : Name) (xs : List Expr) (o : Option Meaning) → meaning_of scope name ≡ o → option_and_then as_function o ≡ None → HasOurs (e.Call name xs)
    not_called name xs o is none =
        nowhere (e.Call name xs) (call_typing None (map t xs)) (typing-Call true scope name xs ∙ ap (λ m. call_typing (option_and_then as_function m) (map t xs)) is ∙ ap (λ f. call_typing f (map t xs)) none) refl
        (λ asked h. false≢true h)

    called : (name : Name) (xs : List Expr) (o : Option Meaning) → meaning_of scope name ≡ o → AllOf HasOurs xs → HasOurs (e.Call name xs)
    called name xs None is known = not_called name xs None is refl
    called name xs (Some (Constant z)) is known = not_called name xs (Some (Constant z)) is refl
    called name xs (Some (Array kind size)) is known = not_called name xs (Some (Array kind size)) is refl
    called name xs (Some (Value kind)) is known = not_called name xs (Some (Value kind)) is refl
    called name xs (Some (View kind)) is known = not_called name xs (Some (View kind)) is refl
    called name xs (Some (Function f)) is known =
        made (e.Call name xs) (call_typing (Some f) (map t xs)) _ _ (typing-Call true scope name xs ∙ ap (λ m. call_typing (option_and_then as_function m) (map t xs)) is) refl
        (ap expr_names (resolved-Call outer name xs) ∙ names-Call name (map r xs)) (elements-Call name xs)
        (λ asked h lines. (owns.functions name f is, arguments_ours f.params xs known (and_parts _ _ h).1 lines))

    abbrev array_kind : Option Meaning → Option Kind
    array_kind m = option_map (λ a. a.0) (option_and_then as_array m)

    no_element : (name : Name) (x : Expr) (o : Option Meaning) → meaning_of scope name ≡ o → array_kind o ≡ None → HasOurs (e.Element name x)
    no_element name x o is none =
        nowhere (e.Element name x) (element_typing true None) (typing-Element true scope name x ∙ ap (λ m. element_typing true (array_kind m)) is ∙ ap (element_typing true) none) refl (λ asked h. false≢true h)

    element_ours : (name : Name) (x : Expr) (o : Option Meaning) → meaning_of scope name ≡ o → HasOurs (e.Element name x)
    element_ours name x None is = no_element name x None is refl
    element_ours name x (Some (Constant z)) is = no_element name x (Some (Constant z)) is refl
    element_ours name x (Some (Function f)) is = no_element name x (Some (Function f)) is refl
    element_ours name x (Some (Value kind)) is = no_element name x (Some (Value kind)) is refl
    element_ours name x (Some (View kind)) is = no_element name x (Some (View kind)) is refl
    element_ours name x (Some (Array kind size)) is =
        made (e.Element name x) (element_typing true (Some kind)) _ _ (typing-Element true scope name x ∙ ap (λ m. element_typing true (array_kind m)) is) refl
        (ap expr_names (resolved-Element outer name x) ∙ names-Element name (r x)) (elements-Element name x)
        (λ asked h lines. (owns.arrays name kind size is, line_names (record { array = name; index = x }) (elements x) lines))

    -- ---- `-`

    minus_ours : (x : Expr) (o : Option ℤ) → (t x).literal ≡ o → HasOurs x → HasOurs (e.Minus x)
    minus_ours x (Some z) is known =
        made (e.Minus x) (minus_typing (t x) (Some z)) _ _ (typing-Minus true scope x ∙ ap (minus_typing (t x)) is) refl (ap expr_names (resolved-Minus outer x)) (elements-Minus x)
        (λ asked h lines. minus_of ours (r x) (constant_expr outer x) (known.literal z is))
    minus_ours x None is known =
        made (e.Minus x) (minus_typing (t x) None) _ _ (typing-Minus true scope x ∙ ap (minus_typing (t x)) is) refl (ap expr_names (resolved-Minus outer x)) (elements-Minus x)
        (λ asked h lines. minus_of ours (r x) (constant_expr outer x) (known.fits kinds.I64 (and_parts _ _ h).1 lines))

    -- ---- all forms

    abbrev both : (xs ys : List Name) → AreOf ours xs → AreOf ours ys → AreOf ours (xs ++ ys)
    both xs ys = each.both (λ name. is_among name ours ≡ true) xs ys

    plain : (x y : Expr) → r x ≡ y → expr_names y ≡ [] → HasOurs x
    plain x y is none = always x (subst (AreOf ours) (sym (ap expr_names is ∙ none)) tt)

    forms : Forms HasOurs
    forms = record {
      Number = λ n. plain (e.Number n) _ (resolved-Number outer n) (names-Number n);
      True = plain e.True _ (resolved-True outer) names-True;
      False = plain e.False _ (resolved-False outer) names-False;
      Name = λ name. name_ours name (meaning_of scope name) refl;
      Call = λ name xs known. called name xs (meaning_of scope name) refl known;
      Element = λ name x known. element_ours name x (meaning_of scope name) refl;
      Convert = λ to x known.
          made (e.Convert to x) _ _ _ (typing-Convert true scope to x) refl (ap expr_names (resolved-Convert outer to x) ∙ names-Convert to (r x)) (elements-Convert to x)
          (λ asked h lines. known.fits (unwrap_or (t x).own to) (and_parts _ _ h).1 lines);
      Throw = λ n. plain (e.Throw n) _ (resolved-Throw outer n) (names-Throw n);
      Paren = λ x known.
          made (e.Paren x) _ _ _ (typing-Paren true scope x) refl (ap expr_names (resolved-Paren outer x) ∙ names-Paren (r x)) (elements-Paren x) (λ asked h lines. known.fits asked h lines);
      Minus = λ x known. minus_ours x (t x).literal refl known;
      Not = λ x known.
          made (e.Not x) _ _ _ (typing-Not true scope x) refl (ap expr_names (resolved-Not outer x) ∙ names-Not (r x)) (elements-Not x)
          (λ asked h lines. known.fits kinds.Bool (and_parts _ _ h).1 lines);
      Chain = λ x parts known rest.
          made (e.Chain x parts) _ _ _ (typing-Chain true scope x parts) refl (ap expr_names (resolved-Chain outer x parts) ∙ names-Chain (r x) (map (resolved_part outer) parts)) (elements-Chain x parts)
          (λ asked h lines.
          let all = and_parts ((t x).fits asked) (each_fits asked (map (λ z. t z.operand) parts)) (and_parts _ _ h).1 in
          both (expr_names (r x)) (part_names parts) (known.fits asked all.0 (lines_front (elements x) (part_elements parts) lines))
          (parts_ours asked parts rest all.1 (lines_back (elements x) (part_elements parts) lines)));
      Compare = λ op x y known other.
          made (e.Compare op x y) _ _ _ (typing-Compare true scope op x y) refl (ap expr_names (resolved-Compare outer op x y) ∙ names-Compare op (r x) (r y)) (elements-Compare op x y)
          (λ asked h lines.
          let kind = sides_kind (t x) (t y) in
          let right = and_parts _ _ (and_parts _ _ h).1 in
          both (expr_names (r x)) (expr_names (r y)) (known.fits kind (and_parts _ _ right.0).1 (lines_front (elements x) (elements y) lines)) (other.fits kind right.1 (lines_back (elements x) (elements y) lines)));
      All = λ xs known.
          made (e.All xs) _ _ _ (typing-All true scope xs) refl (ap expr_names (resolved-All outer xs) ∙ names-All (map r xs)) (elements-All xs) (λ asked h lines. each_ours kinds.Bool xs known (and_parts _ _ h).1 lines);
      Any = λ xs known.
          made (e.Any xs) _ _ _ (typing-Any true scope xs) refl (ap expr_names (resolved-Any outer xs) ∙ names-Any (map r xs)) (elements-Any xs) (λ asked h lines. each_ours kinds.Bool xs known (and_parts _ _ h).1 lines);
      If = λ x y z known hy hz.
          made (e.If x y z) _ _ _ (typing-If true scope x y z) refl (ap expr_names (resolved-If outer x y z) ∙ names-If (r x) (r y) (r z)) (elements-If x y z)
          (λ asked h lines.
          let right = and_parts _ _ h in
          let left = and_parts _ _ right.0 in
          let front = lines_front (elements x ++ elements y) (elements z) lines in
          both (expr_names (r x) ++ expr_names (r y)) (expr_names (r z))
          (both (expr_names (r x)) (expr_names (r y)) (known.fits kinds.Bool left.0 (lines_front (elements x) (elements y) front)) (hy.fits asked left.1 (lines_back (elements x) (elements y) front)))
          (hz.fits asked right.1 (lines_back (elements x ++ elements y) (elements z) lines)));
    }

    -- an expression that fits somewhere, and whose indices are lines
    pub fitting_names : (kind : Kind) (x : Expr) → (typing true scope x).fits kind ≡ true → AreLines (elements x) → AreOf ours (expr_names (resolved_expr outer x))
    fitting_names kind x h lines = (every HasOurs forms x).fits kind h lines
