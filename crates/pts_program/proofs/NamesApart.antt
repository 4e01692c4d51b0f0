-- Names that are among some and not among others.
use Rattle.std.proofs.Common.{◌≡◌, Bool, true, false, if◌then◌else◌, Some, None, List, [], ◌∷◌, ◌++◌, bytes_eq, refl, sym, ap, ◌∙◌}
use Rattle.std.specs.Prelude.{◌||◌}
use Rattle.std.proofs.lemmas.Bool.{or_parts, false≢true}
use Rattle.std.proofs.lemmas.List.Folds.{list_any-append}
use Rattle.std.proofs.lemmas.Slice.Eq.{bytes_eq-Decides}
use Rattle.pts_rules.specs.Known.{Scope, meaning_of}
use Rattle.pts_rules.specs.Names.{has_repeat, meet, names_in}
use Rattle.pts_rules.specs.Parts.{Name, is_among}
use Rattle.pts_program.proofs.Truths.{either, or_true}

-- a name among some that meet no others is not among the others
pub apart_from : (xs ys : List Name) (name : Name) → meet xs ys ≡ false → is_among name xs ≡ true → is_among name ys ≡ false
apart_from [] ys name apart among = absurd (false≢true among)
apart_from (x ∷ xs) ys name apart among =
    let parts = or_parts (is_among x ys) (meet xs ys) apart in
    (elim (bytes_eq name x) as (λ b. bytes_eq name x ≡ b → (b || is_among name xs) ≡ true → is_among name ys ≡ false) [
      | true ↦ λ same found. ap (λ y. is_among y ys) ((bytes_eq-Decides name x).0 same) ∙ parts.0
      | false ↦ λ other found. apart_from xs ys name parts.1 found
    ]) refl among

-- a name of nothing in scope has no meaning, and one without a meaning is of nothing in scope
pub unnamed : (scope : Scope) (name : Name) → is_among name (names_in scope) ≡ false → meaning_of scope name ≡ None
unnamed [] name apart = refl
unnamed (entry ∷ scope) name apart =
    let parts = or_parts (bytes_eq name entry.0) (is_among name (names_in scope)) apart in
    ap (λ b. if b then Some entry.1 else meaning_of scope name) parts.0 ∙ unnamed scope name parts.1

-- not among those in front, nor among those behind
pub in_neither : (xs ys : List Name) (name : Name) → is_among name (xs ++ ys) ≡ false → (is_among name xs ≡ false) × (is_among name ys ≡ false)
in_neither xs ys name h = or_parts (is_among name xs) (is_among name ys) (sym (list_any-append (bytes_eq name) xs ys) ∙ h)

pub neither_in : (xs ys : List Name) (name : Name) → is_among name xs ≡ false → is_among name ys ≡ false → is_among name (xs ++ ys) ≡ false
neither_in xs ys name h k = list_any-append (bytes_eq name) xs ys ∙ either (is_among name xs) (is_among name ys) h k

-- ---- names that differ

equal_tests : (a b : Bool) → (a ≡ true → b ≡ true) → b ≡ false → a ≡ false
equal_tests true b f h = absurd (false≢true (sym h ∙ f refl))
equal_tests false b f h = refl

turned : (x y : Name) → bytes_eq x y ≡ false → bytes_eq y x ≡ false
turned x y h = equal_tests (bytes_eq y x) (bytes_eq x y) (λ e. (bytes_eq-Decides x y).1 (sym ((bytes_eq-Decides y x).0 e))) h

-- one name more, which is none of those before it
pub none_twice : (xs : List Name) (x : Name) → has_repeat xs ≡ false → is_among x xs ≡ false → has_repeat (xs ++ x ∷ []) ≡ false
none_twice [] x once new = refl
none_twice (y ∷ ys) x once new =
    let o = or_parts (is_among y ys) (has_repeat ys) once in
    let n = or_parts (bytes_eq x y) (is_among x ys) new in
    either (is_among y (ys ++ x ∷ [])) (has_repeat (ys ++ x ∷ []))
    (neither_in ys (x ∷ []) y o.0 (either (bytes_eq y x) false (turned x y n.0) refl))
    (none_twice ys x o.1 n.1)

-- two lists of such names, where none is in both
pub both_once : (xs ys : List Name) → has_repeat xs ≡ false → has_repeat ys ≡ false → meet xs ys ≡ false → has_repeat (xs ++ ys) ≡ false
both_once [] ys once other apart = other
both_once (x ∷ xs) ys once other apart =
    let o = or_parts (is_among x xs) (has_repeat xs) once in
    let a = or_parts (is_among x ys) (meet xs ys) apart in
    either (is_among x (xs ++ ys)) (has_repeat (xs ++ ys)) (neither_in xs ys x o.0 a.0) (both_once xs ys o.1 other a.1)

-- lists meet nowhere where no name is in both
pub meets_not : (xs ys : List Name) → ((name : Name) → is_among name xs ≡ true → is_among name ys ≡ false) → meet xs ys ≡ false
meets_not [] ys h = refl
meets_not (x ∷ xs) ys h =
    let self : bytes_eq x x ≡ true = (bytes_eq-Decides x x).1 refl in
    either (is_among x ys) (meet xs ys)
    (h x (ap (λ b. b || is_among x xs) self))
    (meets_not xs ys (λ name among. h name (or_true (bytes_eq name x) (is_among name xs) among)))

-- ---- names in longer lists

pub in_front : (xs ys : List Name) (name : Name) → is_among name xs ≡ true → is_among name (xs ++ ys) ≡ true
in_front xs ys name among = list_any-append (bytes_eq name) xs ys ∙ ap (λ b. b || is_among name ys) among

pub in_back : (xs ys : List Name) (name : Name) → is_among name ys ≡ true → is_among name (xs ++ ys) ≡ true
in_back xs ys name among = list_any-append (bytes_eq name) xs ys ∙ or_true (is_among name xs) (is_among name ys) among
