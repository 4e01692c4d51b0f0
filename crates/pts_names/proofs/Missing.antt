-- Names that are not in scope: in lists, and in lists that are joined.
use Rattle.std.proofs.Common.{◌≡◌, ℕ, ◌+◌, ◌<◌, ◌≤◌, Bool, true, false, Option, Some, None, List, [], ◌∷◌, ◌++◌, length, get_or, drop, refl, sym, ap, ◌∙◌, true≢false, Bor}
use Rattle.std.specs.Prelude.{not, ◌||◌, flat_map, if◌then◌else◌, is_some, option_to_list}
use Rattle.std.specs.Option.{option_copied}
use Rattle.std.specs.Str.{bytes_eq}
use Rattle.std.proofs.lemmas.List.{drop_more, drop_all}
use Rattle.std.proofs.lemmas.List.Folds.{list_any-append}
use Rattle.pts_rules.specs.declared.meaning.Meaning.{Meaning}
use Rattle.pts_rules.specs.Known.{Scope, meaning_of}
use Rattle.pts_tree.specs.declared.call.Call.{Call}
use Rattle.pts_rules.specs.Parts.{Name, is_among, range_names, cell_names, val_names, op_names, names_of, call_names}
use Rattle.pts_rules.specs.Names.{names_in}
use Rattle.pts_names.specs.Entered.{is_missing, misses}

in_first : (b c : Bool) (meaning : Meaning) (rest : Option Meaning) → is_some rest ≡ c → is_some (if b then Some meaning else rest) ≡ (b || c)
in_first true c meaning rest e = refl
in_first false c meaning rest e = e

-- a name has a meaning where it is a name of the scope
pub found : (scope : Scope) (name : Name) → is_some (meaning_of scope name) ≡ is_among name (names_in scope)
found [] name = refl
found (entry ∷ scope) name = in_first (bytes_eq name entry.0) (is_among name (names_in scope)) entry.1 (meaning_of scope name) (found scope name)

turned : (a b c : Bool) → a ≡ not b → a ≡ c → b ≡ not c
turned true true c e f = elim (true≢false e) [ ]
turned true false c e f = ap not f
turned false true c e f = ap not f
turned false false c e f = elim (true≢false (sym e)) [ ]

-- it is not among the names where no meaning is found
pub not_found : (scope : Scope) (name : Name) (b : Bool) (o : Option (Bor Meaning)) → is_some o ≡ not b → option_copied o ≡ meaning_of scope name → b ≡ is_missing scope name
unfolding is_missing
not_found scope name b None e f = turned false b (is_among name (names_in scope)) e (ap is_some f ∙ found scope name)
not_found scope name b (Some m) e f = turned true b (is_among name (names_in scope)) e (ap is_some f ∙ found scope name)

pub misses_none : (scope : Scope) → misses scope [] ≡ false
unfolding misses
misses_none scope = refl

pub misses_more : (scope : Scope) (name : Name) (names : List Name) → misses scope (name ∷ names) ≡ (is_missing scope name || misses scope names)
unfolding misses
misses_more scope name names = refl

pub misses_both : (scope : Scope) (xs ys : List Name) → misses scope (xs ++ ys) ≡ (misses scope xs || misses scope ys)
unfolding misses
misses_both scope xs ys = list_any-append (is_missing scope) xs ys

pub or_false : (b : Bool) → (b || false) ≡ b
or_false true = refl
or_false false = refl

pub ruleset parts = (misses_none, misses_more, misses_both, or_false)

-- ---- the parts of a call

both : (scope : Scope) (xs ys : List Name) {b : Bool} → misses scope xs ≡ b → misses scope (xs ++ ys) ≡ (b || misses scope ys)
both scope xs ys e = misses_both scope xs ys ∙ ap (λ c. c || misses scope ys) e

pub of_call : (scope : Scope) (x : Call) → misses scope (call_names x) ≡
    (misses scope (range_names x.first) || misses scope (names_of range_names x.second) || misses scope (names_of range_names x.target)
    || misses scope (names_of val_names x.init) || misses scope (names_of op_names x.op) || misses scope (option_to_list x.function)
    || misses scope (names_of cell_names x.store))
of_call scope x =
    both scope _ (names_of cell_names x.store) (both scope _ (option_to_list x.function) (both scope _ (names_of op_names x.op)
    (both scope _ (names_of val_names x.init) (both scope _ (names_of range_names x.target)
    (misses_both scope (range_names x.first) (names_of range_names x.second))))))

-- ---- loops that look at one part after the other

-- the parts before this place miss no name
pub record Looked {A : Type 0} (names_of : A → List Name) (scope : Scope) (xs : List A) (at : ℕ) : Type 0 where
  pub left : misses scope (flat_map names_of xs) ≡ misses scope (flat_map names_of (drop at xs))

-- the first part that is left, and those after it
split : {A : Type 0} (names_of : A → List Name) (scope : Scope) (xs : List A) (at : ℕ) (x : A)
    → at < length xs → x ≡ get_or xs at x → misses scope (flat_map names_of (drop at xs)) ≡ (misses scope (names_of x) || misses scope (flat_map names_of (drop (at + 1) xs)))
split {A} names_of scope xs at x within is =
    let parts : drop at xs ≡ x ∷ drop (at + 1) xs = drop_more xs at x within ∙ ap (λ y. y ∷ drop (at + 1) xs) (sym is) in
    ap (λ zs. misses scope (flat_map names_of zs)) parts ∙ misses_both scope (names_of x) (flat_map names_of (drop (at + 1) xs))

pub looked_none : {A : Type 0} (names_of : A → List Name) (scope : Scope) (xs : List A) → Looked names_of scope xs 0
looked_none names_of scope xs = record { left = refl }

pub looked_one : {A : Type 0} (names_of : A → List Name) (scope : Scope) (xs : List A) (at : ℕ) (x : A) (r : Bool)
    → Looked names_of scope xs at → at < length xs → x ≡ get_or xs at x → r ≡ misses scope (names_of x) → r ≡ false → Looked names_of scope xs (at + 1)
looked_one names_of scope xs at x r h within is answer passed =
    record { left = h.left ∙ split names_of scope xs at x within is ∙ ap (λ b. b || misses scope (flat_map names_of (drop (at + 1) xs))) (sym answer ∙ passed) }

pub looked_found : {A : Type 0} (names_of : A → List Name) (scope : Scope) (xs : List A) (at : ℕ) (x : A) (r : Bool)
    → Looked names_of scope xs at → at < length xs → x ≡ get_or xs at x → r ≡ misses scope (names_of x) → r ≡ true → true ≡ misses scope (flat_map names_of xs)
looked_found names_of scope xs at x r h within is answer failed =
    sym (h.left ∙ split names_of scope xs at x within is ∙ ap (λ b. b || misses scope (flat_map names_of (drop (at + 1) xs))) (sym answer ∙ failed))

pub looked_all : {A : Type 0} (names_of : A → List Name) (scope : Scope) (xs : List A) (at : ℕ)
    → Looked names_of scope xs at → length xs ≤ at → false ≡ misses scope (flat_map names_of xs)
looked_all names_of scope xs at h all = sym (h.left ∙ ap (λ zs. misses scope (flat_map names_of zs)) (drop_all at xs all) ∙ misses_none scope)

pub ruleset turns = (looked_none, looked_one, looked_found, looked_all)
