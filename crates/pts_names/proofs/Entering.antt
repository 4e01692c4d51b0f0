-- Names that are entered into a scope one after the other, and left again.
use Rattle.std.proofs.Common.{subst, append_assoc, ◌≡◌, ℕ, ◌+◌, ◌-◌, ◌<◌, ◌≤◌, Bool, true, false, List, [], ◌∷◌, ◌++◌, length, get_or, drop, refl, sym, ap, ◌∙◌, arith, length-append}
use Rattle.std.specs.Prelude.{not, cond, ◌||◌, flat_map}
use Rattle.std.specs.Str.{bytes_eq}
use Rattle.std.proofs.Math.Seq.{drop-append_seam}
use Rattle.std.proofs.lemmas.List.{drop_more, drop_all}
use Rattle.pts_rules.specs.Known.{Scope}
use Rattle.pts_rules.specs.Parts.{Name, is_among, without}
use Rattle.pts_rules.specs.Names.{names_in}
use Rattle.pts_names.specs.Entered.{is_missing, misses, local, entered, repeats, IsOver}
use Rattle.pts_names.proofs.Missing.{or_false}

-- ---- lists of names

pub entered_none : (scope : Scope) → entered [] scope ≡ scope
unfolding entered
entered_none scope = refl

pub entered_one : (name : Name) (scope : Scope) → entered (name ∷ []) scope ≡ local name ∷ scope
unfolding entered
entered_one name scope = refl

pub entered_both : (xs ys : List Name) (scope : Scope) → entered (xs ++ ys) scope ≡ entered ys (entered xs scope)
unfolding entered
entered_both [] ys scope = refl
entered_both (x ∷ xs) ys scope = entered_both xs ys (local x ∷ scope)

pub repeats_none : (scope : Scope) → repeats scope [] ≡ false
unfolding repeats
repeats_none scope = refl

not_not : (b c : Bool) → b ≡ not c → not b ≡ (c || false)
not_not b true e = ap not e
not_not b false e = ap not e

pub repeats_one : (scope : Scope) (name : Name) (b : Bool) → b ≡ is_missing scope name → not b ≡ repeats scope (name ∷ [])
unfolding repeats is_missing
repeats_one scope name b e = not_not b (is_among name (names_in scope)) e

or_assoc : (a b c : Bool) → (a || (b || c)) ≡ ((a || b) || c)
or_assoc true b c = refl
or_assoc false b c = refl

pub repeats_both : (scope : Scope) (xs ys : List Name) → repeats scope (xs ++ ys) ≡ (repeats scope xs || repeats (entered xs scope) ys)
unfolding repeats entered
repeats_both scope [] ys = refl
repeats_both scope (x ∷ xs) ys =
    ap (λ b. is_among x (names_in scope) || b) (repeats_both (local x ∷ scope) xs ys)
    ∙ or_assoc (is_among x (names_in scope)) (repeats (local x ∷ scope) xs) (repeats (entered xs (local x ∷ scope)) ys)

-- names in two parts
pub both_repeat : (scope middle : Scope) (xs ys : List Name) (a b : Bool)
    → a ≡ repeats scope xs → middle ≡ entered xs scope → b ≡ repeats middle ys → (a || b) ≡ repeats scope (xs ++ ys)
both_repeat scope middle xs ys a b first between second =
    (λ i. first i || (second ∙ ap (λ s. repeats s ys) between) i) ∙ sym (repeats_both scope xs ys)

pub both_enter : (scope middle last : Scope) (xs ys : List Name)
    → middle ≡ entered xs scope → last ≡ entered ys middle → last ≡ entered (xs ++ ys) scope
both_enter scope middle last xs ys between second = second ∙ ap (entered ys) between ∙ sym (entered_both xs ys scope)

pub ruleset one = (entered_one, repeats_one)

pub ruleset lists = (entered_none, entered_both, repeats_none, repeats_both)

-- ---- loops that enter one part after the other

-- what is left to be entered, from a place on, and whether a name was in scope before
pub record Entering {A : Type 0} (names_of : A → List Name) (before scope : Scope) (xs : List A) (at : ℕ) (again : Bool) : Type 0 where
  pub answer : repeats before (flat_map names_of xs) ≡ (again || repeats scope (flat_map names_of (drop at xs)))
  pub entered : entered (flat_map names_of xs) before ≡ entered (flat_map names_of (drop at xs)) scope

pub entering_none : {A : Type 0} (names_of : A → List Name) (scope : Scope) (xs : List A) → Entering names_of scope scope xs 0 false
entering_none names_of scope xs = record { answer = refl; entered = refl }

pub entering_one : {A : Type 0} (names_of : A → List Name) (before scope next : Scope) (xs : List A) (at : ℕ) (again more : Bool) (x : A)
    → Entering names_of before scope xs at again → at < length xs → x ≡ get_or xs at x
    → more ≡ repeats scope (names_of x) → next ≡ entered (names_of x) scope → Entering names_of before next xs (at + 1) (again || more)
entering_one {A} names_of before scope next xs at again more x h within is answer now =
    let split : drop at xs ≡ x ∷ drop (at + 1) xs = drop_more xs at x within ∙ ap (λ y. y ∷ drop (at + 1) xs) (sym is) in
    let rest = flat_map names_of (drop (at + 1) xs) in
    record {
      answer =
          h.answer ∙ ap (λ zs. again || repeats scope (flat_map names_of zs)) split
          ∙ ap (λ b. again || b) (repeats_both scope (names_of x) rest)
          ∙ or_assoc again (repeats scope (names_of x)) (repeats (entered (names_of x) scope) rest)
          ∙ (λ i. (again || sym answer i) || repeats (sym now i) rest);
      entered =
          h.entered ∙ ap (λ zs. entered (flat_map names_of zs) scope) split ∙ entered_both (names_of x) rest scope
          ∙ ap (entered rest) (sym now);
    }

pub entering_all : {A : Type 0} (names_of : A → List Name) (before scope : Scope) (xs : List A) (at : ℕ) (again : Bool)
    → Entering names_of before scope xs at again → length xs ≤ at → again ≡ repeats before (flat_map names_of xs)
entering_all names_of before scope xs at again h all =
    sym (h.answer ∙ ap (λ zs. again || repeats scope (flat_map names_of zs)) (drop_all at xs all) ∙ ap (λ b. again || b) (repeats_none scope) ∙ or_false again)

pub entered_all : {A : Type 0} (names_of : A → List Name) (before scope : Scope) (xs : List A) (at : ℕ) (again : Bool)
    → Entering names_of before scope xs at again → length xs ≤ at → scope ≡ entered (flat_map names_of xs) before
entered_all names_of before scope xs at again h all =
    sym (h.entered ∙ ap (λ zs. entered (flat_map names_of zs) scope) (drop_all at xs all) ∙ entered_none scope)

pub ruleset turns = (entering_none, entering_one, entering_all, entered_all)

-- ---- names that are hidden

among : (b c d : Bool) → (c || (b || d)) ≡ ((b || c) || d)
among true true d = refl
among true false d = refl
among false true d = refl
among false false d = refl

-- a name is among those that were entered, or in scope before
known_entered : (hidden : List Name) (scope : Scope) (name : Name)
    → is_among name (names_in (entered hidden scope)) ≡ (is_among name hidden || is_among name (names_in scope))
unfolding entered
known_entered [] scope name = refl
known_entered (x ∷ xs) scope name =
    known_entered xs (local x ∷ scope) name ∙ among (bytes_eq name x) (is_among name xs) (is_among name (names_in scope))

hide : (scope : Scope) (name : Name) (names : List Name) (b : Bool)
    → misses scope (cond (not b) (name ∷ names) names) ≡ (not (b || is_among name (names_in scope)) || misses scope names)
unfolding misses is_missing
hide scope name names true = refl
hide scope name names false = refl

-- names that are entered are no more missed
pub misses_without : (hidden : List Name) (scope : Scope) (names : List Name) → misses scope (without hidden names) ≡ misses (entered hidden scope) names
unfolding misses is_missing
misses_without hidden scope [] = refl
misses_without hidden scope (name ∷ names) =
    hide scope name (without hidden names) (is_among name hidden)
    ∙ (λ i. not (sym (known_entered hidden scope name) i) || misses_without hidden scope names i)

-- ---- names that are left again

pub over_same : (scope : Scope) → IsOver scope scope
over_same scope = record { front = []; is = refl }

pub over_entered : (names : List Name) (low high : Scope) → IsOver low high → IsOver low (entered names high)
unfolding entered
over_entered [] low high h = h
over_entered (name ∷ names) low high h = over_entered names low (local name ∷ high) (record { front = local name ∷ h.front; is = ap (λ s. local name ∷ s) h.is })

-- the scope before, once the latest names are left
pub left : (low high now : Scope) (mark : ℕ) → IsOver low high → mark ≡ length low → now ≡ drop (length high - mark) high → now ≡ low
left low high now mark h e f =
    let count : length high - mark ≡ length h.front = omega (arith, e, ap length h.is, length-append h.front low) in
    f ∙ (λ i. drop (count i) (h.is i)) ∙ drop-append_seam h.front low

pub over_more : (low middle high : Scope) → IsOver low middle → IsOver middle high → IsOver low high
over_more low middle high h k = record { front = k.front ++ h.front; is = k.is ∙ ap (λ s. k.front ++ s) h.is ∙ sym (append_assoc k.front h.front low) }

-- the scope behind some names lies over the one before
pub over_names : (names : List Name) (scope now : Scope) → now ≡ entered names scope → IsOver scope now
over_names names scope now e = subst (λ s. IsOver scope s) (sym e) (over_entered names scope scope (over_same scope))

pub ruleset names = (entered_none, entered_one)
