-- The numbers of arrays: where items are added, and among the names of a program's arrays and functions.
use Rattle.std.proofs.Common.{◌≡◌, ℕ, ◌+◌, Bool, true, false, cond, if◌then◌else◌, Option, Some, None, List, [], ◌∷◌, ◌++◌, fold, option_map, option_and_then, bytes_eq, ℤ, pos, refl, sym, ap, ◌∙◌, subst, append-nil, arith}
use Rattle.std.specs.Prelude.{count_by, is_some}
use Rattle.std.proofs.lemmas.Bool.{false≢true}
use Rattle.std.proofs.lemmas.List.Sums.{fold_push}
use Rattle.std.proofs.lemmas.Slice.Eq.{bytes_eq-Decides}
use Rattle.pts_tree.specs.declared.script.Item.{Item}
use Rattle.pts_tree.specs.declared.script.Item.TheVariants as items
use Rattle.pts_rules.specs.declared.meaning.Meaning.{Meaning}
use Rattle.pts_rules.specs.declared.meaning.Meaning.TheVariants.{Constant, Array, Function}
use Rattle.pts_rules.specs.Known.{Entry, Scope, array_number, as_array, as_constant, constant_of, is_array, meaning_of, natural, number}
use Rattle.pts_rules.specs.Parts.{Name}
use Rattle.pts_rules.specs.Scopes.{after, known, signature}
use Rattle.pts_code.specs.declared.function.FunctionInfo.{FunctionInfo}
use Rattle.pts_code.specs.Functions.{kinds_of, scope_of, with_signature}
use Rattle.pts_code.proofs.Scopes.{count_cons}
use Rattle.pts_constants.specs.Resolved.{resolved_expr}
use Rattle.pts_points.specs.Points.{array_at}
use Rattle.pts_starts.specs.Starts.{start_cells}
use Rattle.pts_program.specs.declared.info.ArrayInfo.{ArrayInfo}
use Rattle.pts_program.specs.declared.lists.Lists.{Lists}
use Rattle.pts_program.specs.Globals.{globals_of, with_array}
use Rattle.pts_program.specs.Lists.{arrays_of, functions_of, no_lists, IsProgram}
use Rattle.pts_program.proofs.Declared.{known_more}
use Rattle.pts_program.proofs.ItemTurns.{IsTurn, by_items}
use Rattle.pts_program.proofs.Keeping.{Keeps}
use Rattle.pts_program.proofs.Shown.{new_name}
use Rattle.pts_loop_points.proofs.ElementArrays.{IsArray}

-- ---- names that are added

-- an array is not the name in front, where that is of no array
other_name : (scope : Scope) (x : Name) (m : Meaning) → as_array m ≡ None → (name : Name) → IsArray ((x, m) ∷ scope) name → bytes_eq name x ≡ false
other_name scope x m none name h =
    elim (bytes_eq name x) as (λ b. is_some (option_map (λ a. a.0) (option_and_then as_array (if b then Some m else meaning_of scope name))) ≡ true → b ≡ false) [
      | true ↦ λ found. absurd (false≢true (sym (ap (λ o. is_some (option_map (λ a. a.0) o)) none) ∙ found))
      | false ↦ λ found. refl
    ] h

-- what stands for another name, and its number
abbrev entry_number : Bool → Meaning → Scope → Name → Option ℕ
entry_number b m scope name = if b then (if is_array m then Some (count_by (λ e. is_array e.1) scope) else None) else array_number scope name

past : (scope : Scope) (x : Name) (m : Meaning) (name : Name) → bytes_eq name x ≡ false → array_number ((x, m) ∷ scope) name ≡ array_number scope name
past scope x m name other = ap (λ b. entry_number b m scope name) other

still_array : (scope : Scope) (x : Name) (m : Meaning) (name : Name) → bytes_eq name x ≡ false → IsArray ((x, m) ∷ scope) name → IsArray scope name
still_array scope x m name other h = sym (ap (λ b. is_some (option_map (λ a. a.0) (option_and_then as_array (if b then Some m else meaning_of scope name)))) other) ∙ h

-- ---- earlier scopes

-- an array of the first scope is one of the second, with its number
pub record IsKeptAs (scope next : Scope) (name : Name) : Type 0 where
  pub array : IsArray next name
  pub number : array_number next name ≡ array_number scope name

abbrev pub IsKeptIn : Scope → Scope → Type 0
IsKeptIn scope next = (name : Name) → IsArray scope name → IsKeptAs scope next name

pub kept_self : (scope : Scope) → IsKeptIn scope scope
kept_self scope name h = record { array = h; number = refl }

pub kept_through : (scope middle next : Scope) → IsKeptIn scope middle → IsKeptIn middle next → IsKeptIn scope next
kept_through scope middle next f g name h =
    let first = f name h in
    let second = g name first.array in
    record { array = second.array; number = second.number ∙ first.number }

-- behind a new name
kept_more : (scope : Scope) (x : Name) (m : Meaning) → meaning_of scope x ≡ None → IsKeptIn scope ((x, m) ∷ scope)
kept_more scope x m fresh name h =
    (elim (bytes_eq name x) as (λ b. bytes_eq name x ≡ b → IsKeptAs scope ((x, m) ∷ scope) name) [
      | true ↦ λ same.
          let here : IsArray scope x = subst (IsArray scope) ((bytes_eq-Decides name x).0 same) h in
          absurd (false≢true (sym (ap (λ o. is_some (option_map (λ a. a.0) (option_and_then as_array o))) fresh) ∙ here))
      | false ↦ λ other. record {
        array = ap (λ b. is_some (option_map (λ a. a.0) (option_and_then as_array (if b then Some m else meaning_of scope name)))) other ∙ h;
        number = past scope x m name other;
      }
    ]) refl

pub kept_behind : (before : List Item) (x : Item) → Keeps before x → IsKeptIn (known before) (after (known before) x)
kept_behind before (items.Const x) keeps = kept_more (known before) x.name (Constant (number (known before) x.value)) (new_name (known before) x.name _ keeps.once)
kept_behind before (items.Array x) keeps = kept_more (known before) x.name (Array x.kind (number (known before) x.length)) (new_name (known before) x.name _ keeps.once)
kept_behind before (items.Function x) keeps = kept_more (known before) x.name (Function (signature (known before) x)) (new_name (known before) x.name _ keeps.once)
kept_behind before (items.Call x) keeps = kept_self (known before)
kept_behind before (items.Loop x) keeps = kept_self (known before)
kept_behind before (items.Block x) keeps = kept_self (known before)
kept_behind before (items.Print x) keeps = kept_self (known before)

-- ---- among the names of arrays and functions

abbrev count : Scope → ℕ
count scope = count_by (λ e. is_array e.1) scope

more : (entry : Entry) (scope : Scope) → count (entry ∷ scope) ≡ count scope + cond (is_array entry.1) 1 0
more entry scope = count_cons (λ e. is_array e.1) entry scope

abbrev names_of : List ArrayInfo → List FunctionInfo → Scope
names_of arrays functions = fold with_array (scope_of functions) arrays

-- arrays behind the names of two scopes that have as many arrays
fold_count : (s t : Scope) → count s ≡ count t → (arrays : List ArrayInfo) → count (fold with_array s arrays) ≡ count (fold with_array t arrays)
fold_count s t same [] = same
fold_count s t same (a ∷ arrays) =
    fold_count (with_array s a) (with_array t a)
    (more (a.name, Array a.kind (pos 0)) s ∙ ap (λ n. n + 1) same ∙ sym (more (a.name, Array a.kind (pos 0)) t)) arrays

fold_number : (s t : Scope) → count s ≡ count t → (name : Name) → array_number s name ≡ array_number t name → (arrays : List ArrayInfo)
    → array_number (fold with_array s arrays) name ≡ array_number (fold with_array t arrays) name
fold_number s t same name is [] = is
fold_number s t same name is (a ∷ arrays) =
    fold_number (with_array s a) (with_array t a)
    (more (a.name, Array a.kind (pos 0)) s ∙ ap (λ n. n + 1) same ∙ sym (more (a.name, Array a.kind (pos 0)) t)) name
    (λ i. if bytes_eq name a.name then Some (same i) else is i) arrays

-- the arrays of a scope have their numbers among these names
record HaveNumbers (scope names : Scope) : Type 0 where
  pub counted : count names ≡ count scope
  pub numbers : (name : Name) → IsArray scope name → array_number names name ≡ array_number scope name

-- no array more
plain_more : (scope : Scope) (x : Name) (m : Meaning) → is_array m ≡ false → count ((x, m) ∷ scope) ≡ count scope
plain_more scope x m none = more (x, m) scope ∙ ap (λ b. count scope + cond b 1 0) none ∙ omega arith

const_numbered : (scope names : Scope) (x : Name) (z : ℤ) → HaveNumbers scope names → HaveNumbers ((x, Constant z) ∷ scope) names
const_numbered scope names x z h = record {
  counted = h.counted ∙ sym (plain_more scope x (Constant z) refl);
  numbers = λ name is.
      let other = other_name scope x (Constant z) refl name is in
      h.numbers name (still_array scope x (Constant z) name other is) ∙ sym (past scope x (Constant z) name other);
}

array_numbered : (scope : Scope) (arrays : List ArrayInfo) (functions : List FunctionInfo) (a : ArrayInfo) (z : ℤ) → HaveNumbers scope (names_of arrays functions)
    → HaveNumbers ((a.name, Array a.kind z) ∷ scope) (names_of (arrays ++ a ∷ []) functions)
array_numbered scope arrays functions a z h =
    let names = names_of arrays functions in
    subst (HaveNumbers ((a.name, Array a.kind z) ∷ scope)) (sym (fold_push with_array (scope_of functions) arrays a)) (record {
      counted = more (a.name, Array a.kind (pos 0)) names ∙ ap (λ n. n + 1) h.counted ∙ sym (more (a.name, Array a.kind z) scope);
      numbers = λ name is.
          elim (bytes_eq name a.name) as (λ b. is_some (option_map (λ y. y.0) (option_and_then as_array (if b then Some (Array a.kind z) else meaning_of scope name))) ≡ true
          → (if b then Some (count names) else array_number names name) ≡ (if b then Some (count scope) else array_number scope name)) [
            | true ↦ λ found. ap Some h.counted
            | false ↦ λ found. h.numbers name found
          ] is;
    })

function_numbered : (scope : Scope) (arrays : List ArrayInfo) (functions : List FunctionInfo) (f : FunctionInfo) (m : Meaning) → as_array m ≡ None → is_array m ≡ false
    → HaveNumbers scope (names_of arrays functions) → HaveNumbers ((f.name, m) ∷ scope) (names_of arrays (functions ++ f ∷ []))
function_numbered scope arrays functions f m none plain h =
    let s = scope_of functions in
    let entry : Meaning = Function (record { params = kinds_of f.params; kind = f.kind; depth = 0; size = 0 }) in
    let same : count (with_signature s f) ≡ count s = plain_more s f.name entry refl in
    subst (λ z. HaveNumbers ((f.name, m) ∷ scope) (fold with_array z arrays)) (sym (fold_push with_signature [] functions f)) (record {
      counted = fold_count (with_signature s f) s same arrays ∙ h.counted ∙ sym (plain_more scope f.name m plain);
      numbers = λ name is.
          let other = other_name scope f.name m none name is in
          fold_number (with_signature s f) s same name (past s f.name entry name other) arrays
          ∙ h.numbers name (still_array scope f.name m name other is) ∙ sym (past scope f.name m name other);
    })

none_numbered : (scope : Scope) (arrays : List ArrayInfo) (functions : List FunctionInfo) → HaveNumbers scope (names_of arrays functions)
    → HaveNumbers scope (names_of (arrays ++ []) (functions ++ []))
none_numbered scope arrays functions h =
    subst (λ xs. HaveNumbers scope (names_of xs (functions ++ []))) (sym (append-nil arrays)) (subst (λ fs. HaveNumbers scope (names_of arrays fs)) (sym (append-nil functions)) h)

numbered_after : (scope : Scope) (x : Item) (arrays : List ArrayInfo) (functions : List FunctionInfo) → HaveNumbers scope (names_of arrays functions)
    → HaveNumbers (after scope x) (names_of (arrays ++ arrays_of scope x) (functions ++ functions_of scope x))
numbered_after scope (items.Const x) arrays functions h =
    none_numbered ((x.name, Constant (number scope x.value)) ∷ scope) arrays functions (const_numbered scope (names_of arrays functions) x.name (number scope x.value) h)
numbered_after scope (items.Array x) arrays functions h =
    let a : ArrayInfo = record { name = x.name; kind = x.kind; cells = start_cells scope x.kind (natural (number scope x.length)) x.start } in
    subst (λ fs. HaveNumbers ((x.name, Array x.kind (number scope x.length)) ∷ scope) (names_of (arrays ++ a ∷ []) fs)) (sym (append-nil functions))
    (array_numbered scope arrays functions a (number scope x.length) h)
numbered_after scope (items.Function x) arrays functions h =
    let f : FunctionInfo = record { name = x.name; params = x.params; kind = x.kind; body = resolved_expr scope x.body } in
    subst (λ xs. HaveNumbers ((x.name, Function (signature scope x)) ∷ scope) (names_of xs (functions ++ f ∷ []))) (sym (append-nil arrays))
    (function_numbered scope arrays functions f (Function (signature scope x)) refl refl h)
numbered_after scope (items.Call x) arrays functions h = none_numbered scope arrays functions h
numbered_after scope (items.Loop x) arrays functions h = none_numbered scope arrays functions h
numbered_after scope (items.Block x) arrays functions h = none_numbered scope arrays functions h
numbered_after scope (items.Print x) arrays functions h = none_numbered scope arrays functions h

abbrev Numbered : List Item → Lists → Type 0
Numbered before lists = HaveNumbers (known before) (names_of lists.arrays lists.functions)

numbered_turn : IsTurn Numbered
numbered_turn before x lists keeps written h =
    subst (λ scope. HaveNumbers scope (names_of (lists.arrays ++ arrays_of (known before) x) (lists.functions ++ functions_of (known before) x))) (sym (known_more before x))
    (numbered_after (known before) x lists.arrays lists.functions h)

nothing_numbered : Numbered [] no_lists
unfolding known
nothing_numbered = record { counted = refl; numbers = λ name is. absurd (false≢true is) }

-- the arrays of the scope that a program's items leave have their numbers among the names of its arrays and functions
pub numbers_at_last : (lists : Lists) (h : IsProgram lists) (name : Name) → IsArray (known h.script.items) name → array_at (globals_of lists) name ≡ array_at (known h.script.items) name
numbers_at_last lists h name is = ap (λ o. elim o [ None ↦ 0 | Some n ↦ n ]) ((by_items Numbered numbered_turn nothing_numbered lists h).numbers name is)

-- ---- no constants

abbrev HasNoConstants : Scope → Type 0
HasNoConstants names = (name : Name) → constant_of names name ≡ None

one_plain : (names : Scope) (x : Name) (m : Meaning) → as_constant m ≡ None → HasNoConstants names → HasNoConstants ((x, m) ∷ names)
one_plain names x m none h name =
    elim (bytes_eq name x) as (λ b. option_and_then as_constant (if b then Some m else meaning_of names name) ≡ None) [
      | true ↦ none
      | false ↦ h name
    ]

functions_plain : (names : Scope) (fs : List FunctionInfo) → HasNoConstants names → HasNoConstants (fold with_signature names fs)
functions_plain names [] h = h
functions_plain names (f ∷ fs) h =
    functions_plain (with_signature names f) fs (one_plain names f.name (Function (record { params = kinds_of f.params; kind = f.kind; depth = 0; size = 0 })) refl h)

arrays_plain : (names : Scope) (arrays : List ArrayInfo) → HasNoConstants names → HasNoConstants (fold with_array names arrays)
arrays_plain names [] h = h
arrays_plain names (a ∷ arrays) h = arrays_plain (with_array names a) arrays (one_plain names a.name (Array a.kind (pos 0)) refl h)

pub globals_plain : (lists : Lists) (name : Name) → constant_of (globals_of lists) name ≡ None
globals_plain lists = arrays_plain (scope_of lists.functions) lists.arrays (functions_plain [] lists.functions (λ name. refl))
