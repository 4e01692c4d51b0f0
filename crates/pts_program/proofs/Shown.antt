-- What the names of a scope stand for among the arrays and functions of the lists.
use Rattle.std.proofs.Common.{◌≡◌, Bool, true, false, if◌then◌else◌, Some, None, List, [], ◌∷◌, ◌++◌, map, length, option_map, option_and_then, bytes_eq, ℤ, pos, refl, sym, ap, ◌∙◌, subst, append-nil}
use Rattle.std.specs.Prelude.{◌||◌, unwrap_or}
use Rattle.std.specs.Option.{option_or}
use Rattle.std.proofs.lemmas.Bool.{and_parts, or_parts, false≢true}
use Rattle.std.proofs.lemmas.Option.{none-some}
use Rattle.std.proofs.lemmas.List.{map-append}
use Rattle.std.proofs.lemmas.List.Folds.{list_any-append}
use Rattle.std.proofs.lemmas.List.Sums.{fold_push}
use Rattle.std.proofs.lemmas.Slice.Eq.{bytes_eq-Decides}
use Rattle.pts_types.specs.declared.value.Kind.{Kind}
use Rattle.pts_tree.specs.declared.script.Item.{Item}
use Rattle.pts_tree.specs.declared.script.Item.TheVariants as items
use Rattle.pts_rules.specs.declared.meaning.Meaning.{Meaning}
use Rattle.pts_rules.specs.declared.meaning.Meaning.TheVariants.{Constant, Array, Function, Value, View}
use Rattle.pts_rules.specs.declared.meaning.Signature.{Signature}
use Rattle.pts_rules.specs.Known.{Scope, meaning_of, as_array, as_function, as_value, as_view, natural, number}
use Rattle.pts_rules.specs.Names.{has_repeat, meet, names_in}
use Rattle.pts_rules.specs.Parts.{Name, is_among}
use Rattle.pts_rules.specs.Scopes.{after, known, signature}
use Rattle.pts_code.specs.declared.function.FunctionInfo.{FunctionInfo}
use Rattle.pts_code.specs.Functions.{scope_of, with_signature}
use Rattle.pts_constants.specs.Resolved.{resolved_expr}
use Rattle.pts_starts.specs.Starts.{start_cells}
use Rattle.pts_program.specs.declared.info.ArrayInfo.{ArrayInfo}
use Rattle.pts_program.specs.declared.lists.Lists.{Lists}
use Rattle.pts_program.specs.Lists.{arrays_of, functions_of, no_lists, IsProgram}
use Rattle.pts_program.specs.Namings.{array_entry, array_named, array_names, function_names, global_names, names_of}
use Rattle.pts_program.proofs.Declared.{known_more}
use Rattle.pts_program.proofs.Insides.{start_length}
use Rattle.pts_program.proofs.ItemTurns.{IsTurn, by_items}
use Rattle.pts_program.proofs.Keeping.{Keeps}
use Rattle.pts_program.proofs.KeptKinds.{plain}
use Rattle.pts_program.proofs.NamesApart.{both_once, in_front, meets_not, none_twice, unnamed}
use Rattle.pts_program.proofs.Truths.{not_true, or_true}

-- ---- arrays by their names

named_behind : (xs ys : List ArrayInfo) (name : Name) → array_named (xs ++ ys) name ≡ option_or (array_named xs name) (array_named ys name)
named_behind [] ys name = refl
named_behind (x ∷ xs) ys name =
    elim (bytes_eq name x.name) as (λ b. (if b then Some x else array_named (xs ++ ys) name) ≡ option_or (if b then Some x else array_named xs name) (array_named ys name)) [
      | true ↦ refl
      | false ↦ named_behind xs ys name
    ]

-- an array that was found is found where more stand behind
pub still_named : (xs ys : List ArrayInfo) (name : Name) (a : ArrayInfo) → array_named xs name ≡ Some a → array_named (xs ++ ys) name ≡ Some a
still_named xs ys name a is = named_behind xs ys name ∙ ap (λ o. option_or o (array_named ys name)) is

not_named : (xs : List ArrayInfo) (name : Name) → is_among name (array_names xs) ≡ false → array_named xs name ≡ None
not_named [] name apart = refl
not_named (x ∷ xs) name apart =
    let parts = or_parts (bytes_eq name x.name) (is_among name (array_names xs)) apart in
    ap (λ b. if b then Some x else array_named xs name) parts.0 ∙ not_named xs name parts.1

newly_named : (xs : List ArrayInfo) (a : ArrayInfo) (name : Name) → is_among name (array_names xs) ≡ false → bytes_eq name a.name ≡ true → array_named (xs ++ a ∷ []) name ≡ Some a
newly_named xs a name apart same =
    named_behind xs (a ∷ []) name ∙ ap (λ o. option_or o (array_named (a ∷ []) name)) (not_named xs name apart) ∙ ap (λ b. if b then Some a else None) same

-- as a name in scope
abbrev as_entry : ArrayInfo → Meaning
as_entry a = Array a.kind (pos (length a.cells))

entry_meaning : (arrays : List ArrayInfo) (rest : Scope) (name : Name) → meaning_of (map array_entry arrays ++ rest) name ≡ option_or (option_map as_entry (array_named arrays name)) (meaning_of rest name)
entry_meaning [] rest name = refl
entry_meaning (a ∷ arrays) rest name =
    elim (bytes_eq name a.name) as (λ b. (if b then Some (as_entry a) else meaning_of (map array_entry arrays ++ rest) name) ≡ option_or (option_map as_entry (if b then Some a else array_named arrays name)) (meaning_of rest name)) [
      | true ↦ refl
      | false ↦ entry_meaning arrays rest name
    ]

-- ---- names in scope

-- an array of this name, kind and length
pub record IsArray (arrays : List ArrayInfo) (name : Name) (kind : Kind) (size : ℤ) : Type 0 where
  pub array : ArrayInfo
  pub named : array_named arrays name ≡ Some array
  pub kinds : array.kind ≡ kind
  pub sizes : pos (length array.cells) ≡ size

-- a name stands for an array, and one for a function
pub record NamesArray (scope : Scope) (name : Name) : Type 0 where
  pub kind : Kind
  pub size : ℤ
  pub means : meaning_of scope name ≡ Some (Array kind size)

pub record NamesFunction (scope : Scope) (name : Name) : Type 0 where
  pub signature : Signature
  pub means : meaning_of scope name ≡ Some (Function signature)

-- no local names, and the names of arrays and functions are those of these, each once
pub record AreShown (scope : Scope) (arrays : List ArrayInfo) (functions : List FunctionInfo) : Type 0 where
  pub no_values : (name : Name) (kind : Kind) → ¬ (meaning_of scope name ≡ Some (Value kind))
  pub no_views : (name : Name) (kind : Kind) → ¬ (meaning_of scope name ≡ Some (View kind))
  pub arrays_shown : (name : Name) (kind : Kind) (size : ℤ) → meaning_of scope name ≡ Some (Array kind size) → IsArray arrays name kind size
  pub functions_shown : (name : Name) (f : Signature) → meaning_of scope name ≡ Some (Function f) → meaning_of (scope_of functions) name ≡ Some (Function (plain f))
  pub arrays_known : (name : Name) → is_among name (array_names arrays) ≡ true → NamesArray scope name
  pub functions_known : (name : Name) → is_among name (function_names functions) ≡ true → NamesFunction scope name
  pub functions_listed : (name : Name) (f : Signature) → meaning_of scope name ≡ Some (Function f) → is_among name (function_names functions) ≡ true
  pub arrays_once : has_repeat (array_names arrays) ≡ false
  pub functions_once : has_repeat (function_names functions) ≡ false

-- ---- one name more

-- the name is new
abbrev IsNew : Scope → Name → Type 0
IsNew scope name = meaning_of scope name ≡ None

-- what a name stood for, it stands for behind a new name
pub still_means : (scope : Scope) (x name : Name) (new m : Meaning) → IsNew scope x → meaning_of scope name ≡ Some m → meaning_of ((x, new) ∷ scope) name ≡ Some m
still_means scope x name new m fresh is =
    (elim (bytes_eq name x) as (λ b. bytes_eq name x ≡ b → (if b then Some new else meaning_of scope name) ≡ Some m) [
      | true ↦ λ same. absurd (none-some m (sym fresh ∙ ap (meaning_of scope) (sym ((bytes_eq-Decides name x).0 same)) ∙ is))
      | false ↦ λ other. is
    ]) refl

-- what it stands for then, it stood for, or it is the new name
meant_before : (P : Name → Type 0) (scope : Scope) (x name : Name) (new m : Meaning) → meaning_of ((x, new) ∷ scope) name ≡ Some m
    → (bytes_eq name x ≡ true → Some new ≡ Some m → P name) → (bytes_eq name x ≡ false → meaning_of scope name ≡ Some m → P name) → P name
meant_before P scope x name new m is here there =
    (elim (bytes_eq name x) as (λ b. bytes_eq name x ≡ b → (if b then Some new else meaning_of scope name) ≡ Some m → P name) [
      | true ↦ λ same found. here same found
      | false ↦ λ other found. there other found
    ]) refl is

-- what a new name brings: an array or a function of it, or neither
record Brings (scope : Scope) (arrays : List ArrayInfo) (functions : List FunctionInfo) (x : Name) (m : Meaning) (more : List ArrayInfo) (others : List FunctionInfo) : Type 0 where
  pub no_value : as_value m ≡ None
  pub no_view : as_view m ≡ None
  pub array : (name : Name) (kind : Kind) (size : ℤ) → bytes_eq name x ≡ true → Some m ≡ Some (Array kind size) → IsArray (arrays ++ more) name kind size
  pub function : (name : Name) (f : Signature) → bytes_eq name x ≡ true → Some m ≡ Some (Function f) → meaning_of (scope_of (functions ++ others)) name ≡ Some (Function (plain f))
  pub kept : (name : Name) (f : Meaning) → bytes_eq name x ≡ false → meaning_of (scope_of functions) name ≡ Some f → meaning_of (scope_of (functions ++ others)) name ≡ Some f
  pub listed : (name : Name) (f : Signature) → bytes_eq name x ≡ true → Some m ≡ Some (Function f) → is_among name (function_names (functions ++ others)) ≡ true
  pub arrays_known : (name : Name) → is_among name (array_names more) ≡ true → NamesArray ((x, m) ∷ scope) name
  pub functions_known : (name : Name) → is_among name (function_names others) ≡ true → NamesFunction ((x, m) ∷ scope) name
  pub arrays_once : has_repeat (array_names (arrays ++ more)) ≡ false
  pub functions_once : has_repeat (function_names (functions ++ others)) ≡ false

in_one : (xs ys : List Name) (name : Name) (P : Type 0) → is_among name (xs ++ ys) ≡ true → (is_among name xs ≡ true → P) → (is_among name ys ≡ true → P) → P
in_one xs ys name P among f g =
    (elim (is_among name xs) as (λ b. is_among name xs ≡ b → (b || is_among name ys) ≡ true → P) [
      | true ↦ λ here all. f here
      | false ↦ λ here all. g all
    ]) refl (sym (list_any-append (bytes_eq name) xs ys) ∙ among)

array_still : (scope : Scope) (x name : Name) (new : Meaning) → IsNew scope x → NamesArray scope name → NamesArray ((x, new) ∷ scope) name
array_still scope x name new fresh h = record { kind = h.kind; size = h.size; means = still_means scope x name new (Array h.kind h.size) fresh h.means }

function_still : (scope : Scope) (x name : Name) (new : Meaning) → IsNew scope x → NamesFunction scope name → NamesFunction ((x, new) ∷ scope) name
function_still scope x name new fresh h = record { signature = h.signature; means = still_means scope x name new (Function h.signature) fresh h.means }

shown_more : (scope : Scope) (arrays more : List ArrayInfo) (functions others : List FunctionInfo) (x : Name) (m : Meaning) → IsNew scope x → AreShown scope arrays functions
    → Brings scope arrays functions x m more others → AreShown ((x, m) ∷ scope) (arrays ++ more) (functions ++ others)
shown_more scope arrays more functions others x m fresh h b = record {
  no_values = λ name kind is.
      meant_before (λ n. ⊥) scope x name m (Value kind) is (λ same found. none-some kind (sym b.no_value ∙ ap (option_and_then as_value) found)) (λ other. h.no_values name kind);
  no_views = λ name kind is.
      meant_before (λ n. ⊥) scope x name m (View kind) is (λ same found. none-some kind (sym b.no_view ∙ ap (option_and_then as_view) found)) (λ other. h.no_views name kind);
  arrays_shown = λ name kind size is.
      meant_before (λ n. IsArray (arrays ++ more) n kind size) scope x name m (Array kind size) is (b.array name kind size)
      (λ other found. let a = h.arrays_shown name kind size found in record { array = a.array; named = still_named arrays more name a.array a.named; kinds = a.kinds; sizes = a.sizes });
  functions_shown = λ name f is.
      meant_before (λ n. meaning_of (scope_of (functions ++ others)) n ≡ Some (Function (plain f))) scope x name m (Function f) is (b.function name f)
      (λ other found. b.kept name (Function (plain f)) other (h.functions_shown name f found));
  arrays_known = λ name among.
      in_one (array_names arrays) (array_names more) name (NamesArray ((x, m) ∷ scope) name) (ap (is_among name) (sym (map-append (λ (a : ArrayInfo). a.name) arrays more)) ∙ among)
      (λ old. array_still scope x name m fresh (h.arrays_known name old)) (b.arrays_known name);
  functions_known = λ name among.
      in_one (function_names functions) (function_names others) name (NamesFunction ((x, m) ∷ scope) name) (ap (is_among name) (sym (map-append (λ (f : FunctionInfo). f.name) functions others)) ∙ among)
      (λ old. function_still scope x name m fresh (h.functions_known name old)) (b.functions_known name);
  functions_listed = λ name f is.
      meant_before (λ n. is_among n (function_names (functions ++ others)) ≡ true) scope x name m (Function f) is (b.listed name f)
      (λ other found.
      ap (is_among name) (map-append (λ (g : FunctionInfo). g.name) functions others)
      ∙ in_front (function_names functions) (function_names others) name (h.functions_listed name f found));
  arrays_once = b.arrays_once;
  functions_once = b.functions_once;
}

none_among : (scope : Scope) (arrays : List ArrayInfo) (functions : List FunctionInfo) (x : Name) → AreShown scope arrays functions → IsNew scope x
    → (is_among x (array_names arrays) ≡ false) × (is_among x (function_names functions) ≡ false)
none_among scope arrays functions x h fresh = (
  not_true (is_among x (array_names arrays)) (λ among. let a = h.arrays_known x among in none-some (Array a.kind a.size) (sym fresh ∙ a.means)),
  not_true (is_among x (function_names functions)) (λ among. let f = h.functions_known x among in none-some (Function f.signature) (sym fresh ∙ f.means)),
)

here : (scope : Scope) (x name : Name) (m : Meaning) → bytes_eq name x ≡ true → meaning_of ((x, m) ∷ scope) name ≡ Some m
here scope x name m same = ap (λ b. if b then Some m else meaning_of scope name) same

-- among one name it is this one
only : (x name : Name) → is_among name (x ∷ []) ≡ true → bytes_eq name x ≡ true
only x name h = (elim (bytes_eq name x) as (λ b. (b || false) ≡ true → b ≡ true) [ true ↦ λ e. refl | false ↦ λ e. e ]) h

same_name : (x name : Name) → bytes_eq name x ≡ true → name ≡ x
same_name x name h = (bytes_eq-Decides name x).0 h

-- a constant brings neither
const_brings : (scope : Scope) (arrays : List ArrayInfo) (functions : List FunctionInfo) (x : Name) (z : ℤ) → AreShown scope arrays functions → Brings scope arrays functions x (Constant z) [] []
const_brings scope arrays functions x z h = record {
  no_value = refl;
  no_view = refl;
  array = λ name kind size same is. absurd (none-some (kind, size) (ap (option_and_then as_array) is));
  function = λ name f same is. absurd (none-some f (ap (option_and_then as_function) is));
  kept = λ name f other is. ap (λ fs. meaning_of (scope_of fs) name) (append-nil functions) ∙ is;
  listed = λ name f same is. absurd (none-some f (ap (option_and_then as_function) is));
  arrays_known = λ name among. absurd (false≢true among);
  functions_known = λ name among. absurd (false≢true among);
  arrays_once = ap (λ xs. has_repeat (array_names xs)) (append-nil arrays) ∙ h.arrays_once;
  functions_once = ap (λ fs. has_repeat (function_names fs)) (append-nil functions) ∙ h.functions_once;
}

abbrev kind_or : Kind → Meaning → Kind
kind_or kind (Array k size) = k
kind_or kind m = kind

abbrev size_or : ℤ → Meaning → ℤ
size_or size (Array k z) = z
size_or size m = size

array_brings : (scope : Scope) (arrays : List ArrayInfo) (functions : List FunctionInfo) (a : ArrayInfo) (z : ℤ) → pos (length a.cells) ≡ z → IsNew scope a.name → AreShown scope arrays functions
    → Brings scope arrays functions a.name (Array a.kind z) (a ∷ []) []
array_brings scope arrays functions a z size fresh h =
    let apart = none_among scope arrays functions a.name h fresh in
    record {
      no_value = refl;
      no_view = refl;
      array = λ name kind s same is. record {
        array = a;
        named = newly_named arrays a name (ap (λ n. is_among n (array_names arrays)) (same_name a.name name same) ∙ apart.0) same;
        kinds = ap (λ o. kind_or kind (unwrap_or o (Array kind s))) is;
        sizes = size ∙ ap (λ o. size_or s (unwrap_or o (Array kind s))) is;
      };
      function = λ name f same is. absurd (none-some f (ap (option_and_then as_function) is));
      kept = λ name f other is. ap (λ fs. meaning_of (scope_of fs) name) (append-nil functions) ∙ is;
      listed = λ name f same is. absurd (none-some f (ap (option_and_then as_function) is));
      arrays_known = λ name among. record { kind = a.kind; size = z; means = here scope a.name name (Array a.kind z) (only a.name name among) };
      functions_known = λ name among. absurd (false≢true among);
      arrays_once = ap has_repeat (map-append (λ (b : ArrayInfo). b.name) arrays (a ∷ [])) ∙ none_twice (array_names arrays) a.name h.arrays_once apart.0;
      functions_once = ap (λ fs. has_repeat (function_names fs)) (append-nil functions) ∙ h.functions_once;
    }

abbrev plain_of : Meaning → Meaning
plain_of (Function f) = Function (plain f)
plain_of m = m

function_brings : (scope : Scope) (arrays : List ArrayInfo) (functions : List FunctionInfo) (f : FunctionInfo) (s : Signature)
    → plain s ≡ record { params = map (λ p. p.kind) f.params; kind = f.kind; depth = 0; size = 0 } → IsNew scope f.name → AreShown scope arrays functions
    → Brings scope arrays functions f.name (Function s) [] (f ∷ [])
function_brings scope arrays functions f s own fresh h =
    let apart = none_among scope arrays functions f.name h fresh in
    let entry : Meaning = Function (record { params = map (λ p. p.kind) f.params; kind = f.kind; depth = 0; size = 0 }) in
    let pushed : (name : Name) → meaning_of (scope_of (functions ++ f ∷ [])) name ≡ (if bytes_eq name f.name then Some entry else meaning_of (scope_of functions) name) =
    λ name. ap (λ names. meaning_of names name) (fold_push with_signature [] functions f) in
    record {
      no_value = refl;
      no_view = refl;
      array = λ name kind size same is. absurd (none-some (kind, size) (ap (option_and_then as_array) is));
      function = λ name g same is.
          pushed name ∙ ap (λ b. if b then Some entry else meaning_of (scope_of functions) name) same
          ∙ ap (λ x. Some (Function x)) (sym own) ∙ ap (option_map plain_of) is;
      kept = λ name g other is. pushed name ∙ ap (λ b. if b then Some entry else meaning_of (scope_of functions) name) other ∙ is;
      listed = λ name g same is.
          ap (is_among name) (map-append (λ (g : FunctionInfo). g.name) functions (f ∷ []))
          ∙ list_any-append (bytes_eq name) (function_names functions) (f.name ∷ [])
          ∙ ap (λ b. is_among name (function_names functions) || (b || false)) same
          ∙ or_true (is_among name (function_names functions)) true refl;
      arrays_known = λ name among. absurd (false≢true among);
      functions_known = λ name among. record { signature = s; means = here scope f.name name (Function s) (only f.name name among) };
      arrays_once = ap (λ xs. has_repeat (array_names xs)) (append-nil arrays) ∙ h.arrays_once;
      functions_once = ap has_repeat (map-append (λ (g : FunctionInfo). g.name) functions (f ∷ [])) ∙ none_twice (function_names functions) f.name h.functions_once apart.1;
    }

-- ---- one item more

abbrev Shows : List Item → Lists → Type 0
Shows before lists = AreShown (known before) lists.arrays lists.functions

-- an item declares no name that was in scope
pub new_name : (scope : Scope) (x : Name) (rest : Bool) → (meet (x ∷ []) (names_in scope) || rest) ≡ false → IsNew scope x
new_name scope x rest once =
    let front = (or_parts (meet (x ∷ []) (names_in scope)) rest once).0 in
    unnamed scope x (or_parts (is_among x (names_in scope)) false front).0

none_shown : (scope : Scope) (arrays : List ArrayInfo) (functions : List FunctionInfo) → AreShown scope arrays functions → AreShown scope (arrays ++ []) (functions ++ [])
none_shown scope arrays functions h = subst (λ xs. AreShown scope xs (functions ++ [])) (sym (append-nil arrays)) (subst (AreShown scope arrays) (sym (append-nil functions)) h)

shown_after : (before : List Item) (x : Item) (arrays : List ArrayInfo) (functions : List FunctionInfo) → Keeps before x → AreShown (known before) arrays functions
    → AreShown (after (known before) x) (arrays ++ arrays_of (known before) x) (functions ++ functions_of (known before) x)
shown_after before (items.Const x) arrays functions keeps h =
    let scope = known before in
    shown_more scope arrays [] functions [] x.name (Constant (number scope x.value)) (new_name scope x.name _ keeps.once) h
    (const_brings scope arrays functions x.name (number scope x.value) h)
shown_after before (items.Array x) arrays functions keeps h =
    let scope = known before in
    let fresh = new_name scope x.name _ keeps.once in
    let a : ArrayInfo = record { name = x.name; kind = x.kind; cells = start_cells scope x.kind (natural (number scope x.length)) x.start } in
    shown_more scope arrays (a ∷ []) functions [] x.name (Array x.kind (number scope x.length)) fresh h
    (array_brings scope arrays functions a (number scope x.length) (start_length scope x (and_parts _ _ keeps.right).0 keeps.lengths) fresh h)
shown_after before (items.Function x) arrays functions keeps h =
    let scope = known before in
    let fresh = new_name scope x.name _ keeps.once in
    let f : FunctionInfo = record { name = x.name; params = x.params; kind = x.kind; body = resolved_expr scope x.body } in
    shown_more scope arrays [] functions (f ∷ []) x.name (Function (signature scope x)) fresh h
    (function_brings scope arrays functions f (signature scope x) refl fresh h)
shown_after before (items.Call x) arrays functions keeps h = none_shown (known before) arrays functions h
shown_after before (items.Loop x) arrays functions keeps h = none_shown (known before) arrays functions h
shown_after before (items.Block x) arrays functions keeps h = none_shown (known before) arrays functions h
shown_after before (items.Print x) arrays functions keeps h = none_shown (known before) arrays functions h

pub shown_turn : IsTurn Shows
shown_turn before x lists keeps written h =
    subst (λ scope. AreShown scope (lists.arrays ++ arrays_of (known before) x) (lists.functions ++ functions_of (known before) x)) (sym (known_more before x))
    (shown_after before x lists.arrays lists.functions keeps h)

pub nothing_shown : Shows [] no_lists
unfolding known
nothing_shown = record {
  no_values = λ name kind is. none-some (Value kind) is;
  no_views = λ name kind is. none-some (View kind) is;
  arrays_shown = λ name kind size is. absurd (none-some (Array kind size) is);
  functions_shown = λ name f is. absurd (none-some (Function f) is);
  arrays_known = λ name among. absurd (false≢true among);
  functions_known = λ name among. absurd (false≢true among);
  functions_listed = λ name f is. absurd (none-some (Function f) is);
  arrays_once = refl;
  functions_once = refl;
}

-- the names of the scope that a program's items leave are those of its arrays and functions
pub all_shown : (lists : Lists) (h : IsProgram lists) → AreShown (known h.script.items) lists.arrays lists.functions
all_shown lists h = by_items Shows shown_turn nothing_shown lists h

-- ---- all names differ

-- no array has the name of a function
apart : (scope : Scope) (arrays : List ArrayInfo) (functions : List FunctionInfo) → AreShown scope arrays functions → meet (array_names arrays) (function_names functions) ≡ false
apart scope arrays functions h =
    meets_not (array_names arrays) (function_names functions)
    (λ name among. not_true (is_among name (function_names functions)) (λ other.
    let a = h.arrays_known name among in
    let f = h.functions_known name other in
    none-some f.signature (ap (option_and_then as_function) (sym a.means ∙ f.means))))

pub names_differ : (lists : Lists) → IsProgram lists → has_repeat (global_names lists) ≡ false
names_differ lists h =
    let s = all_shown lists h in
    both_once (array_names lists.arrays) (function_names lists.functions) s.arrays_once s.functions_once (apart (known h.script.items) lists.arrays lists.functions s)

-- ---- among the names of the lists

module _ (scope : Scope) (arrays : List ArrayInfo) (functions : List FunctionInfo) (h : AreShown scope arrays functions) where
  pub array_means : (name : Name) (kind : Kind) (size : ℤ) → meaning_of scope name ≡ Some (Array kind size) → meaning_of (names_of arrays functions) name ≡ Some (Array kind size)
  array_means name kind size is =
      let a = h.arrays_shown name kind size is in
      entry_meaning arrays (scope_of functions) name
      ∙ ap (λ o. option_or (option_map as_entry o) (meaning_of (scope_of functions) name)) a.named
      ∙ (λ i. Some (Array (a.kinds i) (a.sizes i)))

  pub function_means : (name : Name) (f : Signature) → meaning_of scope name ≡ Some (Function f) → meaning_of (names_of arrays functions) name ≡ Some (Function (plain f))
  function_means name f is =
      let none = not_named arrays name (not_true (is_among name (array_names arrays)) (λ among. let a = h.arrays_known name among in none-some f (ap (option_and_then as_function) (sym a.means ∙ is)))) in
      entry_meaning arrays (scope_of functions) name
      ∙ ap (λ o. option_or (option_map as_entry o) (meaning_of (scope_of functions) name)) none
      ∙ h.functions_shown name f is
