-- The functions of a program use their parameters and call earlier functions alone.
use Rattle.std.proofs.Common.{◌≡◌, ◌+◌, Bool, true, false, IsTrue, Some, None, List, [], ◌∷◌, ◌++◌, map, length, option_and_then, if◌then◌else◌, bytes_eq, ℤ, refl, sym, ap, ◌∙◌, subst, append-nil, append_assoc}
use Rattle.std.specs.Prelude.{◌||◌}
use Rattle.std.specs.List.{list_any}
use Rattle.std.proofs.lemmas.Option.{none-some}
use Rattle.std.proofs.lemmas.List.{map-append}
use Rattle.std.proofs.lemmas.List.Folds.{list_any-append}
use Rattle.pts_types.specs.declared.value.Kind.{Kind}
use Rattle.pts_tree.specs.declared.script.Param.{Param}
use Rattle.pts_tree.specs.declared.script.Item.{Item}
use Rattle.pts_tree.specs.declared.script.Item.TheVariants as items
use Rattle.pts_rules.specs.declared.meaning.Meaning.{Meaning}
use Rattle.pts_rules.specs.declared.meaning.Meaning.TheVariants.{Constant, Array, Function, Value}
use Rattle.pts_rules.specs.declared.meaning.Signature.{Signature}
use Rattle.pts_rules.specs.Known.{Scope, meaning_of, constant_of, as_constant, as_function, as_value, number}
use Rattle.pts_rules.specs.Parts.{Name, param_names}
use Rattle.pts_rules.specs.Scopes.{after, known, param_entry, signature}
use Rattle.pts_constants.specs.Resolved.{resolved_expr}
use Rattle.pts_code.specs.declared.function.FunctionInfo.{FunctionInfo}
use Rattle.pts_program.specs.declared.lists.Lists.{Lists}
use Rattle.pts_program.specs.Callings.{CallEarlier, is_one_of, uses_only}
use Rattle.pts_program.specs.Lists.{functions_of, no_lists, with_item, with_items, IsProgram}
use Rattle.pts_program.proofs.Callings.{AreThese, uses_these}
use Rattle.pts_program.proofs.Declared.{known_more}
use Rattle.pts_program.proofs.Insides.{AllKeep, all_items_keep}
use Rattle.pts_program.proofs.Keeping.{Keeps}

abbrev names_of : List FunctionInfo → List Name
names_of functions = map (λ f. f.name) functions

-- no name is that of a value, and each name of a function is in the list
record AreListed (scope : Scope) (functions : List FunctionInfo) : Type 0 where
  pub no_values : (name : Name) (kind : Kind) → ¬ (meaning_of scope name ≡ Some (Value kind))
  pub listed : (name : Name) (f : Signature) → meaning_of scope name ≡ Some (Function f) → is_one_of (names_of functions) name ≡ true

-- ---- parameters in front

pub param_there : (ps : List Param) (scope : Scope) → ((name : Name) (kind : Kind) → ¬ (meaning_of scope name ≡ Some (Value kind)))
    → (name : Name) (kind : Kind) → meaning_of (map param_entry ps ++ scope) name ≡ Some (Value kind) → is_one_of (param_names ps) name ≡ true
param_there [] scope none name kind is = absurd (none name kind is)
param_there (p ∷ ps) scope none name kind is =
    elim (bytes_eq name p.name) as (λ b. (if b then Some (Value p.kind) else meaning_of (map param_entry ps ++ scope) name) ≡ Some (Value kind) → (b || is_one_of (param_names ps) name) ≡ true) [
      | true ↦ λ found. refl
      | false ↦ λ found. param_there ps scope none name kind found
    ] is

pub function_behind : (ps : List Param) (scope : Scope) (name : Name) (f : Signature) → meaning_of (map param_entry ps ++ scope) name ≡ Some (Function f) → meaning_of scope name ≡ Some (Function f)
function_behind [] scope name f is = is
function_behind (p ∷ ps) scope name f is =
    elim (bytes_eq name p.name) as (λ b. (if b then Some (Value p.kind) else meaning_of (map param_entry ps ++ scope) name) ≡ Some (Function f) → meaning_of scope name ≡ Some (Function f)) [
      | true ↦ λ found. absurd (none-some f (ap (option_and_then as_function) found))
      | false ↦ λ found. function_behind ps scope name f found
    ] is

pub constant_behind : (ps : List Param) (scope : Scope) (name : Name) (z : ℤ) → meaning_of (map param_entry ps ++ scope) name ≡ Some (Constant z) → constant_of scope name ≡ Some z
constant_behind [] scope name z is = ap (option_and_then as_constant) is
constant_behind (p ∷ ps) scope name z is =
    elim (bytes_eq name p.name) as (λ b. (if b then Some (Value p.kind) else meaning_of (map param_entry ps ++ scope) name) ≡ Some (Constant z) → constant_of scope name ≡ Some z) [
      | true ↦ λ found. absurd (none-some z (ap (option_and_then as_constant) found))
      | false ↦ λ found. constant_behind ps scope name z found
    ] is

these : (ps : List Param) (scope : Scope) (functions : List FunctionInfo) → AreListed scope functions → AreThese (map param_entry ps ++ scope) scope (param_names ps) (names_of functions)
these ps scope functions h = record {
  constants_known = constant_behind ps scope;
  values_known = param_there ps scope h.no_values;
  functions_known = λ name f is. h.listed name f (function_behind ps scope name f is);
}

-- ---- one name more

no_values_more : (scope : Scope) (x : Name) (m : Meaning) → as_value m ≡ None → ((name : Name) (kind : Kind) → ¬ (meaning_of scope name ≡ Some (Value kind)))
    → (name : Name) (kind : Kind) → ¬ (meaning_of ((x, m) ∷ scope) name ≡ Some (Value kind))
no_values_more scope x m other none name kind is =
    elim (bytes_eq name x) as (λ b. (if b then Some m else meaning_of scope name) ≡ Some (Value kind) → ⊥) [
      | true ↦ λ found. none-some kind (sym other ∙ ap (option_and_then as_value) found)
      | false ↦ λ found. none name kind found
    ] is

-- a name that is no function's
other_listed : (scope : Scope) (functions : List FunctionInfo) (x : Name) (m : Meaning) → as_value m ≡ None → as_function m ≡ None → AreListed scope functions → AreListed ((x, m) ∷ scope) functions
other_listed scope functions x m no_value no_function h = record {
  no_values = no_values_more scope x m no_value h.no_values;
  listed = λ name f is.
      elim (bytes_eq name x) as (λ b. (if b then Some m else meaning_of scope name) ≡ Some (Function f) → is_one_of (names_of functions) name ≡ true) [
        | true ↦ λ found. absurd (none-some f (sym no_function ∙ ap (option_and_then as_function) found))
        | false ↦ λ found. h.listed name f found
      ] is;
}

or_right : (a b : Bool) → b ≡ true → (a || b) ≡ true
or_right true b h = refl
or_right false b h = h

or_left : (a b : Bool) → a ≡ true → (a || b) ≡ true
or_left a b h = ap (λ c. c || b) h

function_listed : (scope : Scope) (functions : List FunctionInfo) (f : FunctionInfo) (s : Signature) → AreListed scope functions → AreListed ((f.name, Function s) ∷ scope) (functions ++ f ∷ [])
function_listed scope functions f s h = record {
  no_values = no_values_more scope f.name (Function s) refl h.no_values;
  listed = λ name g is.
      let split : is_one_of (names_of (functions ++ f ∷ [])) name ≡ (is_one_of (names_of functions) name || (bytes_eq name f.name || false)) =
      ap (list_any (bytes_eq name)) (map-append (λ (h : FunctionInfo). h.name) functions (f ∷ [])) ∙ list_any-append (bytes_eq name) (names_of functions) (f.name ∷ []) in
      split
      ∙ (elim (bytes_eq name f.name) as (λ b. (if b then Some (Function s) else meaning_of scope name) ≡ Some (Function g) → (is_one_of (names_of functions) name || (b || false)) ≡ true) [
        | true ↦ λ found. or_right (is_one_of (names_of functions) name) true refl
        | false ↦ λ found. or_left (is_one_of (names_of functions) name) false (h.listed name g found)
      ] is);
}

-- ---- one item more

-- the functions so far have their names in scope, and call earlier ones
record AreCallable (scope : Scope) (functions : List FunctionInfo) : Type 0 where
  pub names : AreListed scope functions
  pub earlier : CallEarlier [] functions

earlier_more : (earlier : List Name) (fs : List FunctionInfo) (f : FunctionInfo) → CallEarlier earlier fs → IsTrue (uses_only (param_names f.params) (earlier ++ names_of fs) f.body)
    → CallEarlier earlier (fs ++ f ∷ [])
earlier_more earlier [] f h own = (subst (λ es. IsTrue (uses_only (param_names f.params) es f.body)) (append-nil earlier) own, tt)
earlier_more earlier (g ∷ fs) f h own = (
  h.0,
  earlier_more (earlier ++ g.name ∷ []) fs f h.1 (subst (λ es. IsTrue (uses_only (param_names f.params) es f.body)) (sym (append_assoc earlier (g.name ∷ []) (names_of fs))) own),
)

same_functions : (scope next : Scope) (functions : List FunctionInfo) → AreListed next functions → CallEarlier [] functions → AreCallable next (functions ++ [])
same_functions scope next functions names earlier = subst (AreCallable next) (sym (append-nil functions)) (record { names = names; earlier = earlier })

callable_after : (before : List Item) (x : Item) (functions : List FunctionInfo) → Keeps before x → AreCallable (known before) functions
    → AreCallable (after (known before) x) (functions ++ functions_of (known before) x)
callable_after before (items.Const x) functions keeps h =
    same_functions (known before) (after (known before) (items.Const x)) functions
    (other_listed (known before) functions x.name (Constant (number (known before) x.value)) refl refl h.names) h.earlier
callable_after before (items.Array x) functions keeps h =
    same_functions (known before) (after (known before) (items.Array x)) functions
    (other_listed (known before) functions x.name (Array x.kind (number (known before) x.length)) refl refl h.names) h.earlier
callable_after before (items.Function x) functions keeps h =
    let scope = known before in
    let f : FunctionInfo = record { name = x.name; params = x.params; kind = x.kind; body = resolved_expr scope x.body } in
    record {
      names = function_listed scope functions f (signature scope x) h.names;
      earlier =
          earlier_more [] functions f h.earlier
          (uses_these (map param_entry x.params ++ scope) scope (param_names x.params) (names_of functions) (these x.params scope functions h.names) x.kind x.body (keeps.right));
    }
callable_after before (items.Call x) functions keeps h = same_functions (known before) (known before) functions h.names h.earlier
callable_after before (items.Loop x) functions keeps h = same_functions (known before) (known before) functions h.names h.earlier
callable_after before (items.Block x) functions keeps h = same_functions (known before) (known before) functions h.names h.earlier
callable_after before (items.Print x) functions keeps h = same_functions (known before) (known before) functions h.names h.earlier

-- ---- all items

callable_all : (before rest : List Item) (lists : Lists) → AllKeep before rest → AreCallable (known before) lists.functions → CallEarlier [] (with_items before lists rest).functions
callable_all before [] lists keeps h = h.earlier
callable_all before (x ∷ rest) lists keeps h =
    callable_all (before ++ x ∷ []) rest (with_item (known before) (length before + 1) lists x) keeps.1
    (subst (λ scope. AreCallable scope (lists.functions ++ functions_of (known before) x)) (sym (known_more before x)) (callable_after before x lists.functions keeps.0 h))

none_callable : AreCallable (known []) []
unfolding known
none_callable = record { names = record { no_values = λ name kind is. none-some (Value kind) is; listed = λ name f is. absurd (none-some (Function f) is) }; earlier = tt }

-- the functions of a program call earlier ones
pub functions_in_order : (lists : Lists) → IsProgram lists → CallEarlier [] lists.functions
functions_in_order lists h =
    subst (λ (l : Lists). CallEarlier [] l.functions) (sym h.made) (callable_all [] h.script.items no_lists (all_items_keep h.script h.sound) none_callable)
