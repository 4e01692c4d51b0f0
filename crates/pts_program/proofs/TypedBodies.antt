-- The bodies of a program's functions have the kinds of their functions.
use Rattle.std.proofs.Common.{◌≡◌, true, false, IsTrue, Some, None, List, [], ◌∷◌, ◌++◌, fold, map, option_and_then, if◌then◌else◌, bytes_eq, refl, sym, ap, ◌∙◌, subst, append-nil}
use Rattle.std.specs.Prelude.{◌||◌}
use Rattle.std.proofs.lemmas.Bool.{and_parts, or_parts, false≢true}
use Rattle.std.proofs.lemmas.Option.{none-some}
use Rattle.std.proofs.lemmas.Slice.Eq.{bytes_eq-Decides}
use Rattle.pts_types.specs.declared.value.Kind.{Kind}
use Rattle.pts_tree.specs.Scripts.{item_allowed}
use Rattle.pts_tree.specs.Expressions.{shape}
use Rattle.pts_tree.specs.declared.script.FunctionDecl.{FunctionDecl}
use Rattle.pts_tree.specs.declared.script.Param.{Param}
use Rattle.pts_tree.specs.declared.script.Item.{Item}
use Rattle.pts_tree.specs.declared.script.Item.TheVariants as items
use Rattle.pts_rules.specs.declared.meaning.Meaning.TheVariants.{Function, Value}
use Rattle.pts_rules.specs.declared.meaning.Signature.{Signature}
use Rattle.pts_rules.specs.Kinds.{fits}
use Rattle.pts_rules.specs.Known.{Scope, meaning_of, constant_of, as_constant, as_function}
use Rattle.pts_rules.specs.Names.{clash, has_repeat, meet, names_in}
use Rattle.pts_rules.specs.Parts.{Name, is_among, param_names}
use Rattle.pts_rules.specs.Scopes.{known, param_entry}
use Rattle.pts_constants.specs.Resolved.{resolved_expr}
use Rattle.pts_code.specs.declared.function.FunctionInfo.{FunctionInfo}
use Rattle.pts_code.specs.Functions.{body_scope, scope_of, with_signature}
use Rattle.pts_code.specs.Soundness.{HaveTypedBodies, operators_right}
use Rattle.pts_code.proofs.GrammarOperators.{allowed_right}
use Rattle.pts_program.specs.declared.info.ArrayInfo.{ArrayInfo}
use Rattle.pts_program.specs.declared.lists.Lists.{Lists}
use Rattle.pts_program.specs.Lists.{functions_of, no_lists, IsProgram}
use Rattle.pts_program.proofs.ItemTurns.{IsTurn, by_items}
use Rattle.pts_program.proofs.Keeping.{Keeps}
use Rattle.pts_program.proofs.KeptKinds.{Carries, resolved_fits}
use Rattle.pts_program.proofs.KeptOperators.{resolved_right}
use Rattle.pts_program.proofs.NamesApart.{apart_from, in_neither, unnamed}
use Rattle.pts_program.proofs.Shown.{AreShown, nothing_shown, shown_turn}
use Rattle.pts_program.proofs.SoundFunctions.{constant_behind, function_behind, param_there}

-- ---- parameters, the last of them in front

-- a name that is no parameter's is what it was
beside : (names : Scope) (ps : List Param) (name : Name) → is_among name (param_names ps) ≡ false → meaning_of (body_scope names ps) name ≡ meaning_of names name
beside names [] name apart = refl
beside names (p ∷ ps) name apart =
    let parts = or_parts (bytes_eq name p.name) (is_among name (param_names ps)) apart in
    beside (param_entry p ∷ names) ps name parts.1 ∙ ap (λ b. if b then Some (Value p.kind) else meaning_of names name) parts.0

-- a parameter is a value, from whichever side they are read
param_found : (scope names : Scope) (ps : List Param) (name : Name) (kind : Kind) → ((name : Name) (kind : Kind) → ¬ (meaning_of scope name ≡ Some (Value kind)))
    → has_repeat (param_names ps) ≡ false → meaning_of (map param_entry ps ++ scope) name ≡ Some (Value kind) → meaning_of (body_scope names ps) name ≡ Some (Value kind)
param_found scope names [] name kind none once is = absurd (none name kind is)
param_found scope names (p ∷ ps) name kind none once is =
    let parts = or_parts (is_among p.name (param_names ps)) (has_repeat (param_names ps)) once in
    (elim (bytes_eq name p.name) as (λ b. bytes_eq name p.name ≡ b → (if b then Some (Value p.kind) else meaning_of (map param_entry ps ++ scope) name) ≡ Some (Value kind)
    → meaning_of (body_scope (param_entry p ∷ names) ps) name ≡ Some (Value kind)) [
      | true ↦ λ same found.
          let apart : is_among name (param_names ps) ≡ false = ap (λ x. is_among x (param_names ps)) ((bytes_eq-Decides name p.name).0 same) ∙ parts.0 in
          beside (param_entry p ∷ names) ps name apart ∙ ap (λ b. if b then Some (Value p.kind) else meaning_of names name) same ∙ found
      | false ↦ λ other found. param_found scope (param_entry p ∷ names) ps name kind none parts.1 found
    ]) refl is

function_beside : (ps : List Param) (scope : Scope) (name : Name) (f : Signature) → meaning_of (map param_entry ps ++ scope) name ≡ Some (Function f) → is_among name (param_names ps) ≡ false
function_beside [] scope name f is = refl
function_beside (p ∷ ps) scope name f is =
    elim (bytes_eq name p.name) as (λ b. (if b then Some (Value p.kind) else meaning_of (map param_entry ps ++ scope) name) ≡ Some (Function f) → (b || is_among name (param_names ps)) ≡ false) [
      | true ↦ λ found. absurd (none-some f (ap (option_and_then as_function) found))
      | false ↦ λ found. function_beside ps scope name f found
    ] is

-- ---- names apart

-- a parameter has the name of nothing declared before
param_shown : (scope : Scope) (own : List Name) (ps : List Param) (name : Name) → meet (param_names ps) (names_in scope ++ own) ≡ false → is_among name (param_names ps) ≡ true
    → constant_of scope name ≡ None
param_shown scope own ps name apart among =
    let none = apart_from (param_names ps) (names_in scope ++ own) name apart among in
    ap (option_and_then as_constant) (unnamed scope name (in_neither (names_in scope) own name none).0)

carried : (scope : Scope) (own : List Name) (ps : List Param) (arrays : List ArrayInfo) (functions : List FunctionInfo) → clash (names_in scope ++ own) (param_names ps) ≡ false → AreShown scope arrays functions
    → Carries false (map param_entry ps ++ scope) scope (body_scope (scope_of functions) ps)
carried scope own ps arrays functions apart h =
    let parts = or_parts (has_repeat (param_names ps)) (meet (param_names ps) (names_in scope ++ own)) apart in
    record {
      constants = constant_behind ps scope;
      shown = λ name kind is. param_shown scope own ps name parts.1 (param_there ps scope h.no_values name kind is);
      values = λ name kind is. param_found scope (scope_of functions) ps name kind h.no_values parts.0 is;
      functions = λ name f is. beside (scope_of functions) ps name (function_beside ps scope name f is) ∙ h.functions_shown name f (function_behind ps scope name f is);
      arrays = λ on. absurd (false≢true on);
    }

-- ---- one item more

bodies_more : (scope : Scope) (fs : List FunctionInfo) (f : FunctionInfo) → HaveTypedBodies scope fs → IsTrue (fits false (body_scope (fold with_signature scope fs) f.params) f.kind f.body)
    → IsTrue (operators_right f.body) → HaveTypedBodies scope (fs ++ f ∷ [])
bodies_more scope [] f h own right = (own, right, tt)
bodies_more scope (g ∷ fs) f h own right = (h.0, h.1, bodies_more (with_signature scope g) fs f h.2 own right)

function_typed : (before : List Item) (x : FunctionDecl) (arrays : List ArrayInfo) (functions : List FunctionInfo) → Keeps before (items.Function x) → item_allowed (items.Function x) ≡ true
    → AreShown (known before) arrays functions → HaveTypedBodies [] functions → HaveTypedBodies [] (functions ++ functions_of (known before) (items.Function x))
function_typed before x arrays functions keeps allowed shown h =
    let scope = known before in
    let f : FunctionInfo = record { name = x.name; params = x.params; kind = x.kind; body = resolved_expr scope x.body } in
    let grammatical : (shape x.body).allowed ≡ true = (and_parts _ _ allowed).1 in
    let own : clash (names_in scope ++ x.name ∷ []) (param_names x.params) ≡ false =
    (or_parts (clash (names_in scope ++ x.name ∷ []) (param_names x.params)) false (or_parts (meet (x.name ∷ []) (names_in scope)) _ keeps.once).1).0 in
    bodies_more [] functions f h
    (resolved_fits false (map param_entry x.params ++ scope) scope (body_scope (scope_of functions) x.params) (carried scope (x.name ∷ []) x.params arrays functions own shown) x.kind x.body grammatical keeps.right)
    (resolved_right scope x.body (allowed_right x.body grammatical))

same_functions : (functions : List FunctionInfo) → HaveTypedBodies [] functions → HaveTypedBodies [] (functions ++ [])
same_functions functions h = subst (HaveTypedBodies []) (sym (append-nil functions)) h

typed_after : (before : List Item) (x : Item) (arrays : List ArrayInfo) (functions : List FunctionInfo) → Keeps before x → item_allowed x ≡ true → AreShown (known before) arrays functions
    → HaveTypedBodies [] functions → HaveTypedBodies [] (functions ++ functions_of (known before) x)
typed_after before (items.Const x) arrays functions keeps allowed shown h = same_functions functions h
typed_after before (items.Array x) arrays functions keeps allowed shown h = same_functions functions h
typed_after before (items.Function x) arrays functions keeps allowed shown h = function_typed before x arrays functions keeps allowed shown h
typed_after before (items.Call x) arrays functions keeps allowed shown h = same_functions functions h
typed_after before (items.Loop x) arrays functions keeps allowed shown h = same_functions functions h
typed_after before (items.Block x) arrays functions keeps allowed shown h = same_functions functions h
typed_after before (items.Print x) arrays functions keeps allowed shown h = same_functions functions h

-- ---- all items

-- the functions so far are those of the scope, and have bodies of their kinds
record AreTyped (before : List Item) (lists : Lists) : Type 0 where
  pub shown : AreShown (known before) lists.arrays lists.functions
  pub bodies : HaveTypedBodies [] lists.functions

typed_turn : IsTurn AreTyped
typed_turn before x lists keeps written h = record {
  shown = shown_turn before x lists keeps written h.shown;
  bodies = typed_after before x lists.arrays lists.functions keeps written.allowed h.shown h.bodies;
}

nothing_typed : AreTyped [] no_lists
nothing_typed = record { shown = nothing_shown; bodies = tt }

-- the bodies of a program's functions have their kinds
pub bodies_typed : (lists : Lists) → IsProgram lists → HaveTypedBodies [] lists.functions
bodies_typed lists h = (by_items AreTyped typed_turn nothing_typed lists h).bodies
