-- One item more: what it leaves to those behind it.
use Rattle.std.proofs.Common.{◌≡◌, ℕ, ◌+◌, ◌≤◌, ◌^◌, Bool, true, false, IsTrue, List, [], ◌∷◌, ◌++◌, length, map, refl, sym, ap, ◌∙◌, arith}
use Rattle.std.specs.Prelude.{nat_lt, cond}
use Rattle.std.proofs.lemmas.Bool.{or_parts}
use Rattle.std.proofs.lemmas.Bool.Decides.{nat_tests}
use Rattle.std.proofs.lemmas.List.Sums.{fold_push, sum_by-cons, sum_by_push}
use Rattle.pts_tree.specs.declared.script.FunctionDecl.{FunctionDecl}
use Rattle.pts_tree.specs.declared.script.Item.{Item}
use Rattle.pts_tree.specs.declared.script.Item.TheVariants as items
use Rattle.pts_tree.specs.declared.script.Param.{Param}
use Rattle.pts_code.specs.declared.function.FunctionInfo.{FunctionInfo}
use Rattle.pts_lowering.specs.Fitting.{HasNumbers}
use Rattle.pts_rules.specs.Indices.{is_out_at}
use Rattle.pts_rules.specs.Counts.{size_of}
use Rattle.pts_rules.specs.Known.{Entry, Scope, number}
use Rattle.pts_rules.specs.Limits.{cells, cells_of, is_large, is_statement, is_too_many}
use Rattle.pts_rules.specs.declared.meaning.Meaning.TheVariants.{Constant, Array, Function}
use Rattle.pts_rules.specs.Scopes.{after, known, signature}
use Rattle.pts_program.specs.declared.standing.Standing.{Standing}
use Rattle.pts_program.specs.Lists.{functions_of}
use Rattle.pts_program.specs.Standings.{cells_in, is_large_function, IsAcceptable, IsAddable, IsDeclarable, IsStanding}
use Rattle.pts_program.proofs.SoundStatements.{few_points, sound_of}

never : (b : Bool) → ¬ IsTrue b → b ≡ false
never true h = absurd (h refl)
never false h = refl

few_function : (scope : Scope) (statements held : ℕ) (x : Item) → is_too_many scope statements held x ≡ false → is_large_function scope x ≡ false
few_function scope statements held (items.Const x) few = refl
few_function scope statements held (items.Array x) few = refl
few_function scope statements held (items.Function x) few = few
few_function scope statements held (items.Call x) few = refl
few_function scope statements held (items.Loop x) few = refl
few_function scope statements held (items.Block x) few = refl
few_function scope statements held (items.Print x) few = refl

pub declarable : (standing : Standing) (x : Item) → IsAcceptable standing x → IsDeclarable standing.scope x
declarable standing x a = record { right = a.right; shallow = a.shallow; few = few_function standing.scope standing.statements standing.cells x a.few }

-- where the numbers of the scope have their widths, it can be added to the lists
pub addable : (standing : Standing) (earlier : ℕ) (x : Item) → IsAcceptable standing x → HasNumbers standing.scope → IsAddable standing.scope earlier x
addable standing earlier x a numbered = record {
  declarable = declarable standing x a;
  numbered = numbered;
  sound = sound_of standing.scope standing.statements standing.cells x a.right a.few a.forward (λ p. never (is_out_at standing.scope x p) (a.stays p));
  few = few_points standing.scope standing.statements standing.cells x earlier a.few a.affine;
}

-- the cells of all arrays are within the limit
pub few_cells : (standing : Standing) (x : Item) → IsAcceptable standing x → standing.cells ≤ 2 ^ 20 → standing.cells + cells_in standing.scope x ≤ 2 ^ 20
few_cells standing (items.Const x) a held = omega (arith, held)
few_cells standing (items.Array x) a held = let few = a.few in grind (arith, nat_tests, few)
few_cells standing (items.Function x) a held = omega (arith, held)
few_cells standing (items.Call x) a held = omega (arith, held)
few_cells standing (items.Loop x) a held = omega (arith, held)
few_cells standing (items.Block x) a held = omega (arith, held)
few_cells standing (items.Print x) a held = omega (arith, held)

cells_first : (entry : Entry) (scope : Scope) → cells (entry ∷ scope) ≡ cells_of entry.1 + cells scope
cells_first entry scope = sum_by-cons (λ n. n) (cells_of entry.1) (map (λ (e : Entry). cells_of e.1) scope)

pub cells_after : (scope : Scope) (x : Item) → cells (after scope x) ≡ cells scope + cells_in scope x
cells_after scope (items.Const x) = let e = cells_first (x.name, Constant (number scope x.value)) scope in omega (arith, e)
cells_after scope (items.Array x) = let e = cells_first (x.name, Array x.kind (number scope x.length)) scope in omega (arith, e)
cells_after scope (items.Function x) = let e = cells_first (x.name, Function (signature scope x)) scope in omega (arith, e)
cells_after scope (items.Call x) = omega arith
cells_after scope (items.Loop x) = omega arith
cells_after scope (items.Block x) = omega arith
cells_after scope (items.Print x) = omega arith

pub known_more : (before : List Item) (x : Item) → known (before ++ x ∷ []) ≡ after (known before) x
unfolding known
known_more before x = fold_push after [] before x

-- what an item leaves is what those before it left, and its own
pub standing_more : (before : List Item) (x : Item) (old new : Standing) → IsStanding before old → new.scope ≡ after old.scope x
    → new.statements ≡ old.statements + cond (is_statement x) 1 0 → new.cells ≡ old.cells + cells_in old.scope x → IsStanding (before ++ x ∷ []) new
standing_more before x old new s scope statements held = record {
  scope = scope ∙ ap (λ (e : Scope). after e x) s.scope ∙ sym (known_more before x);
  statements = statements ∙ ap (λ n. n + cond (is_statement x) 1 0) s.statements ∙ sym (sum_by_push (λ (i : Item). cond (is_statement i) 1 0) before x);
  cells =
      held ∙ ap (λ n. n + cells_in old.scope x) s.cells ∙ ap (λ (e : Scope). cells (known before) + cells_in e x) s.scope
      ∙ sym (ap cells (known_more before x) ∙ cells_after (known before) x);
}

pub none_standing : (standing : Standing) → standing.scope ≡ [] → standing.statements ≡ 0 → standing.cells ≡ 0 → IsStanding [] standing
unfolding known
none_standing standing scope statements held = record { scope = scope; statements = statements; cells = held }

-- ---- functions

-- a function within the limits has at most eight parameters
few_params : (scope : Scope) (x : FunctionDecl) → is_large scope x ≡ false → length x.params ≤ 8
few_params scope x few =
    let few_of = (or_parts (nat_lt 8 (length x.params)) (nat_lt 65536 (size_of scope x.body)) few).0 in
    grind (arith, nat_tests, few_of)

abbrev first_params : List FunctionInfo → List Param
first_params [] = []
first_params (f ∷ fs) = f.params

-- and so has its copy
pub pushable : (scope : Scope) (x : FunctionDecl) (info : FunctionInfo) → info ∷ [] ≡ functions_of scope (items.Function x) → is_large scope x ≡ false → length info.params ≤ 8
pushable scope x info is few =
    let same : length info.params ≡ length x.params = ap (λ (fs : List FunctionInfo). length (first_params fs)) is in
    omega (arith, same, few_params scope x few)
