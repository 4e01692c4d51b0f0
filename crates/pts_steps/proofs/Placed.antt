-- The names at a position have their values at their spots.
use Rattle.std.proofs.Common.{◌≡◌, ℕ, ◌+◌, ◌<◌, ◌≤◌, zero, suc, Some, List, [], ◌∷◌, ◌++◌, length, map, fold, cond, slice_get, count_by, refl, sym, ap, subst, ◌∙◌, append_assoc, arith}
use Rattle.std.specs.Prelude.{unwrap_or}
use Rattle.std.proofs.lemmas.List.{length_push}
use Rattle.pts_types.specs.declared.value.Kind.{Kind}
use Rattle.pts_types.specs.declared.value.Value.{Value}
use Rattle.pts_tree.specs.declared.expr.Expr.{Expr}
use Rattle.pts_tree.specs.declared.loops.Loop as loops
use Rattle.pts_rules.specs.Parts.{Name}
use Rattle.pts_rules.specs.Known.{Entry, Scope, is_value}
use Rattle.pts_code.specs.declared.code.Code.{Code}
use Rattle.pts_code.specs.declared.compiling.Spot.{Spot}
use Rattle.pts_code.specs.declared.compiling.Spot.TheVariants as places
use Rattle.pts_code.specs.Codes.{Sight}
use Rattle.pts_code.specs.Compiling.{Holds, IsCode, at_spot, is_local, locals, scope_of_names}
use Rattle.pts_code.specs.Values.{Bound, Local, Array, Function, Environment}
use Rattle.pts_code.proofs.Scopes.{count_cons}
use Rattle.pts_points.specs.Pieces.{LetPoint}
use Rattle.pts_points.proofs.Builds.{append_nothing}
use Rattle.pts_steps.specs.Building.{let_entry, with_head, names_at, head_spots, let_spots, spots_at}
use Rattle.pts_steps.specs.Positions.{Head, heads, with_heads, noted_let, at_position}
use Rattle.pts_steps.specs.Scopes.{HasNoLocals}
use Rattle.pts_steps.specs.Steps.{Computes}

-- ---- spots behind others

get_front : {A : Type 0} (xs ys : List A) (n : ℕ) → n < length xs → slice_get (xs ++ ys) n ≡ slice_get xs n
get_front [] ys n less = absurd (omega (arith, less))
get_front (x ∷ xs) ys zero less = refl
get_front (x ∷ xs) ys (suc n) less = get_front xs ys n (omega (arith, less))

get_last : {A : Type 0} (xs : List A) (y : A) (n : ℕ) → length xs ≡ n → slice_get (xs ++ y ∷ []) n ≡ Some y
get_last [] y n is = ap (slice_get (y ∷ [])) (sym is)
get_last (x ∷ xs) y zero is = absurd (omega (arith, is))
get_last (x ∷ xs) y (suc n) is = get_last xs y n (omega (arith, is))

local_one : (entry : Name × Bound) (env : Environment) → locals (entry ∷ env) ≡ locals env + cond (is_local entry.1) 1 0
local_one entry env = count_cons (λ (e : Name × Bound). is_local e.1) entry env

-- a spot more hides none
holds_kept : (sight : Sight) (spots more : List Spot) (env : Environment) → locals env ≤ length spots → Holds sight spots env → Holds sight (spots ++ more) env
holds_kept sight spots more [] le h = tt
holds_kept sight spots more ((name, Local kind outcome) ∷ env) le h =
    let one = local_one (name, Local kind outcome) env in
    let less : locals env < length spots = omega (arith, le, one) in
    (ap (λ o. at_spot sight (unwrap_or o (places.Local (locals env)))) (get_front spots more (locals env) less) ∙ h.0, holds_kept sight spots more env (omega (arith, less)) h.1)
holds_kept sight spots more ((name, Array kind) ∷ env) le h =
    let one = local_one (name, Array kind) env in
    holds_kept sight spots more env (omega (arith, le, one)) h
holds_kept sight spots more ((name, Function f) ∷ env) le h =
    let one = local_one (name, Function f) env in
    (h.0, h.1, holds_kept sight spots more env (omega (arith, le, one)) h.2)

-- as many spots as local values, each with its value
pub record Placed (sight : Sight) (spots : List Spot) (env : Environment) : Type 0 where
  pub count : length spots ≡ locals env
  pub holds : Holds sight spots env

placed_more : (sight : Sight) (spots : List Spot) (env : Environment) (name : Name) (kind : Kind) (spot : Spot)
    → Placed sight spots env → Placed sight (spots ++ spot ∷ []) ((name, Local kind (at_spot sight spot)) ∷ env)
placed_more sight spots env name kind spot p =
    let count = p.count in
    let one = local_one (name, Local kind (at_spot sight spot)) env in
    let longer = length_push spots spot in
    record {
      count = omega (arith, count, one, longer);
      holds = (
        ap (λ o. at_spot sight (unwrap_or o (places.Local (locals env)))) (get_last spots spot (locals env) count),
        holds_kept sight spots (spot ∷ []) env (omega (arith, count)) p.holds,
      );
    }

-- ---- the names of a head, and `let`s

placed_heads : (sight : Sight) (n : ℕ) (spots : List Spot) (env : Environment) (hs : List Head) → Placed sight spots env → Placed sight (spots ++ head_spots n hs) (with_heads sight.values n env hs)
placed_heads sight n spots env [] p = subst (λ s. Placed sight s env) (sym (append_nothing spots)) p
placed_heads sight n spots env (h ∷ hs) p =
    subst (λ s. Placed sight s (with_heads sight.values n env (h ∷ hs))) (append_assoc spots (places.Local n ∷ []) (head_spots (n + 1) hs))
    (placed_heads sight (n + 1) (spots ++ places.Local n ∷ []) _ hs (placed_more sight spots env h.0 h.1 (places.Local n) p))

placed_lets : (sight : Sight) (spots : List Spot) (env : Environment) (lets : List LetPoint) → Placed sight spots env → Placed sight (spots ++ let_spots lets) (map (noted_let sight) lets ++ env)
placed_lets sight spots env [] p = subst (λ s. Placed sight s env) (sym (append_nothing spots)) p
placed_lets sight spots env (x ∷ lets) p =
    subst (λ s. Placed sight s (map (noted_let sight) (x ∷ lets) ++ env)) (append_assoc spots (let_spots lets) (places.Note x.point ∷ []))
    (placed_more sight (spots ++ let_spots lets) (map (noted_let sight) lets ++ env) x.name x.kind (places.Note x.point) (placed_lets sight spots env lets p))

locals_from : (n : ℕ) (env : Environment) → fold (λ a (e : Entry). a + cond (is_value e.1) 1 0) n (scope_of_names env) ≡ fold (λ a (e : Name × Bound). a + cond (is_local e.1) 1 0) n env
locals_from n [] = refl
locals_from n ((name, Local kind outcome) ∷ env) = locals_from (n + 1) env
locals_from n ((name, Array kind) ∷ env) = locals_from (n + 0) env
locals_from n ((name, Function f) ∷ env) = locals_from (n + 0) env

-- the spots at a position
pub placed_here : (names : Scope) (x : loops.Loop) (lets : List LetPoint) (globals : Environment) (sight : Sight)
    → HasNoLocals names → names ≡ scope_of_names globals → Holds sight [] globals → Placed sight (spots_at x lets) (at_position x lets globals sight)
placed_here names x lets globals sight free is holds =
    let none : 0 ≡ locals globals = sym free ∙ ap (count_by (λ (e : Entry). is_value e.1)) is ∙ locals_from 0 globals in
    placed_lets sight (head_spots 0 (heads x)) (with_heads sight.values 0 globals (heads x)) lets
    (placed_heads sight 0 [] globals (heads x) (record { count = none; holds = holds }))

-- ---- scopes

scope_of_heads : (values : List Value) (n : ℕ) (env : Environment) (hs : List Head) → fold with_head (scope_of_names env) hs ≡ scope_of_names (with_heads values n env hs)
scope_of_heads values n env [] = refl
scope_of_heads values n env (h ∷ hs) = scope_of_heads values (n + 1) _ hs

scope_of_lets : (sight : Sight) (env : Environment) (lets : List LetPoint) → map let_entry lets ++ scope_of_names env ≡ scope_of_names (map (noted_let sight) lets ++ env)
scope_of_lets sight env [] = refl
scope_of_lets sight env (x ∷ lets) = ap (λ names. let_entry x ∷ names) (scope_of_lets sight env lets)

scope_here : (names : Scope) (x : loops.Loop) (lets : List LetPoint) (globals : Environment) (sight : Sight)
    → names ≡ scope_of_names globals → names_at names x lets ≡ scope_of_names (at_position x lets globals sight)
scope_here names x lets globals sight is =
    ap (λ s. map let_entry lets ++ fold with_head s (heads x)) is
    ∙ ap (λ s. map let_entry lets ++ s) (scope_of_heads sight.values 0 globals (heads x))
    ∙ scope_of_lets sight (with_heads sight.values 0 globals (heads x)) lets

-- code among the names of a place computes what it is code for
pub computes : (names : Scope) (x : loops.Loop) (lets : List LetPoint) (kind : Kind) (first : ℕ) (y : Expr) (code : Code)
    → HasNoLocals names → IsCode (names_at names x lets) (spots_at x lets) kind first y code → Computes names x lets (record { kind = kind; first = first; expr = y }) code
computes names x lets kind first y code free is =
    record {
      gives = λ globals sight named holds.
          is.means (at_position x lets globals sight) sight (scope_here names x lets globals sight named) (placed_here names x lets globals sight free named holds).holds;
    }
