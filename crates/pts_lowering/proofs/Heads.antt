-- The clauses of a sound loop, and the numbers of its head.
use Rattle.std.proofs.Common.{◌≡◌, ℕ, ◌-◌, ◌^◌, ◌<◌, ◌≤◌, true, Bool, ◌&&◌, pos, Option, Some, None, List, [], ◌∷◌, length, get_or, map, refl, sym, subst, arith}
use Rattle.std.specs.Prelude.{All, IsTrue, flat_map, unwrap_or}
use Rattle.std.specs.List.{list_all}
use Rattle.std.proofs.lemmas.Bool.{and_parts}
use Rattle.std.proofs.lemmas.List.Elements.{All-nil, All-cons, All-get_or}
use Rattle.pts_types.specs.declared.value.Kind.{Kind}
use Rattle.pts_types.specs.declared.value.Kind.TheVariants as kinds
use Rattle.pts_tree.specs.Spelling.{if_there}
use Rattle.pts_tree.specs.declared.sum.Sum.{Sum}
use Rattle.pts_tree.specs.declared.loops.Loop as loops
use Rattle.pts_tree.specs.declared.loops.Clause.{Clause}
use Rattle.pts_tree.specs.declared.loops.Clause.TheVariants as clauses
use Rattle.pts_tree.specs.declared.loops.ReduceClause.{ReduceClause}
use Rattle.pts_tree.specs.declared.loops.InductClause.{InductClause}
use Rattle.pts_tree.specs.declared.loops.Initial.{Initial}
use Rattle.pts_tree.specs.declared.loops.Initial.TheVariants as initials
use Rattle.pts_rules.specs.Parts.{Loop}
use Rattle.pts_rules.specs.Known.{Scope, has, holds, is_number, kind_of_array, number, sum_is, sum_value, val_fits}
use Rattle.pts_rules.specs.Counts.{loop_positions, step_of}
use Rattle.pts_rules.specs.Indices.{clause_reach, cell_reach, loop_line, place_reach, places, reaches}
use Rattle.pts_rules.specs.Mistyped.{all_right, body_scope, cell_right, checked_stmt, clause_right, induct_right, initial_right, op_right, reduce_right}
use Rattle.pts_points.specs.Inside.{HasRoom, IsSound}
use Rattle.pts_points.proofs.Each.{Each, front, back}
use Rattle.pts_points.proofs.Interiors.{Stays, each_stays}
use Rattle.pts_points.proofs.SoundItems.{known_number, loop_short, step_right}
use Rattle.pts_lowering.specs.Fitting.{HasClauseIndex, HasInitialIndex, IsHead, IsIndex}
use Rattle.pts_points.specs.Points.{kind_at}
use Rattle.pts_lowering.proofs.Cells.{cell_word}

-- ---- values

-- the identity of a reduction has the kind of its cell
pub identity_fits : (scope : Scope) (x : ReduceClause) (kind : Kind) → IsTrue (reduce_right scope x) → kind ≡ kind_at scope x.cell.array → IsTrue (if_there (val_fits scope kind) x.identity)
identity_fits scope x kind h is = by_kind (kind_of_array scope x.cell.array) h is
  where
    by_kind : (o : Option Kind) → IsTrue (has (λ own. cell_right scope own x.cell && op_right scope own x.op && if_there (val_fits scope own) x.identity) o) → kind ≡ unwrap_or o kinds.U64
        → IsTrue (if_there (val_fits scope kind) x.identity)
    by_kind None h is = absurd (cc)
    by_kind (Some own) h is =
        subst (λ k. IsTrue (if_there (val_fits scope k) x.identity)) (sym is) (and_parts (cell_right scope own x.cell && op_right scope own x.op) (if_there (val_fits scope own) x.identity) h).1

-- one step in any kind
one_fits : (kind : Kind) → IsTrue (is_number kind) → IsTrue (holds kind (pos 1))
one_fits kinds.I64 h = refl
one_fits kinds.U64 h = refl
one_fits kinds.Bool h = absurd (cc)

step_in : (scope : Scope) (kind : Kind) (x : Option Sum) → IsTrue (is_number kind) → IsTrue (if_there (sum_is scope (holds kind)) x) → IsTrue (holds kind (step_of scope x))
step_in scope kind None h right = one_fits kind h
step_in scope kind (Some x) h right = known_number (sum_value scope x) (holds kind) right

-- the step of an induction has its kind
pub step_fits : (scope : Scope) (x : InductClause) → IsTrue (induct_right scope x) → IsTrue (holds x.kind (step_of scope x.step))
step_fits scope x h =
    let p = and_parts (is_number x.kind && initial_right scope x.kind x.initial) (if_there (sum_is scope (holds x.kind)) x.step) h in
    step_in scope x.kind x.step (and_parts (is_number x.kind) (initial_right scope x.kind x.initial) p.0).0 p.1

-- and so has what it begins with
pub induction_starts : (scope : Scope) (x : InductClause) → IsTrue (induct_right scope x) → IsTrue (initial_right scope x.kind x.initial)
induction_starts scope x h =
    (and_parts (is_number x.kind) (initial_right scope x.kind x.initial)
    (and_parts (is_number x.kind && initial_right scope x.kind x.initial) (if_there (sum_is scope (holds x.kind)) x.step) h).0).1

-- ---- clauses

pub reduce_clause : (scope : Scope) (c : Clause) (x : ReduceClause) → IsHead scope c → c ≡ clauses.Reduce x → IsTrue (reduce_right scope x) × IsIndex scope x.cell
reduce_clause scope c x h is = let k : IsHead scope (clauses.Reduce x) = subst (IsHead scope) is h in (k.right, k.cell)

pub induct_clause : (scope : Scope) (c : Clause) (x : InductClause) → IsHead scope c → c ≡ clauses.Induct x → IsTrue (induct_right scope x) × HasInitialIndex scope x.initial
induct_clause scope c x h is = let k : IsHead scope (clauses.Induct x) = subst (IsHead scope) is h in (k.right, k.cell)

pub clause_at : (scope : Scope) (xs : List Clause) (i : ℕ) (x d : Clause) → All (IsHead scope) xs → i < length xs → x ≡ get_or xs i d → IsHead scope x
clause_at scope xs i x d all within is = subst (IsHead scope) (sym is) (All-get_or (IsHead scope) xs i d within all)

module _ (scope : Scope) (room : HasRoom scope) where
  initial_word : (x : Initial) → Each Stays (elim x [ initials.Val y ↦ [] | initials.Cell y ↦ cell_reach scope y ]) → HasInitialIndex scope x
  initial_word (initials.Val x) stays = tt
  initial_word (initials.Cell x) stays = cell_word scope room x stays

  clause_word : (x : Clause) → Each Stays (clause_reach scope x) → HasClauseIndex scope x
  clause_word (clauses.Reduce x) stays = cell_word scope room x.cell stays
  clause_word (clauses.Induct x) stays = initial_word x.initial stays

  all_heads : (xs : List Clause) → list_all (clause_right scope) xs ≡ true → Each Stays (flat_map (clause_reach scope) xs) → All (IsHead scope) xs
  all_heads [] right stays = All-nil (IsHead scope)
  all_heads (x ∷ xs) right stays =
      let p = and_parts (clause_right scope x) (list_all (clause_right scope) xs) right in
      All-cons (IsHead scope) x xs
      (record { right = p.0; cell = clause_word x (front Stays (clause_reach scope x) (flat_map (clause_reach scope) xs) stays) })
      (all_heads xs p.1 (back Stays (clause_reach scope x) (flat_map (clause_reach scope) xs) stays))

  module _ (x : loops.Loop) (sound : IsSound scope (Loop x)) where
    parts_right : (sum_is scope (holds kinds.I64) x.low ≡ true) × (if_there (sum_is scope (holds kinds.I64)) x.step ≡ true) × (list_all (clause_right scope) x.clauses ≡ true)
    parts_right =
        let a : Bool = sum_is scope (holds kinds.I64) x.low in
        let b : Bool = sum_is scope (holds kinds.I64) x.high in
        let c : Bool = if_there (sum_is scope (holds kinds.I64)) x.step in
        let d : Bool = list_all (clause_right scope) x.clauses in
        let e : Bool = all_right (body_scope scope x) (map checked_stmt x.body) in
        let r0 = and_parts (a && b && c && d) e sound.right in
        let r1 = and_parts (a && b && c) d r0.0 in
        let r2 = and_parts (a && b) c r1.0 in
        ((and_parts a b r2.0).0, r2.1, r1.1)

    pub loop_heads : All (IsHead scope) x.clauses
    loop_heads =
        let stays : Each Stays (reaches scope (Loop x)) = each_stays (reaches scope (Loop x)) sound.stays in
        all_heads x.clauses parts_right.2
        (front Stays (flat_map (clause_reach scope) x.clauses) (flat_map (place_reach scope (loop_line scope x) (Some x.index)) (flat_map places x.body)) stays)

    pub loop_first : IsTrue (holds kinds.I64 (number scope x.low))
    loop_first = known_number (sum_value scope x.low) (holds kinds.I64) parts_right.0

    pub loop_step : IsTrue (holds kinds.I64 (step_of scope x.step))
    loop_step = step_right scope room x.step parts_right.1

    pub loop_count : loop_positions scope x ≤ 2 ^ 32 - 1
    loop_count = let few = loop_short scope room x sound in omega (arith, few)
