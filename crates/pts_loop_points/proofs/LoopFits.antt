-- A loop of an item that breaks no rule shows the same points without its constants, among names that have the numbers of its arrays.
use Rattle.std.proofs.Common.{◌≡◌, ℕ, ◌-◌, ◌<◌, ◌≤◌, ◌^◌, Bool, true, false, ◌&&◌, Option, Some, None, List, [], ◌∷◌, ◌++◌, map, bytes_eq, refl, ap, arith}
use Rattle.std.specs.Prelude.{◌||◌, flat_map, is_some, nat_abs}
use Rattle.std.specs.List.{list_all}
use Rattle.std.proofs.lemmas.Bool.{and_parts, or_parts, false≢true}
use Rattle.std.proofs.lemmas.Slice.Eq.{bytes_eq-Decides}
use Rattle.pts_types.specs.declared.value.Kind.{Kind}
use Rattle.pts_types.specs.declared.value.Kind.TheVariants as kinds
use Rattle.pts_tree.specs.Spelling.{if_there}
use Rattle.pts_tree.specs.declared.expr.Place.{Place}
use Rattle.pts_tree.specs.declared.sum.Cell.{Cell}
use Rattle.pts_tree.specs.declared.sum.Sum.{Sum}
use Rattle.pts_tree.specs.declared.loops.Clause.{Clause}
use Rattle.pts_tree.specs.declared.loops.Clause.TheVariants as clauses
use Rattle.pts_tree.specs.declared.loops.Initial.{Initial}
use Rattle.pts_tree.specs.declared.loops.Initial.TheVariants as initials
use Rattle.pts_tree.specs.declared.loops.Loop as loops
use Rattle.pts_rules.specs.Counts.{step_of}
use Rattle.pts_rules.specs.Indices.{has_not_affine, places}
use Rattle.pts_rules.specs.Known.{Scope, constant_of, has, holds, is_place, kind_of_array, number, same_kind, sum_is, val_fits}
use Rattle.pts_rules.specs.Mistyped.{all_right, body_scope, cell_right, checked_stmt, clause_right, initial_right, loop_right, op_right}
use Rattle.pts_rules.specs.Names.{has_repeat, meet, names_in}
use Rattle.pts_rules.specs.Parts.{Name, Loop, clause_name, is_among, lets, statement_locals}
use Rattle.pts_points.proofs.Each.{Each}
use Rattle.pts_points.proofs.Each as each
use Rattle.pts_program.proofs.ExactSums.{held_small, place_small, tested}
use Rattle.pts_program.proofs.KeptBodies.{shown_apart}
use Rattle.pts_program.proofs.RightTexts.{IsReady}
use Rattle.pts_steps.specs.Shown.{HasItsNumber, IsCellOf, IsClauseOf, IsInitialOf, IsLoopOf, IsSmall}
use Rattle.pts_loop_points.proofs.BodyArrays.{loop_arrays}
use Rattle.pts_loop_points.proofs.ElementArrays.{IsArray, IsOfArray}

below_next : (n : ℕ) → n ≤ 2 ^ 64 - 1 → n < 2 ^ 64
below_next n h = omega (arith, h)

held : (scope : Scope) (kind : Kind) (x : Sum) → sum_is scope (holds kind) x ≡ true → IsSmall (number scope x)
held scope kind x h = below_next (nat_abs (number scope x)) (held_small kind (number scope x) (tested scope [] (holds kind) x h))

step_held : (scope : Scope) (o : Option Sum) → if_there (sum_is scope (holds kinds.I64)) o ≡ true → IsSmall (step_of scope o)
step_held scope None h = omega arith
step_held scope (Some x) h = held scope kinds.I64 x h

some_of : {A : Type 0} (test : A → Bool) (o : Option A) → has test o ≡ true → is_some o ≡ true
some_of test None h = h
some_of test (Some x) h = refl

module _ (scope names : Scope) (numbers : (name : Name) → IsArray scope name → HasItsNumber scope names name) where
  cell_fits : (kind : Kind) (x : Cell) → cell_right scope kind x ≡ true → IsCellOf scope names x
  cell_fits kind x h =
      let parts = and_parts (has (same_kind kind) (kind_of_array scope x.array)) (sum_is scope is_place x.index) h in
      record {
        array = numbers x.array (some_of (same_kind kind) (kind_of_array scope x.array) parts.0);
        index = below_next (nat_abs (number scope x.index)) (place_small (number scope x.index) (tested scope [] is_place x.index parts.1));
      }

  clause_fits : (x : Clause) → clause_right scope x ≡ true → IsClauseOf scope names x
  clause_fits (clauses.Reduce x) right = of_reduce (kind_of_array scope x.cell.array) right
    where
      of_reduce : (o : Option Kind) → has (λ kind. cell_right scope kind x.cell && op_right scope kind x.op && if_there (val_fits scope kind) x.identity) o ≡ true → IsCellOf scope names x.cell
      of_reduce None h = absurd (false≢true h)
      of_reduce (Some kind) h = cell_fits kind x.cell (and_parts _ _ (and_parts _ _ h).0).0
  clause_fits (clauses.Induct x) right = by_initial x.initial (and_parts _ _ (and_parts _ _ right).0).1
    where
      by_initial : (y : Initial) → initial_right scope x.kind y ≡ true → IsInitialOf scope names y
      by_initial (initials.Val y) right = tt
      by_initial (initials.Cell y) right = cell_fits x.kind y right

  clauses_fit : (xs : List Clause) → list_all (clause_right scope) xs ≡ true → Each (IsClauseOf scope names) xs
  clauses_fit [] right = tt
  clauses_fit (x ∷ xs) right =
      let parts = and_parts (clause_right scope x) (list_all (clause_right scope) xs) right in
      (clause_fits x parts.0, clauses_fit xs parts.1)

  pub loop_fits : (x : loops.Loop) → ((name : Name) → constant_of names name ≡ None) → IsReady scope (Loop x) → has_not_affine scope (Loop x) ≡ false → IsLoopOf scope names x
  loop_fits x plain h lines =
      let right : loop_right scope x ≡ true = h.sound.right in
      let p4 = and_parts _ (all_right (body_scope scope x) (map checked_stmt x.body)) right in
      let p3 = and_parts _ (list_all (clause_right scope) x.clauses) p4.0 in
      let p2 = and_parts (sum_is scope (holds kinds.I64) x.low && sum_is scope (holds kinds.I64) x.high) (if_there (sum_is scope (holds kinds.I64)) x.step) p3.0 in
      let p1 = and_parts (sum_is scope (holds kinds.I64) x.low) (sum_is scope (holds kinds.I64) x.high) p2.0 in
      let apart = (or_parts (has_repeat (statement_locals (Loop x))) (meet (statement_locals (Loop x)) (names_in scope ++ [])) h.apart).1 in
      let same : bytes_eq x.index x.index ≡ true = (bytes_eq-Decides x.index x.index).1 refl in
      record {
        plain = plain;
        index = shown_apart scope [] (statement_locals (Loop x)) apart x.index (ap (λ b. b || is_among x.index (flat_map (λ c. clause_name c ∷ []) x.clauses ++ flat_map lets x.body)) same);
        lines = lines;
        arrays = each.all_of (λ (at : Place). HasItsNumber scope names at.array) (flat_map places x.body)
            (each.weaker (IsOfArray scope) (λ (at : Place). HasItsNumber scope names at.array) (λ at. numbers at.array) (flat_map places x.body) (loop_arrays scope x lines right));
        clauses = each.all_of (IsClauseOf scope names) x.clauses (clauses_fit x.clauses p3.1);
        low = held scope kinds.I64 x.low p1.0;
        high = held scope kinds.I64 x.high p1.1;
        step = step_held scope x.step p2.1;
      }
