-- The first positions of statements by those of their parts.
use Rattle.std.proofs.Common.{◌≡◌, ℕ, Option, Some, None, List, ◌++◌, ap, sym, ◌∙◌}
use Rattle.std.specs.Prelude.{flat_map, pos}
use Rattle.pts_tree.specs.declared.sum.Cell.{Cell}
use Rattle.pts_tree.specs.declared.call.Call as call
use Rattle.pts_tree.specs.declared.expr.Expr.{Expr}
use Rattle.pts_tree.specs.declared.expr.Place.{Place}
use Rattle.pts_tree.specs.declared.loops.Loop as loops
use Rattle.pts_tree.specs.declared.loops.BodyStmt.{BodyStmt}
use Rattle.pts_rules.specs.Parts.{Assign, Call, Loop, Name}
use Rattle.pts_rules.specs.Known.{Scope, number}
use Rattle.pts_rules.specs.Counts as counts
use Rattle.pts_rules.specs.Indices.{Reach, cell_reach, clause_reach, elements, line_of, loop_line, place_reach, places, range_reach, reach_of}
use Rattle.pts_bounds.specs.declared.firsts.Progression.{Progression}
use Rattle.pts_bounds.specs.Firsts.{first_leaving, sooner, soonest}
use Rattle.pts_bounds.specs.Walks.{clause_first, first_in, first_of, place_first}
use Rattle.pts_bounds.proofs.Soonest.{soonest_append, soonest_each}

three : (a b c : List Reach) → first_of (a ++ b ++ c) ≡ sooner (sooner (first_of a) (first_of b)) (first_of c)
three a b c = soonest_append first_leaving (a ++ b) c ∙ ap (λ x. sooner x (first_of c)) (soonest_append first_leaving a b)

four : (a b c d : List Reach) → first_of (a ++ b ++ c ++ d) ≡ sooner (sooner (sooner (first_of a) (first_of b)) (first_of c)) (first_of d)
four a b c d = soonest_append first_leaving (a ++ b ++ c) d ∙ ap (λ x. sooner x (first_of d)) (three a b c)

pub call_found : (scope : Scope) (x : call.Call) (a b c d : Option ℕ)
    → a ≡ first_of (range_reach scope x.first) → b ≡ first_of (reach_of (range_reach scope) x.second) → c ≡ first_of (reach_of (range_reach scope) x.target)
    → d ≡ first_of (reach_of (cell_reach scope) x.store) → sooner (sooner (sooner a b) c) d ≡ first_in scope (Call x)
call_found scope x a b c d e1 e2 e3 e4 =
    (λ i. sooner (sooner (sooner (e1 i) (e2 i)) (e3 i)) (e4 i))
    ∙ sym (four (range_reach scope x.first) (reach_of (range_reach scope) x.second) (reach_of (range_reach scope) x.target) (reach_of (cell_reach scope) x.store))

-- the elements of an expression that stands in no loop
abbrev once : Progression
once = record { first = pos 0; step = pos 0; n = 1 }

pub assign_found : (scope : Scope) (at : Cell) (x : Expr) (a b : Option ℕ)
    → a ≡ first_of (cell_reach scope at) → b ≡ soonest (place_first scope once None) (elements x) → sooner a b ≡ first_in scope (Assign at x)
assign_found scope at x a b e1 e2 =
    (λ i. sooner (e1 i) (e2 i))
    ∙ ap (λ z. sooner (first_of (cell_reach scope at)) z) (sym (soonest_each first_leaving (place_reach scope (line_of (pos 0) (pos 0) 1) None) (elements x)))
    ∙ sym (soonest_append first_leaving (cell_reach scope at) (flat_map (place_reach scope (line_of (pos 0) (pos 0) 1) None) (elements x)))

-- the places of a loop's body, whose index takes these numbers
abbrev body_reach : Scope → Progression → Name → Place → List Reach
body_reach scope progression name = place_reach scope (line_of progression.first progression.step progression.n) (Some name)

body_is : (scope : Scope) (progression : Progression) (name : Name) (xs : List BodyStmt)
    → soonest (λ y. soonest (place_first scope progression (Some name)) (places y)) xs ≡ first_of (flat_map (body_reach scope progression name) (flat_map places xs))
body_is scope progression name xs =
    sym (soonest_each (place_first scope progression (Some name)) places xs) ∙ sym (soonest_each first_leaving (body_reach scope progression name) (flat_map places xs))

pub loop_found : (scope : Scope) (x : loops.Loop) (progression : Progression) (a b : Option ℕ)
    → progression.first ≡ number scope x.low → progression.step ≡ counts.step_of scope x.step → progression.n ≡ counts.loop_positions scope x
    → a ≡ soonest (clause_first scope) x.clauses → b ≡ soonest (λ y. soonest (place_first scope progression (Some x.index)) (places y)) x.body
    → sooner a b ≡ first_in scope (Loop x)
loop_found scope x progression a b p q r e1 e2 =
    (λ i. sooner (e1 i) (e2 i))
    ∙ (λ i. sooner (sym (soonest_each first_leaving (clause_reach scope) x.clauses) i) (body_is scope progression x.index x.body i))
    ∙ (λ i. sooner (first_of (flat_map (clause_reach scope) x.clauses)) (first_of (flat_map (place_reach scope (line_of (p i) (q i) (r i)) (Some x.index)) (flat_map places x.body))))
    ∙ sym (soonest_append first_leaving (flat_map (clause_reach scope) x.clauses) (flat_map (place_reach scope (loop_line scope x) (Some x.index)) (flat_map places x.body)))
