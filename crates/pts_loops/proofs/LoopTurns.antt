-- Loops over points and clauses.
use Rattle.std.proofs.Common.{◌≡◌, ℕ, ◌+◌, ◌<◌, Bool, Option, Some, List, ◌++◌, length, map, get_or, drop, ap, sym, ◌∙◌, subst, append_assoc}
use Rattle.std.specs.Prelude.{flat_map}
use Rattle.std.specs.Option.{option_to_list}
use Rattle.std.proofs.lemmas.List.{at_drop_more, get_or-map}
use Rattle.std.proofs.lemmas.Option.{slice_get-get_or}
use Rattle.pts_types.specs.declared.value.Value.{Value}
use Rattle.pts_code.specs.declared.function.FunctionInfo.{FunctionInfo}
use Rattle.pts_code.specs.Outcomes.{Outcome}
use Rattle.pts_steps.specs.declared.step.Step.{Step}
use Rattle.pts_outcomes.specs.Acts.{Notes}
use Rattle.pts_loops.specs.Gathering.{gathered, gathered_step}
use Rattle.pts_lowering.specs.declared.forms.LoopClause.{LoopClause}
use Rattle.pts_store.specs.Stores.{Store}
use Rattle.pts_passes.specs.Inductions.{clause_values}
use Rattle.pts_loops.specs.declared.run.Run.{Run}
use Rattle.pts_loops.specs.declared.turn.Turn.{Turn}
use Rattle.pts_loops.specs.Turns.{Goes, begins_with}

-- what one more clause adds
pub value_more : (store : Store) (p j : ℕ) (cs : List LoopClause) (d : LoopClause) (values more all : List Value) (value : Option Value) → j < length cs
    → values ++ flat_map (clause_values store p) (drop j cs) ≡ all → more ≡ values ++ option_to_list value → option_to_list value ≡ clause_values store p (get_or cs j d)
    → more ++ flat_map (clause_values store p) (drop (j + 1) cs) ≡ all
value_more store p j cs d values more all value within so_far is gives =
    ap (λ l. l ++ flat_map (clause_values store p) (drop (j + 1) cs)) (is ∙ ap (λ l. values ++ l) gives)
    ∙ append_assoc values (clause_values store p (get_or cs j d)) (flat_map (clause_values store p) (drop (j + 1) cs))
    ∙ sym (ap (λ l. values ++ l) (at_drop_more (flat_map (clause_values store p)) cs j d within)) ∙ so_far

-- the store below is the same
pub goes_as : (now : Run) (store other : Store) (P : Store → Turn → Type 0) (goes : Bool) (truth : Bool) (new : Turn) → other ≡ store → goes ≡ truth → Goes now other (P other) goes new
    → Goes now store (P store) truth new
goes_as now store other P goes truth new same is h = subst (λ b. Goes now b (P b) truth new) same (subst (λ g. Goes now other (P other) g new) is h)

-- what a clause begins with
pub begun_there : (store : Store) (j : ℕ) (cs : List LoopClause) (d : LoopClause) (begun : List Value) (e : Value) → j < length cs → begun ≡ map (begins_with store) cs
    → e ≡ get_or begun j e → e ≡ begins_with store (get_or cs j d)
begun_there store j cs d begun e within is there = there ∙ ap (λ l. get_or l j e) is ∙ get_or-map (begins_with store) cs j d e within

-- one step more gives what it does
pub gathered_more : (functions : List FunctionInfo) (clauses : List LoopClause) (notes : Notes) (k : ℕ) (steps : List Step) (d : Step) (note : Option Outcome)
    (before after all : List (Option Value)) → k < length steps → k < length notes
    → gathered functions clauses notes k (drop k steps) before ≡ all → after ≡ gathered_step functions clauses (get_or steps k d) (Some note) before → note ≡ get_or notes k note
    → gathered functions clauses notes (k + 1) (drop (k + 1) steps) after ≡ all
gathered_more functions clauses notes k steps d note before after all within noted so_far is there =
    ap (gathered functions clauses notes (k + 1) (drop (k + 1) steps))
    (is ∙ ap (λ o. gathered_step functions clauses (get_or steps k d) o before) (ap Some there ∙ sym (slice_get-get_or notes k note noted)))
    ∙ sym (at_drop_more (λ l. gathered functions clauses notes k l before) steps k d within) ∙ so_far
