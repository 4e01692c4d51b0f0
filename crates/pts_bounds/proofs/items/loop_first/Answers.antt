use Rattle.std.proofs.Common.{◌∙◌, ap}
use Rattle.std.specs.Prelude.{Option}
use Rattle.pts_tree.specs.declared.loops.BodyStmt.{BodyStmt}
use Rattle.pts_rules.specs.Indices.{places}
use Rattle.pts_bounds.specs.Firsts.{soonest}
use Rattle.pts_bounds.specs.Walks.{clause_first, place_first}
use Rattle.pts_bounds.proofs.Reaching.{loop_found}
use Rattle.pts_bounds.proofs.items.loop_first.Goals as goal

pub returns : goal.returns
returns c =
    c.sooner.ensures
    ∙ loop_found c.args.scope.now c.args.each.now c.progression_of-progression.result _ _ c.progression_of-progression.ensures.first c.progression_of-progression.ensures.step c.progression_of-progression.ensures.positions
    (c.clauses_first.ensures ∙ ap (soonest (clause_first c.args.scope.now)) c.as_slice.ensures)
    (c.body_first.ensures ∙ ap (soonest (λ (y : BodyStmt). soonest (place_first c.args.scope.now c.progression_of-progression.result (Option.Some c.args.each.now.index)) (places y))) c.as_slice-2.ensures)
