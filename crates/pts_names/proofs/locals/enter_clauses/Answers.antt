use Rattle.std.proofs.Common.{[], ◌∷◌}
use Rattle.pts_rules.specs.Parts.{clause_name}
use Rattle.pts_names.proofs.Entering.{entering_one}
use Rattle.pts_names.proofs.locals.enter_clauses.Goals as goal

pub loop-clause-preserved : goal.loop-clause-preserved
loop-clause-preserved c =
    entering_one (λ x. clause_name x ∷ []) c.args.scope.now c.loop-clause.scope c.enter_clause.new.scope c.args.clauses.now c.loop-clause.clause-index
    c.loop-clause.again c.in_ok-again.field-0 c.clause-item.result
    c.loop-clause.invariant c.loop-clause-test.true c.clause-item.is c.in_ok-again.ensures.answer c.in_ok-again.ensures.entered
