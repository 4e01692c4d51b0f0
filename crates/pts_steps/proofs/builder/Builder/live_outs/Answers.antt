use Rattle.pts_steps.proofs.Statements.{clause_turn, clauses_end}
use Rattle.pts_steps.proofs.builder.Builder.live_outs.Goals as goal

pub loop-clause-init : goal.loop-clause-init
loop-clause-init c = λ x e h. h

pub loop-clause-preserved : goal.loop-clause-preserved
loop-clause-preserved c =
    clause_turn c.args.self.now c.loop-clause.self c.live_out.new.self c.args.clauses.now c.loop-clause.clause-index c.clause-item.result c.loop-clause-test.true c.clause-item.is
    c.loop-clause.invariant c.in_ok-live_out.ensures

pub returns : goal.returns
returns c = clauses_end c.args.self.now c.loop-clause.self c.args.clauses.now c.loop-clause.clause-index c.loop-clause-test.false c.loop-clause.invariant
