use Rattle.pts_bounds.proofs.Soonest.{next_soonest}
use Rattle.pts_bounds.proofs.ranges.clauses_first.Goals as goal

pub loop-clause-preserved : goal.loop-clause-preserved
loop-clause-preserved c = next_soonest _ _ _ _ _ _ _ c.loop-clause-test.true c.clause-item.is c.loop-clause.invariant c.clause_first.ensures c.sooner-first.ensures
