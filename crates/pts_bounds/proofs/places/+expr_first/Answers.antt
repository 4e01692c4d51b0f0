use Rattle.pts_bounds.proofs.Soonest.{next_soonest}
use Rattle.pts_bounds.proofs.places.+expr_first.Goals as goal

pub exprs_first-loop-expr-preserved : goal.exprs_first-loop-expr-preserved
exprs_first-loop-expr-preserved t c = next_soonest _ _ _ _ _ _ _ c.loop-expr-test.true c.expr-item.is c.loop-expr.invariant c.expr_first.ensures c.sooner-first.ensures

pub parts_first-loop-part-preserved : goal.parts_first-loop-part-preserved
parts_first-loop-part-preserved t c = next_soonest _ _ _ _ _ _ _ c.loop-part-test.true c.part-item.is c.loop-part.invariant c.expr_first.ensures c.sooner-first.ensures
