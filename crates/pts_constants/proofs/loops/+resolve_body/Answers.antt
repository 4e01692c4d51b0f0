use Rattle.pts_constants.proofs.ResolvedStatements.{if_alone}
use Rattle.pts_constants.proofs.loops.«+resolve_body».Goals as goal

pub resolve_stmt-returns-in-None : goal.resolve_stmt-returns-in-None
resolve_stmt-returns-in-None t c =
    if_alone c.args.scope.now c.args.stmt.now c.in-If.test c.in-If.body c.as_slice.result.now c.in-If.other _ _ c.in-If.is c.in-None.is c.as_slice.ensures
    c.in_ok-test-in-If.ensures c.in_ok-body-in-If.ensures
