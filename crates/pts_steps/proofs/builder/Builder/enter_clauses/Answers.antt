use Rattle.std.proofs.Common.{◌+◌, drop, fold, sym, ap, ◌∙◌}
use Rattle.pts_steps.specs.Building.{with_clause}
use Rattle.pts_steps.proofs.LoopHeads.{clause_more, clauses_done}
use Rattle.pts_steps.proofs.builder.Builder.enter_clauses.Goals as goal

pub loop-clause-preserved : goal.loop-clause-preserved
loop-clause-preserved c =
    ap (λ b. fold with_clause b (drop (c.loop-clause.clause-index + 1) c.args.clauses.now)) c.in_ok-enter_clause.ensures
    ∙ clause_more c.loop-clause.self c.args.clauses.now c.loop-clause.clause-index c.clause-item.result c.loop-clause-test.true c.clause-item.is
    ∙ c.loop-clause.invariant

pub returns : goal.returns
returns c = sym (clauses_done c.loop-clause.self c.args.clauses.now c.loop-clause.clause-index c.loop-clause-test.false) ∙ c.loop-clause.invariant
