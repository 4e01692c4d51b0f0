use Rattle.std.proofs.Common.{ap, ◌∙◌}
use Rattle.pts_steps.specs.Building.{with_reads}
use Rattle.pts_steps.proofs.Spots.{all_counted}
use Rattle.pts_steps.proofs.builder.Builder.reads.Goals as goal

pub returns-clause-reads : goal.returns-clause-reads
returns-clause-reads c =
    c.in_ok-push_reads.ensures ∙ ap (with_reads c.args.self.now) (all_counted c.args.expr.now c.numbers_in-count.result c.numbers_in-count.ensures c.if-count.false)
