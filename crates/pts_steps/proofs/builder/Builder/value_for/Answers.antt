use Rattle.std.proofs.Common.{ap, ◌∙◌}
use Rattle.std.proofs.lemmas.Result.{on_ok_weaker}
use Rattle.pts_rules.specs.Counts.{reads}
use Rattle.pts_steps.specs.Building.{with_reads}
use Rattle.pts_steps.proofs.Spots.{reads_twice}
use Rattle.pts_steps.proofs.builder.Builder.value_for.Goals as goal

pub returns-clause-reads : goal.returns-clause-reads
returns-clause-reads c =
    on_ok_weaker c.compute.result
    (λ e. e ∙ ap (λ b. with_reads b (reads c.args.value.now)) c.in_ok-reads.ensures.reads ∙ reads_twice c.args.self.now (reads c.args.place.now.index) (reads c.args.value.now))
    c.compute.ensures.reads
