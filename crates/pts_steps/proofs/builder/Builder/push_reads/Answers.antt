use Rattle.std.proofs.Common.{ap, ◌∙◌}
use Rattle.pts_steps.specs.declared.step.Step.TheVariants as steps
use Rattle.pts_steps.specs.Building.{with_step}
use Rattle.pts_steps.proofs.Spots.{one_read}
use Rattle.pts_steps.proofs.builder.Builder.push_reads.Goals as goal

pub loop-read-preserved : goal.loop-read-preserved
loop-read-preserved c = c.in_ok-push.ensures ∙ ap (λ b. with_step b steps.Read) c.loop-read.invariant ∙ one_read c.args.self.now c.loop-read._read
