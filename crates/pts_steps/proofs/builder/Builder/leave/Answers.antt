use Rattle.std.proofs.Common.{take, ◌∙◌}
use Rattle.pts_steps.proofs.builder.Builder.leave.Goals as goal

pub returns : goal.returns
returns c =
    c.leave_spots.ensures
    ∙ (λ i. record c.args.self.now { kinds = c.leave.ensures i; names = c.leave-2.ensures i; spots = take c.args.mark.spots c.args.self.now.spots })
