use Rattle.pts_lowering.proofs.Summing.{initial_fits}
use Rattle.pts_lowering.proofs.calls.lower_initial.Goals as goal

pub lower_optional_val-requires : goal.lower_optional_val-requires
lower_optional_val-requires c = initial_fits c.args.scope.now c.args.call.now c.kind_of_sum.result c.requires c.kind_of_sum.ensures
