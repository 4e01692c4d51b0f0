use Rattle.pts_lowering.proofs.Heads.{identity_fits}
use Rattle.pts_lowering.proofs.loops.lower_reduction.Goals as goal

pub lower_optional_val-requires : goal.lower_optional_val-requires
lower_optional_val-requires c = identity_fits c.args.scope.now c.args.clause.now c.kind_at.result c.requires.right c.kind_at.ensures
