use Rattle.std.proofs.Common.{refl}
use Rattle.pts_kinds.proofs.Same.{same_typing}
use Rattle.pts_kinds.proofs.exprs.throw_typing.Goals as goal

pub returns : goal.returns
returns c = same_typing _ _ c.all.result _ refl refl c.all.ensures
