use Rattle.std.proofs.Common.{◌∙◌}
use Rattle.pts_code.specs.Values.{noted}
use Rattle.pts_code.proofs.Counted.{counted, as_points}
use Rattle.pts_code.proofs.laws.elements_are_points.Goals as goal

pub returns : goal.returns
returns c = λ env notes x. counted env (noted notes) x ∙ as_points x
