use Rattle.pts_groupings.proofs.Sums.{sum_is_generalized}
use Rattle.pts_groupings.proofs.laws.sums_of_groupings_are_generalized.Goals as goal

pub returns : goal.returns
returns c = sum_is_generalized
