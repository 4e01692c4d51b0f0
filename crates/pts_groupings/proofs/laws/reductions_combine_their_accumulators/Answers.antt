use Rattle.pts_groupings.proofs.Accumulators.{whole_reduction}
use Rattle.pts_groupings.proofs.Reductions.{accumulator_is_sum, reduction_combines}
use Rattle.pts_groupings.proofs.laws.reductions_combine_their_accumulators.Goals as goal

pub returns-clause-combines : goal.returns-clause-combines
returns-clause-combines c = reduction_combines

pub returns-clause-accumulators : goal.returns-clause-accumulators
returns-clause-accumulators c = accumulator_is_sum

pub returns-clause-whole : goal.returns-clause-whole
returns-clause-whole c = whole_reduction
