use Rattle.pts_groupings.proofs.Unsigned.{u64_outcome, u64_sums, u64_places, u64_reductions}
use Rattle.pts_groupings.proofs.laws.unsigned_sums_are_left_folds.Goals as goal

pub returns-clause-outcome : goal.returns-clause-outcome
returns-clause-outcome c = u64_outcome

pub returns-clause-sums : goal.returns-clause-sums
returns-clause-sums c = u64_sums

pub returns-clause-places : goal.returns-clause-places
returns-clause-places c = u64_places

pub returns-clause-reductions : goal.returns-clause-reductions
returns-clause-reductions c = u64_reductions
