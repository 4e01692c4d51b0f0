use Rattle.pts_groupings.proofs.Signed.{i64_outcome, i64_sums, i64_places, i64_reductions}
use Rattle.pts_groupings.proofs.laws.signed_selections_are_left_folds.Goals as goal

pub returns-clause-outcome : goal.returns-clause-outcome
returns-clause-outcome c = i64_outcome

pub returns-clause-sums : goal.returns-clause-sums
returns-clause-sums c = i64_sums

pub returns-clause-places : goal.returns-clause-places
returns-clause-places c = i64_places

pub returns-clause-reductions : goal.returns-clause-reductions
returns-clause-reductions c = i64_reductions
