use Rattle.std.proofs.Common.{subst}
use Rattle.pts_groupings.specs.Chunks.{IsGrouping}
use Rattle.pts_groupings.proofs.Single.{only_grouping, single_is_grouping}
use Rattle.pts_groupings.proofs.laws.one_worker_has_one_grouping.Goals as goal

pub returns-clause-alone : goal.returns-clause-alone
returns-clause-alone c = λ policy workers chunks groups one g. only_grouping chunks groups (subst (λ n. IsGrouping n chunks groups) one g)

pub returns-clause-among_others : goal.returns-clause-among_others
returns-clause-among_others c = single_is_grouping
