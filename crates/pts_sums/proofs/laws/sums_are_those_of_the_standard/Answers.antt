use Rattle.std.proofs.Common.{sym, subst}
use Rattle.pts_groupings.specs.Chunks.{sharing}
use Rattle.pts_groupings.specs.Sums.{IsSum}
use Rattle.pts_eval.specs.Sums.{combining, items_in}
use Rattle.pts_sums.proofs.laws.sums_are_those_of_the_standard.Goals as goal

pub returns : goal.returns
returns c =
    λ functions store pool call answer some a.
    subst (IsSum (combining functions call.operation) call.initial (items_in functions store call)) (sym a.outcome)
    (c.sums_of_groupings_are_generalized.ensures (combining functions call.operation) call.policy (sharing call.policy pool.workers) pool.chunk answer.grouping.groups
    call.initial (items_in functions store call) some a.grouping)
