use Rattle.std.proofs.Common.{[], ap, ◌∙◌}
use Rattle.pts_groupings.specs.Chunks.{single_group}
use Rattle.pts_loops.proofs.Ended.{accumulators_many, ends_thrown, ends_written, ends_as}
use Rattle.pts_loops.proofs.run.Run.finish.Goals as goal

pub assign-requires-clause-accumulators : goal.assign-requires-clause-accumulators
assign-requires-clause-accumulators c = accumulators_many c.args.self.now c.args.turn.layer.below c.args.turn c.requires.done

pub returns-then-not-branch : goal.returns-then-not-branch
returns-then-not-branch c =
    ends_thrown c.args.pool c.args.self.now c.args.turn.layer.below c.in_ok-grouping.grouping.groups (c.in_ok-grouping.ensures ∙ ap single_group c.div_ceil.ensures) c.requires.stay [] (λ i. [])
    (ends_as c.args.self.now c.args.turn.layer.below c.in_ok-assign.field-0 _ c.assign.new.turn c.assign.new.values c.if-not-branch.true c.in_ok-assign.ensures)

pub returns : goal.returns
returns c =
    ends_written c.args.pool c.args.self.now c.args.turn.layer.below c.in_ok-grouping.grouping.groups (c.in_ok-grouping.ensures ∙ ap single_group c.div_ceil.ensures) c.requires.stay c.assign.new.turn c.assign.new.values
    c.into_writes.result
    (ends_as c.args.self.now c.args.turn.layer.below c.in_ok-assign.field-0 _ c.assign.new.turn c.assign.new.values c.if-not-branch.false c.in_ok-assign.ensures)
    c.into_writes.ensures.writes
