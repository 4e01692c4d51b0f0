use Rattle.std.proofs.Common.{ap, arith, length, subst, sym, ◌∙◌}
use Rattle.std.specs.Prelude.{All}
use Rattle.pts_loop_points.specs.LoopPoints.{HasClauseCell}
use Rattle.pts_loops.proofs.Assigned.{all_assigned, assigned_more, assigned_thrown, assigning}
use Rattle.pts_loops.proofs.run.Run.assign.Goals as goal

pub loop-j-init : goal.loop-j-init
loop-j-init c = (
  assigning c.args.self.now c.args.turn.now.layer.below c.args.turn.now c.args.values.now c.requires.done c.requires.none,
  c.requires.begun ∙ sym (ap length c.as_slice-clauses.ensures),
  c.requires.accumulators ∙ sym (ap length c.as_slice-clauses.ensures),
  λ i. c.args.turn.now.layer.below,
)

pub live_out-out-requires : goal.live_out-out-requires
live_out-out-requires c = (subst (All (HasClauseCell c.args.self.now.arrays.now)) (sym c.as_slice-clauses.ensures) c.requires.ready.clause_cells) c.loop-j.j _ c.loop-j-test.true

pub returns-then-not-branch : goal.returns-then-not-branch
returns-then-not-branch c =
    assigned_thrown c.args.self.now c.args.turn.now.layer.below c.as_slice-clauses.result.now c.as_slice-clauses.ensures c.loop-j.j c.loop-j.turn c.loop-j.values c.loop-j.invariant.0
    c.loop-j-test.true _ c.index.result.now c.index.ensures c.index-in-loop-j.result.now c.index-in-loop-j.ensures c.loop-j.invariant.2 c.live_out-out.result c.live_out-out.ensures.is
    c.assign.new.self c.assign.new.values c.in_ok-assign.ensures.keeps c.in_ok-assign.field-0 c.in_ok-assign.ensures.assigns c.if-not-branch.true

pub loop-j-preserved : goal.loop-j-preserved
loop-j-preserved c = (
  assigned_more c.args.self.now c.args.turn.now.layer.below c.as_slice-clauses.result.now c.as_slice-clauses.ensures c.loop-j.j c.loop-j.turn c.loop-j.values c.loop-j.invariant.0
      c.loop-j-test.true _ c.index.result.now c.index.ensures c.index-in-loop-j.result.now c.index-in-loop-j.ensures c.loop-j.invariant.2 c.live_out-out.result c.live_out-out.ensures.is
      c.assign.new.self c.assign.new.values c.in_ok-assign.ensures.keeps c.in_ok-assign.field-0 c.in_ok-assign.ensures.assigns c.requires.cells c.live_out-out.ensures.exists c.if-not-branch.false,
  ap length c.in_ok-assign.ensures.keeps.begun ∙ c.loop-j.invariant.1,
  ap length c.in_ok-assign.ensures.keeps.accumulators ∙ c.loop-j.invariant.2,
  c.in_ok-assign.ensures.keeps.below ∙ c.loop-j.invariant.3,
)

pub returns : goal.returns
returns c =
    all_assigned c.args.self.now c.args.turn.now.layer.below c.loop-j.j c.loop-j.turn c.loop-j.values c.loop-j.invariant.0
    (let past = c.loop-j-test.false in let size = ap length c.as_slice-clauses.ensures in omega (arith, past, size))
