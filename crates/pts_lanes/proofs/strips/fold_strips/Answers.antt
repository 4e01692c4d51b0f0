use Rattle.std.proofs.Common.{arith, take}
use lib.Lanes.{chunk}
use Rattle.std.proofs.Math.Seq.{take-add}
use Rattle.pts_lanes.proofs.Places.{folded_in_two}
use Rattle.pts_lanes.proofs.strips.fold_strips.Goals as goal

pub loop-at-preserved : goal.loop-at-preserved
loop-at-preserved g c =
    let items = c.args.items.now in
    let at = c.loop-at.at in
    record {
      within = omega arith;
      so_far = rw (take-add at 8 items) (c.join-lanes.ensures (take at items) (chunk at 8 items) c.loop-at.invariant.so_far c.load.ensures);
    }

pub returns : goal.returns
returns g c =
    let items = c.args.items.now in
    let at = c.loop-at.at in
    folded_in_two (g.K.Stepping.step c.args.kernel.now) c.args.value items at c.total.result c.fold_rest-2.result (c.total.ensures (take at items) c.loop-at.invariant.so_far) c.fold_rest-2.ensures
