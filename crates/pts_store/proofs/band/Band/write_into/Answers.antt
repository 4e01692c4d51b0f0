use Rattle.std.proofs.Common.{arith}
use Rattle.pts_store.proofs.Accepting.{band-done}
use Rattle.pts_store.proofs.band.Band.write_into.Goals as goal

pub returns : goal.returns
returns c =
    rw (← c.self.view_is, ← c.as_slice-rows.ensures.value)
    (band-done c.as_slice-rows.result.now c.args.base c.loop-at.at c.args.arrays.now c.loop-at.arrays c.loop-at.invariant (omega arith))
