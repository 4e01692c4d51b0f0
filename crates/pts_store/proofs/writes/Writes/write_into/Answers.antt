use Rattle.std.proofs.Common.{◌∙◌, [], subst, arith, ◌*◌}
use Rattle.std.proofs.lemmas.List.{get_or_default}
use Rattle.pts_store.specs.Stores.{cells_with}
use Rattle.pts_store.specs.Stretches.{Shows}
use Rattle.pts_store.specs.Writes.{Band, in_band}
use Rattle.pts_store.proofs.Accepting.{writes-next, writes-done}
use Rattle.pts_store.proofs.writes.Writes.write_into.Goals as goal

pub loop-at-preserved : goal.loop-at-preserved
loop-at-preserved c =
    let P : Band → Type 0 = λ band. Shows cells_with (in_band band) (c.loop-at.at * 64) 64 c.loop-at.arrays c.write_into.new.arrays in
    writes-next c.as_slice-bands.result.now c.loop-at.at c.args.arrays.now c.loop-at.arrays c.write_into.new.arrays
    c.loop-at.invariant (subst P (c.index-bands-at.is ∙ get_or_default c.as_slice-bands.result.now c.loop-at.at c.index-bands-at.result [] (omega arith)) c.write_into.ensures)

pub returns : goal.returns
returns c =
    rw (← c.self.view_is, ← c.as_slice-bands.ensures.value)
    (writes-done c.as_slice-bands.result.now c.loop-at.at c.args.arrays.now c.loop-at.arrays c.loop-at.invariant (omega arith))
