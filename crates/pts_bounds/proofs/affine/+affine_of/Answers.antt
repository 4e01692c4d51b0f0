use Rattle.pts_bounds.proofs.Chained.{chained}
use Rattle.pts_bounds.proofs.affine.+affine_of.Goals as goal

pub chain_affine-loop-part-preserved : goal.chain_affine-loop-part-preserved
chain_affine-loop-part-preserved t c = chained _ _ _ _ _ _ _ _ _ c.loop-part-test.true c.part-item.is c.loop-part.invariant c.affine_of.ensures c.next_affine-so_far.ensures
