use Rattle.pts_layout.proofs.BlockFolds.{blocks_have_points, blocks_in_order}
use Rattle.pts_layout.proofs.laws.points_of_blocks_stand_in_order.Goals as goal

pub returns-clause-order : goal.returns-clause-order
returns-clause-order c = blocks_in_order

pub returns-clause-all : goal.returns-clause-all
returns-clause-all c = blocks_have_points
