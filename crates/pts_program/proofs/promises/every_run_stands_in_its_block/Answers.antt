use Rattle.pts_program.proofs.CountedBodies.{all_shaped}
use Rattle.pts_program.proofs.promises.every_run_stands_in_its_block.Goals as goal

pub returns : goal.returns
returns c = all_shaped
