use Rattle.pts_conflict.proofs.PartPairs.{all_conflicts}
use Rattle.pts_conflict.proofs.clearing.least_conflict.Goals as goal

pub returns : goal.returns
returns c = all_conflicts c.args.program.now c.keeps_its_promises.ensures c.least_in_calls.result c.least_in_blocks.result c.lower.result c.least_in_calls.ensures c.least_in_blocks.ensures c.lower.ensures
