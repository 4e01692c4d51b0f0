use Rattle.pts_program.proofs.ExactTexts.{sums_exact}
use Rattle.pts_program.proofs.promises.every_sum_keeps_its_value.Goals as goal

pub returns : goal.returns
returns c = sums_exact
