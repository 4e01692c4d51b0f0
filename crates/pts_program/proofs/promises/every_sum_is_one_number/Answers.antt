use Rattle.pts_program.proofs.PlainTexts.{blocks_are_plain, texts_are_plain}
use Rattle.pts_program.proofs.promises.every_sum_is_one_number.Goals as goal

pub returns-clause-texts : goal.returns-clause-texts
returns-clause-texts c = texts_are_plain

pub returns-clause-blocks : goal.returns-clause-blocks
returns-clause-blocks c = blocks_are_plain
