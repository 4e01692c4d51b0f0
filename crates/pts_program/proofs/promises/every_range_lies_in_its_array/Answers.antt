use Rattle.pts_program.proofs.HeldTexts.{blocks_in_arrays, texts_in_arrays}
use Rattle.pts_program.proofs.promises.every_range_lies_in_its_array.Goals as goal

pub returns-clause-texts : goal.returns-clause-texts
returns-clause-texts c = texts_in_arrays

pub returns-clause-blocks : goal.returns-clause-blocks
returns-clause-blocks c = blocks_in_arrays
