use Rattle.pts_program.proofs.TextNames.{blocks_named, texts_named}
use Rattle.pts_program.proofs.promises.every_name_is_known.Goals as goal

pub returns-clause-texts : goal.returns-clause-texts
returns-clause-texts c = texts_named

pub returns-clause-blocks : goal.returns-clause-blocks
returns-clause-blocks c = blocks_named
