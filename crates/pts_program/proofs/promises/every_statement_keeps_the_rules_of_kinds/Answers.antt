use Rattle.pts_program.proofs.RightTexts.{all_blocks_right, all_texts_right}
use Rattle.pts_program.proofs.promises.every_statement_keeps_the_rules_of_kinds.Goals as goal

pub returns-clause-texts : goal.returns-clause-texts
returns-clause-texts c = all_texts_right

pub returns-clause-blocks : goal.returns-clause-blocks
returns-clause-blocks c = all_blocks_right
