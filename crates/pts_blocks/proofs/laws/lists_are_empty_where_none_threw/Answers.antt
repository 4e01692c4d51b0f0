use Rattle.pts_blocks.proofs.Deep.{empty_where_none}
use Rattle.pts_blocks.proofs.laws.lists_are_empty_where_none_threw.Goals as goal

pub returns : goal.returns
returns c = empty_where_none
