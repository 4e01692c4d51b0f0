use Rattle.pts_blocks.proofs.Settled.{is_settled}
use Rattle.pts_blocks.proofs.Stated.{discards_none, is_caused, is_permitted}
use Rattle.pts_blocks.proofs.laws.one_worker_is_among_several.Goals as goal

pub returns-clause-permitted : goal.returns-clause-permitted
returns-clause-permitted g c = is_permitted g.B.Blocks.meaning

pub returns-clause-discards : goal.returns-clause-discards
returns-clause-discards g c = discards_none g.B.Blocks.meaning

pub returns-clause-caused : goal.returns-clause-caused
returns-clause-caused g c = is_caused g.B.Blocks.meaning

pub returns-clause-settled : goal.returns-clause-settled
returns-clause-settled g c = λ one. is_settled g.B.Blocks.meaning one one
