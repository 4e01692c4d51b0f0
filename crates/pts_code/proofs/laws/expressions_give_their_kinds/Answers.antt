use Rattle.pts_code.proofs.KindsGiven.{gives_kind}
use Rattle.pts_code.proofs.laws.expressions_give_their_kinds.Goals as goal

pub returns : goal.returns
returns c = λ elements env reads kind n x h. gives_kind elements env reads h.names x h.operators kind n h.fits h.reads_right
