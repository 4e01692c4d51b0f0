use Rattle.pts_code.proofs.OwnReads.{own_reads}
use Rattle.pts_code.proofs.laws.values_depend_on_their_own_elements.Goals as goal

pub returns : goal.returns
returns c = λ env indices f g x. own_reads env indices f g x
