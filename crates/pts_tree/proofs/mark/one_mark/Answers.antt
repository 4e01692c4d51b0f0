use Rattle.pts_tree.proofs.Texts.{one_text}
use Rattle.pts_tree.proofs.mark.one_mark.Goals as goal

pub returns : goal.returns
returns c = one_text
