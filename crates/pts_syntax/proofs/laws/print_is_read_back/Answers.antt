use Rattle.pts_syntax.proofs.ReadBack.{read_back}
use Rattle.pts_syntax.proofs.laws.print_is_read_back.Goals as goal

pub returns : goal.returns
returns c = read_back
