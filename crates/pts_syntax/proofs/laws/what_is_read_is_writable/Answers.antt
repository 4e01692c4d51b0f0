use Rattle.pts_syntax.proofs.Writable.{writable}
use Rattle.pts_syntax.proofs.laws.what_is_read_is_writable.Goals as goal

pub returns : goal.returns
returns c = writable
