use Rattle.pts_parse.proofs.WholeScripts.{one_reading}
use Rattle.pts_parse.proofs.laws.one_reading.Goals as goal

pub returns : goal.returns
returns c = one_reading
