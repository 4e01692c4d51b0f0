use Rattle.pts_types.proofs.Codes.{conversion-code}
use Rattle.pts_types.proofs.laws.no_conversion_throws_a_code.Goals as goal

pub returns : goal.returns
returns c = conversion-code
