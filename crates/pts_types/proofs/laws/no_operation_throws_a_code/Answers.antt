use Rattle.pts_types.proofs.Codes.{operation-code}
use Rattle.pts_types.proofs.laws.no_operation_throws_a_code.Goals as goal

pub returns : goal.returns
returns c = operation-code
