use Rattle.pts_code.proofs.TypedFunctions.{outcome_kind}
use Rattle.pts_program.proofs.TypedBodies.{bodies_typed}
use Rattle.pts_program.proofs.laws.every_function_gives_its_kind.Goals as goal

pub returns : goal.returns
returns c lists number f arguments h = outcome_kind lists.functions number f arguments (bodies_typed lists h)
