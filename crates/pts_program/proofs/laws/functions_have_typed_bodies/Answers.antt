use Rattle.pts_program.proofs.TypedBodies.{bodies_typed}
use Rattle.pts_program.proofs.laws.functions_have_typed_bodies.Goals as goal

pub returns : goal.returns
returns c = bodies_typed
