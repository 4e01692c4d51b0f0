use Rattle.pts_code.proofs.TypedFunctions.{outcome_kind}
use Rattle.pts_code.proofs.laws.functions_give_their_kinds.Goals as goal

pub returns : goal.returns
returns c = λ functions number f arguments h is has. outcome_kind functions number f arguments h is has
