use Rattle.pts_code.proofs.GrammarOperators.{allowed_right}
use Rattle.pts_code.proofs.laws.grammar_has_operators_right.Goals as goal

pub returns : goal.returns
returns c = λ x h. allowed_right x h
