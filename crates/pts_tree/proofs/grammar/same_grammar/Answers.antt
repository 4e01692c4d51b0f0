use Rattle.pts_tree.proofs.Factoring.{same_grammar}
use Rattle.pts_tree.proofs.grammar.same_grammar.Goals as goal

pub returns : goal.returns
returns c = same_grammar
