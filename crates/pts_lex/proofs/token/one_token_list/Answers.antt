use Rattle.pts_lex.proofs.TokenLists.{at_most_one}
use Rattle.pts_lex.proofs.token.one_token_list.Goals as goal

pub returns : goal.returns
returns c = at_most_one
