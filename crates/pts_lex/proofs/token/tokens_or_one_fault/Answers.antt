use Rattle.pts_lex.proofs.OneFault.{no_fault, one_fault}
use Rattle.pts_lex.proofs.token.tokens_or_one_fault.Goals as goal

pub returns-clause-tokens : goal.returns-clause-tokens
returns-clause-tokens c = no_fault

pub returns-clause-fault : goal.returns-clause-fault
returns-clause-fault c = one_fault
