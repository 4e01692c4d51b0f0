use Rattle.pts_print.proofs.Chains.{last}
use Rattle.pts_print.proofs.printing.statements.put_throw_stmt.Goals as goal

pub returns : goal.returns
returns c = last c.put_mark.result _ _ c.in_ok-put_throw.ensures c.put_mark.ensures
