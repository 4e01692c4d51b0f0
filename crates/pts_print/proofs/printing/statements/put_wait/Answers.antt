use Rattle.pts_print.proofs.Chains.{last}
use Rattle.pts_print.proofs.printing.statements.put_wait.Goals as goal

pub returns : goal.returns
returns c = last c.put_mark-2.result _ _ c.in_ok-put_mark.ensures c.put_mark-2.ensures
