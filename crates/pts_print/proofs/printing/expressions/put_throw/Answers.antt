use Rattle.pts_print.proofs.Chains.{last}
use Rattle.pts_print.proofs.printing.expressions.put_throw.Goals as goal

pub returns : goal.returns
returns c = last c.put_number.result _ _ c.in_ok-put_mark.ensures c.put_number.ensures
