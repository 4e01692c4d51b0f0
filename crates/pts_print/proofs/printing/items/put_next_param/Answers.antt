use Rattle.pts_print.proofs.Chains.{last}
use Rattle.pts_print.proofs.printing.items.put_next_param.Goals as goal

pub returns : goal.returns
returns c = last c.put_param.result _ _ c.in_ok-put_mark.ensures c.put_param.ensures
