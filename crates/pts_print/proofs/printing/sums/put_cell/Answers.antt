use Rattle.pts_print.proofs.Chains.{◌▸◌, last}
use Rattle.pts_print.proofs.printing.sums.put_cell.Goals as goal

pub returns : goal.returns
returns c = last c.put_mark-2.result _ _ (c.in_ok-put_name.ensures ▸ c.in_ok-put_mark.ensures ▸ c.in_ok-put_sum.ensures) c.put_mark-2.ensures
