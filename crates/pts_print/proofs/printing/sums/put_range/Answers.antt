use Rattle.pts_print.proofs.Chains.{◌▸◌, last}
use Rattle.pts_print.proofs.printing.sums.put_range.Goals as goal

pub returns : goal.returns
returns c =
    last c.put_mark-3.result _ _
    (c.in_ok-put_name.ensures ▸ c.in_ok-put_mark.ensures ▸ c.in_ok-put_sum.ensures ▸ c.in_ok-put_mark-2.ensures ▸ c.in_ok-put_sum-2.ensures)
    c.put_mark-3.ensures
