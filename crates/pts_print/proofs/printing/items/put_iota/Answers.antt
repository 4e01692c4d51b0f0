use Rattle.pts_print.proofs.Chains.{◌▸◌, last}
use Rattle.pts_print.proofs.printing.items.put_iota.Goals as goal

pub returns : goal.returns
returns c =
    last c.put_sum-2.result _ _
    (c.in_ok-put_mark.ensures ▸ c.in_ok-put_sum.ensures ▸ c.in_ok-put_mark-2.ensures)
    c.put_sum-2.ensures
