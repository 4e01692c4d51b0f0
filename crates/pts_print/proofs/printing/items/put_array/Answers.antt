use Rattle.pts_print.proofs.Chains.{◌▸◌, last, said}
use Rattle.pts_print.proofs.printing.items.put_array.Goals as goal

pub returns : goal.returns
returns c =
    last c.put_mark-7.result _ _
    (c.in_ok-put_mark.ensures ▸ c.in_ok-put_name.ensures ▸ c.in_ok-put_mark-2.ensures ▸ said c.kind_mark.ensures c.in_ok-put_mark-3.ensures
    ▸ c.in_ok-put_mark-4.ensures ▸ c.in_ok-put_sum.ensures ▸ c.in_ok-put_mark-5.ensures ▸ c.in_ok-put_mark-6.ensures ▸ c.in_ok-put_start.ensures)
    c.put_mark-7.ensures
