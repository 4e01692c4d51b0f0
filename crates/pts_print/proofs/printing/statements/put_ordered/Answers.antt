use Rattle.pts_print.proofs.Chains.{◌▸◌, last, said_optional}
use Rattle.pts_print.proofs.printing.statements.put_ordered.Goals as goal

pub returns : goal.returns
returns c =
    last c.put_mark-2.result _ _
    (c.in_ok-put_mark.ensures ▸ c.in_ok-put_element.ensures ▸ said_optional c.update_mark.ensures c.in_ok-put_optional_mark.ensures ▸ c.in_ok-put_expr.ensures)
    c.put_mark-2.ensures
