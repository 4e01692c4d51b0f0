use Rattle.pts_print.proofs.Chains.{◌▸◌, last}
use Rattle.pts_print.proofs.printing.statements.put_reduce_clause.Goals as goal

pub returns : goal.returns
returns c =
    last c.put_name.result _ _
    (c.in_ok-put_mark.ensures ▸ c.in_ok-put_cell.ensures ▸ c.in_ok-put_op.ensures ▸ c.in_ok-put_optional_identity.ensures ▸ c.in_ok-put_mark-2.ensures)
    c.put_name.ensures
