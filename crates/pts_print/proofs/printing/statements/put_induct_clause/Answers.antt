use Rattle.pts_print.proofs.Chains.{◌▸◌, last, said}
use Rattle.pts_print.proofs.printing.statements.put_induct_clause.Goals as goal

pub returns : goal.returns
returns c =
    last c.put_optional_step.result _ _
    (c.in_ok-put_mark.ensures ▸ c.in_ok-put_name.ensures ▸ c.in_ok-put_mark-2.ensures ▸ said c.kind_mark.ensures c.in_ok-put_mark-3.ensures
    ▸ c.in_ok-put_mark-4.ensures ▸ c.in_ok-put_initial.ensures)
    c.put_optional_step.ensures
