use Rattle.pts_tree.specs.Scripts as spec
use Rattle.pts_print.proofs.Chains.{◌▸◌, last, said, shown}
use Rattle.pts_print.proofs.printing.items.put_function.Goals as goal

pub returns : goal.returns
returns c =
    last c.put_mark-7.result _ _
    (c.in_ok-put_mark.ensures ▸ c.in_ok-put_name.ensures ▸ c.in_ok-put_mark-2.ensures ▸ shown (λ xs. spec.params xs) _ _ c.as_slice.ensures c.in_ok-put_params.ensures
    ▸ c.in_ok-put_mark-3.ensures ▸ c.in_ok-put_mark-4.ensures ▸ said c.kind_mark.ensures c.in_ok-put_mark-5.ensures ▸ c.in_ok-put_mark-6.ensures
    ▸ c.in_ok-put_expr.ensures)
    c.put_mark-7.ensures
