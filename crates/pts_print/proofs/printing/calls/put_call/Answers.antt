use Rattle.pts_print.proofs.Chains.{◌▸◌, last, said}
use Rattle.pts_print.proofs.printing.calls.put_call.Goals as goal

pub returns : goal.returns
returns c =
    last c.put_mark-3.result _ _
    (said c.form_mark.ensures c.in_ok-put_mark.ensures ▸ said c.policy_mark.ensures c.in_ok-put_mark-2.ensures ▸ c.in_ok-put_range.ensures
    ▸ c.in_ok-put_second_range.ensures ▸ c.in_ok-put_target_range.ensures ▸ c.in_ok-put_init.ensures ▸ c.in_ok-put_optional_op.ensures
    ▸ c.in_ok-put_function.ensures ▸ c.in_ok-put_store.ensures)
    c.put_mark-3.ensures
