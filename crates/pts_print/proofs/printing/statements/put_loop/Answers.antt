use Rattle.std.proofs.Common.{ap}
use Rattle.pts_tree.specs.Spelling.{each}
use Rattle.pts_tree.specs.Statements as spec
use Rattle.pts_print.proofs.Chains.{◌▸◌, last, said, shown, on_text}
use Rattle.pts_print.proofs.printing.statements.put_loop.Goals as goal

pub returns : goal.returns
returns c =
    last c.put_body.result _ _
    (c.in_ok-put_mark.ensures ▸ said c.policy_mark.ensures c.in_ok-put_mark-2.ensures ▸ c.in_ok-put_name.ensures ▸ c.in_ok-put_mark-3.ensures
    ▸ c.in_ok-put_sum.ensures ▸ c.in_ok-put_mark-4.ensures ▸ c.in_ok-put_sum-2.ensures ▸ c.in_ok-put_optional_step.ensures
    ▸ shown (λ xs. each spec.clause xs) _ _ c.as_slice.ensures c.in_ok-put_clauses.ensures)
    (on_text c.put_body.result _ _ _ (ap (λ xs. spec.body xs) c.as_slice-2.ensures) c.put_body.ensures)
