use Rattle.pts_print.proofs.Chains.{◌▸◌, last}
use Rattle.pts_print.proofs.printing.statements.put_let.Goals as goal

pub returns : goal.returns
returns c = last c.put_value.result _ _ (c.in_ok-put_mark.ensures ▸ c.in_ok-put_name.ensures) c.put_value.ensures
