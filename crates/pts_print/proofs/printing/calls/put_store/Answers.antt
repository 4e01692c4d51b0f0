use Rattle.pts_print.proofs.Chains.{◌▸◌}
use Rattle.pts_print.proofs.printing.calls.put_store.Goals as goal

pub returns-in_ok-put_cell : goal.returns-in_ok-put_cell
returns-in_ok-put_cell c = rw c.in-Some.is (c.in_ok-put_mark.ensures ▸ c.in_ok-put_cell.ensures)
