use Rattle.pts_print.proofs.Chains.{◌▸◌}
use Rattle.pts_print.proofs.printing.calls.put_target_range.Goals as goal

pub returns-in_ok-put_range : goal.returns-in_ok-put_range
returns-in_ok-put_range c = rw c.in-Some.is (c.in_ok-put_mark.ensures ▸ c.in_ok-put_range.ensures)
