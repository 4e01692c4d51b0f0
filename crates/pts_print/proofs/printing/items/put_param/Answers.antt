use Rattle.std.proofs.Common.{ap}
use Rattle.pts_tree.specs.Spelling.{word}
use Rattle.pts_print.proofs.Chains.{◌▸◌, last, on_text}
use Rattle.pts_print.proofs.printing.items.put_param.Goals as goal

pub returns : goal.returns
returns c =
    last c.put_mark-2.result _ _
    (c.in_ok-put_name.ensures ▸ c.in_ok-put_mark.ensures)
    (on_text c.put_mark-2.result _ _ _ (ap word c.kind_mark.ensures) c.put_mark-2.ensures)
