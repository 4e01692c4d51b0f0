use Rattle.pts_print.proofs.Lines.{Lined}
use Rattle.pts_print.proofs.printing.put_item_lines.Given as goal

abbrev pub invariant-loop-item : goal.invariant-loop-item
invariant-loop-item l = Lined l.items l.item-index l.initial.out.items l.out.items
