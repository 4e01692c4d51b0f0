use Rattle.pts_tree.proofs.Texts.{Others}
use Rattle.pts_tree.proofs.mark.Mark.of_text.Given as goal

abbrev pub invariant-loop-mark : goal.invariant-loop-mark
invariant-loop-mark l = Others l.text l.mark-index
