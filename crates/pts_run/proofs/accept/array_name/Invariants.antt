use Rattle.pts_run.proofs.ArrayNames.{Found_from}
use Rattle.pts_run.proofs.accept.array_name.Given as goal

abbrev pub invariant-loop-item : goal.invariant-loop-item
invariant-loop-item l = Found_from l.item-items l.fn.number l.item-index l.left
