use Rattle.pts_tree.specs.Spelling as spec
use Rattle.pts_print.proofs.Turns.{Written}
use Rattle.pts_print.proofs.printing.sums.put_sum_parts.Given as goal

abbrev pub invariant-loop-part : goal.invariant-loop-part
invariant-loop-part l = Written spec.sum_part l.parts 0 l.part-index l.initial.out.items l.out.items
