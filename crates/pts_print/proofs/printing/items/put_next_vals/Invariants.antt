use Rattle.pts_tree.specs.Scripts as spec
use Rattle.pts_print.proofs.Turns.{Written}
use Rattle.pts_print.proofs.printing.items.put_next_vals.Given as goal

abbrev pub invariant-loop-value : goal.invariant-loop-value
invariant-loop-value l = Written spec.next_val l.values 0 l.value-index l.initial.out.items l.out.items
