use Rattle.pts_tree.specs.Scripts as spec
use Rattle.pts_print.proofs.Turns.{Written}
use Rattle.pts_print.proofs.printing.items.put_next_params.Given as goal

abbrev pub invariant-loop-param : goal.invariant-loop-param
invariant-loop-param l = Written spec.next_param l.params 0 l.param-index l.initial.out.items l.out.items
