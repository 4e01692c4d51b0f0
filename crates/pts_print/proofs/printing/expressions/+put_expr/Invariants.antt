use Rattle.pts_tree.specs.Expressions as spec
use Rattle.pts_print.proofs.Turns.{Written}
use Rattle.pts_print.proofs.printing.expressions.«+put_expr».Given as goal

abbrev pub invariant-put_next_exprs-loop-at : goal.invariant-put_next_exprs-loop-at
invariant-put_next_exprs-loop-at l = Written (spec.next_expr l.between) l.exprs 1 l.at l.initial.out.items l.out.items

abbrev pub invariant-put_chain_parts-loop-part : goal.invariant-put_chain_parts-loop-part
invariant-put_chain_parts-loop-part l = Written spec.chain_part l.parts 0 l.part-index l.initial.out.items l.out.items
