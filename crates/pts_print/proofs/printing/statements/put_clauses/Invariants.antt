use Rattle.pts_tree.specs.Statements as spec
use Rattle.pts_print.proofs.Turns.{Written}
use Rattle.pts_print.proofs.printing.statements.put_clauses.Given as goal

abbrev pub invariant-loop-clause : goal.invariant-loop-clause
invariant-loop-clause l = Written spec.clause l.clauses 0 l.clause-index l.initial.out.items l.out.items
