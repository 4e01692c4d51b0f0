use Rattle.std.specs.Prelude.{drop}
use Rattle.pts_steps.proofs.Statements.{ReachesClauses}
use Rattle.pts_steps.proofs.builder.Builder.live_outs.Given as goal

abbrev pub invariant-loop-clause : goal.invariant-loop-clause
invariant-loop-clause l = ReachesClauses l.initial.self l.self l.clauses (drop l.clause-index l.clauses)
