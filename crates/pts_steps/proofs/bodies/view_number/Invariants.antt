use Rattle.std.specs.Prelude.{◌≡◌, ◌+◌, drop}
use Rattle.pts_steps.specs.Steps.{view_number}
use Rattle.pts_steps.proofs.bodies.view_number.Given as goal

abbrev pub invariant-loop-at : goal.invariant-loop-at
invariant-loop-at l = l.at + view_number (drop l.at l.clauses) l.name ≡ view_number l.clauses l.name
