use Rattle.std.proofs.Common.{◌≡◌, None, take}
use Rattle.std.specs.Prelude.{find}
use Rattle.pts_eval.specs.Built.{is_later}
use Rattle.pts_eval.proofs.unbuilt.later.Given as goal

-- all statements so far are built
abbrev pub invariant-loop-statement : goal.invariant-loop-statement
invariant-loop-statement l = find (is_later l.program) (take l.statement-index l.statement-items) ≡ None
