use Rattle.std.proofs.Common.{◌≡◌, replicate, None}
use Rattle.pts_loops.proofs.starts.no_notes.Given as goal

abbrev pub invariant-loop-at : goal.invariant-loop-at
invariant-loop-at l = l.notes.items ≡ replicate l.at None
