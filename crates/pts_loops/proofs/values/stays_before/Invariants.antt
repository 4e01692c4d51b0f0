use Rattle.std.proofs.Common.{◌≡◌, ◌-◌}
use Rattle.std.specs.List.{list_all, range_with_len}
use Rattle.pts_loops.specs.Kinds.{stays_at}
use Rattle.pts_loops.proofs.values.stays_before.Given as goal

abbrev pub invariant-loop-p : goal.invariant-loop-p
invariant-loop-p l = list_all (stays_at l.x l.begun) (range_with_len l.p (l.end - l.p)) ≡ list_all (stays_at l.x l.begun) (range_with_len 0 l.end)
