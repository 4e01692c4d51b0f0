use Rattle.std.proofs.Common.{length, ◌-◌, ◌≤◌, take}
use Rattle.pts_lanes.proofs.strips.fold_strips.Given as goal

-- the lanes stand for the items so far
abbrev pub invariant-loop-at : goal.invariant-loop-at
invariant-loop-at g l = record {
  within : l.at ≤ length l.items;
  so_far : g.K.Folding.stand_for l.kernel l.lanes (take l.at l.items);
}

abbrev pub decreases-loop-at : goal.decreases-loop-at
decreases-loop-at g l = length l.items - l.at
