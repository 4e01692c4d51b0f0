use Rattle.std.proofs.Common.{length, ◌-◌, ◌≡◌, ◌≤◌, take}
use Rattle.pts_lanes.proofs.strips.fill_strips.Given as goal

-- the places so far have their answers
abbrev pub invariant-loop-out : goal.invariant-loop-out
invariant-loop-out g l =
    let answer = g.K.Filling.answer l.kernel in
    record {
      places : g.K.Filling.places l.kernel ≡ length answer;
      room : length l.out ≡ length answer;
      within : l.at ≤ length answer;
      so_far : take l.at l.out ≡ take l.at answer;
    }

abbrev pub decreases-loop-out : goal.decreases-loop-out
decreases-loop-out g l = length l.out - l.at

abbrev pub invariant-loop-at : goal.invariant-loop-at
invariant-loop-at g l =
    let answer = g.K.Filling.answer l.kernel in
    record {
      places : g.K.Filling.places l.kernel ≡ length answer;
      room : length l.out ≡ length answer;
      within : l.at ≤ length answer;
      so_far : take l.at l.out ≡ take l.at answer;
    }

abbrev pub decreases-loop-at : goal.decreases-loop-at
decreases-loop-at g l = length l.out - l.at
