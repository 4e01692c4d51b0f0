use Rattle.std.proofs.Common.{◌≡◌, length, map, take, ltb}
use Rattle.pts_lanes.specs.Kernels.{cell_at}
use Rattle.pts_lanes.proofs.gathering.gather_u64.Given as goal

-- the places so far have their answers
abbrev pub invariant-loop-i : goal.invariant-loop-i
invariant-loop-i l = record {
  room_out : length l.out ≡ length l.at;
  room_found : length l.found ≡ length l.at;
  cells : take l.i l.out ≡ map (cell_at l.xs) (take l.i l.at);
  found : take l.i l.found ≡ map (λ place. ltb place (length l.xs)) (take l.i l.at);
}
