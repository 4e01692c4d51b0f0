use Rattle.std.proofs.Common.{◌≡◌, drop, fold}
use Rattle.pts_lanes.proofs.strips.fold_rest.Given as goal

-- folding what is left over the value so far is folding all items over the first value
abbrev pub invariant-loop-item : goal.invariant-loop-item
invariant-loop-item g l =
    let step = g.K.Stepping.step l.kernel in
    fold step l.value (drop l.item-index l.items) ≡ fold step l.fn.value l.items
