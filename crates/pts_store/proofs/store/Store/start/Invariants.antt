use Rattle.std.proofs.Common.{◌≡◌, take}
use Rattle.pts_store.proofs.store.Store.start.Given as goal

abbrev pub invariant-loop-array : goal.invariant-loop-array
invariant-loop-array l = l.store ≡ take l.array-index l.arrays
