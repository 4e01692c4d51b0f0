-- Numbers that machine numbers of 128 bits hold.
use Rattle.std.proofs.Common.{◌≡◌, ◌^◌, ◌<◌, ℤ, nat_abs, arith, to_z, of_z, SFits}
use Rattle.std.specs.Int.{w128}
use Rattle.std.proofs.lemmas.Int.{ints, to_z-of_z}

pub small_fits : (z : ℤ) → nat_abs z < 2 ^ 64 → SFits w128 z
small_fits z h = grind (arith, ints)

pub read_back : (z : ℤ) → nat_abs z < 2 ^ 64 → to_z w128 (of_z w128 z) ≡ z
read_back z h = to_z-of_z w128 z (small_fits z h)
