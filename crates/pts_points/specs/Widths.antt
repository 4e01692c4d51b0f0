-- Numbers in the widths that lists keep.
use Rattle.std.specs.Prelude.{ℕ, ◌-◌, ◌^◌, min, if◌then◌else◌, ℤ, int_lt}
use Rattle.pts_types.specs.Arithmetic.{least_i64, greatest_i64}

-- in 32 bits: the nearest number
abbrev pub small : ℕ → ℕ
small n = min n (2 ^ 32 - 1)

-- in 64 bits with a sign: the nearest number
abbrev pub clamp : ℤ → ℤ
clamp z = if int_lt z least_i64 then least_i64 else if int_lt greatest_i64 z then greatest_i64 else z
