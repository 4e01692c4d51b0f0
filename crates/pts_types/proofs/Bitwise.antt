-- Two's complement at 64 bits, and the bitwise operations.
use Rattle.std.proofs.Common.{◌≡◌, ℕ, ◌^◌, ◌<◌, ℤ, pos, negsuc, refl, sym, ap, ◌∙◌, arith, w64, to_z, of_z, bit_or}
use Rattle.std.specs.Prelude.{◌≤ℤ◌}
use Rattle.std.proofs.lemmas.Int.{ints, of_z-to_z}
use Rattle.std.proofs.lemmas.Bool.Decides.{nat_tests}
use Rattle.std.proofs.lemmas.Nat.Bits.{bit_at_or, same_from_bits}
use Rattle.pts_types.specs.Arithmetic.{signed_of, unsigned_of, least_i64, greatest_i64}

-- the code's reading of 64 bits is the definition's
pub signed-is : (n : ℕ) → n < 2 ^ 64 → to_z w64 n ≡ signed_of n
signed-is n h = grind (arith, ints, nat_tests)

pub unsigned-is : (z : ℤ) → unsigned_of z ≡ of_z w64 z
unsigned-is (pos n) = refl
unsigned-is (negsuc n) = omega arith

-- `signed_of` on numbers of 64 bits and `unsigned_of` on i64 undo each other
pub unsigned-signed : (n : ℕ) → n < 2 ^ 64 → unsigned_of (signed_of n) ≡ n
unsigned-signed n h = ap unsigned_of (sym (signed-is n h)) ∙ unsigned-is (to_z w64 n) ∙ of_z-to_z w64 n h

pub unsigned-lt : (z : ℤ) → least_i64 ≤ℤ z → z ≤ℤ greatest_i64 → unsigned_of z < 2 ^ 64
unsigned-lt (pos n) low high = omega (arith, ints)
unsigned-lt (negsuc n) low high = omega arith

pub or_assoc : (a b c : ℕ) → bit_or (bit_or a b) c ≡ bit_or a (bit_or b c)
or_assoc a b c = same_from_bits _ _ (λ i. rw (bit_at_or (bit_or a b) c i, bit_at_or a b i, bit_at_or a (bit_or b c) i, bit_at_or b c i) (omega arith))
