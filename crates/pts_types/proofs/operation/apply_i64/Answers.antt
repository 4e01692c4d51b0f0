use Rattle.std.proofs.Common.{◌^◌, ◌<◌, ap, arith, w64, of_z}
use Rattle.std.specs.Prelude.{Ok}
use Rattle.std.proofs.lemmas.Int.{ints}
use Rattle.std.proofs.lemmas.Nat.{or_lt, xor_lt}
use Rattle.pts_types.specs.declared.value.Value.TheVariants.{I64}
use Rattle.pts_types.proofs.Bitwise.{signed-is, unsigned-is}
use Rattle.pts_types.proofs.operation.apply_i64.Goals as goal

pub returns-in-BitOr : goal.returns-in-BitOr
returns-in-BitOr c =
    let x : of_z w64 c.args.x < 2 ^ 64 = omega (arith, ints) in
    let y : of_z w64 c.args.y < 2 ^ 64 = omega (arith, ints) in
    rw c.in-BitOr.is (rw (unsigned-is c.args.x, unsigned-is c.args.y) (ap (λ z. Ok (I64 z)) (signed-is _ (or_lt 64 _ _ x y))))

pub returns-in-BitXor : goal.returns-in-BitXor
returns-in-BitXor c =
    let x : of_z w64 c.args.x < 2 ^ 64 = omega (arith, ints) in
    let y : of_z w64 c.args.y < 2 ^ 64 = omega (arith, ints) in
    rw c.in-BitXor.is (rw (unsigned-is c.args.x, unsigned-is c.args.y) (ap (λ z. Ok (I64 z)) (signed-is _ (xor_lt 64 _ _ x y))))
