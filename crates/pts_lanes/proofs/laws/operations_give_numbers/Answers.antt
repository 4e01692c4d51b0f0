use Rattle.std.proofs.Common.{◌≡◌, ℕ, refl}
use Rattle.std.specs.Prelude.{Ok}
use Rattle.pts_lanes.specs.Kernels.{GivesNumbers, number_under}
use Rattle.pts_types.specs.Arithmetic.{u64_under}
use Rattle.pts_types.specs.declared.operation.ScalarOp.{ScalarOp}
use Rattle.pts_types.specs.declared.operation.ScalarOp.TheVariants.{Plus, Minus, Multiplies, BitAnd, BitOr, BitXor, Min, Max}
use Rattle.pts_types.specs.declared.value.Value.TheVariants as values
use Rattle.pts_lanes.proofs.laws.operations_give_numbers.Goals as goal

number-given : (op : ScalarOp) → GivesNumbers op → (m n : ℕ) → u64_under op m n ≡ Ok (values.U64 (number_under op m n))
number-given Plus h m n = refl
number-given Minus h m n = refl
number-given Multiplies h m n = refl
number-given BitAnd h m n = refl
number-given BitOr h m n = refl
number-given BitXor h m n = refl
number-given Min h m n = refl
number-given Max h m n = refl
number-given op h m n = absurd h

pub returns : goal.returns
returns c = number-given
