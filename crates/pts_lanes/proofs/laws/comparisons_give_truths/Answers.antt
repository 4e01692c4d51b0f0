use Rattle.std.proofs.Common.{◌≡◌, ℕ, refl}
use Rattle.std.specs.Prelude.{Ok}
use Rattle.pts_lanes.specs.Kernels.{IsComparison, truth_under}
use Rattle.pts_types.specs.Arithmetic.{u64_under}
use Rattle.pts_types.specs.declared.operation.ScalarOp.{ScalarOp}
use Rattle.pts_types.specs.declared.operation.ScalarOp.TheVariants.{Less, LessEqual, Greater, GreaterEqual, Equal, NotEqual}
use Rattle.pts_types.specs.declared.value.Value.TheVariants as values
use Rattle.pts_lanes.proofs.laws.comparisons_give_truths.Goals as goal

truth-given : (op : ScalarOp) → IsComparison op → (m n : ℕ) → u64_under op m n ≡ Ok (values.Bool (truth_under op m n))
truth-given Less h m n = refl
truth-given LessEqual h m n = refl
truth-given Greater h m n = refl
truth-given GreaterEqual h m n = refl
truth-given Equal h m n = refl
truth-given NotEqual h m n = refl
truth-given op h m n = absurd h

pub returns : goal.returns
returns c = truth-given
