use Rattle.std.proofs.Common.{◌≡◌, not, ◌-ℤ◌, ap, arith}
use Rattle.std.proofs.lemmas.Int.{ints}
use Rattle.std.proofs.lemmas.Bool.Decides.{same_from_decides, Decides-like, Decides-eqb, Decides-int_eq}
use Rattle.pts_limits.proofs.steps.differ.Goals as goal

pub returns-else-high-low : goal.returns-else-high-low
returns-else-high-low c =
    let m = c.abs_diff.result in
    let n = c.abs_diff-else-high-low.result in
    let to : m ≡ n → c.args.high -ℤ c.args.low ≡ c.args.end -ℤ c.args.start = λ e. grind (arith, ints) in
    let from : c.args.high -ℤ c.args.low ≡ c.args.end -ℤ c.args.start → m ≡ n = λ e. grind (arith, ints) in
    ap not (same_from_decides _ _ (Decides-like _ to from (Decides-eqb m n)) (Decides-int_eq _ _))
