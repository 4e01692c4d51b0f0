use Rattle.std.proofs.Common.{◌≡◌, ◌-◌, ◌^◌, ℤ, pos, ◌+ℤ◌, ◌*ℤ◌, sym, ap, ◌∙◌, subst, arith, rules, false, w64, to_z, of_z, SFits}
use Rattle.std.specs.Prelude.{◌<ℤ◌, int_le}
use Rattle.std.proofs.lemmas.Int.{ints, to_z-of_z}
use Rattle.pts_affine.specs.Lines.{IsCell}
use Rattle.pts_affine.proofs.Cells.{bounded-by-ends, first-is}
use Rattle.pts_affine.proofs.LineEquations.{not-negative}
use Rattle.pts_affine.proofs.tests.bounded.Goals as goal

below : (z : ℤ) → SFits w64 z → int_le (pos 1048576) (to_z w64 (of_z w64 z)) ≡ false → z <ℤ pos (2 ^ 20)
below z fits h = let k : int_le (pos 1048576) z ≡ false = subst (λ n. int_le (pos 1048576) n ≡ false) (to_z-of_z w64 z fits) h in grind (arith, ints)

pub returns : goal.returns
returns c =
    let at_c = to_z-of_z w64 c.args.c c.ranges.c in
    let at_d = to_z-of_z w64 c.args.d c.ranges.d in
    let count : SFits w64 (pos (c.args.n - 1)) = search rules in
    let at_n : to_z w64 (of_z w64 c.from.result) ≡ pos (c.args.n - 1) = ap (λ z. to_z w64 (of_z w64 z)) c.from.ensures ∙ to_z-of_z w64 (pos (c.args.n - 1)) count in
    let product = c.in_ok-checked_mul.ensures in
    let sum = c.in_ok-last.ensures in
    let at_product = to_z-of_z w64 c.in_ok-checked_mul.field-0 (subst (SFits w64) (sym product.1) product.0) in
    let fits : SFits w64 c.in_ok-last.last = subst (SFits w64) (sym sum.1) sum.0 in
    let is : c.in_ok-last.last ≡ c.args.c *ℤ pos (c.args.n - 1) +ℤ c.args.d = cc (at_c, at_d, at_n, at_product, product.1, sum.1) in
    let low = not-negative c.args.d c.ranges.d c.if-d-lt0.false in
    let high = below c.args.d c.ranges.d c.if-d-ge-CELLS.false in
    let last_low = not-negative c.in_ok-last.last fits c.if-last-lt0.false in
    let last_high = below c.in_ok-last.last fits c.if-last-ge-CELLS.false in
    rw (at_c, at_d)
    (bounded-by-ends _ (omega arith) (λ h. absurd (omega (arith, h)))
    (subst IsCell (sym (first-is c.args.c c.args.d)) (low, high))
    (subst IsCell is (last_low, last_high)))
