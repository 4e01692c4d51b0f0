use Rattle.std.proofs.Common.{◌+◌, ◌<◌, arith}
use Rattle.pts_affine.proofs.Level.{least_later, least_first}
use Rattle.pts_affine.proofs.equation.least_level.Goals as goal
use Rattle.pts_affine.proofs.equation.least_level.Goals.{then-e, else-e}

pub returns-then-e-2 : goal.returns-then-e-2
returns-then-e-2 c =
    let e = c.args.e in
    let low = c.restrict-span.result.low in
    let y = (c.restrict-span.ensures low).0 (omega arith, omega arith) in
    let x = (c.restrict.ensures low).0 y.0 in
    let bounds : (low < e.n) × (low + 1 < e.m) = elim c.if-e.branch [ then-e w ↦ (omega arith, omega arith) | else-e w ↦ absurd (cc) ] in
    least_later e low c.requires.level c.requires.straight c.if-e-2.true bounds.0 bounds.1 (omega (arith, x.1, y.1))
    (λ p h k same.
    let in_end : p < c.if-e.end = elim c.if-e.branch [ then-e w ↦ omega arith | else-e w ↦ omega arith ] in
    let x' = (c.restrict.ensures p).1 ((omega arith, in_end), omega (arith, same)) in
    ((c.restrict-span.ensures p).1 (x', omega (arith, same))).0)

pub returns-else-e-2 : goal.returns-else-e-2
returns-else-e-2 c =
    let e = c.args.e in
    let low = c.restrict-span.result.low in
    let y = (c.restrict-span.ensures low).0 (omega arith, omega arith) in
    let x = (c.restrict.ensures low).0 y.0 in
    let bound : low < e.n = elim c.if-e.branch [ then-e w ↦ absurd (cc) | else-e w ↦ omega arith ] in
    least_first e low c.requires.level c.requires.small.some c.if-e-2.false bound (omega (arith, x.1, y.1))
    (λ p h same.
    let in_end : p < c.if-e.end = elim c.if-e.branch [ then-e w ↦ absurd (cc) | else-e w ↦ omega arith ] in
    let x' = (c.restrict.ensures p).1 ((omega arith, in_end), omega (arith, same)) in
    ((c.restrict-span.ensures p).1 (x', omega (arith, same))).0)
