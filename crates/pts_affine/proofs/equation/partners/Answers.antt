use Rattle.std.proofs.Common.{true, false, refl, arith}
use Rattle.pts_affine.proofs.Partners.{before_in, before_out}
use Rattle.pts_affine.proofs.equation.partners.Goals as goal

pub returns-in-true-true : goal.returns-in-true-true
returns-in-true-true c = λ p.
    let e = c.args.e in (
      λ h.
          let z = (c.restrict-in-true-true.ensures p).0 h in
          let y = (c.restrict-span.ensures p).0 z.0 in
          let x = (c.restrict.ensures p).0 y.0 in
          record { first = x.0.1; from = omega (arith, x.1); to = omega (arith, y.1); before = before_in e p true true c.in-true-true.is-0 c.in-true-true.is-1 (omega (arith, z.1)) },
      λ h.
          let x = (c.restrict.ensures p).1 ((omega arith, h.first), omega (arith, h.from)) in
          let y = (c.restrict-span.ensures p).1 (x, omega (arith, h.to)) in
          (c.restrict-in-true-true.ensures p).1 (y, omega (arith, before_out e p true true c.in-true-true.is-0 c.in-true-true.is-1 h.before)),
    )

pub returns-in-true-false : goal.returns-in-true-false
returns-in-true-false c = λ p.
    let e = c.args.e in (
      λ h.
          let z = (c.restrict-in-true-false.ensures p).0 h in
          let y = (c.restrict-span.ensures p).0 z.0 in
          let x = (c.restrict.ensures p).0 y.0 in
          record { first = x.0.1; from = omega (arith, x.1); to = omega (arith, y.1); before = before_in e p true false c.in-true-false.is-0 c.in-true-false.is-1 (omega (arith, z.1)) },
      λ h.
          let x = (c.restrict.ensures p).1 ((omega arith, h.first), omega (arith, h.from)) in
          let y = (c.restrict-span.ensures p).1 (x, omega (arith, h.to)) in
          (c.restrict-in-true-false.ensures p).1 (y, omega (arith, before_out e p true false c.in-true-false.is-0 c.in-true-false.is-1 h.before)),
    )

pub returns-in-false-default : goal.returns-in-false-default
returns-in-false-default c = λ p.
    let e = c.args.e in (
      λ h.
          let y = (c.restrict-span.ensures p).0 h in
          let x = (c.restrict.ensures p).0 y.0 in
          record { first = x.0.1; from = omega (arith, x.1); to = omega (arith, y.1); before = before_in e p false e.turned c.in-false-default.is-0 refl tt },
      λ h.
          let x = (c.restrict.ensures p).1 ((omega arith, h.first), omega (arith, h.from)) in
          (c.restrict-span.ensures p).1 (x, omega (arith, h.to)),
    )
