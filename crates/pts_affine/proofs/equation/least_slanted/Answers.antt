use Rattle.std.proofs.Common.{◌≡◌, ◌+◌, ◌-◌, ◌*◌, sym, subst, arith}
use Rattle.pts_affine.specs.Equations.{HasPartner, Solves}
use Rattle.pts_affine.specs.Lines.{IsLeast}
use Rattle.pts_affine.proofs.Partners.{partner-of, solves-of, root-of, same-of, quotient-of, not_after, small-product}
use Rattle.pts_affine.proofs.equation.least_slanted.Goals as goal

pub returns-in_err-p : goal.returns-in_err-p
returns-in_err-p c =
    let e = c.args.e in
    let low = c.partners-span.result.low in
    let first : HasPartner e low = (c.partners-span.ensures low).0 (omega arith, omega arith) in
    rw c.from_residual.ensures
    (λ p q s.
    let inside = (c.partners-span.ensures p).1 (partner-of e p q c.requires.slanted s) in
    c.in_err-p.ensures.root (p - low) q (root-of e.a e.u e.b e.v low p q inside.0 first.from s.same))

pub returns-then-p-span : goal.returns-then-p-span
returns-then-p-span c = λ p q s.
    let e = c.args.e in
    let low = c.partners-span.result.low in
    let first : HasPartner e low = (c.partners-span.ensures low).0 (omega arith, omega arith) in
    let inside = (c.partners-span.ensures p).1 (partner-of e p q c.requires.slanted s) in
    let least = c.in_ok-p.ensures.root.least (p - low) q (root-of e.a e.u e.b e.v low p q inside.0 first.from s.same) in
    omega (arith, least, inside)

pub overflow_add-result : goal.overflow_add-result
overflow_add-result c =
    let e = c.args.e in
    let p = c.partners-span.result.low + c.in_ok-p.field-0 in
    let here : HasPartner e p = (c.partners-span.ensures p).0 (omega arith, omega arith) in
    omega (arith, small-product e.a p c.requires.small.a (omega (arith, here.first)))

pub returns : goal.returns
returns c =
    let e = c.args.e in
    let low = c.partners-span.result.low in
    let r = c.in_ok-p.field-0 in
    let first : HasPartner e low = (c.partners-span.ensures low).0 (omega arith, omega arith) in
    let here : HasPartner e (low + r) = (c.partners-span.ensures (low + r)).0 (omega arith, omega arith) in
    let root = c.in_ok-p.ensures.root.root in
    let same : e.a * (low + r) + e.u ≡ e.b * root.0 + e.v = same-of e.a e.u e.b e.v low r root.0 first.from root.1 in
    let solves : Solves e (low + r) root.0 = solves-of e (low + r) root.0 c.requires.slanted c.requires.small.some here same in
    subst (IsLeast (Solves e) (low + r)) (sym (quotient-of e.a e.u e.b e.v (low + r) root.0 c.requires.slanted same))
    (record {
      holds = solves;
      least = λ p q s.
          let inside = (c.partners-span.ensures p).1 (partner-of e p q c.requires.slanted s) in
          let least = c.in_ok-p.ensures.root.least (p - low) q (root-of e.a e.u e.b e.v low p q inside.0 first.from s.same) in
          not_after e (low + r) root.0 p q c.requires.slanted solves s (omega (arith, least, inside));
    })
