use Rattle.std.proofs.Common.{arith, subst, sym}
use Rattle.pts_affine.specs.Equations.{IsWanted}
use Rattle.pts_affine.specs.Lines.{IsLeast}
use Rattle.pts_affine.proofs.Partners.{least-place}
use Rattle.pts_affine.proofs.line.least_meeting.Goals as goal

pub returns : goal.returns
returns c =
    let e = c.equation-e.result in
    let W = IsWanted c.args.after c.args.x c.args.y in
    let m = c.equation-e.ensures.positions in
    let least = least-place e W c.equation-e.ensures.straight (λ p q w. omega (arith, w.0.second, m)) (λ p q h. c.equation-e.ensures.same p q (omega (arith, m))) c.in_ok-p.p c.in_ok-p.q c.in_ok-p.ensures in
    subst (IsLeast W c.in_ok-p.p) (sym c.place.ensures) least
