use Rattle.std.proofs.Common.{arith}
use Rattle.pts_affine.proofs.Restrictions.{lower, upper}
use Rattle.pts_affine.proofs.span.Span.restrict.Goals as goal

pub returns-else-b-d : goal.returns-else-b-d
returns-else-b-d c = λ p.
    let e = upper c.args.a c.args.b c.args.c c.args.d p (omega arith) (omega arith) in
    (λ h. ((omega arith, omega arith), e.1 (omega arith)), λ h. (omega arith, omega (arith, e.0 h.1)))

pub returns-else-a-c-2 : goal.returns-else-a-c-2
returns-else-a-c-2 c = λ p.
    let e = lower c.args.a c.args.b c.args.c c.args.d p (omega arith) (omega arith) in
    (λ h. ((omega arith, omega arith), e.1 (omega arith)), λ h. (omega (arith, e.0 h.1), omega arith))
