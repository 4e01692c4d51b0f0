use Rattle.std.proofs.Common.{arith}
use Rattle.pts_affine.proofs.Roots.{no-root, next, least_from_next}
use Rattle.pts_affine.proofs.root.+least_root.Goals as goal

pub returns-then-rest-eq0-clause-root : goal.returns-then-rest-eq0-clause-root
returns-then-rest-eq0-clause-root t c = no-root c.args.a c.args.w c.args.b c.requires.positive (omega arith) c.if-rest-eq0.true

pub returns-in_err-q-clause-root : goal.returns-in_err-q-clause-root
returns-in_err-q-clause-root t c =
    rw c.from_residual.ensures
    (λ p q e. let n = next c.args.a c.args.w c.args.b p q c.requires.positive (omega arith) e in c.in_err-q.ensures.root n.0 p n.1)

pub returns-clause-root : goal.returns-clause-root
returns-clause-root t c = least_from_next c.args.a c.args.w c.args.b c.in_ok-q.q c.requires.positive (omega arith) (omega arith) c.in_ok-q.ensures.root
