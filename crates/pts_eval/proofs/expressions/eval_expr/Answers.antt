use Rattle.std.proofs.Common.{true, sym, subst}
use Rattle.pts_types.specs.Arithmetic.{GivesKind}
use Rattle.pts_code.specs.Values.{listed}
use Rattle.pts_code.proofs.KindsGiven.{gives_kind}
use Rattle.pts_eval.specs.Expressions.{environment}
use Rattle.pts_eval.proofs.expressions.eval_expr.Goals as goal

pub returns-clause-kind : goal.returns-clause-kind
returns-clause-kind c =
    λ can.
    let h = can.expression in
    subst (GivesKind c.args.kind) (sym c.eval.ensures)
    (gives_kind true (environment c.args.program.now c.args.locals.now) (listed c.args.reads.now) h.names c.args.expr.now h.operators c.args.kind 0 h.fits h.reads_right)
