use Rattle.std.proofs.Common.{reverse, sym, subst}
use Rattle.std.specs.Prelude.{IsTrue}
use Rattle.pts_rules.specs.Known.{is_in_bounds}
use Rattle.pts_rules.specs.Rows.{AreBounded}
use Rattle.pts_rules.proofs.Scoping.{bounded_row, in_bounds_fits}
use Rattle.pts_rules.proofs.scope.Scope.constant.Goals as goal

pub returns-in-Constant-clause-small : goal.returns-in-Constant-clause-small
returns-in-Constant-clause-small c =
    in_bounds_fits c.in-Constant.number
    (subst (λ meaning. IsTrue (is_in_bounds meaning)) c.in-Constant.is
    (bounded_row (reverse c.as_slice.result.now) c.args.name.now c.in-Some.row.now (subst (λ rows. AreBounded (reverse rows)) (sym c.as_slice.ensures.value) c.self.invariant.bounded) (sym c.in-Some.ensures)))
