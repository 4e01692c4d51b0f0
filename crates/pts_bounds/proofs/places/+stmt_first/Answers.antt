use Rattle.std.proofs.Common.{◌∙◌, ap}
use Rattle.std.specs.Option.{option_copied}
use Rattle.pts_bounds.specs.Firsts.{sooner}
use Rattle.pts_bounds.specs.Walks.{place_first}
use Rattle.pts_bounds.proofs.Elements.{branches_found}
use Rattle.pts_bounds.proofs.Soonest.{next_soonest}
use Rattle.pts_bounds.proofs.places.+stmt_first.Goals as goal

pub body_first-loop-stmt-preserved : goal.body_first-loop-stmt-preserved
body_first-loop-stmt-preserved t c = next_soonest _ _ _ _ _ _ _ c.loop-stmt-test.true c.stmt-item.is c.loop-stmt.invariant c.stmt_first.ensures c.sooner-first.ensures

pub stmt_first-returns-in-Some : goal.stmt_first-returns-in-Some
stmt_first-returns-in-Some t c =
    c.sooner.ensures ∙ ap (λ z. sooner z c.body_first-in-Some.result) c.sooner-first.ensures
    ∙ branches_found (place_first c.args.scope.now c.args.progression (option_copied c.args.index)) _ _ _ _ _ _ _ _ _ _
    c.in-If.is c.in-Some.is c.as_slice.ensures c.as_slice-in-Some.ensures c.expr_first-in-If.ensures c.body_first.ensures c.body_first-in-Some.ensures
