use Rattle.std.proofs.Common.{sym, ap, ◌∙◌, subst}
use Rattle.std.proofs.lemmas.Result.{on_ok_weaker}
use Rattle.pts_points.specs.Points.{clause_piece, initial_piece}
use Rattle.pts_steps.specs.Building.{Goes}
use Rattle.pts_steps.proofs.Goings.{goes_none}
use Rattle.pts_steps.proofs.Statements.{live_goes}
use Rattle.pts_steps.proofs.builder.Builder.live_out.Goals as goal

pub returns-in-Reduce : goal.returns-in-Reduce
returns-in-Reduce c =
    let globals = c.args.self.now.globals in
    on_ok_weaker c.push.result (live_goes c.args.self.now c.push.new.self _ _ (clause_piece globals c.args.clause.now) (ap (clause_piece globals) c.in-Reduce.is)) c.push.ensures

pub returns-in-Cell : goal.returns-in-Cell
returns-in-Cell c =
    let globals = c.args.self.now.globals in
    on_ok_weaker c.push-in-Cell.result
    (live_goes c.args.self.now c.push-in-Cell.new.self _ _ (clause_piece globals c.args.clause.now) (ap (clause_piece globals) c.in-Induct.is ∙ ap (initial_piece globals) c.in-Cell.is)) c.push-in-Cell.ensures

pub returns-in-Val : goal.returns-in-Val
returns-in-Val c =
    let globals = c.args.self.now.globals in
    λ x.
    subst (Goes x c.args.self.now c.args.self.now) (sym (ap (clause_piece globals) c.in-Induct.is ∙ ap (initial_piece globals) c.in-Val.is)) (goes_none x c.args.self.now)
