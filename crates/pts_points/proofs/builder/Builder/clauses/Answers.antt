use Rattle.pts_points.specs.Points.{clause_piece}
use Rattle.pts_points.proofs.Builds.{adds_nothing}
use Rattle.pts_points.proofs.Turns.{adds_all}
use Rattle.pts_points.proofs.CallTurns.{clauses_turn}
use Rattle.pts_points.proofs.builder.Builder.clauses.Goals as goal

pub loop-clause-init : goal.loop-clause-init
loop-clause-init c = adds_nothing c.args.self.now

pub loop-clause-preserved : goal.loop-clause-preserved
loop-clause-preserved c =
    clauses_turn c.args.scope.now c.args.self.now c.loop-clause.self c.clause.new.self c.args.clauses.now c.loop-clause.clause-index c.clause-item.result c.loop-clause-test.true c.clause-item.is c.loop-clause.invariant c.in_ok-clause.ensures

pub returns : goal.returns
returns c = adds_all (clause_piece c.args.scope.now) c.args.self.now c.loop-clause.self c.args.clauses.now c.loop-clause.clause-index c.loop-clause-test.false c.loop-clause.invariant
