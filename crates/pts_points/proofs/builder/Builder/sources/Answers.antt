use Rattle.pts_points.specs.Points.{source_piece}
use Rattle.pts_points.proofs.CallTurns.{adds_some, adds_none, sources_added}
use Rattle.pts_points.proofs.builder.Builder.sources.Goals as goal

pub returns-in_ok-source-2 : goal.returns-in_ok-source-2
returns-in_ok-source-2 c =
    sources_added c.args.scope.now c.args.self.now c.source.new.self c.source-in-Some.new.self c.args.call.now c.in_ok-source.ensures
    (adds_some (source_piece c.args.scope.now) c.source.new.self c.source-in-Some.new.self c.args.call.now.second c.in-Some.second c.in-Some.is c.in_ok-source-2.ensures)

pub returns-in_default : goal.returns-in_default
returns-in_default c =
    sources_added c.args.scope.now c.args.self.now c.source.new.self c.source.new.self c.args.call.now c.in_ok-source.ensures
    (adds_none (source_piece c.args.scope.now) c.source.new.self c.args.call.now.second c.in_default.is)
