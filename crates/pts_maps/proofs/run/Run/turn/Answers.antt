use Rattle.pts_maps.proofs.TransformRuns.{first_there, second_there}
use Rattle.pts_maps.proofs.run.Run.turn.Goals as goal

pub read-x-requires : goal.read-x-requires
read-x-requires g c =
    first_there c.args.self.now.program.now.functions (g.V.View.stands c.args.self.now.view.now) c.args.call.now c.args.at c.args.layer.now c.requires.far c.requires.within

pub read-y-requires : goal.read-y-requires
read-y-requires g c =
    second_there c.args.self.now.program.now.functions (g.V.View.stands c.args.self.now.view.now) c.args.call.now c.args.at c.args.layer.now c.requires.far c.requires.within c.in-Some.second
    c.in-Some.is
