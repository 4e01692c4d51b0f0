use Rattle.std.proofs.lemmas.Option.{slice_get-get_or}
use Rattle.std.proofs.Common.{[], refl}
use Rattle.pts_code.specs.Codes.{Sight, functions_of}
use Rattle.pts_loops.specs.Points.{shown}
use Rattle.pts_loops.proofs.PointTurns.{point_made}
use Rattle.pts_loops.proofs.Ready.{effect_made, layer_cells, point_there, step_there}
use Rattle.pts_loops.proofs.run.Run.run_point.Goals as goal

pub bounds-self-k-2 : goal.bounds-self-k-2
bounds-self-k-2 c = step_there c.args.self.now c.requires.ready c.args.turn.now.layer.below c.args.k c.requires.point

pub effect-effect-requires-clause-range : goal.effect-effect-requires-clause-range
effect-effect-requires-clause-range c =
    c.requires.ready.range c.args.k c.index-self-k.result (point_there c.args.self.now c.requires.ready c.args.turn.now.layer.below c.args.k c.requires.point)

pub effect-effect-requires-clause-cells : goal.effect-effect-requires-clause-cells
effect-effect-requires-clause-cells c =
    layer_cells c.args.self.now c.requires.ready c.args.turn.now.layer.below c.args.turn.now.layer c.requires.so_far.state.memory c.requires.cells c.requires.so_far.running.stands

pub returns-clause-goes : goal.returns-clause-goes
returns-clause-goes c =
    let now = c.args.self.now in
    let store = c.args.turn.now.layer.below in
    let sight : Sight = record { functions = functions_of c.codes.result.now; values = c.as_slice.result.now; notes = c.as_slice-2.result.now } in
    let is = effect_made now c.requires.ready store c.args.turn.now c.args.p c.args.k sight _ _ (shown c.effect-effect.result) c.requires.so_far
    (slice_get-get_or now.points.now c.args.k c.index-self-k.result (point_there now c.requires.ready store c.args.k c.requires.point))
    (slice_get-get_or now.steps.now c.args.k c.index-self-k-2.result (step_there now c.requires.ready store c.args.k c.requires.point))
    c.as_slice.ensures.value c.as_slice-2.ensures.value (c.codes.ensures sight [] refl) c.effect-effect.ensures in
    point_made now store c.args.p c.args.k c.args.turn.now c.requires.so_far c.requires.position c.requires.point c.make.new.self
    c.in_ok-goes.ensures.keeps (shown c.effect-effect.result) c.in_ok-goes.goes is c.in_ok-goes.ensures.makes
