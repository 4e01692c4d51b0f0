use Rattle.pts_points.proofs.BodyTurns.{update_done, update_added}
use Rattle.pts_points.proofs.builder.Builder.update.Goals as goal

pub returns : goal.returns
returns c =
    update_added c.args.scope.now c.args.self.now c.both.new.self c.back_on.new.self c.args.place.now c.args.value.now c.in_ok-both.ensures
    (update_done c.args.scope.now c.args.self.now c.both.new.self c.leave_vector.new.self c.push_place.new.self c.back_on.new.self c.args.place.now c.args.value.now c.in_ok-both.ensures c.leave_vector.ensures
    c.in_ok-push_place.ensures c.in_ok-back_on.ensures)
