use Rattle.std.proofs.Common.{None, Some}
use Rattle.pts_rules.proofs.Scoping.{left_row}
use Rattle.pts_rules.proofs.scope.leave_row.Goals as goal

pub returns-in-Some-hidden-clause-tracked : goal.returns-in-Some-hidden-clause-tracked
returns-in-Some-hidden-clause-tracked c =
    left_row c.args.rows.now.items c.pop.new.self.items c.args.places.now c.move_place.new.places c.in-Some.row c.as_str.result.now (Some c.in-Some-hidden.place)
    c.in-Some.ensures.items c.requires c.as_str.ensures.value c.in-Some-hidden.is c.move_place.ensures

pub returns-clause-tracked : goal.returns-clause-tracked
returns-clause-tracked c =
    left_row c.args.rows.now.items c.pop.new.self.items c.args.places.now c.remove_place.new.places c.in-Some.row c.as_str-in-None.result.now None
    c.in-Some.ensures.items c.requires c.as_str-in-None.ensures.value c.in-None.is c.remove_place.ensures
