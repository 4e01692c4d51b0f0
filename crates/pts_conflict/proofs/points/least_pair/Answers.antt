use Rattle.std.proofs.Common.{◌≡◌, ◌||◌, true, refl, arith}
use Rattle.pts_conflict.specs.Touches.{is_writing}
use Rattle.pts_conflict.proofs.Clashes.{none_meet, some_meet}
use Rattle.pts_conflict.proofs.points.least_pair.Goals as goal

pub returns-in-Some : goal.returns-in-Some
returns-in-Some c =
    let writes : (is_writing c.args.a.now.form || is_writing c.args.b.now.form) ≡ true = cc (c.one_writes.ensures, c.if-not-one_writes.false) in
    let array : c.args.a.now.array ≡ c.args.b.now.array = let h = c.if-a-b.false in omega (arith, h) in
    some_meet c.args.after c.args.a.now c.args.first c.args.b.now c.args.second c.least_meeting.result c.in-Some.meeting _ c.in-Some.is array writes c.least_meeting.ensures
    (record { item = refl; array = refl; k = refl; m = refl }) refl

pub returns-in-None : goal.returns-in-None
returns-in-None c = none_meet c.args.after c.args.a.now c.args.first c.args.b.now c.args.second c.least_meeting.result c.in-None.is c.least_meeting.ensures
