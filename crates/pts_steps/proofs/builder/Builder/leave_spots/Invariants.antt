use Rattle.std.specs.Prelude.{◌≡◌, ◌-◌, length, take}
use Rattle.pts_steps.proofs.builder.Builder.leave_spots.Given as goal

abbrev pub invariant-loop-turn : goal.invariant-loop-turn
invariant-loop-turn l = l.self ≡ record l.initial.self { spots = take (length l.initial.self.spots - l._turn) l.initial.self.spots }
