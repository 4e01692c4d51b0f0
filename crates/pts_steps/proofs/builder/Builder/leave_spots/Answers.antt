use Rattle.std.proofs.Common.{◌-◌, length, take, ap, ◌∙◌, arith}
use Rattle.std.proofs.Common.{◌≡◌}
use Rattle.pts_steps.specs.declared.builder.Builder.{Builder}
use Rattle.pts_steps.proofs.Spots.{but_last, so_many}
use Rattle.pts_steps.proofs.builder.Builder.leave_spots.Goals as goal

pub loop-turn-preserved : goal.loop-turn-preserved
loop-turn-preserved c =
    c.leave_spot.ensures
    ∙ ap (λ (b : Builder). record b { spots = take (length b.spots - 1) b.spots }) c.loop-turn.invariant
    ∙ (λ i. record c.args.self.now { spots = but_last c.args.self.now.spots c.loop-turn._turn i })

pub returns : goal.returns
returns c =
    let spots = c.args.self.now.spots in
    let turns : c.loop-turn._turn ≡ length spots - c.args.count =
    omega (arith, c.loop-turn-test.false, c.loop-turn.auto._turn-end, c.saturating_sub-extra.ensures, c.len.ensures) in
    c.loop-turn.invariant
    ∙ (λ i. record c.args.self.now { spots = take (length spots - turns i) spots })
    ∙ (λ i. record c.args.self.now { spots = so_many spots c.args.count i })
