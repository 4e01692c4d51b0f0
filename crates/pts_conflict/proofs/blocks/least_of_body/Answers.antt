use Rattle.std.proofs.Common.{◌≡◌, ◌+◌, ◌-◌, ◌<◌, ℕ, drop, length, subst, sym, arith}
use Rattle.pts_layout.specs.Layout.{HavePoints}
use Rattle.pts_conflict.specs.Search.{EndsAt, FindsFirst, SomeForks, rank_of}
use Rattle.pts_conflict.proofs.Forking.{end_least, forks_more, forks_none}
use Rattle.pts_conflict.proofs.TaskPoints.{behind_all, behind_more, last_ends, ordered}
use Rattle.pts_conflict.proofs.blocks.least_of_body.Goals as goal

pub loop-i-init : goal.loop-i-init
loop-i-init c =
    let lists = c.args.program.now in
    let end : ℕ = c.args.block.now.first_point + c.args.block.now.points in
    let whole : EndsAt lists c.as_slice-body.result.now end = (c.args.block.now.first_point, subst (λ xs. HavePoints lists xs c.args.block.now.first_point end) (sym c.as_slice-body.ensures) c.requires.order) in (
      behind_all lists c.as_slice-body.result.now (length c.as_slice-body.result.now) end (omega arith) whole,
      forks_none lists c.args.points.now c.as_slice-body.result.now (length c.as_slice-body.result.now) end (omega arith),
      omega arith,
    )

pub least_of_run-requires-clause-order : goal.least_of_run-requires-clause-order
least_of_run-requires-clause-order c = ordered c.args.program.now c.loop-i.invariant.1.phase_ends

pub least_of_run-requires-clause-task : goal.least_of_run-requires-clause-task
least_of_run-requires-clause-task c =
    let some = c.loop-i-test.true in
    let most = c.loop-i.auto.i in
    let within : c.loop-i.i - 1 < length c.as_slice-body.result.now = omega (arith, some, most) in
    c.first_point-low.ensures (last_ends c.args.program.now c.as_slice-body.result.now c.loop-i.i c.loop-i.at (c.args.block.now.first_point + c.args.block.now.points)
    c.index-body-i.result c.index-body-i.result c.loop-i.invariant.0 some within c.index-body-i.is)

pub loop-i-preserved : goal.loop-i-preserved
loop-i-preserved c =
    let lists = c.args.program.now in
    let end : ℕ = c.args.block.now.first_point + c.args.block.now.points in
    let some = c.loop-i-test.true in
    let most = c.loop-i.auto.i in
    let within : c.loop-i.i - 1 < length c.as_slice-body.result.now = omega (arith, some, most) in
    let x = c.index-body-i.result in
    let ends = last_ends lists c.as_slice-body.result.now c.loop-i.i c.loop-i.at end x x c.loop-i.invariant.0 some within c.index-body-i.is in
    let low = c.first_point-low.ensures ends in (
      behind_more lists c.as_slice-body.result.now c.loop-i.i c.loop-i.at end c.first_point-low.result x x c.loop-i.invariant.0 some within c.index-body-i.is low,
      forks_more lists c.args.points.now c.as_slice-body.result.now c.loop-i.i c.loop-i.at c.loop-i.stop c.first_point-low.result c.loop-i.best c.least_of_run.result c.lower-best.result c.phase_end-stop.result x x
          c.loop-i.invariant.1 some within c.index-body-i.is low c.least_of_run.ensures c.lower-best.ensures c.phase_end-stop.ensures,
      end_least lists x c.first_point-low.result c.loop-i.at c.loop-i.stop end c.phase_end-stop.result low (ordered lists c.loop-i.invariant.1.phase_ends) c.loop-i.invariant.2 c.phase_end-stop.ensures,
    )

pub returns : goal.returns
returns c =
    subst (λ xs. FindsFirst (SomeForks c.args.program.now c.args.points.now xs) rank_of c.loop-i.best) c.as_slice-body.ensures
    (subst (λ n. FindsFirst (SomeForks c.args.program.now c.args.points.now (drop n c.as_slice-body.result.now)) rank_of c.loop-i.best) (let none = c.loop-i-test.false in let zero : c.loop-i.i ≡ 0 = omega (arith, none) in zero) c.loop-i.invariant.1.first)
