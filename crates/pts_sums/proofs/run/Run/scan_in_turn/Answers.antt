use Rattle.pts_sums.proofs.ScanItems.{turns_written}
use Rattle.pts_sums.proofs.run.Run.scan_in_turn.Goals as goal

pub returns : goal.returns
returns g c =
    turns_written c.args.self.now.program.now.functions (g.V.View.stands c.args.self.now.view.now) c.args.call.now c.args.self.now.pool.chunk c.count_positions.result c.in_ok-written.written
    c.requires.policy (c.count_positions.ensures.count (g.V.View.stands c.args.self.now.view.now) c.requires.arrays) c.in_ok-written.ensures
