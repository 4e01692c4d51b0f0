use Rattle.std.proofs.Common.{rules}
use Rattle.pts_groupings.specs.Chunks.{chunk_count, sharing}
use Rattle.pts_workers.proofs.Leaving.{all_shared}
use Rattle.pts_workers.proofs.call.SharedCall.run.Goals as goal

pub returns-clause-grouping : goal.returns-clause-grouping
returns-clause-grouping g c =
    let self = c.args.self.now in
    let left = c.in_ok-seat.ensures in
    all_shared (g.W.Work.made c.args.work.now) c.in_ok-seat.seat.drawn c.workers-workers.result (sharing self.policy self.pool.workers)
    (chunk_count self.count self.pool.chunk) c.in_ok-seat.shares left.holds c.close.ensures.each (search rules) (search rules)
