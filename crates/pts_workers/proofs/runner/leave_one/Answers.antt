use Rattle.std.proofs.Common.{rules}
use Rattle.pts_workers.proofs.Leaving.{holds_one}
use Rattle.pts_workers.proofs.runner.leave_one.Goals as goal

pub returns : goal.returns
returns g c =
    let worker = c.draw.new.worker in
    let done = c.draw.ensures.done c.if-is_cut_short.false in
    record {
      board_is = c.draw.ensures.board_is;
      weight = c.draw.ensures.weight;
      past = done.past;
      holds = holds_one (g.W.Work.made c.args.work.now) c.from_vec.result worker.state worker.seat.drawn c.new-shares.result c.add.new.self
          (search rules) (search rules) (search rules) (search rules) (search rules) (search rules)
          (search rules) (search rules) (search rules) (search rules) (search rules) (search rules);
    }
