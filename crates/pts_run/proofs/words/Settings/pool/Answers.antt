use Rattle.pts_run.proofs.CommandLines.{pool_is}
use Rattle.pts_run.proofs.words.Settings.pool.Goals as goal

pub returns : goal.returns
returns c = λ pool. pool_is c.args.self c.new.result _ _ c.unwrap_or.ensures c.unwrap_or-2.ensures c.new.ensures.fields c.new.ensures.ranges pool
