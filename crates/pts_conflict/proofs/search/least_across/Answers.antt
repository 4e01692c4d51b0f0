use Rattle.pts_conflict.specs.Search.{OneOf, rank_of}
use Rattle.pts_conflict.proofs.Firsts.{found_all, found_more}
use Rattle.pts_conflict.proofs.search.least_across.Goals as goal

pub loop-a-preserved : goal.loop-a-preserved
loop-a-preserved g c =
    found_more rank_of (λ a. OneOf (g.S.Pairs.conflicts c.args.pairs.now a) c.args.seconds.now) c.args.firsts.now c.loop-a.a-index c.loop-a.best c.least_beside.result c.lower-best.result
    c.a-item.result c.a-item.result c.loop-a.invariant c.least_beside.ensures c.loop-a-test.true c.a-item.is c.lower-best.ensures

pub returns : goal.returns
returns g c =
    found_all rank_of (λ a. OneOf (g.S.Pairs.conflicts c.args.pairs.now a) c.args.seconds.now) c.args.firsts.now c.loop-a.a-index c.loop-a.best c.loop-a.invariant c.loop-a-test.false
