use Rattle.std.proofs.Common.{◌≡◌, ◌-◌, take, drop}
use Rattle.pts_sums.specs.Folds.{with_items}
use Rattle.pts_sums.proofs.folds.fold_items.Given as goal

-- what is left brings what all items bring
abbrev pub invariant-loop-at : goal.invariant-loop-at
invariant-loop-at g l =
    let items = g.T.Terms.items l.terms in
    let op = g.T.Combining.op l.terms in
    with_items op l.so_far (take (l.end - l.at) (drop l.at items)) ≡ with_items op l.fn.so_far (take (l.fn.end - l.fn.start) (drop l.fn.start items))
