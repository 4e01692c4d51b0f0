use Rattle.std.proofs.Common.{◌≡◌, drop}
use Rattle.std.specs.List.{flat_map}
use Rattle.pts_groupings.specs.Chunks.{chunk}
use Rattle.pts_sums.specs.Folds.{with_items}
use Rattle.pts_sums.proofs.groups.Chunked.fold_group.Given as goal

-- the chunks that are left bring what all chunks bring
abbrev pub invariant-loop-number : goal.invariant-loop-number
invariant-loop-number g l =
    let items = g.T.Terms.items l.self.terms.now in
    let op = g.T.Combining.op l.self.terms.now in
    with_items op l.so_far (flat_map (chunk l.self.pool.chunk items) (drop l.number-index l.group))
    ≡ with_items op l.fn.so_far (flat_map (chunk l.self.pool.chunk items) l.group)
