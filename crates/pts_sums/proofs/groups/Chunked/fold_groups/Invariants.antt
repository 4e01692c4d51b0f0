use Rattle.std.proofs.Common.{◌≡◌, Some, drop}
use Rattle.std.specs.List.{flat_map}
use Rattle.pts_groupings.specs.Chunks.{chunk}
use Rattle.pts_sums.specs.Folds.{with_items}
use Rattle.pts_sums.proofs.groups.Chunked.fold_groups.Given as goal

-- the groups that are left bring what all groups bring
abbrev pub invariant-loop-group : goal.invariant-loop-group
invariant-loop-group g l =
    let items = g.T.Terms.items l.self.terms.now in
    let op = g.T.Combining.op l.self.terms.now in
    with_items op l.so_far (flat_map (flat_map (chunk l.self.pool.chunk items)) (drop l.group-index l.groups))
    ≡ with_items op (Some (Some l.fn.init)) (flat_map (flat_map (chunk l.self.pool.chunk items)) l.groups)
