use Rattle.std.proofs.Common.{◌≡◌, Some, map, drop}
use Rattle.std.specs.List.{flat_map, fold}
use Rattle.pts_groupings.specs.Brackets.{combined}
use Rattle.pts_groupings.specs.Chunks.{chunk}
use Rattle.pts_groupings.specs.Sums.{folded}
use Rattle.pts_sums.proofs.groups.Chunked.sum_groups.Given as goal

-- the groups that are left bring what all groups bring
abbrev pub invariant-loop-group : goal.invariant-loop-group
invariant-loop-group g l =
    let items = g.T.Terms.items l.self.terms.now in
    let op = g.T.Combining.op l.self.terms.now in
    fold (combined op) l.total (map (λ group. folded op (flat_map (chunk l.self.pool.chunk items) group)) (drop l.group-index l.groups))
    ≡ fold (combined op) (Some l.fn.init) (map (λ group. folded op (flat_map (chunk l.self.pool.chunk items) group)) l.groups)
