use Rattle.std.proofs.Common.{◌≡◌, [], ap, drop, ◌∙◌, arith}
use Rattle.std.specs.List.{flat_map}
use Rattle.std.proofs.lemmas.Grind.{common_steps}
use Rattle.pts_groupings.specs.Chunks.{chunk}
use Rattle.pts_sums.proofs.GroupFolds.{fold_done}
use Rattle.pts_sums.proofs.groups.Chunked.fold_groups.Goals as goal

pub returns : goal.returns
returns g c =
    let none : drop c.loop-group.group-index c.args.groups.now ≡ [] = grind (arith, common_steps) in
    let f = flat_map (chunk c.args.self.now.pool.chunk (g.T.Terms.items c.args.self.now.terms.now)) in
    c.outcome_of.ensures ∙ fold_done (g.T.Combining.op c.args.self.now.terms.now) _ c.args.init (flat_map f c.args.groups.now) (flat_map f (drop c.loop-group.group-index c.args.groups.now)) (ap (flat_map f) none) c.loop-group.invariant
