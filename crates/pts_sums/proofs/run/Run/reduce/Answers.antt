use Rattle.std.proofs.Common.{◌≡◌, ◌≤◌, length, ap, sym, subst, ◌∙◌, rules}
use Rattle.pts_groupings.specs.Chunks.{chunk_count, single_group}
use Rattle.pts_groupings.specs.Sums.{sum_of}
use Rattle.pts_store.specs.Steps.{AreOf}
use Rattle.pts_eval.specs.Sums.{combining, items_in, steps_into}
use Rattle.pts_elements.proofs.Singles.{single_fits}
use Rattle.pts_sums.proofs.run.Run.reduce.Goals as goal

pub sum-sum-requires-clause-grouping : goal.sum-sum-requires-clause-grouping
sum-sum-requires-clause-grouping g c =
    λ lifetimes outlives.
    let items = items_in c.args.self.now.program.now.functions (g.V.View.stands c.args.self.now.view.now) c.args.call.now in
    let size = c.args.self.now.pool.chunk in
    let some : 1 ≤ c.args.self.now.pool.workers = search rules in
    let chunks : c.div_ceil.result ≡ chunk_count (length items) size = c.div_ceil.ensures ∙ ap (λ n. chunk_count n size) (c.count_items.ensures (g.V.View.stands c.args.self.now.view.now) c.requires) in
    single_fits c.args.call.now.policy c.args.self.now.pool.workers (chunk_count (length items) size) c.as_slice.result.now some
    (c.as_slice.ensures ∙ c.in_ok-grouping.ensures ∙ ap single_group chunks)

pub returns : goal.returns
returns g c =
    let items = items_in c.args.self.now.program.now.functions (g.V.View.stands c.args.self.now.view.now) c.args.call.now in
    let op = combining c.args.self.now.program.now.functions c.args.call.now.operation in
    let size = c.args.self.now.pool.chunk in
    let some : 1 ≤ c.args.self.now.pool.workers = search rules in
    let chunks : c.div_ceil.result ≡ chunk_count (length items) size = c.div_ceil.ensures ∙ ap (λ n. chunk_count n size) (c.count_items.ensures (g.V.View.stands c.args.self.now.view.now) c.requires) in
    record {
      grouping = single_fits c.args.call.now.policy c.args.self.now.pool.workers (chunk_count (length items) size) c.in_ok-grouping.grouping.groups some
          (c.in_ok-grouping.ensures ∙ ap single_group chunks);
      outcome = c.outcome_for.ensures ∙ c.sum-sum.ensures ∙ ap (λ groups. sum_of c.args.call.now.policy size groups op c.args.call.now.initial items) c.as_slice.ensures;
      writes = subst (λ sum. AreOf (steps_into c.args.call.now.into sum) c.in_ok-writes.writes) (sym c.outcome_for.ensures) c.in_ok-writes.ensures;
    }
