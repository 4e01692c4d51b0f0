use Rattle.std.proofs.Common.{◌≡◌, ◌<◌, ◌≤◌, length, false, true, ◌∙◌, ap, sym}
use Rattle.pts_groupings.specs.Chunks.{chunk, chunk_count}
use Rattle.pts_groupings.specs.Sums.{folded}
use Rattle.pts_sums.specs.Folds.{with_item}
use Rattle.pts_eval.specs.Sums.{order_of}
use Rattle.pts_sums.proofs.ChunkPlaces.{start_more}
use Rattle.pts_sums.proofs.ChunkWrites.{all_written, write_begun, write_more, write_throw}
use Rattle.pts_sums.proofs.places.Scanner.write_chunks.Goals as goal

pub loop-number-init : goal.loop-number-init
loop-number-init g c =
    let op = g.T.Combining.op c.args.self.now.terms.now in
    let items = g.T.Terms.items c.args.self.now.terms.now in (
      λ l. c.begin-start.ensures,
      λ all new h. write_begun op (order_of c.args.self.now.order) c.args.size c.args.init items c.args.self.now.array c.args.self.now.first all c.args.writes.now new h,
    )

pub returns-then-not-branch : goal.returns-then-not-branch
returns-then-not-branch g c =
    let op = g.T.Combining.op c.args.self.now.terms.now in
    let items = g.T.Terms.items c.args.self.now.terms.now in
    let count : c.div_ceil-chunks.result ≡ chunk_count (length items) c.args.size = c.div_ceil-chunks.ensures ∙ ap (λ n. chunk_count n c.args.size) c.count.ensures in
    let below : c.loop-number.number < c.div_ceil-chunks.result = c.loop-number-test.true in
    c.loop-number.invariant.1 false c.write_chunk.new.writes
    (write_throw op (order_of c.args.self.now.order) c.args.size c.args.init items c.args.self.now.array c.args.self.now.first
    c.requires.positive c.loop-number.number c.div_ceil-chunks.result count c.loop-number.start below (c.loop-number.invariant.0 below)
    c.in_ok-write_chunk.field-0 c.loop-number.writes c.write_chunk.new.writes c.write_chunk.new.writes c.if-not-branch.true c.in_ok-write_chunk.ensures)

pub loop-number-preserved : goal.loop-number-preserved
loop-number-preserved g c =
    let op = g.T.Combining.op c.args.self.now.terms.now in
    let items = g.T.Terms.items c.args.self.now.terms.now in
    let count : c.div_ceil-chunks.result ≡ chunk_count (length items) c.args.size = c.div_ceil-chunks.ensures ∙ ap (λ n. chunk_count n c.args.size) c.count.ensures in
    let below : c.loop-number.number < c.div_ceil-chunks.result = c.loop-number-test.true in
    let is = c.loop-number.invariant.0 below in (
      λ l.
          c.start_behind-start.ensures l
          ∙ ap (λ s. with_item op s (folded op (chunk c.args.size items c.loop-number.number))) is
          ∙ sym (start_more op (order_of c.args.self.now.order) c.args.size c.args.init items c.loop-number.number),
      λ all new more.
          c.loop-number.invariant.1 all new
          (write_more op (order_of c.args.self.now.order) c.args.size c.args.init items c.args.self.now.array c.args.self.now.first
          c.requires.positive c.loop-number.number c.div_ceil-chunks.result count c.loop-number.start below is
          c.in_ok-write_chunk.field-0 all c.loop-number.writes c.write_chunk.new.writes new c.if-not-branch.false c.in_ok-write_chunk.ensures more),
    )

pub returns : goal.returns
returns g c =
    let op = g.T.Combining.op c.args.self.now.terms.now in
    let items = g.T.Terms.items c.args.self.now.terms.now in
    let count : c.div_ceil-chunks.result ≡ chunk_count (length items) c.args.size = c.div_ceil-chunks.ensures ∙ ap (λ n. chunk_count n c.args.size) c.count.ensures in
    let done : c.div_ceil-chunks.result ≤ c.loop-number.number = c.loop-number-test.false in
    c.loop-number.invariant.1 true c.loop-number.writes
    (all_written op (order_of c.args.self.now.order) c.args.size c.args.init items c.args.self.now.array c.args.self.now.first
    c.requires.positive c.loop-number.number c.div_ceil-chunks.result count c.loop-number.writes done)
