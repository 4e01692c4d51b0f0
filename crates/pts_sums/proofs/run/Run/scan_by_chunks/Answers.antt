use Rattle.std.proofs.Common.{ap, arith, length}
use Rattle.pts_eval.specs.Sums.{combining, order_of}
use Rattle.pts_sums.proofs.GatheredItems.{put_gathered}
use Rattle.pts_sums.proofs.ScanItems.{chunks_thrown, chunks_written, positions}
use Rattle.pts_sums.proofs.run.Run.scan_by_chunks.Goals as goal

pub write_chunks-requires-clause-room : goal.write_chunks-requires-clause-room
write_chunks-requires-clause-room g c =
    let count = c.count_positions.ensures.count (g.V.View.stands c.args.self.now.view.now) c.requires.arrays in
    let sum = c.count_positions.ensures.target in
    let all = positions c.args.self.now.program.now.functions (g.V.View.stands c.args.self.now.view.now) c.args.call.now in
    let same = ap length c.in_ok-gathered.ensures.items in
    omega (arith, count, sum, all, same)

pub returns-then-branch : goal.returns-then-branch
returns-then-branch g c =
    chunks_written c.args.self.now.program.now.functions (g.V.View.stands c.args.self.now.view.now) c.args.call.now c.args.self.now.pool.chunk c.requires.policy c.in_ok-write_chunks.field-0
    c.new-writes.result c.write_chunks.new.writes
    (put_gathered (order_of c.args.call.now.order) c.args.self.now.pool.chunk c.args.call.now.initial c.in_ok-write_chunks.field-0 c.args.call.now.target.array c.args.call.now.target.low c.new-writes.result c.write_chunks.new.writes
    _ _ _ c.in_ok-gathered.gathered.items.items (ap (λ t. combining t.program.now.functions t.call.now.operation) c.in_ok-gathered.ensures.terms) c.in_ok-gathered.ensures.items c.in_ok-write_chunks.ensures)
    c.new-writes.ensures c.if-branch.true

pub returns : goal.returns
returns g c =
    chunks_thrown c.args.self.now.program.now.functions (g.V.View.stands c.args.self.now.view.now) c.args.call.now c.args.self.now.pool.chunk c.requires.policy c.in_ok-write_chunks.field-0
    c.new-writes.result c.write_chunks.new.writes
    (put_gathered (order_of c.args.call.now.order) c.args.self.now.pool.chunk c.args.call.now.initial c.in_ok-write_chunks.field-0 c.args.call.now.target.array c.args.call.now.target.low c.new-writes.result c.write_chunks.new.writes
    _ _ _ c.in_ok-gathered.gathered.items.items (ap (λ t. combining t.program.now.functions t.call.now.operation) c.in_ok-gathered.ensures.terms) c.in_ok-gathered.ensures.items c.in_ok-write_chunks.ensures)
    c.if-branch.false
