use Rattle.std.proofs.Common.{ap, ◌∙◌, arith, length}
use lib.Lanes.{chunk}
use Rattle.std.proofs.lemmas.Simd.{length-chunk}
use Rattle.std.proofs.lemmas.List.{length-set}
use Rattle.pts_lanes.proofs.Places.{filled_more, filled_one, length-filled}
use Rattle.pts_lanes.proofs.strips.fill_strips.Goals as goal

pub loop-out-preserved : goal.loop-out-preserved
loop-out-preserved g c =
    let answer = g.K.Filling.answer c.args.kernel.now in
    let ys = c.eight.new.out in
    let e = c.eight.ensures in
    let long = ap length {y = chunk c.loop-out.at 8 answer} e ∙ length-chunk c.loop-out.at 8 answer (omega arith) in
    record {
      places = c.loop-out.invariant.places;
      room = length-filled c.loop-out.out ys c.loop-out.at _ (omega arith) (omega arith) ∙ c.loop-out.invariant.room;
      within = omega arith;
      so_far = filled_more c.loop-out.out answer ys c.loop-out.at 8 _ (omega arith) e long (omega arith) c.loop-out.invariant.so_far;
    }

pub loop-at-preserved : goal.loop-at-preserved
loop-at-preserved g c = record {
  places = c.loop-at.invariant.places;
  room = length-set c.loop-at.out c.loop-at.at c.one.result ∙ c.loop-at.invariant.room;
  within = omega arith;
  so_far = filled_one c.loop-at.out (g.K.Filling.answer c.args.kernel.now) c.loop-at.at c.one.result c.one.ensures (omega arith) c.loop-at.invariant.so_far;
}
