use Rattle.std.proofs.Common.{◌≡◌, ℕ, ◌+◌, ◌-◌, ◌≤◌, eqb, List, length, take, drop, map, ap, sym, ◌∙◌, arith}
use lib.Lanes.{chunk}
use Rattle.std.proofs.lemmas.Simd.{length-chunk, length-zip2}
use Rattle.pts_lanes.specs.Kernels.{truth_under}
use Rattle.pts_lanes.proofs.Pairs.{loaded, loaded-pairs}
use Rattle.pts_lanes.proofs.Places.{eight-written}
use Rattle.pts_lanes.proofs.Truths.{ones-read, ones-tested}
use Rattle.pts_lanes.proofs.fills.TruthsFilling.eight.Goals as goal

long : (xs : List ℕ) (at : ℕ) → at + 8 ≤ length xs → length (chunk 0 8 (take (length xs - at) (drop at xs))) ≡ 8
long xs at le = ap length (loaded at xs) ∙ length-chunk at 8 xs le

pub returns : goal.returns
returns c =
    let k = c.args.self.now in
    let xs = chunk 0 8 (take (length k.xs.now - c.args.at) (drop c.args.at k.xs.now)) in
    let ys = chunk 0 8 (take (length k.ys.now - c.args.at) (drop c.args.at k.ys.now)) in
    eight-written c.args.out.now _ _ _ _ _ _ _ _ c.requires.room
    ∙ ones-read c.truths.result (ap length c.truths.ensures ∙ length-zip2 _ xs ys (long k.xs.now c.args.at (omega arith) ∙ sym (long k.ys.now c.args.at (omega arith))) ∙ long k.xs.now c.args.at (omega arith))
    ∙ ap (map (λ n. eqb n 1)) c.truths.ensures
    ∙ ones-tested (truth_under k.op) xs ys
    ∙ loaded-pairs (truth_under k.op) c.args.at k.xs.now k.ys.now
