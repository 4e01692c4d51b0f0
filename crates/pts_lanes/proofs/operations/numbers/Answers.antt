use Rattle.std.proofs.Common.{◌∙◌}
use Rattle.pts_lanes.proofs.Truths.{least-selected, greatest-selected}
use Rattle.pts_lanes.proofs.operations.numbers.Goals as goal
use Rattle.pts_lanes.proofs.operations.numbers.Goals.{in-Plus, in-Minus, in-Multiplies, in-BitAnd, in-BitOr, in-BitXor, in-Min, in-Max}

pub returns : goal.returns
returns c =
    elim c.match-op.branch [
      | in-Plus w ↦ rw w.in-Plus.is w.result-is
      | in-Minus w ↦ rw w.in-Minus.is w.result-is
      | in-Multiplies w ↦ rw w.in-Multiplies.is w.result-is
      | in-BitAnd w ↦ rw w.in-BitAnd.is w.result-is
      | in-BitOr w ↦ rw w.in-BitOr.is w.result-is
      | in-BitXor w ↦ rw w.in-BitXor.is w.result-is
      | in-Min w ↦ rw w.in-Min.is (w.result-is ∙ least-selected c.args.x c.args.y)
      | in-Max w ↦ rw w.in-Max.is (w.result-is ∙ greatest-selected c.args.x c.args.y)
    ]
