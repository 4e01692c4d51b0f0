use Rattle.std.proofs.Common.{◌∙◌}
use Rattle.pts_lanes.proofs.Truths.{truths-selected, turned}
use Rattle.pts_lanes.specs.Kernels.{truth_under}
use Rattle.pts_types.specs.declared.operation.ScalarOp.TheVariants.{Less, LessEqual, Greater, GreaterEqual, Equal, NotEqual}
use Rattle.pts_lanes.proofs.operations.truths.Goals as goal
use Rattle.pts_lanes.proofs.operations.truths.Goals.{in-Less, in-LessEqual, in-Greater, in-GreaterEqual, in-Equal, in-NotEqual}

pub returns : goal.returns
returns c =
    let x = c.args.x in
    let y = c.args.y in
    let holds = c.match-op.holds in
    elim c.match-op.branch [
      | in-Less w ↦ rw w.in-Less.is (truths-selected (truth_under Less) x y holds w.holds-is c.fits-x.0 c.fits-y.0)
      | in-LessEqual w ↦ rw w.in-LessEqual.is (truths-selected (truth_under LessEqual) x y holds w.holds-is c.fits-x.0 c.fits-y.0)
      | in-Greater w ↦ rw w.in-Greater.is (truths-selected (truth_under Greater) x y holds (w.holds-is ∙ turned _ x y) c.fits-x.0 c.fits-y.0)
      | in-GreaterEqual w ↦ rw w.in-GreaterEqual.is (truths-selected (truth_under GreaterEqual) x y holds (w.holds-is ∙ turned _ x y) c.fits-x.0 c.fits-y.0)
      | in-Equal w ↦ rw w.in-Equal.is (truths-selected (truth_under Equal) x y holds w.holds-is c.fits-x.0 c.fits-y.0)
      | in-NotEqual w ↦ rw w.in-NotEqual.is (truths-selected (truth_under NotEqual) x y holds w.holds-is c.fits-x.0 c.fits-y.0)
    ]
