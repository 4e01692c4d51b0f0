-- Where the points of an item begin, found by halving.
use Rattle.std.proofs.Common.{inl, inr, ◌≡◌, ℕ, ◌<◌, ◌≤◌, Some, List, length, get_or, slice_get, sym, ap, ◌∙◌}
use Rattle.std.proofs.lemmas.Bool.{cases_lt}
use Rattle.std.proofs.lemmas.Option.{slice_get-get_or}
use Rattle.pts_points.specs.declared.point.PointInfo.{PointInfo}
use Rattle.pts_layout.specs.Layout.{AreByItem, points_before}

module _ (points : List PointInfo) (item : ℕ) (by_item : AreByItem points) (middle : ℕ) (x d : PointInfo) (within : middle < length points) (is : x ≡ get_or points middle d) where
  at : slice_get points middle ≡ Some x
  at = slice_get-get_or points middle d within ∙ ap Some (sym is)

  pub above : x.item < item → middle < points_before points item
  above less = (by_item item middle x at).0 less

  pub below : ¬ (x.item < item) → points_before points item ≤ middle
  below more = elim (cases_lt middle (points_before points item)) [ inl less ↦ absurd (more ((by_item item middle x at).1 less)) | inr h ↦ h ]
