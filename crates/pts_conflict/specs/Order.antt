-- Which evaluations of a call are sequenced before which, by the policy of the call.
use Rattle.std.specs.Prelude.{ℕ, Bool, true, false, ◌&&◌, ◌||◌, not, if◌then◌else◌, eqb, nat_lt, Option, Some, List}
use Rattle.std.specs.List.{list_any}
use Rattle.pts_types.specs.declared.operation.Policy.{Policy}
use Rattle.pts_types.specs.declared.operation.Policy.TheVariants as policies
use Rattle.pts_points.specs.declared.point.Branch.{Branch}
use Rattle.pts_points.specs.declared.point.PointInfo.{PointInfo}

abbrev pub same_side : Bool → Bool → Bool
same_side true b = b
same_side false b = not b

-- two sides of one test
abbrev pub are_sides : Branch → Branch → Bool
are_sides b c = eqb b.test c.test && not (same_side b.taken c.taken)

-- the points stand in opposite branches of one `if`
abbrev pub are_opposite : List Branch → List Branch → Bool
are_opposite bs cs = list_any (λ b. list_any (are_sides b) cs) bs

-- the points stand in one `vec_off` block, or are one `ordered` update
abbrev pub share_off : Option ℕ → Option ℕ → Bool
share_off (Some m) (Some n) = eqb m n
share_off _ _ = false

-- what wavefront application keeps in order across positions, a being of the earlier one: a point before another one that is
-- not in the opposite branch, and what is off the vector ([parallel.alg.general.wavefront], [parallel.alg.vecoff])
abbrev pub is_before_in_wave : PointInfo → PointInfo → Bool
is_before_in_wave a b = (nat_lt a.number b.number && not (are_opposite a.branches b.branches)) || share_off a.off b.off

-- point a at a position is before point b at a later one ([parallel.alg.general.exec])
abbrev pub is_before_across : Policy → Bool → PointInfo → PointInfo → Bool
is_before_across policies.Seq is_loop a b = true
is_before_across policies.Vector is_loop a b = is_loop && is_before_in_wave a b
is_before_across policy is_loop a b = false

-- point a at position p is before point b at position q: in one application by their numbers
abbrev pub is_before : Policy → Bool → ℕ → PointInfo → ℕ → PointInfo → Bool
is_before policy is_loop p a q b = if eqb p q then nat_lt a.number b.number else nat_lt p q && is_before_across policy is_loop a b
