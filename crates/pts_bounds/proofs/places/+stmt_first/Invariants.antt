use Rattle.std.proofs.Common.{◌≡◌, take}
use Rattle.std.specs.Option.{option_copied}
use Rattle.pts_tree.specs.declared.loops.BodyStmt.{BodyStmt}
use Rattle.pts_rules.specs.Indices.{places}
use Rattle.pts_bounds.specs.Firsts.{soonest}
use Rattle.pts_bounds.specs.Walks.{place_first}
use Rattle.pts_bounds.proofs.places.«+stmt_first».Given as goal

abbrev pub invariant-body_first-loop-stmt : goal.invariant-body_first-loop-stmt
invariant-body_first-loop-stmt l = l.first ≡ soonest (λ (x : BodyStmt). soonest (place_first l.scope l.progression (option_copied l.index)) (places x)) (take l.stmt-index l.body)
