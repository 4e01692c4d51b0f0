use Rattle.std.proofs.Common.{◌≡◌, false, take}
use Rattle.std.specs.List.{list_any}
use Rattle.std.specs.Option.{option_copied}
use Rattle.pts_tree.specs.declared.loops.BodyStmt.{BodyStmt}
use Rattle.pts_rules.specs.Indices.{index_not_affine, places}
use Rattle.pts_bounds.proofs.indices.+stmt_is_not_affine.Given as goal

abbrev pub invariant-body_is_not_affine-loop-stmt : goal.invariant-body_is_not_affine-loop-stmt
invariant-body_is_not_affine-loop-stmt l = list_any (λ (x : BodyStmt). list_any (index_not_affine l.scope (option_copied l.index)) (places x)) (take l.stmt-index l.body) ≡ false
