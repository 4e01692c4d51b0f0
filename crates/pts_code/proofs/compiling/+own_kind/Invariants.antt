use Rattle.std.proofs.Common.{◌≡◌, false, drop, map}
use Rattle.pts_rules.specs.Kinds.{typing, first_kind}
use Rattle.pts_tree.specs.declared.expr.ChainPart.{ChainPart}
use Rattle.pts_code.proofs.compiling.«+own_kind».Given as goal

abbrev pub invariant-first_kind-loop-part : goal.invariant-first_kind-loop-part
invariant-first_kind-loop-part l =
    first_kind (map (λ (y : ChainPart). typing false l.scope y.operand) l.parts) ≡ first_kind (map (λ (y : ChainPart). typing false l.scope y.operand) (drop l.part-index l.parts))
