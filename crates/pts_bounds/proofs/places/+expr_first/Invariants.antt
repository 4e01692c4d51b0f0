use Rattle.std.proofs.Common.{◌≡◌, take}
use Rattle.std.specs.Option.{option_copied}
use Rattle.pts_tree.specs.declared.expr.Expr.{Expr}
use Rattle.pts_tree.specs.declared.expr.ChainPart.{ChainPart}
use Rattle.pts_rules.specs.Indices.{elements}
use Rattle.pts_bounds.specs.Firsts.{soonest}
use Rattle.pts_bounds.specs.Walks.{place_first}
use Rattle.pts_bounds.proofs.places.«+expr_first».Given as goal

abbrev pub invariant-exprs_first-loop-expr : goal.invariant-exprs_first-loop-expr
invariant-exprs_first-loop-expr l = l.first ≡ soonest (λ (x : Expr). soonest (place_first l.scope l.progression (option_copied l.index)) (elements x)) (take l.expr-index l.exprs)

abbrev pub invariant-parts_first-loop-part : goal.invariant-parts_first-loop-part
invariant-parts_first-loop-part l = l.first ≡ soonest (λ (x : ChainPart). soonest (place_first l.scope l.progression (option_copied l.index)) (elements x.operand)) (take l.part-index l.chain)
