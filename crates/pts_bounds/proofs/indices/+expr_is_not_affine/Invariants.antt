use Rattle.std.proofs.Common.{◌≡◌, false, take}
use Rattle.std.specs.List.{list_any}
use Rattle.std.specs.Option.{option_copied}
use Rattle.pts_tree.specs.declared.expr.Expr.{Expr}
use Rattle.pts_tree.specs.declared.expr.ChainPart.{ChainPart}
use Rattle.pts_rules.specs.Indices.{elements, index_not_affine}
use Rattle.pts_bounds.proofs.indices.+expr_is_not_affine.Given as goal

abbrev pub invariant-exprs_are_not_affine-loop-expr : goal.invariant-exprs_are_not_affine-loop-expr
invariant-exprs_are_not_affine-loop-expr l = list_any (λ (x : Expr). list_any (index_not_affine l.scope (option_copied l.index)) (elements x)) (take l.expr-index l.exprs) ≡ false

abbrev pub invariant-parts_are_not_affine-loop-part : goal.invariant-parts_are_not_affine-loop-part
invariant-parts_are_not_affine-loop-part l = list_any (λ (x : ChainPart). list_any (index_not_affine l.scope (option_copied l.index)) (elements x.operand)) (take l.part-index l.chain) ≡ false
