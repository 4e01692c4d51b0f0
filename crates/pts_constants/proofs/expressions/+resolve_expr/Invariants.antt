use Rattle.pts_constants.specs.Resolved as spec
use Rattle.pts_constants.proofs.Turns.{Copied}
use Rattle.pts_constants.proofs.expressions.«+resolve_expr».Given as goal

abbrev pub invariant-resolve_exprs-loop-expr : goal.invariant-resolve_exprs-loop-expr
invariant-resolve_exprs-loop-expr l = Copied (spec.resolved_expr l.scope) l.exprs l.expr-index l.done

abbrev pub invariant-resolve_parts-loop-part : goal.invariant-resolve_parts-loop-part
invariant-resolve_parts-loop-part l = Copied (spec.resolved_part l.scope) l.parts l.part-index l.done
