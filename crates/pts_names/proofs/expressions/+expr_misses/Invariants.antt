use Rattle.pts_rules.specs.Parts.{expr_names}
use Rattle.pts_names.proofs.Missing.{Looked}
use Rattle.pts_names.proofs.expressions.«+expr_misses».Given as goal

abbrev pub invariant-exprs_miss-loop-expr : goal.invariant-exprs_miss-loop-expr
invariant-exprs_miss-loop-expr l = Looked expr_names l.scope l.exprs l.expr-index

abbrev pub invariant-chain_parts_miss-loop-part : goal.invariant-chain_parts_miss-loop-part
invariant-chain_parts_miss-loop-part l = Looked (λ part. expr_names part.operand) l.scope l.parts l.part-index
