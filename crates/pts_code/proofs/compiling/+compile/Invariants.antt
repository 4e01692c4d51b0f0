use Rattle.std.proofs.Common.{◌≡◌, ◌+◌, true, take}
use Rattle.pts_tree.specs.declared.expr.ChainPart.{ChainPart}
use Rattle.pts_code.specs.Compiling.{AreArguments, AreTruths, AreSteps}
use Rattle.pts_code.specs.Values.{numbers}
use Rattle.pts_code.proofs.ExprWeights.{weight, weights, part_weights}
use Rattle.pts_code.proofs.Sums.{numbers_before}
use Rattle.pts_code.proofs.compiling.«+compile».Given as goal

abbrev pub decreases-compile : goal.decreases-compile
decreases-compile l = weight l.expr.now

abbrev pub decreases-compile_boxed : goal.decreases-compile_boxed
decreases-compile_boxed l = weight l.expr.now + 1

abbrev pub decreases-compile_minus : goal.decreases-compile_minus
decreases-compile_minus l = weight l.operand.now + 2

abbrev pub decreases-compile_arguments : goal.decreases-compile_arguments
decreases-compile_arguments l = weights l.arguments.now

abbrev pub decreases-compile_call : goal.decreases-compile_call
decreases-compile_call l = weights l.arguments.now + 1

abbrev pub decreases-compile_parts : goal.decreases-compile_parts
decreases-compile_parts l = part_weights l.parts.now

abbrev pub decreases-compile_compare : goal.decreases-compile_compare
decreases-compile_compare l = weight l.sides.now.left.now + weight l.sides.now.right.now + 2

abbrev pub decreases-compile_each : goal.decreases-compile_each
decreases-compile_each l = weights l.exprs.now

abbrev pub decreases-compile_if : goal.decreases-compile_if
decreases-compile_if l = weight l.choice.now.test.now + weight l.choice.now.first.now + weight l.choice.now.second.now + 2

abbrev pub invariant-compile_arguments-loop-at : goal.invariant-compile_arguments-loop-at
invariant-compile_arguments-loop-at l = record {
  codes : AreArguments l.names.scope.now l.names.spots.now (take l.at l.kinds) l.first (take l.at l.arguments) l.codes;
  next : l.next ≡ l.first + numbers_before (numbers true) l.arguments l.at;
}

abbrev pub invariant-compile_each-loop-expr : goal.invariant-compile_each-loop-expr
invariant-compile_each-loop-expr l = record {
  codes : AreTruths l.names.scope.now l.names.spots.now l.first (take l.expr-index l.exprs) l.codes;
  next : l.next ≡ l.first + numbers_before (numbers true) l.exprs l.expr-index;
}

abbrev pub invariant-compile_parts-loop-part : goal.invariant-compile_parts-loop-part
invariant-compile_parts-loop-part l = record {
  steps : AreSteps l.names.scope.now l.names.spots.now l.kind l.first (take l.part-index l.parts) l.steps;
  next : l.next ≡ l.first + numbers_before (λ (part : ChainPart). numbers true part.operand) l.parts l.part-index;
}
