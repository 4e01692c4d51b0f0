use Rattle.std.proofs.Common.{◌≡◌, ◌+◌, ◌++◌, Ok, false, drop, map}
use Rattle.arrayvec.specs.ArrayVec.{array_vec_len}
use Rattle.pts_tree.specs.declared.expr.ChainPart.{ChainPart}
use Rattle.pts_code.specs.Functions.{kinds_of}
use Rattle.pts_code.specs.Outcomes.{and_then, all_of, any_of, from_left, in_order}
use Rattle.pts_code.specs.Values.{at_kinds, numbers, operations, truths}
use Rattle.pts_code.proofs.ExprWeights.{weight, weights, part_weights}
use Rattle.pts_code.proofs.Sums.{numbers_before}
use Rattle.pts_eval.specs.Expressions.{given, part_of, valued}
use Rattle.pts_eval.proofs.expressions.«+eval».Given as goal

abbrev pub decreases-eval : goal.decreases-eval
decreases-eval l = weight l.expr.now

abbrev pub decreases-eval_all : goal.decreases-eval_all
decreases-eval_all l = weights l.members.now

abbrev pub decreases-eval_any : goal.decreases-eval_any
decreases-eval_any l = weights l.members.now

abbrev pub decreases-eval_call : goal.decreases-eval_call
decreases-eval_call l = weights l.arguments.now + 1

abbrev pub decreases-eval_convert : goal.decreases-eval_convert
decreases-eval_convert l = weight l.operand.now + 1

abbrev pub decreases-eval_minus : goal.decreases-eval_minus
decreases-eval_minus l = weight l.operand.now + 1

abbrev pub decreases-eval_not : goal.decreases-eval_not
decreases-eval_not l = weight l.operand.now + 1

abbrev pub decreases-eval_chain : goal.decreases-eval_chain
decreases-eval_chain l = weight l.operand.now + part_weights l.parts.now + 1

abbrev pub decreases-eval_compare : goal.decreases-eval_compare
decreases-eval_compare l = weight l.sides.now.left.now + weight l.sides.now.right.now + 1

abbrev pub decreases-eval_if : goal.decreases-eval_if
decreases-eval_if l = weight l.choice.now.test.now + weight l.choice.now.first.now + weight l.choice.now.second.now + 1

abbrev pub decreases-push_arguments : goal.decreases-push_arguments
decreases-push_arguments l = weights l.arguments.now

abbrev pub invariant-eval_all-loop-member : goal.invariant-eval_all-loop-member
invariant-eval_all-loop-member l = record {
  value : all_of (truths (map (valued l.names) l.members) l.first) ≡ all_of (truths (map (valued l.names) (drop l.member-index l.members)) l.next);
  next : l.next ≡ l.first + numbers_before (numbers false) l.members l.member-index;
}

abbrev pub invariant-eval_any-loop-member : goal.invariant-eval_any-loop-member
invariant-eval_any-loop-member l = record {
  value : any_of (truths (map (valued l.names) l.members) l.first) ≡ any_of (truths (map (valued l.names) (drop l.member-index l.members)) l.next);
  next : l.next ≡ l.first + numbers_before (numbers false) l.members l.member-index;
}

abbrev pub invariant-eval_chain-loop-part : goal.invariant-eval_chain-loop-part
invariant-eval_chain-loop-part l = record {
  value :
      from_left (given l.names l.kind l.first l.operand) (operations l.kind (map (part_of l.names) l.parts) (l.first + numbers false l.operand))
      ≡ from_left (Ok l.value) (operations l.kind (map (part_of l.names) (drop l.part-index l.parts)) l.next);
  next : l.next ≡ l.first + numbers false l.operand + numbers_before (λ (part : ChainPart). numbers false part.operand) l.parts l.part-index;
}

abbrev pub invariant-push_arguments-loop-at : goal.invariant-push_arguments-loop-at
invariant-push_arguments-loop-at l = record {
  value :
      in_order (at_kinds (kinds_of l.params) (map (valued l.names) l.arguments) l.first)
      ≡ and_then (in_order (at_kinds (kinds_of (drop l.at l.params)) (map (valued l.names) (drop l.at l.arguments)) l.next)) (λ rest. Ok (l.values.items ++ rest));
  next : l.next ≡ l.first + numbers_before (numbers false) l.arguments l.at;
  room : array_vec_len l.values ≡ l.at;
}
