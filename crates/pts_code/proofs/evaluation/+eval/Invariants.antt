use Rattle.std.proofs.Common.{◌≡◌, ◌+◌, ◌++◌, Ok, drop, map}
use Rattle.arrayvec.specs.ArrayVec.{array_vec_len}
use Rattle.pts_code.specs.Codes.{given, operation}
use Rattle.pts_code.specs.Outcomes.{and_then, all_of, any_of, in_order, from_left}
use Rattle.pts_code.proofs.Weights.{weight, weights, step_weights}
use Rattle.pts_code.proofs.evaluation.+eval.Given as goal

abbrev pub decreases-eval : goal.decreases-eval
decreases-eval l = weights l.frame.now.codes.now + weight l.code.now

abbrev pub decreases-eval_all : goal.decreases-eval_all
decreases-eval_all l = weights l.frame.now.codes.now + weights l.members.now

abbrev pub decreases-eval_any : goal.decreases-eval_any
decreases-eval_any l = weights l.frame.now.codes.now + weights l.members.now

abbrev pub decreases-eval_call : goal.decreases-eval_call
decreases-eval_call l = weights l.frame.now.codes.now + weights l.arguments.now + 1

abbrev pub decreases-eval_convert : goal.decreases-eval_convert
decreases-eval_convert l = weights l.frame.now.codes.now + weight l.operand.now + 1

abbrev pub decreases-eval_negate : goal.decreases-eval_negate
decreases-eval_negate l = weights l.frame.now.codes.now + weight l.operand.now + 1

abbrev pub decreases-eval_not : goal.decreases-eval_not
decreases-eval_not l = weights l.frame.now.codes.now + weight l.operand.now + 1

abbrev pub decreases-eval_chain : goal.decreases-eval_chain
decreases-eval_chain l = weights l.frame.now.codes.now + weight l.first.now + step_weights l.steps.now + 2

abbrev pub decreases-eval_operand : goal.decreases-eval_operand
decreases-eval_operand l = weights l.frame.now.codes.now + weight l.code.now + 1

abbrev pub decreases-eval_choice : goal.decreases-eval_choice
decreases-eval_choice l = weights l.frame.now.codes.now + weight l.test.now + weight l.then.now + weight l.other.now + 1

abbrev pub decreases-push_values : goal.decreases-push_values
decreases-push_values l = weights l.frame.now.codes.now + weights l.arguments.now

abbrev pub invariant-eval_all-loop-member : goal.invariant-eval_all-loop-member
invariant-eval_all-loop-member l = all_of (map (given l.frame) l.members) ≡ all_of (map (given l.frame) (drop l.member-index l.members))

abbrev pub invariant-eval_any-loop-member : goal.invariant-eval_any-loop-member
invariant-eval_any-loop-member l = any_of (map (given l.frame) l.members) ≡ any_of (map (given l.frame) (drop l.member-index l.members))

abbrev pub invariant-eval_chain-loop-step : goal.invariant-eval_chain-loop-step
invariant-eval_chain-loop-step l = from_left (given l.frame l.first) (map (operation l.frame) l.steps) ≡ from_left (Ok l.value) (map (operation l.frame) (drop l.step-index l.steps))

abbrev pub invariant-push_values-loop-argument : goal.invariant-push_values-loop-argument
invariant-push_values-loop-argument l =
    (in_order (map (given l.frame) l.arguments) ≡ and_then (in_order (map (given l.frame) (drop l.argument-index l.arguments))) (λ rest. Ok (l.values.items ++ rest)))
    × (array_vec_len l.values ≡ l.argument-index)
