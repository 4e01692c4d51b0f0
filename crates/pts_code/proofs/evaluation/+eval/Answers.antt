use Rattle.std.proofs.Common.{rules, ◌≡◌, ◌+◌, Ok, Err, get_or, take, drop, map, slice_get, sym, ap, ◌∙◌, inl, inr, arith}
use Rattle.std.proofs.lemmas.List.{length-map}
use Rattle.std.proofs.lemmas.Option.{slice_get_cases}
use Rattle.pts_code.specs.Codes.{body_sight, gives, call, functions_of, given, operation, sight_of}
use Rattle.pts_code.specs.Outcomes.{from_left}
use Rattle.pts_code.proofs.Calls.{given_by, function_at, no_function, called, call_threw, not_called}
use Rattle.pts_code.proofs.Chains.{from_left_threw}
use Rattle.pts_code.proofs.Given.{gives-Call}
use Rattle.pts_code.proofs.Steps.{next_of}
use Rattle.pts_code.proofs.Weights.{weight, weights, step_weights, weight_below, step_weight_below, weights_before, weight-Call, weight-Convert, weight-Negate, weight-Not, weight-Chain, weight-All, weight-Any, weight-If}
use Rattle.pts_code.proofs.evaluation.+eval.Goals as goal

pub eval-eval_call-requires : goal.eval-eval_call-requires
eval-eval_call-requires t c = (omega (arith, c.decreases, ap weight c.in-Call.is, weight-Call c.in-Call.function c.in-Call.arguments, ap weights c.as_slice.ensures), tt)

pub eval-eval_convert-requires : goal.eval-eval_convert-requires
eval-eval_convert-requires t c = (omega (arith, c.decreases, ap weight c.in-Convert.is, weight-Convert c.in-Convert.to c.in-Convert.operand, ap weight c.get.ensures), tt)

pub eval-eval_negate-requires : goal.eval-eval_negate-requires
eval-eval_negate-requires t c = (omega (arith, c.decreases, ap weight c.in-Negate.is, weight-Negate c.in-Negate.operand, ap weight c.get-in-Negate.ensures), tt)

pub eval-eval_not-requires : goal.eval-eval_not-requires
eval-eval_not-requires t c = (omega (arith, c.decreases, ap weight c.in-Not.is, weight-Not c.in-Not.operand, ap weight c.get-in-Not.ensures), tt)

pub eval-eval_chain-requires : goal.eval-eval_chain-requires
eval-eval_chain-requires t c = (omega (arith, c.decreases, ap weight c.in-Chain.is, weight-Chain c.in-Chain.first c.in-Chain.steps, ap weight c.get-in-Chain.ensures, ap step_weights c.as_slice-in-Chain.ensures), tt)

pub eval-eval_all-requires : goal.eval-eval_all-requires
eval-eval_all-requires t c = (omega (arith, c.decreases, ap weight c.in-All.is, weight-All c.in-All.members, ap weights c.as_slice-in-All.ensures), tt)

pub eval-eval_any-requires : goal.eval-eval_any-requires
eval-eval_any-requires t c = (omega (arith, c.decreases, ap weight c.in-Any.is, weight-Any c.in-Any.members, ap weights c.as_slice-in-Any.ensures), tt)

pub eval-eval_choice-requires : goal.eval-eval_choice-requires
eval-eval_choice-requires t c = (omega (arith, c.decreases, ap weight c.in-If.is, weight-If c.in-If.test c.in-If.then c.in-If.other, ap weight c.get-in-If.ensures, ap weight c.get-in-If-2.ensures, ap weight c.get-in-If-3.ensures), tt)

pub eval_all-eval-requires : goal.eval_all-eval-requires
eval_all-eval-requires t c = (omega (arith, c.decreases, weight_below c.args.members.now c.loop-member.member-index c.member-item.result c.loop-member-test.true c.member-item.is), tt)

pub eval_any-eval-requires : goal.eval_any-eval-requires
eval_any-eval-requires t c = (omega (arith, c.decreases, weight_below c.args.members.now c.loop-member.member-index c.member-item.result c.loop-member-test.true c.member-item.is), tt)

pub push_values-eval-requires : goal.push_values-eval-requires
push_values-eval-requires t c = (omega (arith, c.decreases, weight_below c.args.arguments.now c.loop-argument.argument-index c.argument-item.result c.loop-argument-test.true c.argument-item.is), tt)

pub eval_chain-eval_operand-requires-in-loop-step : goal.eval_chain-eval_operand-requires-in-loop-step
eval_chain-eval_operand-requires-in-loop-step t c = (omega (arith, c.decreases, step_weight_below c.args.steps.now c.loop-step.step-index c.step-item.result c.loop-step-test.true c.step-item.is), tt)

pub eval_call-eval-requires : goal.eval_call-eval-requires
eval_call-eval-requires t c = (omega (arith, c.decreases, ap weight c.index-frame-function.is, weights_before c.args.frame.now.codes.now c.args.function c.index-frame-function.result (omega (arith, c.if-function-frame.false)) c.index-frame-function.is), tt)

pub eval-returns-in-Call : goal.eval-returns-in-Call
eval-returns-in-Call t c =
    let frame = c.args.frame.now in
    c.eval_call.ensures
    ∙ ap (λ xs. call (functions_of frame.codes.now) c.in-Call.function (map (given frame) xs)) c.as_slice.ensures
    ∙ sym (ap (given frame) c.in-Call.is ∙ gives-Call (sight_of frame) c.in-Call.function c.in-Call.arguments)

pub eval_call-returns-then-function-frame : goal.eval_call-returns-then-function-frame
eval_call-returns-then-function-frame t c =
    let frame = c.args.frame.now in
    let xs = map (given frame) c.args.arguments.now in
    let functions = functions_of frame.codes.now in
    let n = c.args.function in
    sym (elim c.then-function-frame.either [
      | inl past ↦ not_called xs (slice_get functions n) (inl (no_function frame.codes.now n past))
      | inr many ↦ not_called xs (slice_get functions n) (inr (omega (arith, many, length-map c.args.arguments.now (given frame))))
    ])

pub eval_call-returns-in_err-push_values : goal.eval_call-returns-in_err-push_values
eval_call-returns-in_err-push_values t c =
    let frame = c.args.frame.now in
    let xs = map (given frame) c.args.arguments.now in
    let codes = frame.codes.now in
    let n = c.args.function in
    elim (slice_get_cases codes n).1 [
      | inl at ↦
          (let threw = call_threw xs (slice_get (functions_of codes) n) (given_by (functions_of (take n codes)) (get_or codes n at.0)) c.in_err-push_values.field-0.0
          (function_at codes n at.0 at.1)
          (omega (arith, c.if-arguments-gt8.false, length-map c.args.arguments.now (given frame)))
          c.in_err-push_values.ensures in
          search rules)
      | inr past ↦ absurd (omega (arith, past.0, c.if-function-frame.false))
    ]

pub eval_call-returns : goal.eval_call-returns
eval_call-returns t c =
    let frame = c.args.frame.now in
    let xs = map (given frame) c.args.arguments.now in
    let codes = frame.codes.now in
    let n = c.args.function in
    let code = get_or codes n c.index-frame-function.result in
    let earlier = functions_of (take n codes) in
    c.eval.ensures
    ∙ ap (λ values. gives (body_sight earlier values) code) c.as_slice.ensures.value
    ∙ sym (called xs (slice_get (functions_of codes) n) (given_by earlier code) c.push_values.new.values.items
    (function_at codes n c.index-frame-function.result (omega (arith, c.if-function-frame.false)))
    (omega (arith, c.if-arguments-gt8.false, length-map c.args.arguments.now (given frame)))
    c.in_ok-push_values.ensures)

pub eval_chain-returns-in_err-operand : goal.eval_chain-returns-in_err-operand
eval_chain-returns-in_err-operand t c =
    let frame = c.args.frame.now in
    let e = c.in_err-operand.field-0.0 in
    let item = c.step-item.result in
    let at = c.loop-step.step-index in
    let rest = map (operation frame) (drop (at + 1) c.args.steps.now) in
    let threw : from_left (given frame c.args.first.now) (map (operation frame) c.args.steps.now) ≡ Err e =
    c.loop-step.invariant
    ∙ next_of (from_left (Ok c.loop-step.value)) (operation frame) c.args.steps.now at item (item.op, Err e) c.loop-step-test.true c.step-item.is
    (λ i. (item.op, (sym c.in_err-operand.was ∙ c.eval_operand-in-loop-step.ensures) i))
    ∙ from_left_threw e rest in
    search rules

pub eval_chain-returns-in_err-value-2 : goal.eval_chain-returns-in_err-value-2
eval_chain-returns-in_err-value-2 t c =
    let frame = c.args.frame.now in
    let e = c.in_err-value-2.field-0.0 in
    let item = c.step-item.result in
    let at = c.loop-step.step-index in
    let rest = map (operation frame) (drop (at + 1) c.args.steps.now) in
    let threw : from_left (given frame c.args.first.now) (map (operation frame) c.args.steps.now) ≡ Err e =
    c.loop-step.invariant
    ∙ next_of (from_left (Ok c.loop-step.value)) (operation frame) c.args.steps.now at item (item.op, Ok c.in_ok-operand.operand) c.loop-step-test.true c.step-item.is
    (λ i. (item.op, (sym c.in_ok-operand.was ∙ c.eval_operand-in-loop-step.ensures) i))
    ∙ ap (λ o. from_left o rest) (sym c.operated.ensures ∙ c.in_err-value-2.was)
    ∙ from_left_threw e rest in
    search rules
