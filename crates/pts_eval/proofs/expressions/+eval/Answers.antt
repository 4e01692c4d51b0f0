use Rattle.std.proofs.Common.{rules, ◌≡◌, ℕ, ◌+◌, ◌<◌, false, Ok, Err, List, [], ◌∷◌, ◌++◌, length, drop, map, sum, sym, ap, ◌∙◌, append-nil, arith}
use Rattle.std.proofs.Math.Nat.{min-le_left, min-le_right}
use Rattle.pts_tree.specs.declared.expr.ChainPart.{ChainPart}
use Rattle.pts_tree.specs.declared.expr.Expr.{Expr}
use Rattle.pts_tree.specs.declared.script.Param.{Param}
use Rattle.pts_code.specs.Outcomes.{Outcome, Operation, and_then, in_order, all_of, any_of, from_left, operate}
use Rattle.pts_code.specs.Values.{numbers, operations, truths}
use Rattle.pts_code.proofs.Chains.{from_left_threw}
use Rattle.pts_code.proofs.ExprWeights as weigh
use Rattle.pts_code.proofs.ExprWeights.{weight, weights, part_weights}
use Rattle.pts_code.proofs.NumberForms as number
use Rattle.pts_code.proofs.Sums.{before_all, before_one}
use Rattle.pts_eval.specs.Expressions.{given, part_of, valued}
use Rattle.pts_eval.proofs.Lists as list
use Rattle.pts_eval.proofs.expressions.«+eval».Goals as goal

-- the numbers of a list of expressions, and of a chain's operands
abbrev all_numbers : List Expr → ℕ
all_numbers xs = sum (map (numbers false) xs)

abbrev part_numbers : List ChainPart → ℕ
part_numbers xs = sum (map (λ (part : ChainPart). numbers false part.operand) xs)

-- ---- truths

pub eval_all-eval-requires : goal.eval_all-eval-requires
eval_all-eval-requires t c =
    let xs = c.args.members.now in
    let at = c.loop-member.member-index in
    omega (
      arith,
      c.decreases,
      c.requires,
      c.loop-member.invariant.next,
      before_all (numbers false) xs at c.member-item.result c.loop-member-test.true c.member-item.is,
      weigh.weight_below xs at c.member-item.result c.loop-member-test.true c.member-item.is,
    )

pub eval_all-overflow_add-next : goal.eval_all-overflow_add-next
eval_all-overflow_add-next t c =
    omega (arith, c.requires, c.loop-member.invariant.next, c.numbers_in.ensures, before_all (numbers false) c.args.members.now c.loop-member.member-index c.member-item.result c.loop-member-test.true c.member-item.is)

pub eval_all-loop-member-preserved : goal.eval_all-loop-member-preserved
eval_all-loop-member-preserved t c =
    let names = c.args.names.now in
    let xs = c.args.members.now in
    let at = c.loop-member.member-index in
    let x = c.member-item.result in
    let all = before_all (numbers false) xs at x c.loop-member-test.true c.member-item.is in
    let past : c.loop-member.next + c.numbers_in.result ≡ c.loop-member.next + numbers false x = omega (arith, c.requires, c.loop-member.invariant.next, c.numbers_in.ensures, all) in
    record {
      value =
          c.loop-member.invariant.value
          ∙ list.all_true names xs at c.loop-member.next x c.loop-member-test.true c.member-item.is c.in_ok-eval.field-0 (sym c.eval.ensures ∙ c.in_ok-eval.was) (sym c.is_true.ensures ∙ c.if-not-is_true.false)
          ∙ ap (λ n. all_of (truths (map (valued names) (drop (at + 1) xs)) n)) (sym past);
      next =
          omega (arith, c.requires, c.loop-member.invariant.next, c.numbers_in.ensures, all, before_one (numbers false) xs at x c.loop-member-test.true c.member-item.is);
    }

pub eval_any-eval-requires : goal.eval_any-eval-requires
eval_any-eval-requires t c =
    let xs = c.args.members.now in
    let at = c.loop-member.member-index in
    omega (
      arith,
      c.decreases,
      c.requires,
      c.loop-member.invariant.next,
      before_all (numbers false) xs at c.member-item.result c.loop-member-test.true c.member-item.is,
      weigh.weight_below xs at c.member-item.result c.loop-member-test.true c.member-item.is,
    )

pub eval_any-overflow_add-next : goal.eval_any-overflow_add-next
eval_any-overflow_add-next t c =
    omega (arith, c.requires, c.loop-member.invariant.next, c.numbers_in.ensures, before_all (numbers false) c.args.members.now c.loop-member.member-index c.member-item.result c.loop-member-test.true c.member-item.is)

pub eval_any-loop-member-preserved : goal.eval_any-loop-member-preserved
eval_any-loop-member-preserved t c =
    let names = c.args.names.now in
    let xs = c.args.members.now in
    let at = c.loop-member.member-index in
    let x = c.member-item.result in
    let all = before_all (numbers false) xs at x c.loop-member-test.true c.member-item.is in
    let past : c.loop-member.next + c.numbers_in.result ≡ c.loop-member.next + numbers false x = omega (arith, c.requires, c.loop-member.invariant.next, c.numbers_in.ensures, all) in
    record {
      value =
          c.loop-member.invariant.value
          ∙ list.any_false names xs at c.loop-member.next x c.loop-member-test.true c.member-item.is c.in_ok-eval.field-0 (sym c.eval.ensures ∙ c.in_ok-eval.was) (sym c.is_true.ensures ∙ c.if-is_true.false)
          ∙ ap (λ n. any_of (truths (map (valued names) (drop (at + 1) xs)) n)) (sym past);
      next =
          omega (arith, c.requires, c.loop-member.invariant.next, c.numbers_in.ensures, all, before_one (numbers false) xs at x c.loop-member-test.true c.member-item.is);
    }

-- ---- chains

pub eval_chain-eval-requires-in-loop-part : goal.eval_chain-eval-requires-in-loop-part
eval_chain-eval-requires-in-loop-part t c =
    let parts = c.args.parts.now in
    let at = c.loop-part.part-index in
    omega (
      arith,
      c.decreases,
      c.requires,
      c.loop-part.invariant.next,
      before_all (λ (part : ChainPart). numbers false part.operand) parts at c.part-item.result c.loop-part-test.true c.part-item.is,
      weigh.part_weight_below parts at c.part-item.result c.loop-part-test.true c.part-item.is,
    )

pub eval_chain-overflow_add-next-in-loop-part : goal.eval_chain-overflow_add-next-in-loop-part
eval_chain-overflow_add-next-in-loop-part t c =
    omega (
      arith,
      c.requires,
      c.loop-part.invariant.next,
      c.numbers_in-next.ensures,
      before_all (λ (part : ChainPart). numbers false part.operand) c.args.parts.now c.loop-part.part-index c.part-item.result c.loop-part-test.true c.part-item.is,
    )

pub eval_chain-returns-in_err-value : goal.eval_chain-returns-in_err-value
eval_chain-returns-in_err-value t c =
    let threw : from_left (given c.args.names.now c.args.kind c.args.first c.args.operand.now) (operations c.args.kind (map (part_of c.args.names.now) c.args.parts.now) (c.args.first + numbers false c.args.operand.now)) ≡ Err c.in_err-value.field-0.0 =
    ap (λ o. from_left o (operations c.args.kind (map (part_of c.args.names.now) c.args.parts.now) (c.args.first + numbers false c.args.operand.now))) (sym c.eval.ensures ∙ c.in_err-value.was)
    ∙ from_left_threw c.in_err-value.field-0.0 (operations c.args.kind (map (part_of c.args.names.now) c.args.parts.now) (c.args.first + numbers false c.args.operand.now)) in
    search rules

pub eval_chain-returns-in_err-right : goal.eval_chain-returns-in_err-right
eval_chain-returns-in_err-right t c =
    let names = c.args.names.now in
    let kind = c.args.kind in
    let parts = c.args.parts.now in
    let at = c.loop-part.part-index in
    let part = c.part-item.result in
    let e = c.in_err-right.field-0.0 in
    let rest = operations kind (map (part_of names) (drop (at + 1) parts)) (c.loop-part.next + numbers false part.operand) in
    let threw : from_left (given names kind c.args.first c.args.operand.now) (operations kind (map (part_of names) parts) (c.args.first + numbers false c.args.operand.now)) ≡ Err e =
    c.loop-part.invariant.value
    ∙ list.part_next names kind (Ok c.loop-part.value) parts at c.loop-part.next part c.loop-part-test.true c.part-item.is
    ∙ ap (λ o. from_left (operate (Ok c.loop-part.value) (part.op, o)) rest) (sym c.eval-in-loop-part.ensures ∙ c.in_err-right.was)
    ∙ from_left_threw e rest in
    search rules

pub eval_chain-returns-in_err-value-2 : goal.eval_chain-returns-in_err-value-2
eval_chain-returns-in_err-value-2 t c =
    let names = c.args.names.now in
    let kind = c.args.kind in
    let parts = c.args.parts.now in
    let at = c.loop-part.part-index in
    let part = c.part-item.result in
    let e = c.in_err-value-2.field-0.0 in
    let rest = operations kind (map (part_of names) (drop (at + 1) parts)) (c.loop-part.next + numbers false part.operand) in
    let threw : from_left (given names kind c.args.first c.args.operand.now) (operations kind (map (part_of names) parts) (c.args.first + numbers false c.args.operand.now)) ≡ Err e =
    c.loop-part.invariant.value
    ∙ list.part_next names kind (Ok c.loop-part.value) parts at c.loop-part.next part c.loop-part-test.true c.part-item.is
    ∙ ap (λ o. from_left (operate (Ok c.loop-part.value) (part.op, o)) rest) (sym c.eval-in-loop-part.ensures ∙ c.in_ok-right.was)
    ∙ ap (λ o. from_left o rest) (sym c.operated.ensures ∙ c.in_err-value-2.was)
    ∙ from_left_threw e rest in
    search rules

pub eval_chain-loop-part-preserved : goal.eval_chain-loop-part-preserved
eval_chain-loop-part-preserved t c =
    let names = c.args.names.now in
    let kind = c.args.kind in
    let parts = c.args.parts.now in
    let at = c.loop-part.part-index in
    let part = c.part-item.result in
    let own : ChainPart → ℕ = λ y. numbers false y.operand in
    let rest : ℕ → List Operation = λ n. operations kind (map (part_of names) (drop (at + 1) parts)) n in
    let all = before_all own parts at part c.loop-part-test.true c.part-item.is in
    let past : c.loop-part.next + numbers false part.operand ≡ c.loop-part.next + c.numbers_in-next.result = omega (arith, c.requires, c.loop-part.invariant.next, c.numbers_in-next.ensures, all) in
    record {
      value =
          c.loop-part.invariant.value
          ∙ list.part_next names kind (Ok c.loop-part.value) parts at c.loop-part.next part c.loop-part-test.true c.part-item.is
          ∙ ap (λ o. from_left (operate (Ok c.loop-part.value) (part.op, o)) (rest (c.loop-part.next + numbers false part.operand))) (sym c.eval-in-loop-part.ensures ∙ c.in_ok-right.was)
          ∙ ap (λ o. from_left o (rest (c.loop-part.next + numbers false part.operand))) (sym c.operated.ensures ∙ c.in_ok-value-2.was)
          ∙ ap (λ n. from_left (Ok c.in_ok-value-2.value) (rest n)) past;
      next =
          omega (arith, c.requires, c.loop-part.invariant.next, c.numbers_in-next.ensures, all, before_one own parts at part c.loop-part-test.true c.part-item.is);
    }

-- ---- arguments

pub push_arguments-eval-requires : goal.push_arguments-eval-requires
push_arguments-eval-requires t c =
    let xs = c.args.arguments.now in
    let at = c.loop-at.at in
    let within : at < length xs = omega (arith, c.loop-at-test.true, c.min-at-end.ensures, min-le_right (length c.args.params.now) (length xs)) in
    omega (
      arith,
      c.decreases,
      c.requires.read,
      c.loop-at.invariant.next,
      before_all (numbers false) xs at c.index-arguments-at.result within c.index-arguments-at.is,
      weigh.weight_below xs at c.index-arguments-at.result within c.index-arguments-at.is,
    )

pub push_arguments-overflow_add-next : goal.push_arguments-overflow_add-next
push_arguments-overflow_add-next t c =
    let xs = c.args.arguments.now in
    let at = c.loop-at.at in
    let within : at < length xs = omega (arith, c.loop-at-test.true, c.min-at-end.ensures, min-le_right (length c.args.params.now) (length xs)) in
    omega (arith, c.requires.read, c.loop-at.invariant.next, c.numbers_in.ensures, before_all (numbers false) xs at c.index-arguments-at.result within c.index-arguments-at.is)

pub push_arguments-loop-at-preserved : goal.push_arguments-loop-at-preserved
push_arguments-loop-at-preserved t c =
    let names = c.args.names.now in
    let params = c.args.params.now in
    let xs = c.args.arguments.now in
    let at = c.loop-at.at in
    let x = c.index-arguments-at.result in
    let value = c.in_ok-eval.field-0 in
    let items = c.loop-at.values.items in
    let known : at < length params = omega (arith, c.loop-at-test.true, c.min-at-end.ensures, min-le_left (length params) (length xs)) in
    let within : at < length xs = omega (arith, c.loop-at-test.true, c.min-at-end.ensures, min-le_right (length params) (length xs)) in
    let all = before_all (numbers false) xs at x within c.index-arguments-at.is in
    let past : c.loop-at.next + numbers false x ≡ c.loop-at.next + c.numbers_in.result = omega (arith, c.requires.read, c.loop-at.invariant.next, c.numbers_in.ensures, all) in
    let gave : given names c.index-params-at.result.kind c.loop-at.next x ≡ Ok value =
    ap (λ (p : Param). given names p.kind c.loop-at.next x) c.index-params-at.is ∙ sym c.in_ok-eval.ensures in
    let rest : ℕ → List Outcome = λ n. list.arguments_from names params xs (at + 1) n in
    record {
      value =
          c.loop-at.invariant.value
          ∙ ap (λ os. and_then (in_order os) (λ ys. Ok (items ++ ys))) (list.argument_next names params xs at c.loop-at.next c.index-params-at.result x known c.index-params-at.is within c.index-arguments-at.is)
          ∙ ap (λ o. and_then (in_order (o ∷ rest (c.loop-at.next + numbers false x))) (λ ys. Ok (items ++ ys))) gave
          ∙ list.pushed (in_order (rest (c.loop-at.next + numbers false x))) items value
          ∙ ap (λ n. and_then (in_order (rest n)) (λ ys. Ok ((items ++ value ∷ []) ++ ys))) past
          ∙ ap (λ zs. and_then (in_order (rest (c.loop-at.next + c.numbers_in.result))) (λ ys. Ok (zs ++ ys))) (sym c.push.ensures.items);
      next = omega (arith, c.requires.read, c.loop-at.invariant.next, c.numbers_in.ensures, all, before_one (numbers false) xs at x within c.index-arguments-at.is);
      room = omega (arith, c.push.ensures.len, c.loop-at.invariant.room);
    }

pub push_arguments-returns : goal.push_arguments-returns
push_arguments-returns t c =
    let names = c.args.names.now in
    c.loop-at.invariant.value
    ∙ ap (λ os. and_then (in_order os) (λ ys. Ok (c.loop-at.values.items ++ ys))) (list.arguments_end names c.args.params.now c.args.arguments.now c.loop-at.at c.loop-at.next (omega (arith, c.loop-at-test.false, c.min-at-end.ensures)))
    ∙ ap Ok (append-nil c.loop-at.values.items)

-- ---- expressions

pub eval-eval_call-requires : goal.eval-eval_call-requires
eval-eval_call-requires t c =
    omega (
      arith,
      c.decreases,
      c.requires,
      ap weight c.in-Call.is,
      weigh.weight-Call c.in-Call.name c.in-Call.arguments,
      ap weights c.as_slice.ensures,
      ap (numbers false) c.in-Call.is,
      number.numbers-Call false c.in-Call.name c.in-Call.arguments,
      ap all_numbers c.as_slice.ensures,
    )

pub eval-eval_convert-requires : goal.eval-eval_convert-requires
eval-eval_convert-requires t c =
    omega (
      arith,
      c.decreases,
      c.requires,
      ap weight c.in-Convert.is,
      weigh.weight-Convert c.in-Convert.to c.in-Convert.operand,
      ap weight c.get.ensures,
      ap (numbers false) c.in-Convert.is,
      number.numbers-Convert false c.in-Convert.to c.in-Convert.operand,
      ap (numbers false) c.get.ensures,
    )

pub eval-eval-requires : goal.eval-eval-requires
eval-eval-requires t c =
    omega (
      arith,
      c.decreases,
      c.requires,
      ap weight c.in-Paren.is,
      weigh.weight-Paren c.in-Paren.inner,
      ap weight c.get-in-Paren.ensures,
      ap (numbers false) c.in-Paren.is,
      number.numbers-Paren false c.in-Paren.inner,
      ap (numbers false) c.get-in-Paren.ensures,
    )

pub eval-eval_minus-requires : goal.eval-eval_minus-requires
eval-eval_minus-requires t c =
    omega (
      arith,
      c.decreases,
      c.requires,
      ap weight c.in-Minus.is,
      weigh.weight-Minus c.in-Minus.operand,
      ap weight c.get-in-Minus.ensures,
      ap (numbers false) c.in-Minus.is,
      number.numbers-Minus false c.in-Minus.operand,
      ap (numbers false) c.get-in-Minus.ensures,
    )

pub eval-eval_not-requires : goal.eval-eval_not-requires
eval-eval_not-requires t c =
    omega (
      arith,
      c.decreases,
      c.requires,
      ap weight c.in-Not.is,
      weigh.weight-Not c.in-Not.operand,
      ap weight c.get-in-Not.ensures,
      ap (numbers false) c.in-Not.is,
      number.numbers-Not false c.in-Not.operand,
      ap (numbers false) c.get-in-Not.ensures,
    )

pub eval-eval_chain-requires : goal.eval-eval_chain-requires
eval-eval_chain-requires t c =
    omega (
      arith,
      c.decreases,
      c.requires,
      ap weight c.in-Chain.is,
      weigh.weight-Chain c.in-Chain.start c.in-Chain.parts,
      ap weight c.get-in-Chain.ensures,
      ap part_weights c.as_slice-in-Chain.ensures,
      ap (numbers false) c.in-Chain.is,
      number.numbers-Chain false c.in-Chain.start c.in-Chain.parts,
      ap (numbers false) c.get-in-Chain.ensures,
      ap part_numbers c.as_slice-in-Chain.ensures,
    )

pub eval-eval_compare-requires : goal.eval-eval_compare-requires
eval-eval_compare-requires t c =
    omega (
      arith,
      c.decreases,
      c.requires,
      ap weight c.in-Compare.is,
      weigh.weight-Compare c.in-Compare.op c.in-Compare.left c.in-Compare.right,
      ap weight c.get-in-Compare.ensures,
      ap weight c.get-in-Compare-2.ensures,
      ap (numbers false) c.in-Compare.is,
      number.numbers-Compare false c.in-Compare.op c.in-Compare.left c.in-Compare.right,
      ap (numbers false) c.get-in-Compare.ensures,
      ap (numbers false) c.get-in-Compare-2.ensures,
    )

pub eval-eval_all-requires : goal.eval-eval_all-requires
eval-eval_all-requires t c =
    omega (
      arith,
      c.decreases,
      c.requires,
      ap weight c.in-All.is,
      weigh.weight-All c.in-All.members,
      ap weights c.as_slice-in-All.ensures,
      ap (numbers false) c.in-All.is,
      number.numbers-All false c.in-All.members,
      ap all_numbers c.as_slice-in-All.ensures,
    )

pub eval-eval_any-requires : goal.eval-eval_any-requires
eval-eval_any-requires t c =
    omega (
      arith,
      c.decreases,
      c.requires,
      ap weight c.in-Any.is,
      weigh.weight-Any c.in-Any.members,
      ap weights c.as_slice-in-Any.ensures,
      ap (numbers false) c.in-Any.is,
      number.numbers-Any false c.in-Any.members,
      ap all_numbers c.as_slice-in-Any.ensures,
    )

pub eval-eval_if-requires : goal.eval-eval_if-requires
eval-eval_if-requires t c =
    omega (
      arith,
      c.decreases,
      c.requires,
      ap weight c.in-If.is,
      weigh.weight-If c.in-If.test c.in-If.then c.in-If.other,
      ap weight c.get-in-If.ensures,
      ap weight c.get-in-If-2.ensures,
      ap weight c.get-in-If-3.ensures,
      ap (numbers false) c.in-If.is,
      number.numbers-If false c.in-If.test c.in-If.then c.in-If.other,
      ap (numbers false) c.get-in-If.ensures,
      ap (numbers false) c.get-in-If-2.ensures,
      ap (numbers false) c.get-in-If-3.ensures,
    )
