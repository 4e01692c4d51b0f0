use Rattle.std.proofs.Common.{◌≡◌, ℕ, inl, inr, ◌+◌, ◌<◌, true, false, length, take, map, sum, Some, List, ◌∷◌, [], ◌++◌, neg_ℤ, sym, ap, ◌∙◌, subst, arith}
use Rattle.std.proofs.Math.Nat.{min-le_left, min-le_right}
use Rattle.std.specs.Prelude.{unwrap_or}
use Rattle.std.specs.Option.{option_or, option_copied}
use Rattle.pts_types.specs.declared.value.Kind.{Kind}
use Rattle.pts_types.specs.declared.value.Kind.TheVariants as kinds
use Rattle.pts_types.specs.declared.value.Value.TheVariants as values
use Rattle.pts_tree.specs.declared.expr.ChainPart.{ChainPart}
use Rattle.pts_tree.specs.declared.expr.Expr.{Expr}
use Rattle.pts_tree.specs.declared.expr.Expr.TheVariants as e
use Rattle.pts_rules.specs.Known.{function_of}
use Rattle.pts_rules.specs.Kinds.{typing}
use Rattle.pts_code.specs.declared.code.Code.TheVariants as codes
use Rattle.pts_code.specs.Compiling.{IsCode, AreArguments, AreTruths, AreSteps}
use Rattle.pts_code.specs.Values.{number_value, numbers}
use Rattle.pts_code.proofs.Chains.{IsChained}
use Rattle.pts_code.proofs.ExprWeights as weigh
use Rattle.pts_code.proofs.ExprWeights.{weight, weights, part_weights}
use Rattle.pts_code.proofs.Forms as form
use Rattle.pts_code.proofs.Lists as list
use Rattle.pts_code.proofs.NumberForms as number
use Rattle.pts_code.proofs.Small.{read_back}
use Rattle.pts_code.proofs.Sums.{before_all, before_one}
use Rattle.pts_code.proofs.compiling.«+compile».Goals as goal

-- the numbers of a list of expressions, and of a chain's operands
abbrev all_numbers : List Expr → ℕ
all_numbers xs = sum (map (numbers true) xs)

abbrev part_numbers : List ChainPart → ℕ
part_numbers xs = sum (map (λ (part : ChainPart). numbers true part.operand) xs)

-- ---- arguments

pub compile_arguments-bounds-kinds-at : goal.compile_arguments-bounds-kinds-at
compile_arguments-bounds-kinds-at t c = omega (arith, c.loop-at-test.true, c.min-at-end.ensures, min-le_left (length c.args.kinds.now) (length c.args.arguments.now))

pub compile_arguments-bounds-arguments-at : goal.compile_arguments-bounds-arguments-at
compile_arguments-bounds-arguments-at t c = omega (arith, c.loop-at-test.true, c.min-at-end.ensures, min-le_right (length c.args.kinds.now) (length c.args.arguments.now))

pub compile_arguments-compile-requires : goal.compile_arguments-compile-requires
compile_arguments-compile-requires t c =
    let xs = c.args.arguments.now in
    let at = c.loop-at.at in
    let within : at < length xs = omega (arith, c.loop-at-test.true, c.min-at-end.ensures, min-le_right (length c.args.kinds.now) (length xs)) in
    omega (arith, c.decreases, c.requires, c.loop-at.invariant.next, before_all (numbers true) xs at c.index-arguments-at.result within c.index-arguments-at.is, weigh.weight_below xs at c.index-arguments-at.result within c.index-arguments-at.is)

pub compile_arguments-overflow_add-next : goal.compile_arguments-overflow_add-next
compile_arguments-overflow_add-next t c =
    let xs = c.args.arguments.now in
    let at = c.loop-at.at in
    let within : at < length xs = omega (arith, c.loop-at-test.true, c.min-at-end.ensures, min-le_right (length c.args.kinds.now) (length xs)) in
    omega (arith, c.requires, c.loop-at.invariant.next, c.numbers_in.ensures, before_all (numbers true) xs at c.index-arguments-at.result within c.index-arguments-at.is)

pub compile_arguments-loop-at-preserved : goal.compile_arguments-loop-at-preserved
compile_arguments-loop-at-preserved t c =
    let ks = c.args.kinds.now in
    let xs = c.args.arguments.now in
    let at = c.loop-at.at in
    let item = c.index-arguments-at.result in
    let known : at < length ks = omega (arith, c.loop-at-test.true, c.min-at-end.ensures, min-le_left (length ks) (length xs)) in
    let within : at < length xs = omega (arith, c.loop-at-test.true, c.min-at-end.ensures, min-le_right (length ks) (length xs)) in
    record {
      codes =
          subst (AreArguments c.args.names.now.scope.now c.args.names.now.spots.now (take (at + 1) ks) c.args.first (take (at + 1) xs)) (sym c.in_ok-push.ensures.ok)
          (list.arguments_one c.args.names.now.scope.now c.args.names.now.spots.now c.args.first ks xs c.loop-at.codes at kinds.I64 item c.in_ok-compile.field-0 c.loop-at.next c.loop-at.invariant.codes known within c.index-arguments-at.is
          c.loop-at.invariant.next c.in_ok-compile.ensures);
      next =
          omega (
            arith,
            c.requires,
            c.loop-at.invariant.next,
            c.numbers_in.ensures,
            before_all (numbers true) xs at item within c.index-arguments-at.is,
            before_one (numbers true) xs at item within c.index-arguments-at.is,
          );
    }

pub compile_arguments-returns : goal.compile_arguments-returns
compile_arguments-returns t c =
    list.arguments_all c.args.names.now.scope.now c.args.names.now.spots.now c.args.first c.args.kinds.now c.args.arguments.now c.loop-at.codes c.loop-at.at c.loop-at.invariant.codes
    (omega (arith, c.loop-at-test.false, c.min-at-end.ensures))

-- ---- calls

pub compile_call-returns-in_default : goal.compile_call-returns-in_default
compile_call-returns-in_default t c =
    λ kind.
    subst (IsCode c.args.names.now.scope.now c.args.names.now.spots.now kind c.args.first (e.Call c.args.name.now c.args.arguments.now)) (sym c.no_code.ensures)
    (form.is-lost c.args.names.now.scope.now c.args.names.now.spots.now kind c.args.first c.args.name.now c.args.arguments.now (inl (sym c.signature_of.ensures ∙ ap option_copied c.in_default.is)))

pub compile_call-returns-in_default-function_number : goal.compile_call-returns-in_default-function_number
compile_call-returns-in_default-function_number t c =
    λ kind.
    subst (IsCode c.args.names.now.scope.now c.args.names.now.spots.now kind c.args.first (e.Call c.args.name.now c.args.arguments.now)) (sym c.no_code-in_default-function_number.ensures)
    (form.is-lost c.args.names.now.scope.now c.args.names.now.spots.now kind c.args.first c.args.name.now c.args.arguments.now (inr (sym c.function_number.ensures ∙ c.in_default-function_number.is)))

pub compile_call-returns : goal.compile_call-returns
compile_call-returns t c =
    let known : function_of c.args.names.now.scope.now c.args.name.now ≡ Some c.in-Some.signature.now = sym c.signature_of.ensures ∙ ap option_copied c.in-Some.is in
    λ kind.
    form.is-Call c.args.names.now.scope.now c.args.names.now.spots.now kind c.args.first c.args.name.now c.args.arguments.now c.in-Some-function_number.number c.in-Some.signature.now c.in_ok-codes.codes
    (sym c.function_number.ensures ∙ c.in-Some-function_number.is)
    known
    (subst (λ ks. AreArguments c.args.names.now.scope.now c.args.names.now.spots.now ks c.args.first c.args.arguments.now c.in_ok-codes.codes) c.as_slice.ensures c.in_ok-codes.ensures)

-- ---- `-`

pub compile_minus-returns-in-Some : goal.compile_minus-returns-in-Some
compile_minus-returns-in-Some t c =
    let turned : c.opposite.result ≡ neg_ℤ c.in-Some.number = c.opposite.ensures.value ∙ ap neg_ℤ (read_back c.in-Some.number c.in-Some.ensures.small) in
    subst (λ v. IsCode c.args.names.now.scope.now c.args.names.now.spots.now c.args.kind c.args.first (e.Minus c.args.operand.now) (codes.Value v))
    (sym (c.number_value.ensures ∙ ap (number_value c.args.kind) (read_back c.opposite.result c.opposite.ensures.small ∙ turned)))
    (form.is-number-Minus c.args.names.now.scope.now c.args.names.now.spots.now c.args.kind c.args.first c.args.operand.now c.in-Some.number (sym c.literal.ensures.value ∙ c.in-Some.is))

pub compile_minus-returns-in_ok-compile_boxed-in-None : goal.compile_minus-returns-in_ok-compile_boxed-in-None
compile_minus-returns-in_ok-compile_boxed-in-None t c =
    form.is-Minus c.args.names.now.scope.now c.args.names.now.spots.now c.args.kind c.args.first c.args.operand.now c.in_ok-compile_boxed-in-None.field-0 (sym c.literal.ensures.value ∙ c.in-None.is)
    c.in_ok-compile_boxed-in-None.ensures

-- ---- chains and comparisons

pub compile_parts-compile-requires : goal.compile_parts-compile-requires
compile_parts-compile-requires t c =
    let parts = c.args.parts.now in
    let at = c.loop-part.part-index in
    omega (
      arith,
      c.decreases,
      c.requires,
      c.loop-part.invariant.next,
      before_all (λ (part : ChainPart). numbers true part.operand) parts at c.part-item.result c.loop-part-test.true c.part-item.is,
      weigh.part_weight_below parts at c.part-item.result c.loop-part-test.true c.part-item.is,
    )

pub compile_parts-overflow_add-next : goal.compile_parts-overflow_add-next
compile_parts-overflow_add-next t c =
    omega (
      arith,
      c.requires,
      c.loop-part.invariant.next,
      c.numbers_in-next.ensures,
      before_all (λ (part : ChainPart). numbers true part.operand) c.args.parts.now c.loop-part.part-index c.part-item.result c.loop-part-test.true c.part-item.is,
    )

pub compile_parts-loop-part-preserved : goal.compile_parts-loop-part-preserved
compile_parts-loop-part-preserved t c =
    let parts = c.args.parts.now in
    let at = c.loop-part.part-index in
    let own : ChainPart → ℕ = λ part. numbers true part.operand in
    record {
      steps =
          subst (AreSteps c.args.names.now.scope.now c.args.names.now.spots.now c.args.kind c.args.first (take (at + 1) parts)) (sym c.in_ok-push.ensures.ok)
          (list.steps_one c.args.names.now.scope.now c.args.names.now.spots.now c.args.first c.args.kind parts c.loop-part.steps at c.part-item.result c.in_ok-operand.operand c.loop-part.next c.loop-part.invariant.steps c.loop-part-test.true c.part-item.is
          c.loop-part.invariant.next c.in_ok-operand.ensures);
      next =
          omega (
            arith,
            c.requires,
            c.loop-part.invariant.next,
            c.numbers_in-next.ensures,
            before_all own parts at c.part-item.result c.loop-part-test.true c.part-item.is,
            before_one own parts at c.part-item.result c.loop-part-test.true c.part-item.is,
          );
    }

pub compile_parts-returns : goal.compile_parts-returns
compile_parts-returns t c =
    list.steps_all c.args.names.now.scope.now c.args.names.now.spots.now c.args.first c.args.kind c.args.parts.now c.loop-part.steps c.loop-part.part-index c.loop-part.invariant.steps (omega (arith, c.loop-part-test.false))

pub compile_compare-returns : goal.compile_compare-returns
compile_compare-returns t c =
    let sides = c.args.sides.now in
    let left = sides.left.now in
    let right = sides.right.now in
    let kind = form.sides c.args.names.now.scope.now c.args.names.now.spots.now kinds.U64 c.args.first left right in
    let is : c.unwrap_or-kind.result ≡ kind = c.unwrap_or-kind.ensures ∙ ap (λ o. unwrap_or o kinds.U64) (c.or.ensures ∙ (λ i. option_or (c.own_kind.ensures i) (c.own_kind-2.ensures i))) in
    let next : c.args.first + c.numbers_in.result ≡ c.args.first + numbers true left = omega (arith, c.requires, c.numbers_in.ensures) in
    let operand = c.in_ok-operand.operand in
    let pushed : c.push.new.self ≡ (record { op = sides.op; operand = operand }) ∷ [] = c.in_ok-push.ensures.ok ∙ ap (λ z. z ++ (record { op = sides.op; operand = operand }) ∷ []) c.new-steps.ensures in
    form.when_ok
    (IsChained c.in_ok-left.left c.push.new.self)
    (λ whole. (asked : Kind) → IsCode c.args.names.now.scope.now c.args.names.now.spots.now asked c.args.first (e.Compare sides.op left right) whole)
    c.chained.result
    (λ whole same asked.
    form.is-Compare c.args.names.now.scope.now c.args.names.now.spots.now asked c.args.first sides.op left right c.in_ok-left.left operand whole
    (subst (λ steps. IsChained c.in_ok-left.left steps whole) pushed same)
    (subst (λ k. IsCode c.args.names.now.scope.now c.args.names.now.spots.now k c.args.first left c.in_ok-left.left) is c.in_ok-left.ensures)
    (subst (λ (k : Kind × ℕ). IsCode c.args.names.now.scope.now c.args.names.now.spots.now k.0 k.1 right operand) (λ i. (is i, next i)) c.in_ok-operand.ensures))
    c.chained.ensures

-- ---- truths

pub compile_each-compile-requires : goal.compile_each-compile-requires
compile_each-compile-requires t c =
    let xs = c.args.exprs.now in
    let at = c.loop-expr.expr-index in
    omega (
      arith,
      c.decreases,
      c.requires,
      c.loop-expr.invariant.next,
      before_all (numbers true) xs at c.expr-item.result c.loop-expr-test.true c.expr-item.is,
      weigh.weight_below xs at c.expr-item.result c.loop-expr-test.true c.expr-item.is,
    )

pub compile_each-overflow_add-next : goal.compile_each-overflow_add-next
compile_each-overflow_add-next t c =
    omega (
      arith,
      c.requires,
      c.loop-expr.invariant.next,
      c.numbers_in.ensures,
      before_all (numbers true) c.args.exprs.now c.loop-expr.expr-index c.expr-item.result c.loop-expr-test.true c.expr-item.is,
    )

pub compile_each-loop-expr-preserved : goal.compile_each-loop-expr-preserved
compile_each-loop-expr-preserved t c =
    let xs = c.args.exprs.now in
    let at = c.loop-expr.expr-index in
    record {
      codes =
          subst (AreTruths c.args.names.now.scope.now c.args.names.now.spots.now c.args.first (take (at + 1) xs)) (sym c.in_ok-push.ensures.ok)
          (list.truths_one c.args.names.now.scope.now c.args.names.now.spots.now c.args.first xs c.loop-expr.codes at c.expr-item.result c.in_ok-compile.field-0 c.loop-expr.next c.loop-expr.invariant.codes c.loop-expr-test.true c.expr-item.is
          c.loop-expr.invariant.next c.in_ok-compile.ensures);
      next =
          omega (
            arith,
            c.requires,
            c.loop-expr.invariant.next,
            c.numbers_in.ensures,
            before_all (numbers true) xs at c.expr-item.result c.loop-expr-test.true c.expr-item.is,
            before_one (numbers true) xs at c.expr-item.result c.loop-expr-test.true c.expr-item.is,
          );
    }

pub compile_each-returns : goal.compile_each-returns
compile_each-returns t c =
    list.truths_all c.args.names.now.scope.now c.args.names.now.spots.now c.args.first c.args.exprs.now c.loop-expr.codes c.loop-expr.expr-index c.loop-expr.invariant.codes (omega (arith, c.loop-expr-test.false))

-- ---- choices

pub compile_if-returns : goal.compile_if-returns
compile_if-returns t c =
    let choice = c.args.choice.now in
    let test = choice.test.now in
    let first = choice.first.now in
    let second = choice.second.now in
    let kind = c.args.kind in
    let behind : c.args.first + c.numbers_in.result ≡ c.args.first + numbers true test = omega (arith, c.requires, c.numbers_in.ensures) in
    let last : c.args.first + c.numbers_in.result + c.numbers_in-2.result ≡ c.args.first + numbers true test + numbers true first = omega (arith, c.requires, c.numbers_in.ensures, c.numbers_in-2.ensures) in
    subst (IsCode c.args.names.now.scope.now c.args.names.now.spots.now kind c.args.first (e.If test first second))
    (λ i. codes.If (sym c.test.view_is i) c.in_ok-yes.yes c.in_ok-compile_boxed.field-0)
    (form.is-If c.args.names.now.scope.now c.args.names.now.spots.now kind c.args.first test first second c.in_ok-test.test c.in_ok-yes.yes c.in_ok-compile_boxed.field-0
    c.in_ok-test.ensures
    (subst (λ n. IsCode c.args.names.now.scope.now c.args.names.now.spots.now kind n first c.in_ok-yes.yes) behind c.in_ok-yes.ensures)
    (subst (λ n. IsCode c.args.names.now.scope.now c.args.names.now.spots.now kind n second c.in_ok-compile_boxed.field-0) last c.in_ok-compile_boxed.ensures))

-- ---- expressions

pub compile-compile_call-requires : goal.compile-compile_call-requires
compile-compile_call-requires t c =
    omega (
      arith,
      c.decreases,
      c.requires,
      ap weight c.in-Call.is,
      weigh.weight-Call c.in-Call.name c.in-Call.arguments,
      ap weights c.as_slice.ensures,
      ap (numbers true) c.in-Call.is,
      number.numbers-Call true c.in-Call.name c.in-Call.arguments,
      ap all_numbers c.as_slice.ensures,
    )

pub compile-compile_element-requires : goal.compile-compile_element-requires
compile-compile_element-requires t c =
    omega (arith, c.requires, ap (numbers true) c.in-Element.is, number.numbers-Element true c.in-Element.name c.in-Element.index, ap (numbers true) c.get.ensures)

pub compile-compile_boxed-requires : goal.compile-compile_boxed-requires
compile-compile_boxed-requires t c =
    omega (
      arith,
      c.decreases,
      c.requires,
      ap weight c.in-Convert.is,
      weigh.weight-Convert c.in-Convert.to c.in-Convert.operand,
      ap weight c.get-in-Convert-2.ensures,
      ap (numbers true) c.in-Convert.is,
      number.numbers-Convert true c.in-Convert.to c.in-Convert.operand,
      ap (numbers true) c.get-in-Convert-2.ensures,
    )

pub compile-compile-requires : goal.compile-compile-requires
compile-compile-requires t c =
    omega (
      arith,
      c.decreases,
      c.requires,
      ap weight c.in-Paren.is,
      weigh.weight-Paren c.in-Paren.inner,
      ap weight c.get-in-Paren.ensures,
      ap (numbers true) c.in-Paren.is,
      number.numbers-Paren true c.in-Paren.inner,
      ap (numbers true) c.get-in-Paren.ensures,
    )

pub compile-compile_minus-requires : goal.compile-compile_minus-requires
compile-compile_minus-requires t c =
    omega (
      arith,
      c.decreases,
      c.requires,
      ap weight c.in-Minus.is,
      weigh.weight-Minus c.in-Minus.operand,
      ap weight c.get-in-Minus.ensures,
      ap (numbers true) c.in-Minus.is,
      number.numbers-Minus true c.in-Minus.operand,
      ap (numbers true) c.get-in-Minus.ensures,
    )

pub compile-compile_boxed-requires-in-Not : goal.compile-compile_boxed-requires-in-Not
compile-compile_boxed-requires-in-Not t c =
    omega (
      arith,
      c.decreases,
      c.requires,
      ap weight c.in-Not.is,
      weigh.weight-Not c.in-Not.operand,
      ap weight c.get-in-Not.ensures,
      ap (numbers true) c.in-Not.is,
      number.numbers-Not true c.in-Not.operand,
      ap (numbers true) c.get-in-Not.ensures,
    )

pub compile-compile-requires-in-Chain : goal.compile-compile-requires-in-Chain
compile-compile-requires-in-Chain t c =
    omega (
      arith,
      c.decreases,
      c.requires,
      ap weight c.in-Chain.is,
      weigh.weight-Chain c.in-Chain.operand c.in-Chain.parts,
      ap weight c.get-in-Chain.ensures,
      ap (numbers true) c.in-Chain.is,
      number.numbers-Chain true c.in-Chain.operand c.in-Chain.parts,
      ap (numbers true) c.get-in-Chain.ensures,
    )

pub compile-overflow_add-next : goal.compile-overflow_add-next
compile-overflow_add-next t c =
    omega (arith, c.requires, c.numbers_in.ensures, ap (numbers true) c.in-Chain.is, number.numbers-Chain true c.in-Chain.operand c.in-Chain.parts, ap (numbers true) c.get-in-Chain-2.ensures)

pub compile-compile_parts-requires : goal.compile-compile_parts-requires
compile-compile_parts-requires t c =
    omega (
      arith,
      c.decreases,
      c.requires,
      c.numbers_in.ensures,
      ap weight c.in-Chain.is,
      weigh.weight-Chain c.in-Chain.operand c.in-Chain.parts,
      ap part_weights c.as_slice-in-Chain.ensures,
      ap (numbers true) c.in-Chain.is,
      number.numbers-Chain true c.in-Chain.operand c.in-Chain.parts,
      ap (numbers true) c.get-in-Chain-2.ensures,
      ap part_numbers c.as_slice-in-Chain.ensures,
    )

pub compile-compile_compare-requires : goal.compile-compile_compare-requires
compile-compile_compare-requires t c =
    omega (
      arith,
      c.decreases,
      c.requires,
      ap weight c.in-Compare.is,
      weigh.weight-Compare c.in-Compare.op c.in-Compare.left c.in-Compare.right,
      ap weight c.get-in-Compare.ensures,
      ap weight c.get-in-Compare-2.ensures,
      ap (numbers true) c.in-Compare.is,
      number.numbers-Compare true c.in-Compare.op c.in-Compare.left c.in-Compare.right,
      ap (numbers true) c.get-in-Compare.ensures,
      ap (numbers true) c.get-in-Compare-2.ensures,
    )

pub compile-compile_each-requires : goal.compile-compile_each-requires
compile-compile_each-requires t c =
    omega (
      arith,
      c.decreases,
      c.requires,
      ap weight c.in-All.is,
      weigh.weight-All c.in-All.exprs,
      ap weights c.as_slice-in-All.ensures,
      ap (numbers true) c.in-All.is,
      number.numbers-All true c.in-All.exprs,
      ap all_numbers c.as_slice-in-All.ensures,
    )

pub compile-compile_each-requires-in-Any : goal.compile-compile_each-requires-in-Any
compile-compile_each-requires-in-Any t c =
    omega (
      arith,
      c.decreases,
      c.requires,
      ap weight c.in-Any.is,
      weigh.weight-Any c.in-Any.exprs,
      ap weights c.as_slice-in-Any.ensures,
      ap (numbers true) c.in-Any.is,
      number.numbers-Any true c.in-Any.exprs,
      ap all_numbers c.as_slice-in-Any.ensures,
    )

pub compile-compile_if-requires : goal.compile-compile_if-requires
compile-compile_if-requires t c =
    omega (
      arith,
      c.decreases,
      c.requires,
      ap weight c.in-If.is,
      weigh.weight-If c.in-If.test c.in-If.then c.in-If.other,
      ap weight c.get-in-If.ensures,
      ap weight c.get-in-If-2.ensures,
      ap weight c.get-in-If-3.ensures,
      ap (numbers true) c.in-If.is,
      number.numbers-If true c.in-If.test c.in-If.then c.in-If.other,
      ap (numbers true) c.get-in-If.ensures,
      ap (numbers true) c.get-in-If-2.ensures,
      ap (numbers true) c.get-in-If-3.ensures,
    )

pub compile-returns-in-Number : goal.compile-returns-in-Number
compile-returns-in-Number t c =
    subst (λ x. IsCode c.args.names.now.scope.now c.args.names.now.spots.now c.args.kind c.args.first x (codes.Value c.literal_value.result)) (sym c.in-Number.is)
    (subst (λ v. IsCode c.args.names.now.scope.now c.args.names.now.spots.now c.args.kind c.args.first (e.Number c.in-Number.number) (codes.Value v)) (sym c.literal_value.ensures) (form.is-Number c.args.names.now.scope.now c.args.names.now.spots.now c.args.kind c.args.first c.in-Number.number))

pub compile-returns-in-True : goal.compile-returns-in-True
compile-returns-in-True t c =
    subst (λ x. IsCode c.args.names.now.scope.now c.args.names.now.spots.now c.args.kind c.args.first x (codes.Value (values.Bool true))) (sym c.in-True.is)
    (form.is-True c.args.names.now.scope.now c.args.names.now.spots.now c.args.kind c.args.first)

pub compile-returns-in-False : goal.compile-returns-in-False
compile-returns-in-False t c =
    subst (λ x. IsCode c.args.names.now.scope.now c.args.names.now.spots.now c.args.kind c.args.first x (codes.Value (values.Bool false))) (sym c.in-False.is)
    (form.is-False c.args.names.now.scope.now c.args.names.now.spots.now c.args.kind c.args.first)

pub compile-returns-in-Throw : goal.compile-returns-in-Throw
compile-returns-in-Throw t c =
    subst (λ x. IsCode c.args.names.now.scope.now c.args.names.now.spots.now c.args.kind c.args.first x (codes.Throw c.throw_code.result)) (sym c.in-Throw.is)
    (subst (λ n. IsCode c.args.names.now.scope.now c.args.names.now.spots.now c.args.kind c.args.first (e.Throw c.in-Throw.code) (codes.Throw n)) (sym c.throw_code.ensures) (form.is-Throw c.args.names.now.scope.now c.args.names.now.spots.now c.args.kind c.args.first c.in-Throw.code))

pub compile-returns-in-Paren : goal.compile-returns-in-Paren
compile-returns-in-Paren t c =
    form.when_ok (IsCode c.args.names.now.scope.now c.args.names.now.spots.now c.args.kind c.args.first c.get-in-Paren.result.now) (IsCode c.args.names.now.scope.now c.args.names.now.spots.now c.args.kind c.args.first c.args.expr.now) c.compile.result
    (λ code h. subst (λ x. IsCode c.args.names.now.scope.now c.args.names.now.spots.now c.args.kind c.args.first x code) (ap e.Paren c.get-in-Paren.ensures ∙ sym c.in-Paren.is) (form.is-Paren c.args.names.now.scope.now c.args.names.now.spots.now c.args.kind c.args.first c.get-in-Paren.result.now code h))
    c.compile.ensures

pub compile-returns-in_ok-compile_boxed-in-Convert : goal.compile-returns-in_ok-compile_boxed-in-Convert
compile-returns-in_ok-compile_boxed-in-Convert t c =
    let to = c.in-Convert.to in
    let operand = c.in-Convert.operand in
    let code = c.in_ok-compile_boxed-in-Convert.field-0 in
    let is : c.unwrap_or-from.result ≡ unwrap_or (typing false c.args.names.now.scope.now operand).own to =
    c.unwrap_or-from.ensures ∙ ap (λ o. unwrap_or o to) (c.own_kind.ensures ∙ ap (λ x. (typing false c.args.names.now.scope.now x).own) c.get-in-Convert.ensures) in
    subst (λ x. IsCode c.args.names.now.scope.now c.args.names.now.spots.now c.args.kind c.args.first x (codes.Convert to code)) (sym c.in-Convert.is)
    (form.is-Convert c.args.names.now.scope.now c.args.names.now.spots.now c.args.kind c.args.first to operand code (subst (λ (k : Kind × Expr). IsCode c.args.names.now.scope.now c.args.names.now.spots.now k.0 c.args.first k.1 code) (λ i. (is i, c.get-in-Convert-2.ensures i)) c.in_ok-compile_boxed-in-Convert.ensures))

pub compile-returns-in_ok-compile_boxed-in-Not : goal.compile-returns-in_ok-compile_boxed-in-Not
compile-returns-in_ok-compile_boxed-in-Not t c =
    let code = c.in_ok-compile_boxed-in-Not.field-0 in
    subst (λ x. IsCode c.args.names.now.scope.now c.args.names.now.spots.now c.args.kind c.args.first x (codes.Not code)) (sym c.in-Not.is)
    (form.is-Not c.args.names.now.scope.now c.args.names.now.spots.now c.args.kind c.args.first c.in-Not.operand code (subst (λ x. IsCode c.args.names.now.scope.now c.args.names.now.spots.now kinds.Bool c.args.first x code) c.get-in-Not.ensures c.in_ok-compile_boxed-in-Not.ensures))

pub compile-returns-in_ok-steps-in-Chain : goal.compile-returns-in_ok-steps-in-Chain
compile-returns-in_ok-steps-in-Chain t c =
    let operand = c.in-Chain.operand in
    let parts = c.in-Chain.parts in
    let code = c.in_ok-code-in-Chain.code in
    let steps = c.in_ok-steps-in-Chain.steps in
    let next : c.args.first + c.numbers_in.result ≡ c.args.first + numbers true operand =
    omega (arith, c.requires, c.numbers_in.ensures, ap (numbers true) c.in-Chain.is, number.numbers-Chain true operand parts, ap (numbers true) c.get-in-Chain-2.ensures) in
    form.when_ok
    (IsChained code steps)
    (IsCode c.args.names.now.scope.now c.args.names.now.spots.now c.args.kind c.args.first c.args.expr.now)
    c.chained.result
    (λ whole same.
    subst (λ x. IsCode c.args.names.now.scope.now c.args.names.now.spots.now c.args.kind c.args.first x whole) (sym c.in-Chain.is)
    (form.is-Chain c.args.names.now.scope.now c.args.names.now.spots.now c.args.kind c.args.first operand parts code steps whole same
    (subst (λ x. IsCode c.args.names.now.scope.now c.args.names.now.spots.now c.args.kind c.args.first x code) c.get-in-Chain.ensures c.in_ok-code-in-Chain.ensures)
    (subst (λ (y : ℕ × List ChainPart). AreSteps c.args.names.now.scope.now c.args.names.now.spots.now c.args.kind y.0 y.1 steps) (λ i. (next i, c.as_slice-in-Chain.ensures i)) c.in_ok-steps-in-Chain.ensures)))
    c.chained.ensures

pub compile-returns-in_ok-compile_each-in-All : goal.compile-returns-in_ok-compile_each-in-All
compile-returns-in_ok-compile_each-in-All t c =
    let code = c.in_ok-compile_each-in-All.field-0 in
    subst (λ x. IsCode c.args.names.now.scope.now c.args.names.now.spots.now c.args.kind c.args.first x (codes.All code)) (sym c.in-All.is)
    (form.is-All c.args.names.now.scope.now c.args.names.now.spots.now c.args.kind c.args.first c.in-All.exprs code (subst (λ xs. AreTruths c.args.names.now.scope.now c.args.names.now.spots.now c.args.first xs code) c.as_slice-in-All.ensures c.in_ok-compile_each-in-All.ensures))

pub compile-returns-in_ok-compile_each-in-Any : goal.compile-returns-in_ok-compile_each-in-Any
compile-returns-in_ok-compile_each-in-Any t c =
    let code = c.in_ok-compile_each-in-Any.field-0 in
    subst (λ x. IsCode c.args.names.now.scope.now c.args.names.now.spots.now c.args.kind c.args.first x (codes.Any code)) (sym c.in-Any.is)
    (form.is-Any c.args.names.now.scope.now c.args.names.now.spots.now c.args.kind c.args.first c.in-Any.exprs code (subst (λ xs. AreTruths c.args.names.now.scope.now c.args.names.now.spots.now c.args.first xs code) c.as_slice-in-Any.ensures c.in_ok-compile_each-in-Any.ensures))
