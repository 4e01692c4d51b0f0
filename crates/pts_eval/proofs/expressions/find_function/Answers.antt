use Rattle.std.proofs.Common.{◌≡◌, bytes_eq, sym, ap, ◌∙◌}
use Rattle.pts_eval.specs.Expressions.{bound_of}
use Rattle.pts_eval.proofs.Bounds.{function_here, function_past}
use Rattle.pts_eval.proofs.expressions.find_function.Goals as goal
use Rattle.pts_eval.proofs.expressions.find_function.Goals.{then-eq, else-eq}

pub loop-number-preserved : goal.loop-number-preserved
loop-number-preserved c =
    let fs = c.args.functions.now in
    let n = c.loop-number.number in
    let f = c.index-functions-number.result in
    let name = c.args.name.now in
    let test : c.eq.result ≡ bytes_eq name f.name = c.eq.ensures ∙ (λ i. bytes_eq (c.as_str.ensures i) (c.as_str-in-loop-number.ensures i)) in
    elim c.if-eq.branch [
      | then-eq w ↦ ap (bound_of fs) w.latest-is ∙ function_here fs n f name c.loop-number-test.true c.index-functions-number.is (sym test ∙ w.if-eq.true)
      | else-eq w ↦ ap (bound_of fs) w.latest-is ∙ c.loop-number.invariant ∙ function_past fs n f name c.loop-number-test.true c.index-functions-number.is (sym test ∙ w.if-eq.false)
    ]
