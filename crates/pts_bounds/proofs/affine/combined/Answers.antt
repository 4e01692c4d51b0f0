use Rattle.std.proofs.Common.{◌+ℤ◌, ◌-ℤ◌, sym, ap, ◌∙◌, arith}
use Rattle.std.proofs.lemmas.Int.{ints}
use Rattle.pts_types.specs.declared.operation.ScalarOp.{ScalarOp}
use Rattle.pts_rules.specs.Indices as spec
use Rattle.pts_bounds.specs.Affines.{line_of_index}
use Rattle.pts_bounds.proofs.Chained.{wide, kept_at}
use Rattle.pts_bounds.proofs.affine.combined.Goals as goal

pub returns-in-Plus : goal.returns-in-Plus
returns-in-Plus c =
    kept_at (wide (wide c.from.result +ℤ wide c.from-in-Plus.result)) (wide (wide c.from-in-Plus-2.result +ℤ wide c.from-in-Plus-3.result))
    (c.args.x.factor +ℤ c.args.y.factor) (c.args.x.offset +ℤ c.args.y.offset) _ c.kept.ensures (omega (arith, ints)) (omega (arith, ints))
    ∙ sym (ap (λ (op : ScalarOp). spec.combined op (line_of_index c.args.x) (line_of_index c.args.y)) c.in-Plus.is)

pub returns-in-Minus : goal.returns-in-Minus
returns-in-Minus c =
    kept_at (wide (wide c.from-in-Minus.result -ℤ wide c.from-in-Minus-2.result)) (wide (wide c.from-in-Minus-3.result -ℤ wide c.from-in-Minus-4.result))
    (c.args.x.factor -ℤ c.args.y.factor) (c.args.x.offset -ℤ c.args.y.offset) _ c.kept-in-Minus.ensures (omega (arith, ints)) (omega (arith, ints))
    ∙ sym (ap (λ (op : ScalarOp). spec.combined op (line_of_index c.args.x) (line_of_index c.args.y)) c.in-Minus.is)
