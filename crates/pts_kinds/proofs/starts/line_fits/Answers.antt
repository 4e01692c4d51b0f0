use Rattle.std.proofs.Common.{◌-◌, ap, ◌∙◌, arith}
use Rattle.pts_types.specs.declared.value.Kind.TheVariants as kinds
use Rattle.pts_rules.specs.Known.{holds}
use Rattle.pts_kinds.proofs.Lines.{line_is, is_some, product_fits_read, total_fits_read, last_read}
use Rattle.pts_kinds.proofs.starts.line_fits.Goals as goal

pub overflow_mul-last : goal.overflow_mul-last
overflow_mul-last c =
    product_fits_read c.args.first c.args.step c.from.result (c.args.length - 1) c.requires.first c.requires.step (omega (arith, c.requires.length)) c.from.ensures c.ranges.first c.ranges.step

pub overflow_add-last : goal.overflow_add-last
overflow_add-last c =
    total_fits_read c.args.first c.args.step c.from.result (c.args.length - 1) c.requires.first c.requires.step (omega (arith, c.requires.length)) c.from.ensures c.ranges.first c.ranges.step

pub returns : goal.returns
returns c =
    c.holds.ensures
    ∙ ap (holds kinds.I64) (last_read c.args.first c.args.step c.from.result (c.args.length - 1) c.requires.first c.requires.step (omega (arith, c.requires.length)) c.from.ensures c.ranges.first c.ranges.step)
    ∙ line_is c.args.first c.args.step c.args.length (is_some c.args.length c.if-length-eq0.false) c.requires.first
