use Rattle.std.proofs.Common.{sym, ap, ◌∙◌, arith}
use Rattle.pts_tree.specs.Marks.{text_of, place}
use Rattle.pts_tree.proofs.Texts.{placed, in_table}
use Rattle.pts_tree.proofs.mark.Mark.of_text.Goals as goal

pub returns-clause-none : goal.returns-clause-none
returns-clause-none c x e = c.loop-mark.invariant (place x) (omega (arith, in_table x, c.loop-mark-test.false)) (e ∙ ap text_of (sym (placed x)))
