use Rattle.std.proofs.Common.{sym}
use Rattle.pts_run.proofs.CommandLines.{spells_number, spells_otherwise, spells_none, is_word, is_other_word}
use Rattle.pts_run.proofs.words.read_number.Goals as goal

pub returns-in_err-number : goal.returns-in_err-number
returns-in_err-number c = spells_none c.args.word.now c.parse.result c.from_residual.result c.parse.ensures.value.0 c.in_err-number.ensures.value c.from_residual.ensures

pub returns-then-eq : goal.returns-then-eq
returns-then-eq c =
    let word = is_word c.eq.result c.format.result.now _ c.args.word.now c.eq.ensures c.if-eq.true c.format.ensures.text in
    spells_number c.args.word.now c.parse.result c.in_ok-number.number c.parse.ensures.value.0 c.in_ok-number.ensures.value (sym word)

pub returns-else-eq : goal.returns-else-eq
returns-else-eq c =
    let other = is_other_word c.eq.result c.format.result.now _ c.args.word.now c.eq.ensures c.if-eq.false c.format.ensures.text in
    spells_otherwise c.args.word.now c.parse.result c.in_ok-number.number c.parse.ensures.value.0 c.in_ok-number.ensures.value (λ e. other (sym e))
