use Rattle.std.proofs.Common.{None, Some, refl, sym, ◌∙◌}
use Rattle.std.proofs.lemmas.Bool.{eqb-true}
use Rattle.pts_run.proofs.CommandLines.{run_command, check_command, print_command, is_word, single}
use Rattle.pts_run.proofs.words.read_words.Goals as goal

pub returns-in_err-read_settings-in-len1-up : goal.returns-in_err-read_settings-in-len1-up
returns-in_err-read_settings-in-len1-up c =
    run_command c.args.words.now c.word-item.result None c.from_residual.result c.in-len1-up.len_at_least c.word-item.is (is_word c.eq.result _ _ _ c.eq.ensures c.if-eq.true c.as_str-word.ensures.value)
    c.in_err-read_settings-in-len1-up.ensures c.from_residual.ensures

pub returns-then-eq : goal.returns-then-eq
returns-then-eq c =
    run_command c.args.words.now c.word-item.result (Some c.in_ok-read_settings-in-len1-up.field-0) _ c.in-len1-up.len_at_least c.word-item.is (is_word c.eq.result _ _ _ c.eq.ensures c.if-eq.true c.as_str-word.ensures.value)
    c.in_ok-read_settings-in-len1-up.ensures refl

pub returns-then-eq-2 : goal.returns-then-eq-2
returns-then-eq-2 c =
    check_command c.args.words.now c.word-item.result (single c.args.words.now c.in-len1-up.len_at_least (eqb-true _ _ (sym c.is_empty.ensures ∙ c.if-not-is_empty.false))) c.word-item.is
    (is_word c.eq-in-len1-up.result _ _ _ c.eq-in-len1-up.ensures c.if-eq-2.true c.as_str-word.ensures.value)

pub returns-then-eq-3 : goal.returns-then-eq-3
returns-then-eq-3 c =
    print_command c.args.words.now c.word-item.result (single c.args.words.now c.in-len1-up.len_at_least (eqb-true _ _ (sym c.is_empty.ensures ∙ c.if-not-is_empty.false))) c.word-item.is
    (is_word c.eq-in-len1-up-2.result _ _ _ c.eq-in-len1-up-2.ensures c.if-eq-3.true c.as_str-word.ensures.value)
