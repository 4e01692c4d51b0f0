use Rattle.std.proofs.Common.{map, None, string_bytes, refl, sym, ◌∙◌}
use Rattle.std.proofs.lemmas.Bool.{eqb-true, eqb-false}
use Rattle.pts_run.proofs.CommandLines.{leads_on, none_meant, unknown_setting, unknown_number, one_word, all_words}
use Rattle.pts_run.proofs.words.read_settings.Goals as goal

pub loop-rest-preserved : goal.loop-rest-preserved
loop-rest-preserved c =
    leads_on c.loop-rest.rest.now c.name-item.result c.number-item.result c.loop-rest.settings c.in_ok-settings.settings c.in_ok-read_number.field-0 _ c.in-len2-up.len_at_least c.name-item.is c.number-item.is
    (rw c.as_str-in-len2-up.ensures.value at c.in_ok-read_number.ensures) (rw c.as_str.ensures.value at (sym c.in_ok-settings.ensures)) c.loop-rest.invariant

pub returns-in_err-read_number : goal.returns-in_err-read_number
returns-in_err-read_number c =
    none_meant c.from_residual.result c.loop-rest.settings (map string_bytes c.loop-rest.rest.now) _ c.from_residual.ensures
    (unknown_number c.loop-rest.rest.now c.name-item.result c.number-item.result c.loop-rest.settings c.in-len2-up.len_at_least c.name-item.is c.number-item.is
    (rw c.as_str-in-len2-up.ensures.value at c.in_err-read_number.ensures)) c.loop-rest.invariant

pub returns-in_err-settings : goal.returns-in_err-settings
returns-in_err-settings c =
    none_meant c.from_residual-in_err-settings.result c.loop-rest.settings (map string_bytes c.loop-rest.rest.now) _ c.from_residual-in_err-settings.ensures
    (unknown_setting c.loop-rest.rest.now c.name-item.result c.number-item.result c.loop-rest.settings c.in_ok-read_number.field-0 c.in-len2-up.len_at_least c.name-item.is c.number-item.is
    (rw c.as_str-in-len2-up.ensures.value at c.in_ok-read_number.ensures) (rw c.as_str.ensures.value at (sym c.in_err-settings.ensures))) c.loop-rest.invariant

pub returns-then-is_empty : goal.returns-then-is_empty
returns-then-is_empty c =
    all_words c.loop-rest.rest.now c.loop-rest.settings c.pool.result _ (eqb-true _ _ (sym c.is_empty.ensures ∙ c.if-is_empty.true)) c.pool.ensures c.loop-rest.invariant

pub returns-else-is_empty : goal.returns-else-is_empty
returns-else-is_empty c =
    none_meant None c.loop-rest.settings (map string_bytes c.loop-rest.rest.now) _ refl
    (one_word c.loop-rest.rest.now c.loop-rest.settings c.in_default.len_below (eqb-false _ _ (sym c.is_empty.ensures ∙ c.if-is_empty.false))) c.loop-rest.invariant
