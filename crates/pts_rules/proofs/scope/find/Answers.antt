use Rattle.std.proofs.Common.{reverse, sym, ap, ◌∙◌}
use Rattle.pts_rules.specs.Rows.{row_of}
use Rattle.pts_rules.proofs.Scoping.{found_some, found_none}
use Rattle.pts_rules.proofs.scope.find.Goals as goal

pub returns-in-Some : goal.returns-in-Some
returns-in-Some c =
    c.at.ensures ∙ found_some c.args.rows.now c.args.places.now c.as_str.result.now c.requires c.in-Some.place.now (sym c.in-Some.ensures.value)
    ∙ ap (λ bs. row_of (reverse c.args.rows.now) bs) c.as_str.ensures

pub returns-in-None : goal.returns-in-None
returns-in-None c =
    sym (found_none c.args.rows.now c.args.places.now c.as_str.result.now c.requires (sym c.in-None.ensures.value))
    ∙ ap (λ bs. row_of (reverse c.args.rows.now) bs) c.as_str.ensures
