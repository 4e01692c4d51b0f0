use Rattle.std.proofs.Common.{rules, reverse, sym, subst}
use Rattle.std.specs.Prelude.{string_bytes}
use Rattle.pts_rules.specs.Rows.{IsTracked}
use Rattle.pts_rules.proofs.Scoping.{entered}
use Rattle.pts_rules.proofs.scope.enter_row.Goals as goal

pub returns-in-Ok-clause-tracked : goal.returns-in-Ok-clause-tracked
returns-in-Ok-clause-tracked c =
    subst (λ rows. IsTracked (reverse rows) c.put_place.new.places) (sym c.in_ok-push.ensures.items)
    (entered c.args.rows.now.items c.args.places.now c.put_place.new.places c.args.row (string_bytes c.args.name) c.len-place.result c.requires.named (search (rules, c.len-place.ensures)) c.requires.tracked c.requires.linked c.requires.bounded c.in-Ok.ensures.ok)
