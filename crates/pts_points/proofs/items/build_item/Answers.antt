use Rattle.pts_points.specs.Building.{AreAddable, with_statements}
use Rattle.pts_rules.specs.Parts.{statements}
use Rattle.std.proofs.Common.{sym, ap, subst, ◌∙◌}
use Rattle.pts_points.proofs.Exact.{first_room, exact_points, exact_calls}
use Rattle.pts_points.proofs.items.build_item.Goals as goal

pub add_item-requires : goal.add_item-requires
add_item-requires c =
    subst (λ b. AreAddable c.args.scope.now b (statements c.args.item.now)) (sym c.new-builder.ensures)
    (first_room c.args.scope.now c.requires.room c.args.number c.args.earlier c.args.item.now c.requires.sound c.requires.few)

pub returns-clause-points : goal.returns-clause-points
returns-clause-points c =
    exact_points c.args.scope.now c.requires.room c.args.number c.args.earlier c.args.item.now c.requires.sound c.requires.few c.add_item.new.self
    (c.in_ok-add_item.ensures ∙ ap (λ b. with_statements c.args.scope.now b (statements c.args.item.now)) c.new-builder.ensures)

pub returns-clause-calls : goal.returns-clause-calls
returns-clause-calls c =
    exact_calls c.args.scope.now c.requires.room c.args.number c.args.earlier c.args.item.now c.requires.sound c.requires.few c.add_item.new.self
    (c.in_ok-add_item.ensures ∙ ap (λ b. with_statements c.args.scope.now b (statements c.args.item.now)) c.new-builder.ensures)
