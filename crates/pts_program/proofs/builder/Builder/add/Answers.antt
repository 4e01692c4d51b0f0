use Rattle.std.proofs.Common.{◌+◌, ◌∙◌, ap, length, sym, subst}
use Rattle.pts_program.specs.declared.standing.Standing.{Standing}
use Rattle.pts_program.specs.Lists.{with_item}
use Rattle.pts_program.specs.Standings.{IsAddable}
use Rattle.pts_program.proofs.Declared.{addable}
use Rattle.pts_program.proofs.builder.Builder.add.Goals as goal

pub add_item-requires : goal.add_item-requires
add_item-requires c =
    let earlier = length c.args.self.now.lists.calls in
    let checked = c.in_ok-check_item.ensures in
    subst (λ (s : Standing). IsAddable s.scope earlier c.args.item.now) (sym checked.same)
    (addable c.args.self.now.standing earlier c.args.item.now checked.acceptable c.requires.scope)

pub returns-clause-lists : goal.returns-clause-lists
returns-clause-lists c =
    c.in_ok-add_item.ensures
    ∙ ap (λ (s : Standing). with_item s.scope (c.args.self.now.items + 1) c.args.self.now.lists c.args.item.now) c.in_ok-check_item.ensures.same
