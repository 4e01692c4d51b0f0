use Rattle.std.proofs.Common.{◌+◌, false, map, drop, refl, sym, ap, ◌∙◌}
use Rattle.std.specs.Option.{option_or}
use Rattle.pts_tree.specs.declared.expr.ChainPart.{ChainPart}
use Rattle.pts_rules.specs.Kinds.{Typing, typing, first_kind}
use Rattle.pts_code.proofs.Steps.{next_of}
use Rattle.pts_code.proofs.compiling.«+own_kind».Goals as goal

pub first_kind-returns-in-Some : goal.first_kind-returns-in-Some
first_kind-returns-in-Some t c =
    let kinds : ChainPart → Typing = λ y. typing false c.args.scope.now y.operand in
    let item = c.part-item.result in
    let at = c.loop-part.part-index in
    sym (c.loop-part.invariant
    ∙ next_of first_kind kinds c.args.parts.now at item (kinds item) c.loop-part-test.true c.part-item.is refl
    ∙ ap (λ o. option_or o (first_kind (map kinds (drop (at + 1) c.args.parts.now)))) (sym c.own_kind.ensures ∙ c.in-Some.is))
