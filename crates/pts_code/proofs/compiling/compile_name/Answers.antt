use Rattle.std.proofs.Common.{sym, ap, ◌∙◌, subst}
use Rattle.pts_tree.specs.declared.expr.Expr.TheVariants as e
use Rattle.pts_code.specs.Codes.{Sight}
use Rattle.pts_code.specs.Compiling.{IsCode, at_spot}
use Rattle.pts_code.proofs.Forms.{is-unknown, is-local}
use Rattle.pts_code.proofs.compiling.compile_name.Goals as goal

pub returns-in-Some : goal.returns-in-Some
returns-in-Some c =
    let names = c.args.names.now in
    λ kind first.
    is-local names.scope.now names.spots.now kind first c.args.name.now c.in-Some.number c.spot_code.result (sym c.value_number.ensures ∙ c.in-Some.is)
    (λ (sight : Sight). c.spot_code.ensures sight ∙ ap (at_spot sight) c.spot_at.ensures)

pub returns-in-None : goal.returns-in-None
returns-in-None c =
    let names = c.args.names.now in
    λ kind first.
    subst (IsCode names.scope.now names.spots.now kind first (e.Name c.args.name.now)) (sym c.no_code.ensures)
    (is-unknown names.scope.now names.spots.now kind first c.args.name.now (sym c.value_number.ensures ∙ c.in-None.is))
