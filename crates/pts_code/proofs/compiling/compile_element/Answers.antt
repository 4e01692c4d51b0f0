use Rattle.std.proofs.Common.{◌≡◌, ◌+◌, true, sym, ◌∙◌, subst, arith}
use Rattle.pts_tree.specs.declared.expr.Expr.TheVariants as e
use Rattle.pts_code.specs.declared.code.Code.TheVariants as codes
use Rattle.pts_code.specs.Compiling.{IsCode}
use Rattle.pts_code.specs.Values.{numbers}
use Rattle.pts_code.proofs.Forms.{is-Element, no-Element}
use Rattle.pts_code.proofs.compiling.compile_element.Goals as goal

pub returns-in-Some : goal.returns-in-Some
returns-in-Some c =
    let names = c.args.names.now in
    let past : c.args.first + c.numbers_in.result ≡ c.args.first + numbers true c.args.index.now = omega (arith, c.requires, c.numbers_in.ensures) in
    λ kind.
    subst (λ n. IsCode names.scope.now names.spots.now kind c.args.first (e.Element c.args.name.now c.args.index.now) (codes.Note n)) (sym past)
    (is-Element names.scope.now names.spots.now kind c.args.first c.args.name.now c.args.index.now c.in-Some.field-0 (sym c.element_kind.ensures ∙ c.in-Some.is))

pub returns-in-None : goal.returns-in-None
returns-in-None c =
    let names = c.args.names.now in
    λ kind.
    subst (IsCode names.scope.now names.spots.now kind c.args.first (e.Element c.args.name.now c.args.index.now)) (sym c.no_code.ensures)
    (no-Element names.scope.now names.spots.now kind c.args.first c.args.name.now c.args.index.now (sym c.element_kind.ensures ∙ c.in-None.is))
