use Rattle.std.proofs.Common.{◌≡◌, ◌+◌, ◌<◌, Some, List, get_or, length, subst, sym, ap, ◌∙◌, arith}
use Rattle.std.specs.Prelude.{slice_get, slice_range}
use Rattle.std.proofs.lemmas.Option.{slice_get-get_or}
use Rattle.pts_types.specs.declared.operation.Policy.TheVariants as policies
use Rattle.pts_points.specs.declared.point.CallInfo.{CallInfo}
use Rattle.pts_layout.specs.Layout.{AreByItem, points_before, points_of_call}
use Rattle.pts_layout.proofs.CallParts.{call_within, points_by_item}
use Rattle.pts_layout.proofs.finding.points_of_call.Goals as goal

-- what an index past the end would give
abbrev nowhere : CallInfo
nowhere = record { item = 0; policy = policies.Seq; positions = 0; first_point = 0; points = 0 }

-- the element that an index gives
at_index : (xs ys : List CallInfo) (i : _) → ys ≡ xs → i < length xs → slice_get xs i ≡ Some (get_or ys i nowhere)
at_index xs ys i e within = slice_get-get_or xs i nowhere within ∙ ap (λ zs. Some (get_or zs i nowhere)) (sym e)

pub points_before-requires : goal.points_before-requires
points_before-requires c = subst AreByItem (sym c.points-points.ensures) (points_by_item c.args.program.now c.keeps_its_promises.ensures)

pub part-requires : goal.part-requires
part-requires c =
    let lists = c.args.program.now in
    let call : CallInfo = get_or c.calls.result.now c.args.call nowhere in
    let at = at_index lists.calls c.calls.result.now c.args.call c.calls.ensures c.requires in
    let begin = c.points_before.ensures ∙ ap (λ xs. points_before xs call.item) c.points-points.ensures in
    let some = c.if-info-eq0.false in
    let within = call_within lists c.args.call call c.keeps_its_promises.ensures at (omega (arith, some)) in
    let size = ap length c.points-points.ensures in
    omega (arith, begin, within, size)

pub returns : goal.returns
returns c = λ info there.
    let lists = c.args.program.now in
    let call : CallInfo = get_or c.calls.result.now c.args.call nowhere in
    let at = at_index lists.calls c.calls.result.now c.args.call c.calls.ensures c.requires in
    let same : call ≡ info = let e = sym at ∙ there in cc in
    let begin = c.points_before.ensures ∙ ap (λ xs. points_before xs call.item) c.points-points.ensures in
    c.part.ensures ∙ (λ i. slice_range (c.points-points.ensures i) (begin i + call.first_point) (begin i + call.first_point + call.points)) ∙ ap (points_of_call lists.points) same
