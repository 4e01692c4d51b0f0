use Rattle.std.proofs.Common.{◌≡◌, ◌<◌, Some, None, IsSome, List, get_or, length, sym, ap, ◌∙◌, subst}
use Rattle.std.specs.Option.{option_copied}
use Rattle.std.specs.Prelude.{slice_get}
use Rattle.std.proofs.lemmas.Bool.{false≢true}
use Rattle.std.proofs.lemmas.Option.{slice_get-get_or}
use Rattle.pts_types.specs.declared.operation.Policy.TheVariants as policies
use Rattle.pts_points.specs.declared.point.CallInfo.{CallInfo}
use Rattle.pts_passes.specs.Passes.{Pass, head_at, text_at}
use Rattle.pts_loops.specs.Turns.{IsReadyAs}
use Rattle.pts_loops.proofs.Programs.{a_loop, a_text, loop_number, text_there, told}
use Rattle.pts_loops.proofs.calls.find_run.Goals as goal

-- what an index past the end would give
abbrev nowhere : CallInfo
nowhere = record { item = 0; policy = policies.Seq; positions = 0; first_point = 0; points = 0 }

pub unreachable-requires-in_default-find_text : goal.unreachable-requires-in_default-find_text
unreachable-requires-in_default-find_text c =
    let none : text_at c.args.program.now c.args.call ≡ None = sym c.find_text.ensures ∙ ap option_copied c.in_default-find_text.is in
    false≢true (subst IsSome none (text_there c.args.program.now c.keeps_its_promises.ensures c.args.call c.requires))

pub bounds-calls-call : goal.bounds-calls-call
bounds-calls-call c = subst (λ xs. c.args.call < length xs) (sym c.calls.ensures) (loop_number c.args.program.now c.keeps_its_promises.ensures c.args.call c.requires).0

pub steps-requires : goal.steps-requires
steps-requires c = (loop_number c.args.program.now c.keeps_its_promises.ensures c.args.call c.requires).1

pub points_of_call-requires : goal.points_of_call-requires
points_of_call-requires c = (loop_number c.args.program.now c.keeps_its_promises.ensures c.args.call c.requires).0

pub returns-clause-ready : goal.returns-clause-ready
returns-clause-ready c =
    let lists = c.args.program.now in
    let number = c.args.call in
    let head = c.in-Some.head.now in
    let text = c.in-Some-find_text.text.now in
    let info : CallInfo = get_or c.calls.result.now number nowhere in
    let called : slice_get lists.calls number ≡ Some info =
    slice_get-get_or lists.calls number nowhere (loop_number lists c.keeps_its_promises.ensures number c.requires).0 ∙ ap (λ zs. Some (get_or zs number nowhere)) (sym c.calls.ensures) in
    let form = a_loop (slice_get lists.lowered_calls number) head (sym c.find_head.ensures ∙ ap option_copied c.in-Some.is) in
    let written = a_text (slice_get lists.texts number) text (sym c.find_text.ensures ∙ ap option_copied c.in-Some-find_text.is) in
    subst (λ (p : Pass). IsReadyAs p number info.first_point c.steps.result.now c.points_of_call.result.now)
    (λ i. record { text = text; arrays = sym c.arrays.ensures i; functions = sym c.codes.ensures i; head = head })
    (told lists c.keeps_its_promises.ensures number info text head called form written c.steps.result.now c.points_of_call.result.now c.steps.ensures c.points_of_call.ensures)
