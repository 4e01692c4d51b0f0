use Rattle.std.proofs.Common.{rules, ◌≡◌, ◌<◌, Some, length, slice_get, get_or, sym, ap, ◌∙◌, subst, arith}
use Rattle.std.proofs.lemmas.Option.{slice_get-get_or}
use Rattle.pts_steps.specs.Steps.{AreStepsOf}
use Rattle.pts_steps.proofs.LoopSteps.{as_many_texts, steps_at}
use Rattle.pts_program.specs.declared.lists.Lists.{Lists}
use Rattle.pts_program.specs.Globals.{globals_of}
use Rattle.pts_program.proofs.program.Program.steps.Goals as goal

pub bounds-steps-place : goal.bounds-steps-place
bounds-steps-place c =
    let inside = c.self.inside in
    let many = as_many_texts (globals_of inside.lists) inside.lists.texts inside.steps c.self.invariant.1 in
    let texts : length inside.lists.texts ≡ length c.args.self.now.texts = ap (λ (z : Lists). length z.texts) c.self.view_is in
    let steps : length c.as_slice-steps.result.now ≡ length inside.steps = ap length c.as_slice-steps.ensures in
    omega (arith, c.requires, many, texts, steps)

pub offset_bounds-steps-place : goal.offset_bounds-steps-place
offset_bounds-steps-place c = search rules

pub returns : goal.returns
returns c =
    let inside = c.self.inside in
    let item = c.index-steps-place.result in
    let many = as_many_texts (globals_of inside.lists) inside.lists.texts inside.steps c.self.invariant.1 in
    let texts : length inside.lists.texts ≡ length c.args.self.now.texts = ap (λ (z : Lists). length z.texts) c.self.view_is in
    let within : c.args.call < length inside.steps = omega (arith, c.requires, many, texts) in
    λ text e.
    subst (AreStepsOf (globals_of c.args.self.now) text) (sym c.as_slice.ensures)
    (subst (λ (z : Lists). AreStepsOf (globals_of z) text item) c.self.view_is
    (steps_at (globals_of inside.lists) inside.lists.texts inside.steps c.self.invariant.1 c.args.call text item
    (ap (λ (z : Lists). slice_get z.texts c.args.call) c.self.view_is ∙ e)
    (slice_get-get_or inside.steps c.args.call item within ∙ ap Some (sym (c.index-steps-place.is ∙ ap (λ ss. get_or ss c.args.call item) c.as_slice-steps.ensures)))))
