use Rattle.std.proofs.Common.{◌≡◌, ◌<◌, ◌+◌, length, ap, ◌∙◌, arith}
use Rattle.pts_eval.specs.Cells.{start_store}
use Rattle.pts_run.proofs.Runs.{all_written, is_built, last_written, line_as, nothing_written, part_of_line, part_with, part_written, same_shape, statement_read, written_more, written_none}
use Rattle.pts_run.proofs.run.run_program.Goals as goal

pub returns-in_err-store-clause-part : goal.returns-in_err-store-clause-part
returns-in_err-store-clause-part g c = nothing_written c.args.pool c.args.cleared.now _

pub loop-place-init : goal.loop-place-init
loop-place-init g c =
    let start = c.in_ok-store.ensures ∙ ap start_store c.program.ensures.same in record {
      ran = written_none c.args.pool c.args.cleared.now c.in_ok-store.store _ start;
      arrays = same_shape _ _ start;
      counts = omega arith;
    }

pub perform-requires-clause-built : goal.perform-requires-clause-built
perform-requires-clause-built g c κs within =
    is_built c.args.cleared.now c.statements-statement-items.result.now c.loop-place.place _ c.requires (c.statements-statement-items.ensures ∙ ap (λ p. p.statements) c.program-2.ensures.same) c.loop-place-test.true

pub returns-in_err-state-clause-part : goal.returns-in_err-state-clause-part
returns-in_err-state-clause-part g c = part_written c.args.pool c.args.cleared.now c.loop-place.place _ _ _ c.loop-place.invariant.ran

pub returns-in_err-write_all-clause-part : goal.returns-in_err-write_all-clause-part
returns-in_err-write_all-clause-part g c =
    let same = c.statements-statement-items.ensures ∙ ap (λ p. p.statements) c.program-2.ensures.same in
    let inside = c.loop-place-test.true in
    let within : c.loop-place.place < length c.args.cleared.now.statements = omega (arith, inside, ap length same) in
    part_of_line c.args.pool c.args.cleared.now c.loop-place.place _ _ _ _ _ _ _ c.deref.result.now within (statement_read _ _ _ _ same within) c.loop-place.invariant.ran c.clear.ensures.items
    (line_as c.deref.ensures.value c.in_ok-state.ensures.performed) c.in_err-write_all.field-0.0.written _ c.in_err-write_all.ensures.part

pub returns-then-has_ended-clause-whole : goal.returns-then-has_ended-clause-whole
returns-then-has_ended-clause-whole g c =
    let same = c.statements-statement-items.ensures ∙ ap (λ p. p.statements) c.program-2.ensures.same in
    let inside = c.loop-place-test.true in
    let within : c.loop-place.place < length c.args.cleared.now.statements = omega (arith, inside, ap length same) in
    last_written c.args.pool c.args.cleared.now c.loop-place.place _ _ _ _ _ _ _ c.deref.result.now within (statement_read _ _ _ _ same within) c.loop-place.invariant.ran c.clear.ensures.items
    (line_as c.deref.ensures.value c.in_ok-state.ensures.performed) _ (c.has_ended.ensures.yes c.if-has_ended.true) c.in_ok-write_all.ensures.ok

pub returns-then-has_ended-clause-part : goal.returns-then-has_ended-clause-part
returns-then-has_ended-clause-part g c =
    let same = c.statements-statement-items.ensures ∙ ap (λ p. p.statements) c.program-2.ensures.same in
    let inside = c.loop-place-test.true in
    let within : c.loop-place.place < length c.args.cleared.now.statements = omega (arith, inside, ap length same) in
    part_with c.args.pool c.args.cleared.now c.loop-place.place _ _ _ _ _ _ _ c.deref.result.now within (statement_read _ _ _ _ same within) c.loop-place.invariant.ran c.clear.ensures.items
    (line_as c.deref.ensures.value c.in_ok-state.ensures.performed) _ c.in_ok-write_all.ensures.ok

pub loop-place-preserved : goal.loop-place-preserved
loop-place-preserved g c =
    let same = c.statements-statement-items.ensures ∙ ap (λ p. p.statements) c.program-2.ensures.same in
    let inside = c.loop-place-test.true in
    let before = c.loop-place.invariant.counts in
    let within : c.loop-place.place < length c.args.cleared.now.statements = omega (arith, inside, ap length same) in record {
      ran = written_more c.args.pool c.args.cleared.now c.loop-place.place _ _ _ _ _ _ _ c.deref.result.now within (statement_read _ _ _ _ same within) c.loop-place.invariant.ran c.clear.ensures.items
          (line_as c.deref.ensures.value c.in_ok-state.ensures.performed) _ (c.has_ended.ensures.no c.if-has_ended.false) c.in_ok-write_all.ensures.ok;
      arrays = c.in_ok-state.ensures.arrays;
      counts = omega (arith, before);
    }

pub returns-clause-whole : goal.returns-clause-whole
returns-clause-whole g c =
    let same = ap length (c.statements-statement-items.ensures ∙ ap (λ p. p.statements) c.program-2.ensures.same) in
    let last = c.loop-place.auto.place-end in
    let past = c.loop-place-test.false in
    all_written c.args.pool c.args.cleared.now c.loop-place.place _ _ _ c.loop-place.invariant.ran (omega (arith, same, last, past))

pub returns-clause-part : goal.returns-clause-part
returns-clause-part g c = part_written c.args.pool c.args.cleared.now c.loop-place.place _ _ _ c.loop-place.invariant.ran
