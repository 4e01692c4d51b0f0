use Rattle.std.proofs.Common.{ℕ, List, refl, sym, ◌∙◌}
use Rattle.pts_run.specs.Output.{Reads, Refuses}
use Rattle.pts_run.proofs.Endings.{known, for_same, wrote, wrote_done, wrote_refused, wrote_terminated, wrote_part, as_said, done, thrown, faulty, no_read_fault, no_usage, not_too_long}
use Rattle.pts_run.specs.declared.status.Status.TheVariants as status
use Rattle.pts_run.specs.Writing.{status_of}
use Rattle.pts_run.proofs.Exclusions.{decided}
use Rattle.pts_run.proofs.top.run_words.Goals as goal

-- ---- a script

pub returns-in-Ok-clause-usage : goal.returns-in-Ok-clause-usage
returns-in-Ok-clause-usage g c =
    (λ e. absurd (no_usage c.answer.result (sym c.status_of.ensures ∙ e)), λ none. absurd (none c.in-Some.command ((c.in-Some.ensures c.in-Some.command).0 refl)))

pub returns-in-Ok-clause-untouched : goal.returns-in-Ok-clause-untouched
returns-in-Ok-clause-untouched g c = λ e. absurd (no_usage c.answer.result (sym c.status_of.ensures ∙ e))

pub returns-in-Ok-clause-headline : goal.returns-in-Ok-clause-headline
returns-in-Ok-clause-headline g c = λ command bytes held is left written calm_source calm_sink memory.
    let reads = known _ bytes (λ (bs : List ℕ). Reads bs c.in-Ok.script) left c.in-Ok.ensures.reads in
    let ends = for_same c.in-Some.command command bytes c.answer.result _ _ ((c.in-Some.ensures command).1 is) (c.answer.ensures.ends bytes reads) in
    rw c.status_of.ensures (wrote command bytes held _ _ written c.answer.result ends calm_sink c.answer.ensures.counted.fault (λ e. memory (c.status_of.ensures ∙ e)))

pub returns-in-Ok-clause-done : goal.returns-in-Ok-clause-done
returns-in-Ok-clause-done g c = λ command bytes held is left written whole.
    let reads = known _ bytes (λ (bs : List ℕ). Reads bs c.in-Ok.script) left c.in-Ok.ensures.reads in
    let ends = for_same c.in-Some.command command bytes c.answer.result _ _ ((c.in-Some.ensures command).1 is) (c.answer.ensures.ends bytes reads) in
    wrote_done command bytes held _ _ written c.answer.result (sym c.status_of.ensures ∙ whole) ends

pub returns-in-Ok-clause-terminated : goal.returns-in-Ok-clause-terminated
returns-in-Ok-clause-terminated g c = λ command bytes held is left written thrown_so.
    let reads = known _ bytes (λ (bs : List ℕ). Reads bs c.in-Ok.script) left c.in-Ok.ensures.reads in
    let ends = for_same c.in-Some.command command bytes c.answer.result _ _ ((c.in-Some.ensures command).1 is) (c.answer.ensures.ends bytes reads) in
    wrote_terminated command bytes held _ _ written c.answer.result (sym c.status_of.ensures ∙ thrown_so) ends

pub returns-in-Ok-clause-refused : goal.returns-in-Ok-clause-refused
returns-in-Ok-clause-refused g c = λ command bytes held is left written refused.
    let reads = known _ bytes (λ (bs : List ℕ). Reads bs c.in-Ok.script) left c.in-Ok.ensures.reads in
    let ends = for_same c.in-Some.command command bytes c.answer.result _ _ ((c.in-Some.ensures command).1 is) (c.answer.ensures.ends bytes reads) in
    wrote_refused command bytes held _ _ written c.answer.result (sym c.status_of.ensures ∙ refused) ends

pub returns-in-Ok-clause-read_fault : goal.returns-in-Ok-clause-read_fault
returns-in-Ok-clause-read_fault g c = λ e. absurd (no_read_fault c.answer.result (sym c.status_of.ensures ∙ e))

pub returns-in-Ok-clause-nothing_written : goal.returns-in-Ok-clause-nothing_written
returns-in-Ok-clause-nothing_written g c = λ e. absurd (no_read_fault c.answer.result (sym c.status_of.ensures ∙ e))

pub returns-in-Ok-clause-write_fault : goal.returns-in-Ok-clause-write_fault
returns-in-Ok-clause-write_fault g c = λ e. c.answer.ensures.counted.fault (faulty c.answer.result (sym c.status_of.ensures ∙ e))

pub returns-in-Ok-clause-part_written : goal.returns-in-Ok-clause-part_written
returns-in-Ok-clause-part_written g c = λ command bytes held is left written.
    let reads = known _ bytes (λ (bs : List ℕ). Reads bs c.in-Ok.script) left c.in-Ok.ensures.reads in
    let ends = for_same c.in-Some.command command bytes c.answer.result _ _ ((c.in-Some.ensures command).1 is) (c.answer.ensures.ends bytes reads) in
    wrote_part command bytes held _ _ written c.answer.result ends

pub returns-in-Ok-clause-complete : goal.returns-in-Ok-clause-complete
returns-in-Ok-clause-complete g c = λ command bytes is left calm_source calm_sink.
    let reads = known _ bytes (λ (bs : List ℕ). Reads bs c.in-Ok.script) left c.in-Ok.ensures.reads in
    let ends = for_same c.in-Some.command command bytes c.answer.result _ _ ((c.in-Some.ensures command).1 is) (c.answer.ensures.ends bytes reads) in
    rw c.status_of.ensures (decided command bytes (status_of c.answer.result) (as_said command bytes c.answer.result _ _ ends calm_sink c.answer.ensures.counted.fault))

-- ---- a refusal

pub returns-in-Err-Refused-clause-usage : goal.returns-in-Err-Refused-clause-usage
returns-in-Err-Refused-clause-usage g c =
    (λ e. absurd (no_usage c.refuse.result (sym c.status_of-in-Err-Refused.ensures ∙ e)), λ none. absurd (none c.in-Some.command ((c.in-Some.ensures c.in-Some.command).0 refl)))

pub returns-in-Err-Refused-clause-untouched : goal.returns-in-Err-Refused-clause-untouched
returns-in-Err-Refused-clause-untouched g c = λ e. absurd (no_usage c.refuse.result (sym c.status_of-in-Err-Refused.ensures ∙ e))

pub returns-in-Err-Refused-clause-headline : goal.returns-in-Err-Refused-clause-headline
returns-in-Err-Refused-clause-headline g c = λ command bytes held is left written calm_source calm_sink memory.
    let refuses = known _ bytes (λ (bs : List ℕ). Refuses command bs c.in-Err-Refused.refusal) left (c.read_script.ensures.refuses command _ (rw c.in-Err-Refused.field-0-is at c.in-Err-Refused.is)) in
    rw c.status_of-in-Err-Refused.ensures
    (wrote command bytes held _ _ written c.refuse.result (c.refuse.ensures.ends command bytes (rw c.in-Err-Refused.refusal-is refuses)) calm_sink c.refuse.ensures.counted.fault (λ e. memory (c.status_of-in-Err-Refused.ensures ∙ e)))

pub returns-in-Err-Refused-clause-done : goal.returns-in-Err-Refused-clause-done
returns-in-Err-Refused-clause-done g c = λ command bytes held is left written whole.
    absurd (c.refuse.ensures.not_done (done c.refuse.result (sym c.status_of-in-Err-Refused.ensures ∙ whole)))

pub returns-in-Err-Refused-clause-terminated : goal.returns-in-Err-Refused-clause-terminated
returns-in-Err-Refused-clause-terminated g c = λ command bytes held is left written over.
    absurd (c.refuse.ensures.not_terminated (thrown c.refuse.result (sym c.status_of-in-Err-Refused.ensures ∙ over)))

pub returns-in-Err-Refused-clause-refused : goal.returns-in-Err-Refused-clause-refused
returns-in-Err-Refused-clause-refused g c = λ command bytes held is left written refused.
    let refuses = known _ bytes (λ (bs : List ℕ). Refuses command bs c.in-Err-Refused.refusal) left (c.read_script.ensures.refuses command _ (rw c.in-Err-Refused.field-0-is at c.in-Err-Refused.is)) in
    wrote_refused command bytes held _ _ written c.refuse.result (sym c.status_of-in-Err-Refused.ensures ∙ refused) (c.refuse.ensures.ends command bytes (rw c.in-Err-Refused.refusal-is refuses))

pub returns-in-Err-Refused-clause-read_fault : goal.returns-in-Err-Refused-clause-read_fault
returns-in-Err-Refused-clause-read_fault g c = λ e. absurd (no_read_fault c.refuse.result (sym c.status_of-in-Err-Refused.ensures ∙ e))

pub returns-in-Err-Refused-clause-nothing_written : goal.returns-in-Err-Refused-clause-nothing_written
returns-in-Err-Refused-clause-nothing_written g c = λ e. absurd (no_read_fault c.refuse.result (sym c.status_of-in-Err-Refused.ensures ∙ e))

pub returns-in-Err-Refused-clause-write_fault : goal.returns-in-Err-Refused-clause-write_fault
returns-in-Err-Refused-clause-write_fault g c = λ e. c.refuse.ensures.counted.fault (faulty c.refuse.result (sym c.status_of-in-Err-Refused.ensures ∙ e))

pub returns-in-Err-Refused-clause-part_written : goal.returns-in-Err-Refused-clause-part_written
returns-in-Err-Refused-clause-part_written g c = λ command bytes held is left written.
    let refuses = known _ bytes (λ (bs : List ℕ). Refuses command bs c.in-Err-Refused.refusal) left (c.read_script.ensures.refuses command _ (rw c.in-Err-Refused.field-0-is at c.in-Err-Refused.is)) in
    wrote_part command bytes held _ _ written c.refuse.result (c.refuse.ensures.ends command bytes (rw c.in-Err-Refused.refusal-is refuses))

pub returns-in-Err-Refused-clause-read_to_the_end : goal.returns-in-Err-Refused-clause-read_to_the_end
returns-in-Err-Refused-clause-read_to_the_end g c = λ whole. absurd (c.refuse.ensures.not_done (done c.refuse.result (sym c.status_of-in-Err-Refused.ensures ∙ whole)))

pub returns-in-Err-Refused-clause-terminated_at_the_end : goal.returns-in-Err-Refused-clause-terminated_at_the_end
returns-in-Err-Refused-clause-terminated_at_the_end g c = λ over. absurd (c.refuse.ensures.not_terminated (thrown c.refuse.result (sym c.status_of-in-Err-Refused.ensures ∙ over)))

pub returns-in-Err-Refused-clause-refused_at_the_end : goal.returns-in-Err-Refused-clause-refused_at_the_end
returns-in-Err-Refused-clause-refused_at_the_end g c = λ bytes left short refused.
    let command = c.in-Some.command in
    let refuses = known _ bytes (λ (bs : List ℕ). Refuses command bs c.in-Err-Refused.refusal) left (c.read_script.ensures.refuses command _ (rw c.in-Err-Refused.field-0-is at c.in-Err-Refused.is)) in
    c.read_script.ensures.refused_at_the_end _ (rw c.in-Err-Refused.field-0-is at c.in-Err-Refused.is) (not_too_long command bytes c.in-Err-Refused.refusal refuses short)

pub returns-in-Err-Refused-clause-complete : goal.returns-in-Err-Refused-clause-complete
returns-in-Err-Refused-clause-complete g c = λ command bytes is left calm_source calm_sink.
    let refuses = known _ bytes (λ (bs : List ℕ). Refuses command bs c.in-Err-Refused.refusal) left (c.read_script.ensures.refuses command _ (rw c.in-Err-Refused.field-0-is at c.in-Err-Refused.is)) in
    rw c.status_of-in-Err-Refused.ensures
    (decided command bytes (status_of c.refuse.result)
    (as_said command bytes c.refuse.result _ _ (c.refuse.ensures.ends command bytes (rw c.in-Err-Refused.refusal-is refuses)) calm_sink c.refuse.ensures.counted.fault))

-- ---- no script

pub returns-in-Err-Source-clause-usage : goal.returns-in-Err-Source-clause-usage
returns-in-Err-Source-clause-usage g c = (λ e. absurd (cc), λ none. absurd (none c.in-Some.command ((c.in-Some.ensures c.in-Some.command).0 refl)))

pub returns-in-Err-NoMemory-clause-usage : goal.returns-in-Err-NoMemory-clause-usage
returns-in-Err-NoMemory-clause-usage g c = (λ e. absurd (cc), λ none. absurd (none c.in-Some.command ((c.in-Some.ensures c.in-Some.command).0 refl)))

pub returns-in-Err-NoMemory-clause-complete : goal.returns-in-Err-NoMemory-clause-complete
returns-in-Err-NoMemory-clause-complete g c = λ command bytes is left calm_source calm_sink. decided command bytes status.NoMemory tt
