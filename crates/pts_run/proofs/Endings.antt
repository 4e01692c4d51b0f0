-- How a call ends that was to write a whole text.
use Rattle.std.proofs.Common.{◌≡◌, ◌≢◌, ◌≤◌, ℕ, List, [], ◌++◌, length, Option, Some, None, Result, Ok, Err, IfOk, IfSome, OnOk, refl, ap, subst, inl, inr, arith}
use Rattle.std.specs.Io.KnownBytes.{Appends}
use Rattle.std.proofs.KnownBytes.{Appends-nil}
use Rattle.pts_tree.specs.declared.script.Script.{Script}
use Rattle.pts_print.specs.Canonical.{canonical}
use Rattle.pts_boards.specs.declared.pool.Pool.{Pool}
use Rattle.pts_program.specs.declared.lists.Lists.{Lists}
use Rattle.pts_eval.specs.declared.results.RunState.{RunState}
use Rattle.pts_eval.specs.declared.results.RunState.TheVariants as states
use Rattle.pts_run.specs.declared.refusal.Refusal.{Refusal}
use Rattle.pts_run.specs.declared.refusal.Refusal.TheVariants as refusals
use Rattle.pts_run.specs.declared.refusal.Refusal.TheVariants.{TooLong}
use Rattle.pts_run.specs.declared.run.WriteEnd.{WriteEnd}
use Rattle.pts_run.specs.declared.run.WriteEnd.TheVariants as ends
use Rattle.pts_run.specs.declared.status.Status.TheVariants as status
use Rattle.pts_run.specs.declared.words.Command.{Command}
use Rattle.pts_run.specs.declared.words.Command.TheVariants as commands
use Rattle.pts_run.specs.Acceptance.{IsAccepted, IsRunnable}
use Rattle.pts_run.specs.declared.answer.Finish.{Finish}
use Rattle.pts_run.specs.declared.answer.Finish.TheVariants as finishes
use Rattle.pts_run.specs.Output.{Reads, Accepts, AcceptsToRun, Refuses, RejectsFor, Takes, IsOutput, IsTerminatedText, IsWholeText, IsAsScriptSays, TakesToTerminate, Wrote, WrotePart, script_limit}
use Rattle.pts_run.specs.Text.{accepted_line, refusal_line}
use Rattle.pts_run.specs.Writing.{WritesRun, WritesRunPart, WritesText, Ends, finished, run_finished, status_of}

-- ---- known bytes

pub known : (left : Option (List ℕ)) (bytes : List ℕ) (P : List ℕ → Type 0) → left ≡ Some bytes → IfSome left P → P bytes
known left bytes P is h = rw is at h

appended : (old new : Option (List ℕ)) (held text : List ℕ) → old ≡ Some held → Appends old new text → new ≡ Some (held ++ text)
appended None new held text is h = absurd (cc)
appended (Some x) None held text is h = absurd h
appended (Some x) (Some y) held text is h = let same : x ≡ held = cc in rw (← same) (ap Some h)

-- ---- what the parts of a call leave

-- the end of a command by what it wrote
leaves_by : {T : Type 0} (command : Command) (bytes whole : List ℕ) (finish : Finish) (written : Result T WriteEnd) (old new : Option (List ℕ))
    → IsOutput command bytes (status_of (Ok finish)) whole → OnOk written (Appends old new whole)
    → IfOk (finished finish written) (λ f. (text : List ℕ) × IsOutput command bytes (status_of (Ok f)) text × Appends old new text)
leaves_by command bytes whole finish (Ok x) old new is h = (whole, is, h)
leaves_by command bytes whole finish (Err e) old new is h = tt

ran_by : (pool : Pool) (bytes : List ℕ) (made : Lists) (ran : Result RunState WriteEnd) (old new : Option (List ℕ)) → AcceptsToRun bytes made
    → IfOk ran (λ state. WritesRun pool made state old new)
    → IfOk (run_finished ran) (λ f. (text : List ℕ) × IsOutput (commands.Run pool) bytes (status_of (Ok f)) text × Appends old new text)
ran_by pool bytes made (Ok states.Going) old new accepts w = (w.text, (made, accepts, w.is_text), w.appends)
ran_by pool bytes made (Ok states.Ended) old new accepts w = (w.text, (made, accepts, w.is_text), w.appends)
ran_by pool bytes made (Err e) old new accepts w = tt

pub run_ends : (pool : Pool) (bytes : List ℕ) (script : Script) (made : Lists) (ran : Result RunState WriteEnd) (old new : Option (List ℕ)) → Reads bytes script → IsRunnable script made
    → IfOk ran (λ state. WritesRun pool made state old new) → WritesRunPart pool made old new → Ends (commands.Run pool) bytes (run_finished ran) old new
run_ends pool bytes script made ran old new reads runnable whole part =
    let accepts : AcceptsToRun bytes made = record { script = script; reads = reads; runnable = runnable } in
    record {
      leaves = ran_by pool bytes made ran old new accepts whole;
      part = (part.text, inr (inl (part.whole, (made, accepts, part.is_text), part.starts)), part.appends);
    }

pub check_ends : {T : Type 0} (bytes : List ℕ) (script : Script) (made : Lists) (written : Result T WriteEnd) (old new : Option (List ℕ)) → Reads bytes script → IsAccepted script made
    → WritesText accepted_line written old new → Ends commands.Check bytes (finished finishes.Done written) old new
check_ends bytes script made written old new reads accepted h =
    let accepts : Accepts bytes made = record { script = script; reads = reads; accepted = accepted } in
    record {
      leaves = leaves_by commands.Check bytes accepted_line finishes.Done written old new (made, accepts, refl) h.whole;
      part = (h.part.0, inr (inl (accepted_line, (made, accepts, refl), h.part.1)), h.part.2);
    }

pub print_ends : {T : Type 0} (bytes : List ℕ) (script : Script) (written : Result T WriteEnd) (old new : Option (List ℕ)) → Reads bytes script
    → WritesText (canonical script) written old new → Ends commands.Print bytes (finished finishes.Done written) old new
print_ends bytes script written old new reads h = record {
  leaves = leaves_by commands.Print bytes (canonical script) finishes.Done written old new (script, reads, refl) h.whole;
  part = (h.part.0, inr (inl (canonical script, (script, reads, refl), h.part.1)), h.part.2);
}

pub refusal_ends : {T : Type 0} (command : Command) (bytes : List ℕ) (reason : Refusal) (written : Result T WriteEnd) (old new : Option (List ℕ)) → Refuses command bytes reason
    → WritesText (refusal_line reason) written old new → Ends command bytes (finished finishes.Refused written) old new
refusal_ends command bytes reason written old new refuses h = record {
  leaves = leaves_by command bytes (refusal_line reason) finishes.Refused written old new (reason, refuses, refl) h.whole;
  part = (h.part.0, inr (inr (reason, refuses, h.part.1)), h.part.2);
}

-- what a script is not taken for, the command refuses it for
pub refused : (command : Command) (bytes : List ℕ) (reason : Refusal) → RejectsFor command bytes reason → Refuses command bytes reason
refused (commands.Run pool) bytes refusals.TooLong h = absurd h.2
refused commands.Check bytes refusals.TooLong h = absurd h.2
refused commands.Print bytes refusals.TooLong h = absurd h
refused (commands.Run pool) bytes (refusals.Syntax fault) h = absurd h.2
refused commands.Check bytes (refusals.Syntax fault) h = absurd h.2
refused commands.Print bytes (refusals.Syntax fault) h = absurd h
refused command bytes (refusals.Build fault) h = h
refused command bytes (refusals.Later item) h = h
refused command bytes (refusals.Conflict conflict) h = h

-- for want of memory nothing is written
pub nothing_ends : (command : Command) (bytes : List ℕ) (old : Option (List ℕ)) → Ends command bytes (Err ends.NoMemory) old old
nothing_ends command bytes old = record { leaves = tt; part = ([], inl refl, Appends-nil old) }

-- ---- what the whole call wrote

module _ (command : Command) (bytes held : List ℕ) (old new : Option (List ℕ)) (is : old ≡ Some held) where
  wrote_all : (finish : Finish) → Ends command bytes (Ok finish) old new → Wrote command bytes (status_of (Ok finish)) held new
  wrote_all finish h = (h.leaves.0, h.leaves.1, appended old new held h.leaves.0 is h.leaves.2)

  -- with no fault and with memory all is written
  pub wrote : {Risen : Type 0} (ended : Result Finish WriteEnd) → Ends command bytes ended old new → ¬ Risen → (ended ≡ Err ends.Fault → Risen)
      → status_of ended ≢ status.NoMemory → Wrote command bytes (status_of ended) held new
  wrote (Ok finish) h calm rises memory = wrote_all finish h
  wrote (Err ends.Fault) h calm rises memory = absurd (calm (rises refl))
  wrote (Err ends.NoMemory) h calm rises memory = absurd (memory refl)

  pub wrote_done : (ended : Result Finish WriteEnd) → status_of ended ≡ status.Done → Ends command bytes ended old new → Wrote command bytes status.Done held new
  wrote_done (Ok finishes.Done) e h = wrote_all finishes.Done h
  wrote_done (Ok finishes.Terminated) e h = absurd (cc)
  wrote_done (Ok finishes.Refused) e h = absurd (cc)
  wrote_done (Err ends.Fault) e h = absurd (cc)
  wrote_done (Err ends.NoMemory) e h = absurd (cc)

  pub wrote_terminated : (ended : Result Finish WriteEnd) → status_of ended ≡ status.Terminated → Ends command bytes ended old new → Wrote command bytes status.Terminated held new
  wrote_terminated (Ok finishes.Terminated) e h = wrote_all finishes.Terminated h
  wrote_terminated (Ok finishes.Done) e h = absurd (cc)
  wrote_terminated (Ok finishes.Refused) e h = absurd (cc)
  wrote_terminated (Err ends.Fault) e h = absurd (cc)
  wrote_terminated (Err ends.NoMemory) e h = absurd (cc)

  pub wrote_refused : (ended : Result Finish WriteEnd) → status_of ended ≡ status.Refused → Ends command bytes ended old new → Wrote command bytes status.Refused held new
  wrote_refused (Ok finishes.Done) e h = absurd (cc)
  wrote_refused (Ok finishes.Terminated) e h = absurd (cc)
  wrote_refused (Ok finishes.Refused) e h = wrote_all finishes.Refused h
  wrote_refused (Err ends.Fault) e h = absurd (cc)
  wrote_refused (Err ends.NoMemory) e h = absurd (cc)

  pub wrote_part : (ended : Result Finish WriteEnd) → Ends command bytes ended old new → WrotePart command bytes held new
  wrote_part ended h = (h.part.0, h.part.1, appended old new held h.part.0 is h.part.2)

takes : (command : Command) (bytes text : List ℕ) → IsWholeText command bytes text → Takes command bytes
takes (commands.Run pool) bytes text h = (h.0, h.1)
takes commands.Check bytes text h = (h.0, h.1)
takes commands.Print bytes text h = (h.0, h.1)

-- a run that is terminated is one that may be
terminates : (command : Command) (bytes text : List ℕ) → IsTerminatedText command bytes text → TakesToTerminate command bytes
terminates (commands.Run pool) bytes text h = (h.0, h.1, record { run = h.2.run; permitted = h.2.permitted; ends = h.2.ends })
terminates commands.Check bytes text h = absurd h
terminates commands.Print bytes text h = absurd h

-- with no fault the script decides
pub as_said : {Risen : Type 0} (command : Command) (bytes : List ℕ) (ended : Result Finish WriteEnd) (old new : Option (List ℕ)) → Ends command bytes ended old new
    → ¬ Risen → (ended ≡ Err ends.Fault → Risen) → IsAsScriptSays command bytes (status_of ended)
as_said command bytes (Ok finishes.Done) old new h calm rises = takes command bytes h.leaves.0 h.leaves.1
as_said command bytes (Ok finishes.Terminated) old new h calm rises = terminates command bytes h.leaves.0 h.leaves.1
as_said command bytes (Ok finishes.Refused) old new h calm rises = (h.leaves.1.0, h.leaves.1.1)
as_said command bytes (Err ends.Fault) old new h calm rises = absurd (calm (rises refl))
as_said command bytes (Err ends.NoMemory) old new h calm rises = tt

-- no such end is a faulty command line or a fault of the source
pub no_usage : (ended : Result Finish WriteEnd) → status_of ended ≢ status.Usage
no_usage (Ok finishes.Done) e = absurd (cc)
no_usage (Ok finishes.Terminated) e = absurd (cc)
no_usage (Ok finishes.Refused) e = absurd (cc)
no_usage (Err ends.Fault) e = absurd (cc)
no_usage (Err ends.NoMemory) e = absurd (cc)

pub no_read_fault : (ended : Result Finish WriteEnd) → status_of ended ≢ status.ReadFault
no_read_fault (Ok finishes.Done) e = absurd (cc)
no_read_fault (Ok finishes.Terminated) e = absurd (cc)
no_read_fault (Ok finishes.Refused) e = absurd (cc)
no_read_fault (Err ends.Fault) e = absurd (cc)
no_read_fault (Err ends.NoMemory) e = absurd (cc)

-- a fault of the sink alone ends so
pub faulty : (ended : Result Finish WriteEnd) → status_of ended ≡ status.WriteFault → ended ≡ Err ends.Fault
faulty (Ok finishes.Done) e = absurd (cc)
faulty (Ok finishes.Terminated) e = absurd (cc)
faulty (Ok finishes.Refused) e = absurd (cc)
faulty (Err ends.Fault) e = refl
faulty (Err ends.NoMemory) e = absurd (cc)

pub done : (ended : Result Finish WriteEnd) → status_of ended ≡ status.Done → ended ≡ Ok finishes.Done
done (Ok finishes.Done) e = refl
done (Ok finishes.Terminated) e = absurd (cc)
done (Ok finishes.Refused) e = absurd (cc)
done (Err ends.Fault) e = absurd (cc)
done (Err ends.NoMemory) e = absurd (cc)

pub thrown : (ended : Result Finish WriteEnd) → status_of ended ≡ status.Terminated → ended ≡ Ok finishes.Terminated
thrown (Ok finishes.Terminated) e = refl
thrown (Ok finishes.Done) e = absurd (cc)
thrown (Ok finishes.Refused) e = absurd (cc)
thrown (Err ends.Fault) e = absurd (cc)
thrown (Err ends.NoMemory) e = absurd (cc)

-- ---- what the words and the reasons tell

pub for_same : (found command : Command) (bytes : List ℕ) (ended : Result Finish WriteEnd) (old new : Option (List ℕ)) → Some found ≡ Some command → Ends found bytes ended old new → Ends command bytes ended old new
for_same found command bytes ended old new e h = let same : found ≡ command = cc in subst (λ (k : Command). Ends k bytes ended old new) same h

pub not_too_long : (command : Command) (bytes : List ℕ) (reason : Refusal) → Refuses command bytes reason → length bytes ≤ script_limit → reason ≢ TooLong
not_too_long command bytes reason refuses short long = let more : Refuses command bytes TooLong = subst (Refuses command bytes) long refuses in absurd (omega arith)
