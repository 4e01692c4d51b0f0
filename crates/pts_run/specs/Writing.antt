-- What the calls below the top call write, and what they say of it.
use Rattle.std.specs.Prelude.{◌≡◌, ℕ, ◌≤◌, ◌++◌, List, Option, Result, Ok, Err, IfOk, OnOk}
use Rattle.std.specs.Io.{StartsWith}
use Rattle.std.specs.Io.KnownBytes.{Appends}
use Rattle.pts_io.specs.Streams.{HasRisen}
use Rattle.pts_boards.specs.declared.pool.Pool.{Pool}
use Rattle.pts_program.specs.declared.info.StatementInfo.{StatementInfo}
use Rattle.pts_program.specs.declared.lists.Lists.{Lists}
use Rattle.pts_store.specs.Stores.{Store}
use Rattle.pts_eval.specs.declared.results.RunState.{RunState}
use Rattle.pts_eval.specs.declared.results.RunState.TheVariants as states
use Rattle.pts_eval.specs.Runs.{Answer, Performs, Terminated, Terminates}
use Rattle.pts_run.specs.declared.answer.Finish.{Finish}
use Rattle.pts_run.specs.declared.answer.Finish.TheVariants as finishes
use Rattle.pts_run.specs.declared.run.WriteEnd.{WriteEnd}
use Rattle.pts_run.specs.declared.run.WriteEnd.TheVariants as ends
use Rattle.pts_run.specs.declared.status.Status.{Status}
use Rattle.pts_run.specs.declared.status.Status.TheVariants as status
use Rattle.pts_run.specs.declared.words.Command.{Command}
use Rattle.pts_run.specs.Output.{IsRunText, IsWholeRunText, IsOutput, IsPartialOutput}
use Rattle.pts_run.specs.Text.{line_of}

-- the count of a sink's failures does not fall, and rose where the writing failed
pub record IsCounted {T : Type 0} (written : Result T WriteEnd) (before after : ℕ) : Type 0 where
  pub fault : written ≡ Err ends.Fault → HasRisen before after
  pub counts : before ≤ after

-- what a sink holds grew by this text, or by a front of it
pub record WritesText {T : Type 0} (whole_text : List ℕ) (written : Result T WriteEnd) (old new : Option (List ℕ)) : Type 0 where
  pub whole : OnOk written (Appends old new whole_text)
  pub part : (text : List ℕ) × StartsWith whole_text text × Appends old new text

-- ---- one statement

-- in the store `before` the statement has this answer and leaves the store `after`, and then the run goes on or has ended
abbrev pub Answers : Pool → Lists → StatementInfo → Store → Answer → Store → RunState → Type 0
Answers pool lists s before answer after states.Going = Performs pool lists s before answer after
Answers pool lists s before answer after states.Ended = (answer ≡ Terminated) × Terminates pool lists s before × (after ≡ before)

-- the same, and its line stands behind what a text held
pub record AddsLine (pool : Pool) (lists : Lists) (s : StatementInfo) (number : ℕ) (before after : Store) (state : RunState) (old new : List ℕ) : Type 0 where
  pub answer : Answer
  pub answers : Answers pool lists s before answer after state
  pub text : new ≡ old ++ line_of number answer

-- ---- runs

-- what a sink holds grew by the text of a permitted run of the program that ends so
pub record WritesRun (pool : Pool) (lists : Lists) (state : RunState) (old new : Option (List ℕ)) : Type 0 where
  pub text : List ℕ
  pub is_text : IsWholeRunText pool lists state text
  pub appends : Appends old new text

-- what a sink holds grew by a front of the text of a permitted run
pub record WritesRunPart (pool : Pool) (lists : Lists) (old new : Option (List ℕ)) : Type 0 where
  pub whole : List ℕ
  pub is_text : IsRunText pool lists whole
  pub text : List ℕ
  pub starts : StartsWith whole text
  pub appends : Appends old new text

-- ---- how a command ends that has read its script

-- the status of such an end
abbrev pub status_of : Result Finish WriteEnd → Status
status_of (Ok finishes.Done) = status.Done
status_of (Ok finishes.Terminated) = status.Terminated
status_of (Ok finishes.Refused) = status.Refused
status_of (Err ends.Fault) = status.WriteFault
status_of (Err ends.NoMemory) = status.NoMemory

-- how a command ends whose run ends so
abbrev pub finish_of : RunState → Finish
finish_of states.Going = finishes.Done
finish_of states.Ended = finishes.Terminated

abbrev pub run_finished : Result RunState WriteEnd → Result Finish WriteEnd
run_finished (Ok state) = Ok (finish_of state)
run_finished (Err end) = Err end

-- this is the end where all was written, and else what stopped the writing
abbrev pub finished : {T : Type 0} → Finish → Result T WriteEnd → Result Finish WriteEnd
finished finish (Ok x) = Ok finish
finished finish (Err end) = Err end

-- a sink holds behind what it held the whole text of the end, or, where it gave up, what may stand there then
pub record Ends (command : Command) (bytes : List ℕ) (ended : Result Finish WriteEnd) (old new : Option (List ℕ)) : Type 0 where
  pub leaves : IfOk ended (λ finish. (text : List ℕ) × IsOutput command bytes (status_of (Ok finish)) text × Appends old new text)
  pub part : (text : List ℕ) × IsPartialOutput command bytes text × Appends old new text
