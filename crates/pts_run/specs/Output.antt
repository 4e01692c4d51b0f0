-- What the top call prints, and what each of its answers says.
use Rattle.std.specs.Prelude.{◌≡◌, ◌≢◌, ◌⊎◌, ℕ, ◌<◌, ◌≤◌, List, [], ◌++◌, length, Option, Some}
use Rattle.std.specs.Io.{StartsWith}
use Rattle.pts_tree.specs.declared.script.Script.{Script}
use Rattle.pts_print.specs.Canonical.{canonical}
use Rattle.pts_syntax.specs.Syntax.{IsParsed, Explains}
use Rattle.pts_syntax.specs.declared.reading.SyntaxFault.{SyntaxFault}
use Rattle.pts_syntax.specs.declared.reading.SyntaxKind.TheVariants as fault_kinds
use Rattle.pts_program.specs.declared.lists.Lists.{Lists}
use Rattle.pts_boards.specs.declared.pool.Pool.{Pool}
use Rattle.pts_eval.specs.declared.results.RunState.{RunState}
use Rattle.pts_eval.specs.declared.results.RunState.TheVariants as states
use Rattle.pts_eval.specs.Runs.{Run, PermittedRun, IsWhole}
use Rattle.pts_run.specs.declared.status.Status.{Status}
use Rattle.pts_run.specs.declared.status.Status.TheVariants as status
use Rattle.pts_run.specs.declared.refusal.Refusal.{Refusal}
use Rattle.pts_run.specs.declared.refusal.Refusal.TheVariants as refusals
use Rattle.pts_run.specs.declared.words.Command.{Command}
use Rattle.pts_run.specs.declared.words.Command.TheVariants as commands
use Rattle.pts_run.specs.Acceptance.{IsAccepted, IsRunnable, Rejects, RejectsRun}
use Rattle.pts_run.specs.Text.{accepted_line, refusal_line, text_of}

-- the most bytes of a script
abbrev pub script_limit : ℕ
script_limit = 1048576

-- ---- what a script is taken for

-- the bytes are within the limit, and spell this script
pub record Reads (bytes : List ℕ) (script : Script) : Type 0 where
  pub short : length bytes ≤ script_limit
  pub parsed : IsParsed bytes script

-- the bytes are a script that is accepted, and make these lists
pub record Accepts (bytes : List ℕ) (made : Lists) : Type 0 where
  pub script : Script
  pub reads : Reads bytes script
  pub accepted : IsAccepted script made

-- the bytes are a script that is run, and make these lists
pub record AcceptsToRun (bytes : List ℕ) (made : Lists) : Type 0 where
  pub script : Script
  pub reads : Reads bytes script
  pub runnable : IsRunnable script made

-- the bytes are within the limit, and no script for this fault of the text
pub record FailsBy (bytes : List ℕ) (fault : SyntaxFault) : Type 0 where
  pub short : length bytes ≤ script_limit
  pub explains : Explains bytes fault
  pub known : fault.kind ≢ fault_kinds.NoMemory

-- the bytes are a script that the command does not take for this reason; printing takes every script
abbrev pub RejectsFor : Command → List ℕ → Refusal → Type 0
RejectsFor (commands.Run pool) bytes reason = (script : Script) × Reads bytes script × RejectsRun script reason
RejectsFor commands.Check bytes reason = (script : Script) × Reads bytes script × Rejects script reason
RejectsFor commands.Print bytes reason = ⊥

-- the command refuses the bytes for this
abbrev pub Refuses : Command → List ℕ → Refusal → Type 0
Refuses command bytes refusals.TooLong = script_limit < length bytes
Refuses command bytes (refusals.Syntax fault) = FailsBy bytes fault
Refuses command bytes reason = RejectsFor command bytes reason

-- the command takes the bytes
abbrev pub Takes : Command → List ℕ → Type 0
Takes (commands.Run pool) bytes = (made : Lists) × AcceptsToRun bytes made
Takes commands.Check bytes = (made : Lists) × Accepts bytes made
Takes commands.Print bytes = (script : Script) × Reads bytes script

-- ---- texts

-- the text of a permitted run of the program
pub record IsRunText (pool : Pool) (lists : Lists) (text : List ℕ) : Type 0 where
  pub run : Run
  pub permitted : PermittedRun pool lists run
  pub text_is : text ≡ text_of run.answers

-- the same of a run to which nothing can be added: all its statements have run, or one of them has terminated it
pub record IsWholeRunText (pool : Pool) (lists : Lists) (state : RunState) (text : List ℕ) : Type 0 where
  pub run : Run
  pub permitted : PermittedRun pool lists run
  pub whole : IsWhole lists run
  pub ends : run.state ≡ state
  pub text_is : text ≡ text_of run.answers

-- a permitted run of the program is terminated
pub record MayTerminate (pool : Pool) (lists : Lists) : Type 0 where
  pub run : Run
  pub permitted : PermittedRun pool lists run
  pub ends : run.state ≡ states.Ended

-- the bytes are a script that is run, and this is the whole text of a run that ends so
abbrev pub IsTextOfRun : Pool → List ℕ → RunState → List ℕ → Type 0
IsTextOfRun pool bytes state text = (made : Lists) × AcceptsToRun bytes made × IsWholeRunText pool made state text

-- the whole text that the command gives for bytes that it takes
abbrev pub IsWholeText : Command → List ℕ → List ℕ → Type 0
IsWholeText (commands.Run pool) bytes text = IsTextOfRun pool bytes states.Going text
IsWholeText commands.Check bytes text = (made : Lists) × Accepts bytes made × (text ≡ accepted_line)
IsWholeText commands.Print bytes text = (script : Script) × Reads bytes script × (text ≡ canonical script)

-- the whole text of a run that is terminated
abbrev pub IsTerminatedText : Command → List ℕ → List ℕ → Type 0
IsTerminatedText (commands.Run pool) bytes text = IsTextOfRun pool bytes states.Ended text
IsTerminatedText command bytes text = ⊥

-- the whole text of the command, or under `run` the text of a run to which more can be added
abbrev pub IsFrontText : Command → List ℕ → List ℕ → Type 0
IsFrontText (commands.Run pool) bytes text = (made : Lists) × AcceptsToRun bytes made × IsRunText pool made text
IsFrontText commands.Check bytes text = IsWholeText commands.Check bytes text
IsFrontText commands.Print bytes text = IsWholeText commands.Print bytes text

-- the whole text that goes with an answer of the command, for these source bytes
abbrev pub IsOutput : Command → List ℕ → Status → List ℕ → Type 0
IsOutput command bytes status.Done text = IsWholeText command bytes text
IsOutput command bytes status.Terminated text = IsTerminatedText command bytes text
IsOutput command bytes status.Refused text = (reason : Refusal) × Refuses command bytes reason × (text ≡ refusal_line reason)
IsOutput command bytes status.ReadFault text = text ≡ []
IsOutput command bytes status.Usage text = ⊥
IsOutput command bytes status.WriteFault text = ⊥
IsOutput command bytes status.NoMemory text = ⊥

-- what may stand in a sink when the call gave up: a front of such a text, or of the line of a refusal
abbrev pub IsPartialOutput : Command → List ℕ → List ℕ → Type 0
IsPartialOutput command bytes text =
    (text ≡ [])
    ⊎ ((whole : List ℕ) × IsFrontText command bytes whole × StartsWith whole text)
    ⊎ ((reason : Refusal) × Refuses command bytes reason × StartsWith (refusal_line reason) text)

-- ---- sinks and answers

-- a sink that held `held` holds the whole text of this answer behind it
abbrev pub Wrote : Command → List ℕ → Status → List ℕ → Option (List ℕ) → Type 0
Wrote command bytes answer held new = (text : List ℕ) × IsOutput command bytes answer text × (new ≡ Some (held ++ text))

-- a sink that held `held` holds behind it what may stand there when the call gave up
abbrev pub WrotePart : Command → List ℕ → List ℕ → Option (List ℕ) → Type 0
WrotePart command bytes held new = (text : List ℕ) × IsPartialOutput command bytes text × (new ≡ Some (held ++ text))

-- the command runs the bytes, and the run may be terminated
abbrev pub TakesToTerminate : Command → List ℕ → Type 0
TakesToTerminate (commands.Run pool) bytes = (made : Lists) × AcceptsToRun bytes made × MayTerminate pool made
TakesToTerminate command bytes = ⊥

-- what an answer says of the bytes, where nothing fails outside
abbrev pub IsAsScriptSays : Command → List ℕ → Status → Type 0
IsAsScriptSays command bytes status.Done = Takes command bytes
IsAsScriptSays command bytes status.Terminated = TakesToTerminate command bytes
IsAsScriptSays command bytes status.Refused = (reason : Refusal) × Refuses command bytes reason
IsAsScriptSays command bytes status.NoMemory = Unit {0}
IsAsScriptSays command bytes status.Usage = ⊥
IsAsScriptSays command bytes status.ReadFault = ⊥
IsAsScriptSays command bytes status.WriteFault = ⊥

-- where nothing fails outside the bytes decide, but for want of memory
pub record IsDecided (command : Command) (bytes : List ℕ) (answer : Status) : Type 0 where
  pub said : IsAsScriptSays command bytes answer
  pub taken : Takes command bytes → (answer ≡ status.Done) ⊎ (answer ≡ status.Terminated) ⊎ (answer ≡ status.NoMemory)
  pub refused : (reason : Refusal) → Refuses command bytes reason → (answer ≡ status.Refused) ⊎ (answer ≡ status.NoMemory)
