-- Runs of a program: what each statement answers, and the store that it leaves.
use Rattle.std.specs.Prelude.{◌≡◌, ℕ, IsSomeAnd, None, Some, List, [], ◌∷◌, length, slice_get}
use Rattle.pts_types.specs.declared.value.Value.{Value}
use Rattle.pts_boards.specs.declared.pool.Pool.{Pool}
use Rattle.pts_lowering.specs.declared.forms.LoweredCall.{LoweredCall}
use Rattle.pts_program.specs.declared.info.StatementInfo.{StatementInfo}
use Rattle.pts_program.specs.declared.info.StatementInfo.TheVariants.{Block, Call, Print}
use Rattle.pts_program.specs.declared.lists.Lists.{Lists}
use Rattle.pts_store.specs.Stores.{Store, cells_in}
use Rattle.pts_eval.specs.declared.results.CallResult.{CallResult}
use Rattle.pts_eval.specs.declared.results.RunState.{RunState}
use Rattle.pts_eval.specs.declared.results.RunState.TheVariants as states
use Rattle.pts_eval.specs.Calls.{CallGives, CallThrows}
use Rattle.pts_eval.specs.Cells.{start_store}

-- ---- statements

-- the name of the array with this number
abbrev pub name_at : Lists → ℕ → List ℕ
name_at lists array = elim (slice_get lists.arrays array) [ None ↦ [] | Some a ↦ a.name ]

-- what a statement's line says
pub data Answer : Type 0 where
  Called : LoweredCall → CallResult → Answer
  Printed : List ℕ → List Value → Answer
  Terminated : Answer

-- in the store `before` a `print` gives the cells of its array; it leaves the store as it is
abbrev pub Prints : Lists → ℕ → Store → Answer → Store → Type 0
Prints lists array before (Printed name cells) after = (name ≡ name_at lists array) × (cells ≡ cells_in before array) × (after ≡ before)
Prints lists array before answer after = ⊥

-- the call of a number gives a result
abbrev pub GivesResult : Pool → Lists → ℕ → LoweredCall → Store → Answer → Store → Type 0
GivesResult pool lists number call before (Called named result) after = (named ≡ call) × CallGives pool lists number call before result after
GivesResult pool lists number call before answer after = ⊥

-- where the pool is this, the statement may give this answer in the store `before` and leave the store `after`
abbrev pub Performs : Pool → Lists → StatementInfo → Store → Answer → Store → Type 0
Performs pool lists (Print array) before answer after = Prints lists array before answer after
Performs pool lists (Call number) before answer after = IsSomeAnd (slice_get lists.lowered_calls number) (λ call. GivesResult pool lists number call before answer after)
Performs pool lists (Block number) before answer after = ⊥

-- or it may terminate the run; a `print` does not
abbrev pub Terminates : Pool → Lists → StatementInfo → Store → Type 0
Terminates pool lists (Print array) before = ⊥
Terminates pool lists (Call number) before = IsSomeAnd (slice_get lists.lowered_calls number) (λ call. CallThrows pool lists number call before)
Terminates pool lists (Block number) before = ⊥

-- ---- runs

-- how far a run has come
pub record Run : Type 0 where
  pub answers : List Answer
  pub store : Store
  pub state : RunState

-- these statements, one after another from a store on, may give these answers and leave this store and state: so far none has
-- run; or one more has, and then others; or one has terminated the run, and nothing follows
pub data Performing (pool : Pool) (lists : Lists) : List StatementInfo → Store → List Answer → Store → RunState → Type 0 where
  nothing : {ss : List StatementInfo} {before : Store} → Performing pool lists ss before [] before states.Going
  goes_on : {s : StatementInfo} {ss : List StatementInfo} {before : Store} {a : Answer} {rest : List Answer} {after : Store} {state : RunState} (between : Store)
      → Performs pool lists s before a between → Performing pool lists ss between rest after state → Performing pool lists (s ∷ ss) before (a ∷ rest) after state
  terminated : {s : StatementInfo} {ss : List StatementInfo} {before : Store} → Terminates pool lists s before → Performing pool lists (s ∷ ss) before (Terminated ∷ []) before states.Ended

-- a run of some first statements of the program
abbrev pub PermittedRun : Pool → Lists → Run → Type 0
PermittedRun pool lists run = Performing pool lists lists.statements (start_store lists) run.answers run.store run.state

-- a run to which nothing can be added: each statement has its answer, or it has ended before
pub data IsWhole (lists : Lists) (run : Run) : Type 0 where
  answered : length run.answers ≡ length lists.statements → IsWhole lists run
  ended : run.state ≡ states.Ended → IsWhole lists run
