-- What a sum and a scan answer.
use Rattle.std.specs.Prelude.{◌≡◌, Option, Some, None, length}
use Rattle.pts_types.specs.declared.value.Value.{Value}
use Rattle.pts_boards.specs.declared.pool.Pool.{Pool}
use Rattle.pts_code.specs.declared.function.FunctionInfo.{FunctionInfo}
use Rattle.pts_lowering.specs.declared.forms.Reduction.{Reduction}
use Rattle.pts_lowering.specs.declared.forms.Scan.{Scan}
use Rattle.pts_store.specs.Steps.{AreOf}
use Rattle.pts_store.specs.Stores.{Store}
use Rattle.pts_store.specs.Writes.{Writes}
use Rattle.pts_groupings.specs.Chunks.{chunk_count, sharing, IsGrouping}
use Rattle.pts_eval.specs.Sums.{items_in, reduced, scanned, steps_into}
use Rattle.pts_sums.specs.declared.answers.Outcome.{Outcome}
use Rattle.pts_sums.specs.declared.answers.Outcome.TheVariants as outcomes
use Rattle.pts_sums.specs.declared.answers.ScanAnswer.{ScanAnswer}
use Rattle.pts_sums.specs.declared.answers.ScanAnswer.TheVariants as scan_answers
use Rattle.pts_sums.specs.declared.answers.SumAnswer.{SumAnswer}
use Rattle.pts_sums.specs.Places.{AreWritten}
use Rattle.std.specs.Prelude.{List}

-- the value of an outcome, unless it is a throw
abbrev pub value_in : Outcome → Option Value
value_in (outcomes.Value value) = Some value
value_in outcomes.Terminated = None

-- the writes of a scan, unless it is a throw
abbrev pub writes_in : ScanAnswer → Option Writes
writes_in (scan_answers.Written writes) = Some writes
writes_in scan_answers.Terminated = None

-- The answer of a reduction that a pool runs, where the cells hold what this store holds: a grouping of its positions, the sum
-- over that grouping, or that it throws, and what it writes.
pub record IsSumAnswer (functions : List FunctionInfo) (store : Store) (pool : Pool) (call : Reduction) (answer : SumAnswer) : Type 0 where
  pub grouping : IsGrouping (sharing call.policy pool.workers) (chunk_count (length (items_in functions store call)) pool.chunk) answer.grouping.groups
  pub outcome : value_in answer.outcome ≡ reduced functions store pool.chunk answer.grouping.groups call
  pub writes : AreOf (steps_into call.into (value_in answer.outcome)) answer.writes

-- the answer of a scan: its places, written to the cells of its target, or that one of them throws
abbrev pub IsScanAnswer : List FunctionInfo → Store → Pool → Scan → ScanAnswer → Type 0
IsScanAnswer functions store pool call answer = AreWritten (scanned functions store pool.chunk call) call.target.array call.target.low (writes_in answer)
