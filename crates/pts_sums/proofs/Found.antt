-- The scan that was found is that of the call.
use Rattle.std.proofs.Common.{◌≡◌, Option, Some, List, Result, Ok, Err, IfOk, IfSome, sym, ◌∙◌, subst}
use Rattle.pts_types.specs.declared.value.NoMemory.{NoMemory}
use Rattle.pts_boards.specs.declared.pool.Pool.{Pool}
use Rattle.pts_code.specs.declared.function.FunctionInfo.{FunctionInfo}
use Rattle.pts_lowering.specs.declared.forms.Scan.{Scan}
use Rattle.pts_store.specs.Stores.{Store}
use Rattle.pts_sums.specs.declared.answers.ScanAnswer.{ScanAnswer}
use Rattle.pts_sums.specs.Answers.{IsScanAnswer}

pub scan_found : (functions : List FunctionInfo) (store : Store) (pool : Pool) (x : Scan) (own found : Option Scan) (r : Result ScanAnswer NoMemory) → found ≡ own → found ≡ Some x
    → IfOk r (IsScanAnswer functions store pool x) → IfOk r (λ answer. IfSome own (λ scan. IsScanAnswer functions store pool scan answer))
scan_found functions store pool x own found (Ok answer) e is h = subst (λ o. IfSome o (λ scan. IsScanAnswer functions store pool scan answer)) (sym is ∙ e) h
scan_found functions store pool x own found (Err fault) e is h = h
