-- What a statement performs, by what was called for it.
use Rattle.std.proofs.Common.{◌≡◌, ℕ, Option, Some, IsSomeAnd, IfSome, List, refl, sym, subst}
use Rattle.pts_types.specs.declared.value.Value.{Value}
use Rattle.pts_boards.specs.declared.pool.Pool.{Pool}
use Rattle.pts_lowering.specs.declared.forms.LoweredCall.{LoweredCall}
use Rattle.pts_program.specs.declared.info.StatementInfo.{StatementInfo}
use Rattle.pts_program.specs.declared.info.StatementInfo.TheVariants.{Print}
use Rattle.pts_program.specs.declared.lists.Lists.{Lists}
use Rattle.pts_store.specs.Stores.{Store, accepted, cells_in}
use Rattle.pts_store.specs.Writes.{Writes}
use Rattle.pts_eval.specs.declared.results.CallResult.{CallResult}
use Rattle.pts_eval.specs.Calls.{CallGives}
use Rattle.pts_eval.specs.Runs.{Called, GivesResult, Performs, Printed, name_at}
use Rattle.pts_calls.specs.declared.answers.CallAnswer.{CallAnswer}
use Rattle.pts_calls.specs.declared.answers.CallAnswer.TheVariants as answers
use Rattle.pts_calls.specs.Answers.{IsCallAnswer}

module _ (pool : Pool) (lists : Lists) (number : ℕ) (before after : Store) where
  -- a call that gave a result
  pub gave : (own : Option LoweredCall) (form : LoweredCall) (answer : CallAnswer) (given : CallResult) (writes : Writes) → own ≡ Some form → answer ≡ answers.Gave given writes → after ≡ accepted before writes
      → IfSome own (λ f. IsCallAnswer pool lists number f before answer) → IsSomeAnd own (λ call. GivesResult pool lists number call before (Called form given) after)
  gave own form answer given writes is e new h =
      let own_answer = subst (λ o. IfSome o (λ f. IsCallAnswer pool lists number f before answer)) is h in
      let gives = subst (IsCallAnswer pool lists number form before) e own_answer in
      subst (λ o. IsSomeAnd o (λ call. GivesResult pool lists number call before (Called form given) after)) (sym is) (refl, subst (CallGives pool lists number form before given) (sym new) gives)

-- an array that was printed
pub printed : (pool : Pool) (lists known : Lists) (before : Store) (s : StatementInfo) (array : ℕ) (name : List ℕ) (cells : List Value) → s ≡ Print array → known ≡ lists → name ≡ name_at known array
    → cells ≡ cells_in before array → Performs pool lists s before (Printed name cells) before
printed pool lists known before s array name cells is same named held =
    subst (λ t. Performs pool lists t before (Printed name cells) before) (sym is) (subst (λ (ls : Lists). name ≡ name_at ls array) same named, held, refl)
