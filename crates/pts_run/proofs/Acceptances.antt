-- What a script is refused for, by the search for its conflicts.
use Rattle.std.proofs.Common.{◌≡◌, ℕ, Result, Ok, Err, IfOk, None, Some, sym, ap, subst, ◌∙◌}
use Rattle.pts_tree.specs.declared.script.Script.{Script}
use Rattle.pts_program.specs.declared.lists.Lists.{Lists}
use Rattle.pts_program.specs.Faults.{IsSound}
use Rattle.pts_program.specs.Lists.{lists_of}
use Rattle.pts_conflict.specs.Conflicts.{IsClear}
use Rattle.pts_eval.specs.Built.{first_later}
use Rattle.pts_run.specs.declared.accept.Rejection.{Rejection}
use Rattle.pts_run.specs.declared.accept.Rejection.TheVariants as rejections
use Rattle.pts_run.specs.declared.refusal.Refusal.{Refusal}
use Rattle.pts_run.specs.declared.refusal.Refusal.TheVariants as refusals
use Rattle.pts_run.specs.Acceptance.{IsAccepted, IsConflictOf, IsNamedConflict, IsRunnable, Rejects, RejectsRun}

module _ (script : Script) (lists : Lists) (sound : IsSound script) (made : lists ≡ lists_of script) where
  pub accepted : (r : Result Lists Rejection) → IfOk r (λ cleared. (cleared ≡ lists) × IsClear lists) → IfOk r (IsAccepted script)
  accepted (Ok cleared) h = record { sound = sound; made = h.0 ∙ made; clear = subst IsClear (sym h.0) h.1 }
  accepted (Err e) h = tt

  pub rejects : (reason : Refusal) → IsConflictOf script lists reason → Rejects script reason
  rejects (refusals.Conflict x) h = record { sound = sound; named = subst (λ l. IsNamedConflict script l x) made h }
  rejects refusals.TooLong h = absurd h
  rejects (refusals.Syntax fault) h = absurd h
  rejects (refusals.Build fault) h = absurd h
  rejects (refusals.Later item) h = absurd h

  pub rejects_run : (reason : Refusal) → IsConflictOf script lists reason → first_later lists ≡ None → RejectsRun script reason
  rejects_run (refusals.Conflict x) h none = (record { sound = sound; named = subst (λ l. IsNamedConflict script l x) made h }, sym (ap first_later made) ∙ none)
  rejects_run refusals.TooLong h none = absurd h
  rejects_run (refusals.Syntax fault) h none = absurd h
  rejects_run (refusals.Build fault) h none = absurd h
  rejects_run (refusals.Later item) h none = absurd h

-- a script whose first statement that is not built is this item
pub later_rejects : {T : Type 0} (script : Script) (lists : Lists) (item : ℕ) (reason : Refusal) (r other : Result T Rejection) → r ≡ Err (rejections.Refused (refusals.Later item)) → other ≡ Err (rejections.Refused reason)
    → IsSound script → lists ≡ lists_of script → first_later lists ≡ Some item → r ≡ other → RejectsRun script reason
later_rejects script lists item reason r other is are sound made later e =
    let same : refusals.Later item ≡ reason = cc in
    subst (RejectsRun script) same (sound, sym (ap first_later made) ∙ later)

-- one whose statements are all built
pub runnable : (script : Script) (r : Result Lists Rejection) (lists : Lists) → lists ≡ lists_of script → first_later lists ≡ None → IfOk r (IsAccepted script) → IfOk r (IsRunnable script)
runnable script (Ok cleared) lists made none h = record { accepted = h; built = ap first_later (h.made ∙ sym made) ∙ none }
runnable script (Err e) lists made none h = tt
