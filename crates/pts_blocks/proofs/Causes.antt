-- What the tree of a block shows of causes, and which ends its body and its tasks may have.
use Rattle.std.proofs.Common.{◌≡◌, ℕ, Bool, true, false, ◌||◌, Option, Some, None, List, [], ◌∷◌, refl, sym, ap, ◌∙◌, ⊎_elim}
use Rattle.std.specs.Prelude.{IfSome, IsSomeAnd}
use Rattle.std.specs.List.{list_any}
use Rattle.std.proofs.lemmas.List.Folds.{list_any-append}
use Rattle.pts_lowering.specs.declared.tasks.LoweredTask.{LoweredTask}
use Rattle.pts_blocks.specs.Laws.{CausesShow, EndsByKind}
use Rattle.pts_blocks.specs.Meanings.{Meaning}
use Rattle.pts_blocks.specs.Parts.{Ended, HasCause, HasFailed, OneOf, Part, Task, end_of, later, this, tree_of}
use Rattle.pts_blocks.specs.Runs.{Form, Point, Runs, Does, done, stops, goes, cancel_run, cancel_wait, wait, discard, run, throw, assign, assign_throws, call, call_terminates, block}
use Rattle.pts_blocks.specs.Trees.{body_end, is_cancelled, is_discarded, is_failure, some_own_end, some_task}
use Rattle.pts_blocks.proofs.Alone.{either_or, no_discard}
use Rattle.pts_blocks.proofs.Deep.{own_body, own_tasks, own_tree}
use Rattle.pts_blocks.proofs.Ends.{or_true, runs_plain}

-- ---- causes

found_discarded : (tasks : List Task) → list_any (λ task. is_discarded task.end) tasks ≡ true
    → (phase : ℕ) × OneOf (λ task. (task.phase ≡ phase) × (is_discarded task.end ≡ true)) tasks
found_discarded [] e = absurd (cc)
found_discarded (task ∷ tasks) e =
    ⊎_elim
    (λ one. (task.phase, this (refl, one)))
    (λ more.
    let rest : (phase : ℕ) × OneOf (λ t. (t.phase ≡ phase) × (is_discarded t.end ≡ true)) tasks = found_discarded tasks more in
    (rest.0, later rest.1))
    (either_or (is_discarded task.end) (list_any (λ t. is_discarded t.end) tasks) e)

shown_failure : (phase : ℕ) {tasks : List Task} → OneOf (λ task. HasFailed phase task.phase task.end) tasks → list_any (λ task. is_failure task.end) tasks ≡ true
shown_failure phase (this {task = task} {rest = rest} h) = ap (λ b. b || list_any (λ t. is_failure t.end) rest) h.1
shown_failure phase (later {task = task} {rest = rest} h) = ap (λ b. is_failure task.end || b) (shown_failure phase h) ∙ or_true (is_failure task.end)

failed_end : (phase : ℕ) (e : Option Ended) → IsSomeAnd e (λ d. HasFailed phase d.phase d.end) → is_failure (end_of e) ≡ true
failed_end phase None h = absurd h
failed_end phase (Some d) h = h.1

cause_shown : (phase : ℕ) (tasks : List Task) (e : Option Ended) → HasCause tasks e phase → list_any (λ task. is_failure task.end) tasks || is_failure (end_of e) ≡ true
cause_shown phase tasks e cause =
    ⊎_elim
    (λ one. ap (λ b. b || is_failure (end_of e)) (shown_failure phase one))
    (λ body. ap (λ b. list_any (λ task. is_failure task.end) tasks || b) (failed_end phase e body) ∙ or_true (list_any (λ task. is_failure task.end) tasks))
    cause

cancelled_shown : (tasks : List Task) (e : Option Ended) → IfSome e (λ d. is_cancelled d.end ≡ true → HasCause tasks e d.phase)
    → is_cancelled (end_of e) ≡ true → list_any (λ task. is_failure task.end) tasks || is_failure (end_of e) ≡ true
cancelled_shown tasks None h cancelled = absurd (cc)
cancelled_shown tasks (Some d) h cancelled = cause_shown d.phase tasks (Some d) (h cancelled)

pub causes_show : (m : Meaning) → CausesShow m
causes_show m alone of before after tree notes fits e =
    let e' : list_any (λ task. is_discarded task.end) fits.part.tasks || is_cancelled (end_of fits.end) ≡ true =
    sym (ap (λ b. b || is_cancelled (end_of fits.end)) (own_tasks is_discarded fits.end fits.part))
    ∙ sym (ap (λ end. some_task is_discarded (tree_of fits.end fits.part) || is_cancelled end) (own_body fits.end fits.part))
    ∙ sym (ap (λ t. some_task is_discarded t || is_cancelled (body_end t)) fits.tree_is)
    ∙ e in
    let shown : list_any (λ task. is_failure task.end) fits.part.tasks || is_failure (end_of fits.end) ≡ true =
    ⊎_elim
    (λ discarded.
    let one : (phase : ℕ) × OneOf (λ t. (t.phase ≡ phase) × (is_discarded t.end ≡ true)) fits.part.tasks = found_discarded fits.part.tasks discarded in
    cause_shown one.0 fits.part.tasks fits.end (fits.caused.discarded one.0 one.1))
    (λ cancelled. cancelled_shown fits.part.tasks fits.end fits.caused.cancelled cancelled)
    (either_or (list_any (λ task. is_discarded task.end) fits.part.tasks) (is_cancelled (end_of fits.end)) e') in
    ap (some_own_end is_failure) fits.tree_is ∙ own_tree is_failure fits.end fits.part ∙ shown

-- ---- ends by kind

not_cancelled : (e : Option Ended) → IfSome e (λ d. is_cancelled d.end ≡ false) → is_cancelled (end_of e) ≡ false
not_cancelled None h = refl
not_cancelled (Some d) h = h

module _ (m : Meaning) (alone : Bool) where
  does_no_cancel : {x : Form} {a b : Point} {e : Option Ended} {p : Part} → Does m alone x a e p b → list_any (λ task. is_cancelled task.end) p.tasks ≡ false
  does_no_cancel (cancel_run h) = refl
  does_no_cancel (cancel_wait h) = refl
  does_no_cancel (wait h) = refl
  does_no_cancel (discard h) = refl
  does_no_cancel (run {e = e} h plain r) = ap (λ b. b || false) (not_cancelled e (runs_plain m alone r plain).1)
  does_no_cancel throw = refl
  does_no_cancel (assign h) = refl
  does_no_cancel (assign_throws h) = refl
  does_no_cancel (call h) = refl
  does_no_cancel (call_terminates h) = refl
  does_no_cancel (block found r caused) = refl

  runs_no_cancel : {xs : List LoweredTask} {a b : Point} {e : Option Ended} {p : Part} → Runs m alone xs a e p b → list_any (λ task. is_cancelled task.end) p.tasks ≡ false
  runs_no_cancel done = refl
  runs_no_cancel (stops d) = does_no_cancel d
  runs_no_cancel (goes {p = p} {q = q} d r) =
      list_any-append (λ task. is_cancelled task.end) p.tasks q.tasks
      ∙ ap (λ b. b || list_any (λ task. is_cancelled task.end) q.tasks) (does_no_cancel d)
      ∙ runs_no_cancel r

pub ends_by_kind : (m : Meaning) → EndsByKind m
ends_by_kind m alone of before after tree notes fits = (
  ap (λ t. is_discarded (body_end t)) fits.tree_is ∙ ap is_discarded (own_body fits.end fits.part) ∙ no_discard m alone fits.runs,
  ap (some_task is_cancelled) fits.tree_is ∙ own_tasks is_cancelled fits.end fits.part ∙ runs_no_cancel m alone fits.runs,
)
