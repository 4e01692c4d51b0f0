-- Runs of a worker that runs a block alone: they are runs of several workers too, they discard no task, and what they cancel has a cause.
use Rattle.std.proofs.Common.{◌≡◌, ◌≢◌, ℕ, ◌≤◌, Bool, true, false, ◌||◌, ◌⊎◌, Option, Some, None, List, [], ◌∷◌, ◌++◌, refl, sym, ap, ◌∙◌, inl, inr, ⊎_elim, arith, le_refl, le_trans}
use Rattle.std.specs.Prelude.{IfSome}
use Rattle.std.specs.List.{list_any}
use Rattle.std.specs.Option.{option_map}
use Rattle.std.proofs.lemmas.List.Folds.{list_any-append}
use Rattle.pts_lowering.specs.declared.tasks.LoweredBlock.{LoweredBlock}
use Rattle.pts_lowering.specs.declared.tasks.LoweredTask.{LoweredTask}
use Rattle.pts_store.specs.Stores.{Store}
use Rattle.pts_blocks.specs.declared.notes.Note.{Note}
use Rattle.pts_blocks.specs.declared.trees.NodeEnd.{NodeEnd}
use Rattle.pts_blocks.specs.declared.trees.Tree.{Tree}
use Rattle.pts_blocks.specs.Meanings.{Meaning}
use Rattle.pts_blocks.specs.Parts.{AreCaused, Ended, HasFailed, OneOf, Part, Task, end_of, followed, later, this, tree_of}
use Rattle.pts_blocks.specs.Runs.{Fits, Form, Point, Runs, Does, done, stops, goes, cancel_run, cancel_wait, wait, discard, run, throw, assign, assign_throws, call, call_terminates, block, ended, start}
use Rattle.pts_blocks.specs.Trees.{end_around, is_cancelled, is_discarded, is_failure, some_end}
use Rattle.pts_blocks.proofs.Deep.{deep_tree, task_has}
use Rattle.pts_blocks.proofs.Ends.{around, or_false, or_left, or_right}

-- ---- one of several lists

one_of_both : {P : Task → Type 0} (xs : List Task) {ys : List Task} → OneOf P (xs ++ ys) → OneOf P xs ⊎ OneOf P ys
one_of_both [] h = inr h
one_of_both (x ∷ xs) (this h) = inl (this h)
one_of_both (x ∷ xs) (later h) = ⊎_elim (λ one. inl (later one)) (λ one. inr one) (one_of_both xs h)

pub one_before : {P : Task → Type 0} {xs : List Task} (ys : List Task) → OneOf P xs → OneOf P (xs ++ ys)
one_before ys (this h) = this h
one_before ys (later h) = later (one_before ys h)

pub one_behind : {P : Task → Type 0} (xs : List Task) {ys : List Task} → OneOf P ys → OneOf P (xs ++ ys)
one_behind [] h = h
one_behind (x ∷ xs) h = later (one_behind xs h)

one_also : {P Q : Task → Type 0} {xs : List Task} → ((task : Task) → P task → Q task) → OneOf P xs → OneOf Q xs
one_also also (this {task = task} h) = this (also task h)
one_also also (later h) = later (one_also also h)

-- ---- no body is discarded

module _ (m : Meaning) (alone : Bool) where
  does_no_discard : {x : Form} {a b : Point} {e : Option Ended} {p : Part} → Does m alone x a e p b → IfSome e (λ d. is_discarded d.end ≡ false)
  does_no_discard (cancel_run h) = refl
  does_no_discard (cancel_wait h) = refl
  does_no_discard (wait h) = tt
  does_no_discard (discard h) = tt
  does_no_discard (run h plain r) = tt
  does_no_discard throw = refl
  does_no_discard (assign h) = tt
  does_no_discard (assign_throws h) = refl
  does_no_discard (call h) = tt
  does_no_discard (call_terminates h) = refl
  does_no_discard (block {a = a} {e = e} {p = p} found r caused) = around (λ end. is_discarded end ≡ false) refl (λ x. refl) a (tree_of e p)

  runs_no_discard : {xs : List LoweredTask} {a b : Point} {e : Option Ended} {p : Part} → Runs m alone xs a e p b → IfSome e (λ d. is_discarded d.end ≡ false)
  runs_no_discard done = tt
  runs_no_discard (stops d) = does_no_discard d
  runs_no_discard (goes d r) = runs_no_discard r

  no_discard_by : (e : Option Ended) → IfSome e (λ d. is_discarded d.end ≡ false) → is_discarded (end_of e) ≡ false
  no_discard_by None h = refl
  no_discard_by (Some d) h = h

  pub no_discard : {xs : List LoweredTask} {a b : Point} {e : Option Ended} {p : Part} → Runs m alone xs a e p b → is_discarded (end_of e) ≡ false
  no_discard {e = e} r = no_discard_by e (runs_no_discard r)

-- ---- alone no task is discarded, at any depth

abbrev discards : Tree → Bool
discards = some_end is_discarded

record Kept (p : Part) : Type 0 where
  pub tasks : list_any (task_has is_discarded) p.tasks ≡ false
  pub inner : list_any discards p.inner ≡ false

follow_kept : (p q : Part) → Kept p → Kept q → Kept (followed p q)
follow_kept p q one rest =
    record {
      tasks = list_any-append (task_has is_discarded) p.tasks q.tasks ∙ ap (λ b. b || list_any (task_has is_discarded) q.tasks) one.tasks ∙ rest.tasks;
      inner = list_any-append discards p.inner q.inner ∙ ap (λ b. b || list_any discards q.inner) one.inner ∙ rest.inner;
    }

tree_kept : (e : Option Ended) (p : Part) → Kept p → is_discarded (end_of e) ≡ false → discards (tree_of e p) ≡ false
tree_kept e p kept end =
    deep_tree is_discarded e p
    ∙ ap (λ b. b || (list_any discards p.inner || is_discarded (end_of e))) kept.tasks
    ∙ ap (λ b. b || is_discarded (end_of e)) kept.inner
    ∙ end

module _ (m : Meaning) where
  mutual
    runs_kept : {xs : List LoweredTask} {a b : Point} {e : Option Ended} {p : Part} → Runs m true xs a e p b → Kept p
    runs_kept done = record { tasks = refl; inner = refl }
    runs_kept (stops d) = does_kept d
    runs_kept (goes {p = p} {q = q} d r) = follow_kept p q (does_kept d) (runs_kept r)

    does_kept : {x : Form} {a b : Point} {e : Option Ended} {p : Part} → Does m true x a e p b → Kept p
    does_kept (cancel_run h) = record { tasks = refl; inner = refl }
    does_kept (cancel_wait h) = record { tasks = refl; inner = refl }
    does_kept (wait h) = record { tasks = refl; inner = refl }
    does_kept (discard h) = absurd (cc)
    does_kept (run {e = e} {p = p} h plain r) =
        record {
          tasks = or_false (list_any discards p.inner || is_discarded (end_of e)) ∙ ap (λ b. b || is_discarded (end_of e)) (runs_kept r).inner ∙ no_discard m true r;
          inner = refl;
        }
    does_kept throw = record { tasks = refl; inner = refl }
    does_kept (assign h) = record { tasks = refl; inner = refl }
    does_kept (assign_throws h) = record { tasks = refl; inner = refl }
    does_kept (call h) = record { tasks = refl; inner = refl }
    does_kept (call_terminates h) = record { tasks = refl; inner = refl }
    does_kept (block {e = e} {p = p} found r caused) =
        record { tasks = refl; inner = or_false (discards (tree_of e p)) ∙ tree_kept e p (runs_kept r) (no_discard m true r) }

  pub alone_discards_none : {xs : List LoweredTask} {a b : Point} {e : Option Ended} {p : Part} → Runs m true xs a e p b
      → some_end is_discarded (tree_of e p) ≡ false
  alone_discards_none {e = e} {p = p} r = tree_kept e p (runs_kept r) (no_discard m true r)

  -- ---- what runs alone may run so among several workers

  abbrev pub unfailed : Point → Point
  unfailed a = record { marks = a.marks; phase = a.phase; failed = false; store = a.store }

  mutual
    pub runs_among : {xs : List LoweredTask} {a b : Point} {e : Option Ended} {p : Part} → Runs m true xs a e p b → Runs m false xs (unfailed a) e p (unfailed b)
    runs_among done = done
    runs_among (stops d) = stops (does_among d)
    runs_among (goes d r) = goes (does_among d) (runs_among r)

    pub does_among : {x : Form} {a b : Point} {e : Option Ended} {p : Part} → Does m true x a e p b → Does m false x (unfailed a) e p (unfailed b)
    does_among (cancel_run h) = cancel_run refl
    does_among (cancel_wait h) = cancel_wait refl
    does_among (wait h) = wait refl
    does_among (discard h) = discard refl
    does_among (run h plain r) = run refl plain (runs_among r)
    does_among throw = throw
    does_among (assign h) = assign h
    does_among (assign_throws h) = assign_throws h
    does_among (call h) = call h
    does_among (call_terminates h) = call_terminates h
    does_among (block found r caused) = block found (runs_among r) caused

  pub fits_among : (of : LoweredBlock) (before : Store) (tree : Tree) (notes : List Note) (after : Store)
      → Fits m true of before tree notes after → Fits m false of before tree notes after
  fits_among of before tree notes after fits =
      record {
        end = fits.end;
        part = fits.part;
        to = unfailed fits.to;
        runs = runs_among fits.runs;
        caused = fits.caused;
        tree_is = fits.tree_is;
        notes_are = fits.notes_are;
        after_is = fits.after_is;
      }

-- ---- what is cancelled alone has a cause

cannot : false ≢ true
cannot e = absurd (cc)

pub either_or : (a b : Bool) → a || b ≡ true → (a ≡ true) ⊎ (b ≡ true)
either_or true b e = inl refl
either_or false b e = inr e

if_some_also : {A : Type 0} {P Q : A → Type 0} (e : Option A) → ((x : A) → P x → Q x) → IfSome e P → IfSome e Q
if_some_also None also h = tt
if_some_also (Some x) also h = also x h

-- the end of a statement is in the phase that it stands in
ended_here : {m : Meaning} {alone : Bool} {x : Form} {a b : Point} {e : Option Ended} {p : Part} → Does m alone x a e p b → IfSome e (λ d. d.phase ≡ a.phase)
ended_here (cancel_run h) = refl
ended_here (cancel_wait h) = refl
ended_here (wait h) = tt
ended_here (discard h) = tt
ended_here (run h plain r) = tt
ended_here throw = refl
ended_here (assign h) = tt
ended_here (assign_throws h) = refl
ended_here (call h) = tt
ended_here (call_terminates h) = refl
ended_here (block {a = a} {e = e} {p = p} found r caused) = by_end (end_around (tree_of e p))
  where
    by_end : (o : Option NodeEnd) → IfSome (option_map (ended a) o) (λ d. d.phase ≡ a.phase)
    by_end None = tt
    by_end (Some end) = refl

-- no statement leads back to an earlier phase
forward : {m : Meaning} {alone : Bool} {x : Form} {a b : Point} {e : Option Ended} {p : Part} → Does m alone x a e p b → a.phase ≤ b.phase
forward (cancel_run {a = a} h) = le_refl a.phase
forward (cancel_wait {a = a} h) = le_refl a.phase
forward (wait {a = a} h) = omega arith
forward (discard {a = a} h) = le_refl a.phase
forward (run {a = a} h plain r) = le_refl a.phase
forward (throw {a = a}) = le_refl a.phase
forward (assign {a = a} h) = le_refl a.phase
forward (assign_throws {a = a} h) = le_refl a.phase
forward (call {a = a} h) = le_refl a.phase
forward (call_terminates {a = a} h) = le_refl a.phase
forward (block {a = a} found r caused) = le_refl a.phase

-- it is a task that fails a block
failed_by : {m : Meaning} {x : Form} {a b : Point} {e : Option Ended} {p : Part} → Does m true x a e p b
    → b.failed ≡ true → (a.failed ≡ true) ⊎ OneOf (λ task. HasFailed a.phase task.phase task.end) p.tasks
failed_by (cancel_run h) failed = inl failed
failed_by (cancel_wait h) failed = inl failed
failed_by (wait h) failed = inl failed
failed_by (discard h) failed = absurd (cc)
failed_by (run {a = a} {e = e} h plain r) failed =
    ⊎_elim (λ one. inr (this (le_refl a.phase, one))) (λ before. inl before) (either_or (is_failure (end_of e)) a.failed failed)
failed_by throw failed = inl failed
failed_by (assign h) failed = inl failed
failed_by (assign_throws h) failed = inl failed
failed_by (call h) failed = inl failed
failed_by (call_terminates h) failed = inl failed
failed_by (block found r caused) failed = inl failed

Rests : Point → List Task → Ended → Type 0
Rests a tasks d = (a.phase ≤ d.phase) × (is_cancelled d.end ≡ true → (a.failed ≡ true) ⊎ OneOf (λ task. HasFailed d.phase task.phase task.end) tasks)

does_rests : {m : Meaning} {x : Form} {a b : Point} {e : Option Ended} {p : Part} → Does m true x a e p b → IfSome e (Rests a p.tasks)
unfolding Rests
does_rests (cancel_run {a = a} h) = (le_refl a.phase, λ cancelled. inl h)
does_rests (cancel_wait {a = a} h) = (le_refl a.phase, λ cancelled. inl h)
does_rests (wait h) = tt
does_rests (discard h) = tt
does_rests (run h plain r) = tt
does_rests (throw {a = a}) = (le_refl a.phase, λ cancelled. absurd (cc))
does_rests (assign h) = tt
does_rests (assign_throws {a = a} h) = (le_refl a.phase, λ cancelled. absurd (cc))
does_rests (call h) = tt
does_rests (call_terminates {a = a} h) = (le_refl a.phase, λ cancelled. absurd (cc))
does_rests (block {a = a} {e = e} {p = p} found r caused) = by_end (end_around (tree_of e p)) (around (λ end. is_cancelled end ≡ false) refl (λ x. refl) a (tree_of e p))
  where
    by_end : (o : Option NodeEnd) → IfSome (option_map (ended a) o) (λ d. is_cancelled d.end ≡ false) → IfSome (option_map (ended a) o) (Rests a [])
    by_end None h = tt
    by_end (Some end) h = (le_refl a.phase, λ cancelled. absurd (cannot (sym h ∙ cancelled)))

runs_rests : {m : Meaning} {xs : List LoweredTask} {a b : Point} {e : Option Ended} {p : Part} → Runs m true xs a e p b → IfSome e (Rests a p.tasks)
unfolding Rests
runs_rests done = tt
runs_rests (stops d) = does_rests d
runs_rests (goes {a = a} {b = b} {e = e} {p = p} {q = q} d r) =
    if_some_also
    e
    (λ (x : Ended) (h : Rests b q.tasks x).
    let up : a.phase ≤ x.phase = le_trans (forward d) h.0 in (
      up,
      λ cancelled.
          ⊎_elim
          (λ failed.
          ⊎_elim
          (λ before. inl before)
          (λ one. inr (one_before q.tasks (one_also (λ task has. (le_trans has.0 up, has.1)) one)))
          (failed_by d failed))
          (λ one. inr (one_behind p.tasks one))
          (h.1 cancelled),
    ))
    (runs_rests r)

none_discarded : (phase : ℕ) {tasks : List Task} → list_any (task_has is_discarded) tasks ≡ false
    → OneOf (λ task. (task.phase ≡ phase) × (is_discarded task.end ≡ true)) tasks → ⊥
none_discarded phase kept (this {task = task} {rest = rest} h) =
    let has : task_has is_discarded task ≡ false = or_left (task_has is_discarded task) (list_any (task_has is_discarded) rest) kept in
    cannot (sym (or_right (list_any discards task.inner) (is_discarded task.end) has) ∙ h.1)
none_discarded phase kept (later {task = task} {rest = rest} h) =
    none_discarded phase (or_right (task_has is_discarded task) (list_any (task_has is_discarded) rest) kept) h

pub alone_caused : (m : Meaning) {xs : List LoweredTask} {s : Store} {b : Point} {e : Option Ended} {p : Part} → Runs m true xs (start s) e p b → AreCaused p.tasks e
unfolding Rests
alone_caused m {s = s} {e = e} {p = p} r =
    record {
      discarded = λ phase one. absurd (none_discarded phase (runs_kept m r).tasks one);
      cancelled =
          if_some_also
          e
          (λ (d : Ended) (h : Rests (start s) p.tasks d). λ cancelled. ⊎_elim (λ failed. absurd (cannot failed)) (λ one. inl one) (h.1 cancelled))
          (runs_rests r);
    }
