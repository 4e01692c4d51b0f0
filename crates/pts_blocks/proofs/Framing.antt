-- The frame law: what a run writes lies in the cells that its statements write, and it can be made again on each store that agrees in the
-- cells that they read.
use Rattle.std.proofs.Common.{◌≡◌, Bool, true, false, Option, None, List, [], ◌∷◌, refl, sym, ap, ◌∙◌, arith, subst}
use Rattle.std.proofs.lemmas.Bool.Decides.{nat_tests}
use Rattle.pts_types.specs.declared.value.Value.{Value}
use Rattle.pts_lowering.specs.declared.tasks.AssignPoints.{AssignPoints}
use Rattle.pts_lowering.specs.declared.tasks.LoweredTask.{LoweredTask, out-LoweredTask}
use Rattle.pts_lowering.specs.declared.tasks.LoweredTask.TheOpen.{LoweredTask-F}
use Rattle.pts_store.specs.Stores.{Store}
use Rattle.pts_blocks.specs.Changes.{AgreeIn, IsInside, no_changes, with_changes}
use Rattle.pts_blocks.specs.Footprints.{Footprint, IsLocal, Touches, TouchesAt, here, later, in_run, in_block, reads, assigns, call_reads, call_writes}
use Rattle.pts_blocks.specs.Meanings.{Meaning}
use Rattle.pts_blocks.specs.Parts.{Ended, Part, followed, nothing}
use Rattle.pts_blocks.specs.Runs.{Form, Point, Runs, Does, done, stops, goes, cancel_run, cancel_wait, wait, discard, run, throw, assign, assign_throws, call, call_terminates, block, assigned, with_store}
use Rattle.pts_blocks.proofs.Changing.{agree_changed, agree_in_part, inside_both, inside_more, inside_nothing, with_both, with_nothing}

-- ---- the store after

mutual
  pub runs_after : {m : Meaning} {alone : Bool} {xs : List LoweredTask} {a b : Point} {e : Option Ended} {p : Part}
      → Runs m alone xs a e p b → b.store ≡ with_changes p.changes a.store
  runs_after (done {a = a}) = sym (with_nothing a.store)
  runs_after (stops d) = does_after d
  runs_after (goes {a = a} {p = p} {q = q} d r) =
      runs_after r ∙ ap (with_changes q.changes) (does_after d) ∙ sym (with_both p.changes q.changes a.store)

  pub does_after : {m : Meaning} {alone : Bool} {x : Form} {a b : Point} {e : Option Ended} {p : Part}
      → Does m alone x a e p b → b.store ≡ with_changes p.changes a.store
  does_after (cancel_run {a = a} h) = sym (with_nothing a.store)
  does_after (cancel_wait {a = a} h) = sym (with_nothing a.store)
  does_after (wait {a = a} h) = sym (with_nothing a.store)
  does_after (discard {a = a} h) = sym (with_nothing a.store)
  does_after (run h plain r) = runs_after r
  does_after (throw {a = a}) = sym (with_nothing a.store)
  does_after (assign h) = refl
  does_after (assign_throws {a = a} h) = sym (with_nothing a.store)
  does_after (call h) = refl
  does_after (call_terminates {a = a} h) = sym (with_nothing a.store)
  does_after (block found r caused) = runs_after r

-- ---- what is written

module _ (m : Meaning) (f : Footprint) (local : IsLocal m f) where
  assigned_inside : (points : AssignPoints) (value : Value) → IsInside (TouchesAt m f true (LoweredTask-F.Assign points)) (assigned m points value)
  assigned_inside points value array index other e =
      let same_array : array ≡ (m.target points).array = grind (arith, nat_tests, e) in
      let same_index : index ≡ (m.target points).index = grind (arith, nat_tests, e) in
      subst
      (λ k. TouchesAt m f true (LoweredTask-F.Assign points) k index)
      (sym same_array)
      (subst (λ k. TouchesAt m f true (LoweredTask-F.Assign points) (m.target points).array k) (sym same_index) (assigns refl))

  mutual
    pub runs_inside : {alone : Bool} {xs : List LoweredTask} {a b : Point} {e : Option Ended} {p : Part}
        → Runs m alone xs a e p b → IsInside (Touches m f true xs) p.changes
    runs_inside done = inside_nothing (Touches m f true [])
    runs_inside (stops {x = x} {xs = xs} {p = p} d) =
        inside_more (TouchesAt m f true (out-LoweredTask x)) (Touches m f true (x ∷ xs)) p.changes (λ array index h. here h) (does_inside d)
    runs_inside (goes {x = x} {xs = xs} {p = p} {q = q} d r) =
        inside_both
        (Touches m f true (x ∷ xs))
        p.changes
        q.changes
        (inside_more (TouchesAt m f true (out-LoweredTask x)) (Touches m f true (x ∷ xs)) p.changes (λ array index h. here h) (does_inside d))
        (inside_more (Touches m f true xs) (Touches m f true (x ∷ xs)) q.changes (λ array index h. later h) (runs_inside r))

    pub does_inside : {alone : Bool} {x : Form} {a b : Point} {e : Option Ended} {p : Part}
        → Does m alone x a e p b → IsInside (TouchesAt m f true x) p.changes
    does_inside (cancel_run {ys = ys} h) = inside_nothing (TouchesAt m f true (LoweredTask-F.Run ys))
    does_inside (cancel_wait h) = inside_nothing (TouchesAt m f true LoweredTask-F.Wait)
    does_inside (wait h) = inside_nothing (TouchesAt m f true LoweredTask-F.Wait)
    does_inside (discard {ys = ys} h) = inside_nothing (TouchesAt m f true (LoweredTask-F.Run ys))
    does_inside (run {ys = ys} {p = p} h plain r) =
        inside_more (Touches m f true ys) (TouchesAt m f true (LoweredTask-F.Run ys)) p.changes (λ array index t. in_run t) (runs_inside r)
    does_inside (throw {code = code}) = inside_nothing (TouchesAt m f true (LoweredTask-F.Throw code))
    does_inside (assign {points = points} {value = value} h) = assigned_inside points value
    does_inside (assign_throws {points = points} h) = inside_nothing (TouchesAt m f true (LoweredTask-F.Assign points))
    does_inside (call {n = n} {a = a} {choice = choice} {changes = changes} h) =
        inside_more (f.call_writes n) (TouchesAt m f true (LoweredTask-F.Call n)) changes (λ array index t. call_writes refl t) (local.changes n a.store choice changes h)
    does_inside (call_terminates {n = n} h) = inside_nothing (TouchesAt m f true (LoweredTask-F.Call n))
    does_inside (block {n = n} {inner = inner} {p = p} found r caused) =
        inside_more (Touches m f true inner.body) (TouchesAt m f true (LoweredTask-F.Block n)) p.changes (λ array index t. in_block found t) (runs_inside r)

  -- ---- once more on another store

  unmoved : {alone : Bool} (x : Form) (a b : Point) (e : Option Ended) (p : Part) (t : Store)
      → Does m alone x a e p (with_store b t) → Does m alone x a e p (with_store b (with_changes no_changes t))
  unmoved {alone} x a b e p t d = subst (λ s. Does m alone x a e p (with_store b s)) (sym (with_nothing t)) d

  mutual
    pub runs_again : {alone : Bool} {xs : List LoweredTask} {a b : Point} {e : Option Ended} {p : Part} → Runs m alone xs a e p b
        → (t : Store) → AgreeIn (Touches m f false xs) a.store t → Runs m alone xs (with_store a t) e p (with_store b (with_changes p.changes t))
    runs_again {alone} (done {a = a}) t agree = subst (λ s. Runs m alone [] (with_store a t) None nothing (with_store a s)) (sym (with_nothing t)) done
    runs_again (stops {x = x} {xs = xs} {a = a} d) t agree =
        stops (does_again d t (agree_in_part (Touches m f false (x ∷ xs)) (TouchesAt m f false (out-LoweredTask x)) a.store t (λ array index h. here h) agree))
    runs_again {alone} (goes {x = x} {xs = xs} {a = a} {b = b} {c = c} {e = e} {p = p} {q = q} d r) t agree =
        let first : AgreeIn (TouchesAt m f false (out-LoweredTask x)) a.store t =
        agree_in_part (Touches m f false (x ∷ xs)) (TouchesAt m f false (out-LoweredTask x)) a.store t (λ array index h. here h) agree in
        let rest : AgreeIn (Touches m f false xs) a.store t =
        agree_in_part (Touches m f false (x ∷ xs)) (Touches m f false xs) a.store t (λ array index h. later h) agree in
        let between : AgreeIn (Touches m f false xs) b.store (with_changes p.changes t) =
        subst
        (λ s. AgreeIn (Touches m f false xs) s (with_changes p.changes t))
        (sym (does_after d))
        (agree_changed (Touches m f false xs) p.changes a.store t rest) in
        subst
        (λ s. Runs m alone (x ∷ xs) (with_store a t) e (followed p q) (with_store c s))
        (sym (with_both p.changes q.changes t))
        (goes (does_again d t first) (runs_again r (with_changes p.changes t) between))

    pub does_again : {alone : Bool} {x : Form} {a b : Point} {e : Option Ended} {p : Part} → Does m alone x a e p b
        → (t : Store) → AgreeIn (TouchesAt m f false x) a.store t → Does m alone x (with_store a t) e p (with_store b (with_changes p.changes t))
    does_again {x} {a} {b} {e} {p} (cancel_run h) t agree = unmoved x (with_store a t) b e p t (cancel_run h)
    does_again {x} {a} {b} {e} {p} (cancel_wait h) t agree = unmoved x (with_store a t) b e p t (cancel_wait h)
    does_again {x} {a} {b} {e} {p} (wait h) t agree = unmoved x (with_store a t) b e p t (wait h)
    does_again {x} {a} {b} {e} {p} (discard h) t agree = unmoved x (with_store a t) b e p t (discard h)
    does_again (run {ys = ys} {a = a} h plain r) t agree =
        run h plain (runs_again r t (agree_in_part (TouchesAt m f false (LoweredTask-F.Run ys)) (Touches m f false ys) a.store t (λ array index k. in_run k) agree))
    does_again {x} {a} {b} {e} {p} throw t agree = unmoved x (with_store a t) b e p t throw
    does_again (assign {points = points} {a = a} h) t agree =
        assign
        (local.value points a.store t (agree_in_part (TouchesAt m f false (LoweredTask-F.Assign points)) (f.reads points) a.store t (λ array index k. reads refl k) agree)
        ∙ h)
    does_again {x} {a} {b} {e} {p} (assign_throws {points = points} {a = a'} h) t agree =
        unmoved x (with_store a t) b e p t
        (assign_throws
        (local.value points a.store t (agree_in_part (TouchesAt m f false (LoweredTask-F.Assign points)) (f.reads points) a.store t (λ array index k. reads refl k) agree)
        ∙ h))
    does_again (call {n = n} {a = a} {choice = choice} {changes = changes} h) t agree =
        call
        (local.gives n a.store t choice changes
        (agree_in_part (TouchesAt m f false (LoweredTask-F.Call n)) (f.call_reads n) a.store t (λ array index k. call_reads refl k) agree)
        h)
    does_again {x} {a} {b} {e} {p} (call_terminates {n = n} {choice = choice} h) t agree =
        unmoved x (with_store a t) b e p t
        (call_terminates
        (local.terminates n a.store t choice
        (agree_in_part (TouchesAt m f false (LoweredTask-F.Call n)) (f.call_reads n) a.store t (λ array index k. call_reads refl k) agree)
        h))
    does_again (block {n = n} {inner = inner} {a = a} found r caused) t agree =
        block
        found
        (runs_again r t
        (agree_in_part (TouchesAt m f false (LoweredTask-F.Block n)) (Touches m f false inner.body) a.store t (λ array index k. in_block found k) agree))
        caused
