-- Parts of runs: joined and cut, exchanged, and made side by side.
use Rattle.std.proofs.Common.{◌≡◌, Bool, true, false, Option, None, List, [], ◌∷◌, ◌++◌, refl, sym, ap, ◌∙◌, subst, inl, inr, ⊎_elim, append_assoc}
use Rattle.std.specs.Prelude.{IsSome}
use Rattle.pts_lowering.specs.declared.tasks.LoweredTask.{LoweredTask, out-LoweredTask}
use Rattle.pts_lowering.specs.declared.tasks.LoweredTask.TheOpen.{LoweredTask-F}
use Rattle.pts_store.specs.Stores.{Store}
use Rattle.pts_blocks.specs.Changes.{AgreeIn, AreApart, Cells, changed_twice, with_changes}
use Rattle.pts_blocks.specs.Footprints.{Footprint, IsLocal, Touches, TouchesAt}
use Rattle.pts_blocks.specs.Frames.{Exchanged, IsCut, IsFramed, IsSplit}
use Rattle.pts_blocks.specs.Meanings.{Meaning}
use Rattle.pts_blocks.specs.Parts.{Ended, Part, end_of, followed, nothing, task_part}
use Rattle.pts_blocks.specs.Runs.{Form, IsTaskBody, Point, Runs, Does, done, stops, goes, run, behind_run, may_go, start, with_store}
use Rattle.pts_blocks.proofs.Changing.{agree_back, agree_elsewhere, changed_thrice, nothing_first, swapped, with_both}
use Rattle.pts_blocks.proofs.Framing.{does_after, does_again, does_inside, runs_after, runs_again, runs_inside}

-- ---- parts

pub followed_nothing : (p : Part) → followed nothing p ≡ p
followed_nothing p = λ i. record { tasks = p.tasks; inner = p.inner; notes = p.notes; changes = nothing_first p.changes i }

pub followed_assoc : (p q r : Part) → followed (followed p q) r ≡ followed p (followed q r)
followed_assoc p q r =
    λ i. record {
      tasks = append_assoc p.tasks q.tasks r.tasks i;
      inner = append_assoc p.inner q.inner r.inner i;
      notes = append_assoc p.notes q.notes r.notes i;
      changes = changed_thrice p.changes q.changes r.changes i;
    }

-- ---- joined and cut

module _ (m : Meaning) (alone : Bool) where
  pub joined : {xs ys : List LoweredTask} {a b c : Point} {e : Option Ended} {p q : Part}
      → Runs m alone xs a None p b → Runs m alone ys b e q c → Runs m alone (xs ++ ys) a e (followed p q) c
  joined {ys = ys} {a = a} {c = c} {e = e} {q = q} done s = subst (λ r. Runs m alone ys a e r c) (sym (followed_nothing q)) s
  joined {ys = ys} {a = a} {c = c} {e = e} {q = q} (goes {x = x} {xs = xs} {p = p} {q = p'} d r) s =
      subst (λ r. Runs m alone (x ∷ (xs ++ ys)) a e r c) (sym (followed_assoc p p' q)) (goes d (joined r s))

  pub split : (xs : List LoweredTask) {ys : List LoweredTask} {a c : Point} {e : Option Ended} {p : Part}
      → Runs m alone (xs ++ ys) a e p c → IsSplit m alone xs ys a e p c
  split [] {ys} {a} {c} {e} {p} r =
      inr (record { at = a; first = nothing; second = p; part_is = sym (followed_nothing p); before = done; behind = r })
  split (x ∷ xs) (stops d) = inl (stops d, refl)
  split (x ∷ xs) {ys} {a} {c} {e} (goes {p = p} {q = q} d r) =
      ⊎_elim
      (λ (h : Runs m alone xs _ e q c × IsSome e). inl (goes d h.0, h.1))
      (λ (h : IsCut m alone xs ys _ e q c).
      inr
      (record {
        at = h.at;
        first = followed p h.first;
        second = h.second;
        part_is = ap (followed p) h.part_is ∙ sym (followed_assoc p h.first h.second);
        before = goes d h.before;
        behind = h.behind;
      }))
      (split xs r)

-- ---- exchanged

pub exchanged : (R W R' W' : Cells) (First Second : Store → Store → Type 0) (before between after : Store)
    → IsFramed R W First before between → IsFramed R' W' Second between after
    → AreApart W R' → AreApart W' R → AreApart W W' → Exchanged First Second before after
exchanged R W R' W' First Second before between after one other reads_later reads_earlier writes =
    let unseen : AgreeIn R' between before =
    subst
    (λ s. AgreeIn R' s before)
    (sym one.after_is)
    (agree_back (agree_elsewhere W R' one.changes before one.inside reads_later)) in
    let second : Second before (with_changes other.changes before) = other.again before unseen in
    let first : First (with_changes other.changes before) (with_changes one.changes (with_changes other.changes before)) =
    one.again (with_changes other.changes before) (agree_elsewhere W' R other.changes before other.inside reads_earlier) in
    let same : with_changes one.changes (with_changes other.changes before) ≡ after =
    sym (with_both other.changes one.changes before)
    ∙ ap (λ w. with_changes w before) (sym (swapped W W' one.changes other.changes one.inside other.inside writes))
    ∙ with_both one.changes other.changes before
    ∙ ap (with_changes other.changes) (sym one.after_is)
    ∙ sym other.after_is in
    record { between = with_changes other.changes before; second = second; first = subst (First (with_changes other.changes before)) same first }

-- ---- runs as changes of a store

module _ (m : Meaning) (f : Footprint) (local : IsLocal m f) (alone : Bool) where
  pub runs_framed : {xs : List LoweredTask} {a b : Point} {e : Option Ended} {p : Part} → Runs m alone xs a e p b
      → IsFramed (Touches m f false xs) (Touches m f true xs) (λ s t. Runs m alone xs (with_store a s) e p (with_store b t)) a.store b.store
  runs_framed {p = p} r =
      record { changes = p.changes; inside = runs_inside m f local r; after_is = runs_after r; again = λ store agree. runs_again m f local r store agree }

  pub does_framed : {x : Form} {a b : Point} {e : Option Ended} {p : Part} → Does m alone x a e p b
      → IsFramed (TouchesAt m f false x) (TouchesAt m f true x) (λ s t. Does m alone x (with_store a s) e p (with_store b t)) a.store b.store
  does_framed {p = p} d =
      record { changes = p.changes; inside = does_inside m f local d; after_is = does_after d; again = λ store agree. does_again m f local d store agree }

  -- ---- side by side

  -- a task, and the statements behind its `run`, both on the store at the `run`
  pub forked : (x : LoweredTask) (ys xs : List LoweredTask) (a b c : Point) (e g : Option Ended) (p q : Part)
      → out-LoweredTask x ≡ LoweredTask-F.Run ys → may_go alone a.failed ≡ true → IsTaskBody ys
      → Runs m alone ys (start a.store) e p b → Runs m alone xs (behind_run alone a (end_of e) a.store) g q c
      → AreApart (Touches m f true ys) (Touches m f false xs)
      → Runs m alone (x ∷ xs) a g (followed (task_part a.phase (end_of e) p) q) (with_store c (with_changes (changed_twice p.changes q.changes) a.store))
  forked x ys xs a b c e g p q is may plain task rest apart =
      let moved : AgreeIn (Touches m f false xs) a.store b.store =
      subst
      (AgreeIn (Touches m f false xs) a.store)
      (sym (runs_after task))
      (agree_elsewhere (Touches m f true ys) (Touches m f false xs) p.changes a.store (runs_inside m f local task) apart) in
      let behind : Runs m alone xs (behind_run alone a (end_of e) b.store) g q (with_store c (with_changes q.changes b.store)) =
      runs_again m f local rest b.store moved in
      let spawned : Does m alone (out-LoweredTask x) a None (task_part a.phase (end_of e) p) (behind_run alone a (end_of e) b.store) =
      subst
      (λ form. Does m alone form a None (task_part a.phase (end_of e) p) (behind_run alone a (end_of e) b.store))
      (sym is)
      (run may plain task) in
      subst
      (λ s. Runs m alone (x ∷ xs) a g (followed (task_part a.phase (end_of e) p) q) (with_store c s))
      (ap (with_changes q.changes) (runs_after task) ∙ sym (with_both p.changes q.changes a.store))
      (goes spawned behind)
