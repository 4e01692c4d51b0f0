-- Where each call has one answer, a worker that runs alone has one run.
use Rattle.std.proofs.Common.{◌≡◌, Bool, true, false, Option, Some, List, [], refl, sym, ap, ◌∙◌, subst}
use Rattle.std.specs.Option.{option_map}
use Rattle.pts_lowering.specs.declared.tasks.LoweredBlock.{LoweredBlock}
use Rattle.pts_lowering.specs.declared.tasks.LoweredTask.{LoweredTask}
use Rattle.pts_blocks.specs.declared.trees.Exception.TheVariants as exceptions
use Rattle.pts_blocks.specs.declared.trees.NodeEnd.TheVariants as ends
use Rattle.pts_blocks.specs.Changes.{no_changes, with_changes}
use Rattle.pts_blocks.specs.Laws.{AloneIsSettled}
use Rattle.pts_blocks.specs.Meanings.{HasOneAnswer, Meaning}
use Rattle.pts_blocks.specs.Parts.{Ended, Part, block_part, call_part, end_of, followed, note_of, task_part, tree_of}
use Rattle.pts_blocks.specs.Runs.{Form, Point, Runs, Does, done, stops, goes, cancel_run, cancel_wait, wait, discard, run, throw, assign, assign_throws, call, call_terminates, block, assigned, behind_run, ended, may_cancel, may_go, start, with_store}
use Rattle.pts_blocks.specs.Trees.{end_around}

record Same (e g : Option Ended) (p q : Part) (b c : Point) : Type 0 where
  pub ends : e ≡ g
  pub parts : p ≡ q
  pub points : b ≡ c

either_way : (failed : Bool) → may_cancel true failed ≡ true → may_go true failed ≡ true → ⊥
either_way true cancel go = absurd (cc)
either_way false cancel go = absurd (cc)

module _ (m : Meaning) (one : HasOneAnswer m) where
  mutual
    runs_same : {xs : List LoweredTask} {a b c : Point} {e g : Option Ended} {p q : Part} → Runs m true xs a e p b → Runs m true xs a g q c → Same e g p q b c
    runs_same done done = record { ends = refl; parts = refl; points = refl }
    runs_same (stops d) (stops d') = does_same d d'
    runs_same (stops d) (goes d' r') = let same = does_same d d' in absurd (cc (same.ends))
    runs_same (goes d r) (stops d') = let same = does_same d d' in absurd (cc (same.ends))
    runs_same (goes {xs = xs} {p = p} {q = q} d r) (goes {b = b'} {c = c'} {e = e'} {p = p'} {q = q'} d' r') =
        let first = does_same d d' in
        let rest = runs_same r (subst (λ x. Runs m true xs x e' q' c') (sym first.points) r') in
        record { ends = rest.ends; parts = λ i. followed (first.parts i) (rest.parts i); points = rest.points }

    does_same : {x : Form} {a b c : Point} {e g : Option Ended} {p q : Part} → Does m true x a e p b → Does m true x a g q c → Same e g p q b c
    does_same (cancel_run h) (cancel_run h') = record { ends = refl; parts = refl; points = refl }
    does_same (cancel_run h) (discard h') = absurd (cc)
    does_same (cancel_run {a = a} h) (run h' plain r) = absurd (either_way a.failed h h')
    does_same (discard h) d' = absurd (cc)
    does_same (run {a = a} h plain r) (cancel_run h') = absurd (either_way a.failed h' h)
    does_same (run h plain r) (discard h') = absurd (cc)
    does_same (run {a = a} h plain r) (run h' plain' r') =
        let same = runs_same r r' in
        record {
          ends = refl;
          parts = λ i. task_part a.phase (end_of (same.ends i)) (same.parts i);
          points = λ i. behind_run true a (end_of (same.ends i)) (same.points i).store;
        }
    does_same (cancel_wait h) (cancel_wait h') = record { ends = refl; parts = refl; points = refl }
    does_same (cancel_wait {a = a} h) (wait h') = absurd (either_way a.failed h h')
    does_same (wait {a = a} h) (cancel_wait h') = absurd (either_way a.failed h' h)
    does_same (wait h) (wait h') = record { ends = refl; parts = refl; points = refl }
    does_same throw throw = record { ends = refl; parts = refl; points = refl }
    does_same (assign {points = points} {a = a} {value = v} h) (assign {value = w} h') =
        let same : v ≡ w = cc in
        record {
          ends = refl;
          parts = λ i. record { tasks = []; inner = []; notes = []; changes = assigned m points (same i) };
          points = λ i. with_store a (with_changes (assigned m points (same i)) a.store);
        }
    does_same (assign h) (assign_throws h') = absurd (cc)
    does_same (assign_throws h) (assign h') = absurd (cc)
    does_same (assign_throws {a = a} {fault = v} h) (assign_throws {fault = w} h') =
        let same : v ≡ w = cc in
        record { ends = λ i. Some (ended a (ends.Threw (exceptions.One (same i)))); parts = refl; points = refl }
    does_same (call {n = n} {a = a} {choice = c} {changes = v} h) (call {choice = d} {changes = w} h') =
        let same = one.given n a.store c d v w h h' in
        record {
          ends = refl;
          parts = λ i. call_part (note_of n (same.0 i) false) (same.1 i);
          points = λ i. with_store a (with_changes (same.1 i) a.store);
        }
    does_same (call {n = n} {a = a} {choice = c} {changes = v} h) (call_terminates {choice = d} h') = absurd (one.either n a.store c d v h h')
    does_same (call_terminates {n = n} {a = a} {choice = c} h) (call {choice = d} {changes = v} h') = absurd (one.either n a.store d c v h' h)
    does_same (call_terminates {n = n} {a = a} {choice = c} h) (call_terminates {choice = d} h') =
        let same = one.terminated n a.store c d h h' in
        record { ends = refl; parts = λ i. call_part (note_of n (same i) true) no_changes; points = refl }
    does_same (block {inner = inner} {a = a} found r caused) (block {inner = inner'} {b = b'} {e = e'} {p = p'} found' r' caused') =
        let there : inner ≡ inner' = cc in
        let same = runs_same r (subst (λ (x : LoweredBlock). Runs m true x.body (start a.store) e' p' b') (sym there) r') in
        record {
          ends = λ i. option_map (ended a) (end_around (tree_of (same.ends i) (same.parts i)));
          parts = λ i. block_part (tree_of (same.ends i) (same.parts i)) (same.parts i);
          points = λ i. with_store a (same.points i).store;
        }

  pub is_settled : AloneIsSettled m
  is_settled _ of before after after' tree tree' notes notes' fits fits' =
      let same = runs_same fits.runs fits'.runs in (
        fits.tree_is ∙ (λ i. tree_of (same.ends i) (same.parts i)) ∙ sym fits'.tree_is,
        fits.notes_are ∙ ap (λ p. p.notes) same.parts ∙ sym fits'.notes_are,
        fits.after_is ∙ ap (λ b. b.store) same.points ∙ sym fits'.after_is,
      )
