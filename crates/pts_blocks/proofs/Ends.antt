-- How nodes end: tasks without tasks of their own, trees with a terminated node, and lists of exceptions.
use Rattle.std.proofs.Common.{◌≡◌, Bool, true, false, ◌||◌, Option, Some, List, [], ◌∷◌, ◌++◌, refl, ap, ◌∙◌}
use Rattle.std.specs.Prelude.{IfSome, if◌then◌else◌}
use Rattle.std.specs.List.{list_any}
use Rattle.std.specs.Option.{option_map}
use Rattle.pts_lowering.specs.declared.tasks.LoweredTask.{LoweredTask, out-LoweredTask}
use Rattle.pts_blocks.specs.declared.trees.Exception.{Exception}
use Rattle.pts_blocks.specs.declared.trees.Exception.TheVariants as exceptions
use Rattle.pts_blocks.specs.declared.trees.NodeEnd.{NodeEnd}
use Rattle.pts_blocks.specs.declared.trees.NodeEnd.TheVariants as ends
use Rattle.pts_blocks.specs.declared.trees.Tree.{Tree}
use Rattle.pts_blocks.specs.Meanings.{Meaning}
use Rattle.pts_blocks.specs.Parts.{Ended, Part, tree_of}
use Rattle.pts_blocks.specs.Runs.{Form, IsTaskBody, Point, Runs, Does, done, stops, goes, cancel_run, cancel_wait, wait, discard, run, throw, assign, assign_throws, call, call_terminates, block, ended, is_of_body}
use Rattle.pts_blocks.specs.Trees.{end_around, exceptions_of, is_cancelled, is_terminated, some_own_end, thrown_as_one}

-- ---- truths

pub or_left : (a b : Bool) → a || b ≡ false → a ≡ false
or_left true b e = e
or_left false b e = refl

pub or_right : (a b : Bool) → a || b ≡ false → b ≡ false
or_right true b e = absurd (cc)
or_right false b e = e

pub or_false : (a : Bool) → a || false ≡ a
or_false true = refl
or_false false = refl

pub or_true : (a : Bool) → a || true ≡ true
or_true true = refl
or_true false = refl

-- ---- the end around an inner block

around_by : (Q : NodeEnd → Type 0) → Q ends.Terminated → ((x : Exception) → Q (ends.Threw x)) → (a : Point) (terminated : Bool) (list : List Exception)
    → IfSome (option_map (ended a) (if terminated then Some ends.Terminated else thrown_as_one list)) (λ e. Q e.end)
around_by Q terminated threw a true list = terminated
around_by Q terminated threw a false [] = tt
around_by Q terminated threw a false (x ∷ xs) = threw (exceptions.Many (x ∷ xs))

-- it is terminated, or it threw
pub around : (Q : NodeEnd → Type 0) → Q ends.Terminated → ((x : Exception) → Q (ends.Threw x)) → (a : Point) (tree : Tree)
    → IfSome (option_map (ended a) (end_around tree)) (λ e. Q e.end)
around Q terminated threw a tree = around_by Q terminated threw a (some_own_end is_terminated tree) (exceptions_of tree)

-- ---- tasks

module _ (m : Meaning) (alone : Bool) where
  does_plain : {x : Form} {a b : Point} {e : Option Ended} {p : Part} → Does m alone x a e p b
      → is_of_body x ≡ false → (p.tasks ≡ []) × IfSome e (λ d. is_cancelled d.end ≡ false)
  does_plain (cancel_run h) plain = absurd (cc)
  does_plain (cancel_wait h) plain = absurd (cc)
  does_plain (wait h) plain = absurd (cc)
  does_plain (discard h) plain = absurd (cc)
  does_plain (run h body r) plain = absurd (cc)
  does_plain throw plain = (refl, refl)
  does_plain (assign h) plain = (refl, tt)
  does_plain (assign_throws h) plain = (refl, refl)
  does_plain (call h) plain = (refl, tt)
  does_plain (call_terminates h) plain = (refl, refl)
  does_plain (block {a = a} {e = e} {p = p} found r caused) plain = (refl, around (λ end. is_cancelled end ≡ false) refl (λ x. refl) a (tree_of e p))

  -- a task spawns no tasks, and is not cancelled
  pub runs_plain : {xs : List LoweredTask} {a b : Point} {e : Option Ended} {p : Part} → Runs m alone xs a e p b
      → IsTaskBody xs → (p.tasks ≡ []) × IfSome e (λ d. is_cancelled d.end ≡ false)
  runs_plain done plain = (refl, tt)
  runs_plain (stops {x = x} {xs = xs} d) plain =
      does_plain d (or_left (is_of_body (out-LoweredTask x)) (list_any (λ y. is_of_body (out-LoweredTask y)) xs) plain)
  runs_plain (goes {x = x} {xs = xs} {p = p} {q = q} d r) plain =
      let one : p.tasks ≡ [] = (does_plain d (or_left (is_of_body (out-LoweredTask x)) (list_any (λ y. is_of_body (out-LoweredTask y)) xs) plain)).0 in
      let rest : (q.tasks ≡ []) × _ = runs_plain r (or_right (is_of_body (out-LoweredTask x)) (list_any (λ y. is_of_body (out-LoweredTask y)) xs) plain) in
      (ap (λ l. l ++ q.tasks) one ∙ rest.0, rest.1)
