-- What holds of the nodes of a tree, and of those of the trees inside it.
use Rattle.std.proofs.Common.{◌≡◌, Bool, true, false, ◌||◌, Option, Some, None, List, [], ◌∷◌, ◌++◌, map, refl, sym, ap, ◌∙◌}
use Rattle.std.specs.Prelude.{◌↔◌, flat_map, if◌then◌else◌}
use Rattle.std.specs.List.{list_any}
use Rattle.std.specs.Option.{option_map}
use Rattle.std.proofs.lemmas.List.Folds.{list_any-append}
use Rattle.pts_lowering.specs.declared.tasks.LoweredTask.{LoweredTask}
use Rattle.pts_blocks.specs.declared.trees.Exception.{Exception}
use Rattle.pts_blocks.specs.declared.trees.Node.{Node, roll-Node, out-roll-Node}
use Rattle.pts_blocks.specs.declared.trees.Node.TheFolds.{fold-Node, fold-Tree, fold-roll-Node, fold-roll-Tree}
use Rattle.pts_blocks.specs.declared.trees.Node.TheOpen.{Node-F, Tree-F}
use Rattle.pts_blocks.specs.declared.trees.NodeEnd.{NodeEnd}
use Rattle.pts_blocks.specs.declared.trees.NodeEnd.TheVariants as ends
use Rattle.pts_blocks.specs.declared.trees.Tree.{Tree, out-Tree, out-roll-Tree}
use Rattle.pts_blocks.specs.Meanings.{Meaning}
use Rattle.pts_blocks.specs.Parts.{Ended, Part, Task, end_of, followed, node_of, tree_of}
use Rattle.pts_blocks.specs.Runs.{Form, Point, Runs, Does, done, stops, goes, cancel_run, cancel_wait, wait, discard, run, throw, assign, assign_throws, call, call_terminates, block, ended}
use Rattle.pts_blocks.specs.Trees.{body_end, end_in, exceptions_of, is_terminated, is_thrown, some_end, some_own_end, some_task, thrown, thrown_as_one}
use Rattle.pts_blocks.proofs.Ends.{or_false, or_left, or_right, or_true}

-- ---- trees as they are made

-- a task whose node, or a node inside it, has such an end
abbrev pub task_has : (NodeEnd → Bool) → Task → Bool
task_has test task = list_any (some_end test) task.inner || test task.end

pub own_task : (test : NodeEnd → Bool) (tasks : List Task) → list_any (λ node. test (end_in node)) (map node_of tasks) ≡ list_any (λ task. test task.end) tasks
own_task test [] = refl
own_task test (task ∷ tasks) =
    let first : test (end_in (node_of task)) ≡ test task.end = ap (λ x. test x.end) (out-roll-Node (record { end = task.end; inner = task.inner })) in
    let rest : list_any (λ node. test (end_in node)) (map node_of tasks) ≡ list_any (λ t. test t.end) tasks = own_task test tasks in
    ap (λ b. b || list_any (λ node. test (end_in node)) (map node_of tasks)) first ∙ ap (λ b. test task.end || b) rest

pub own_tree : (test : NodeEnd → Bool) (e : Option Ended) (p : Part)
    → some_own_end test (tree_of e p) ≡ list_any (λ task. test task.end) p.tasks || test (end_of e)
own_tree test e p =
    let opened = out-roll-Tree (record { body = roll-Node (record { end = end_of e; inner = p.inner }); tasks = map node_of p.tasks }) in
    ap (λ x. list_any (λ node. test (end_in node)) x.tasks || test (end_in x.body)) opened
    ∙ ap (λ b. b || test (end_in (roll-Node (record { end = end_of e; inner = p.inner })))) (own_task test p.tasks)
    ∙ ap (λ x. list_any (λ task. test task.end) p.tasks || test x.end) (out-roll-Node (record { end = end_of e; inner = p.inner }))

pub own_tasks : (test : NodeEnd → Bool) (e : Option Ended) (p : Part) → some_task test (tree_of e p) ≡ list_any (λ task. test task.end) p.tasks
own_tasks test e p =
    ap (λ x. list_any (λ node. test (end_in node)) x.tasks) (out-roll-Tree (record { body = roll-Node (record { end = end_of e; inner = p.inner }); tasks = map node_of p.tasks }))
    ∙ own_task test p.tasks

pub own_body : (e : Option Ended) (p : Part) → body_end (tree_of e p) ≡ end_of e
own_body e p =
    ap (λ x. end_in x.body) (out-roll-Tree (record { body = roll-Node (record { end = end_of e; inner = p.inner }); tasks = map node_of p.tasks }))
    ∙ ap (λ x. x.end) (out-roll-Node (record { end = end_of e; inner = p.inner }))

any_same : {A : Type 0} (f : A → Bool) (xs : List A) → list_any (λ b. b) (map f xs) ≡ list_any f xs
any_same f [] = refl
any_same f (x ∷ xs) = ap (λ b. f x || b) (any_same f xs)

module _ (test : NodeEnd → Bool) where
  abbrev node_step : Node-F Bool Bool → Bool
  node_step node = list_any (λ inner. inner) node.inner || test node.end

  abbrev tree_step : Tree-F Bool Bool → Bool
  tree_step tree = list_any (λ task. task) tree.tasks || tree.body

  deep_node : (end : NodeEnd) (inner : List Tree)
      → fold-Node Bool Bool node_step tree_step (roll-Node (record { end = end; inner = inner })) ≡ list_any (some_end test) inner || test end
  unfolding some_end
  deep_node end inner =
      fold-roll-Node Bool Bool node_step tree_step (record { end = end; inner = inner })
      ∙ ap (λ b. b || test end) (any_same (fold-Tree Bool Bool node_step tree_step) inner)

  deep_tasks : (tasks : List Task) → list_any (fold-Node Bool Bool node_step tree_step) (map node_of tasks) ≡ list_any (task_has test) tasks
  deep_tasks [] = refl
  deep_tasks (task ∷ tasks) =
      ap (λ b. b || list_any (fold-Node Bool Bool node_step tree_step) (map node_of tasks)) (deep_node task.end task.inner)
      ∙ ap (λ b. (list_any (some_end test) task.inner || test task.end) || b) (deep_tasks tasks)

  pub deep_tree : (e : Option Ended) (p : Part)
      → some_end test (tree_of e p) ≡ list_any (task_has test) p.tasks || (list_any (some_end test) p.inner || test (end_of e))
  unfolding some_end
  deep_tree e p =
      fold-roll-Tree Bool Bool node_step tree_step
      (record { body = roll-Node (record { end = end_of e; inner = p.inner }); tasks = map node_of p.tasks })
      ∙ ap (λ b. b || fold-Node Bool Bool node_step tree_step (roll-Node (record { end = end_of e; inner = p.inner })))
      (any_same (fold-Node Bool Bool node_step tree_step) (map node_of p.tasks) ∙ deep_tasks p.tasks)
      ∙ ap (λ b. list_any (task_has test) p.tasks || b) (deep_node (end_of e) p.inner)

-- ---- a terminated node inside makes one of the block itself terminated

abbrev ends_run : Tree → Bool
ends_run = some_end is_terminated

-- of the trees that a node began, none has a terminated node, unless the node is terminated
abbrev Shows : List Tree → NodeEnd → Type 0
Shows inner end = list_any ends_run inner || is_terminated end ≡ is_terminated end

-- what a part shows of its tasks and, with this end, of its own node
record Told (e : Option Ended) (p : Part) : Type 0 where
  pub tasks : list_any (task_has is_terminated) p.tasks ≡ list_any (λ task. is_terminated task.end) p.tasks
  pub inner : Shows p.inner (end_of e)

tree_told : (e : Option Ended) (p : Part) → Told e p → ends_run (tree_of e p) ≡ some_own_end is_terminated (tree_of e p)
tree_told e p told =
    deep_tree is_terminated e p
    ∙ ap (λ b. b || (list_any ends_run p.inner || is_terminated (end_of e))) told.tasks
    ∙ ap (λ b. list_any (λ task. is_terminated task.end) p.tasks || b) told.inner
    ∙ sym (own_tree is_terminated e p)

block_shows_by : (a : Point) (tree : Tree) (own : Bool) (list : List Exception) → ends_run tree ≡ own
    → Shows (tree ∷ []) (end_of (option_map (ended a) (if own then Some ends.Terminated else thrown_as_one list)))
block_shows_by a tree true list e = or_true (ends_run tree || false)
block_shows_by a tree false [] e = or_false (ends_run tree || false) ∙ or_false (ends_run tree) ∙ e
block_shows_by a tree false (x ∷ xs) e = or_false (ends_run tree || false) ∙ or_false (ends_run tree) ∙ e

follow_told : (e : Option Ended) (p q : Part) → Told None p → Told e q → Told e (followed p q)
follow_told e p q one rest =
    record {
      tasks =
          list_any-append (task_has is_terminated) p.tasks q.tasks
          ∙ ap (λ b. b || list_any (task_has is_terminated) q.tasks) one.tasks
          ∙ ap (λ b. list_any (λ task. is_terminated task.end) p.tasks || b) rest.tasks
          ∙ sym (list_any-append (λ task. is_terminated task.end) p.tasks q.tasks);
      inner =
          let none : list_any ends_run p.inner ≡ false = or_left (list_any ends_run p.inner) false one.inner in
          ap (λ b. b || is_terminated (end_of e)) (list_any-append ends_run p.inner q.inner ∙ ap (λ b. b || list_any ends_run q.inner) none) ∙ rest.inner;
    }

module _ (m : Meaning) (alone : Bool) where
  mutual
    runs_told : {xs : List LoweredTask} {a b : Point} {e : Option Ended} {p : Part} → Runs m alone xs a e p b → Told e p
    runs_told done = record { tasks = refl; inner = refl }
    runs_told (stops d) = does_told d
    runs_told (goes {e = e} {p = p} {q = q} d r) = follow_told e p q (does_told d) (runs_told r)

    does_told : {x : Form} {a b : Point} {e : Option Ended} {p : Part} → Does m alone x a e p b → Told e p
    does_told (cancel_run h) = record { tasks = refl; inner = refl }
    does_told (cancel_wait h) = record { tasks = refl; inner = refl }
    does_told (wait h) = record { tasks = refl; inner = refl }
    does_told (discard h) = record { tasks = refl; inner = refl }
    does_told (run {e = e} {p = p} h plain r) = record { tasks = ap (λ b. b || false) (runs_told r).inner; inner = refl }
    does_told throw = record { tasks = refl; inner = refl }
    does_told (assign h) = record { tasks = refl; inner = refl }
    does_told (assign_throws h) = record { tasks = refl; inner = refl }
    does_told (call h) = record { tasks = refl; inner = refl }
    does_told (call_terminates h) = record { tasks = refl; inner = refl }
    does_told (block {a = a} {e = e} {p = p} found r caused) =
        record {
          tasks = refl;
          inner =
              block_shows_by a (tree_of e p) (some_own_end is_terminated (tree_of e p)) (exceptions_of (tree_of e p)) (tree_told e p (runs_told r));
        }

  pub one_level : {xs : List LoweredTask} {a b : Point} {e : Option Ended} {p : Part} → Runs m alone xs a e p b
      → some_end is_terminated (tree_of e p) ≡ some_own_end is_terminated (tree_of e p)
  one_level {e = e} {p = p} r = tree_told e p (runs_told r)

-- ---- lists of exceptions

thrown_nothing : (end : NodeEnd) → is_thrown end ≡ false → thrown end ≡ []
thrown_nothing ends.Finished e = refl
thrown_nothing (ends.Threw x) e = absurd (cc)
thrown_nothing (ends.Cancelled mark) e = refl
thrown_nothing ends.Discarded e = refl
thrown_nothing ends.Terminated e = refl

threw_nothing : (end : NodeEnd) → thrown end ≡ [] → is_thrown end ≡ false
threw_nothing ends.Finished e = refl
threw_nothing (ends.Threw x) e = absurd (cc)
threw_nothing (ends.Cancelled mark) e = refl
threw_nothing ends.Discarded e = refl
threw_nothing ends.Terminated e = refl

pub first_empty : {A : Type 0} (xs ys : List A) → xs ++ ys ≡ [] → xs ≡ []
first_empty [] ys e = refl
first_empty (x ∷ xs) ys e = absurd (cc)

pub second_empty : {A : Type 0} (xs ys : List A) → xs ++ ys ≡ [] → ys ≡ []
second_empty [] ys e = e
second_empty (x ∷ xs) ys e = absurd (cc)

all_empty : (nodes : List Node) → list_any (λ node. is_thrown (end_in node)) nodes ≡ false → flat_map (λ node. thrown (end_in node)) nodes ≡ []
all_empty [] e = refl
all_empty (node ∷ nodes) e =
    let one : thrown (end_in node) ≡ [] = thrown_nothing (end_in node) (or_left (is_thrown (end_in node)) (list_any (λ n. is_thrown (end_in n)) nodes) e) in
    let rest : flat_map (λ n. thrown (end_in n)) nodes ≡ [] =
    all_empty nodes (or_right (is_thrown (end_in node)) (list_any (λ n. is_thrown (end_in n)) nodes) e) in
    ap (λ l. l ++ flat_map (λ n. thrown (end_in n)) nodes) one ∙ rest

empty_all : (nodes : List Node) → flat_map (λ node. thrown (end_in node)) nodes ≡ [] → list_any (λ node. is_thrown (end_in node)) nodes ≡ false
empty_all [] e = refl
empty_all (node ∷ nodes) e =
    let one : is_thrown (end_in node) ≡ false = threw_nothing (end_in node) (first_empty (thrown (end_in node)) (flat_map (λ n. thrown (end_in n)) nodes) e) in
    let rest : list_any (λ n. is_thrown (end_in n)) nodes ≡ false =
    empty_all nodes (second_empty (thrown (end_in node)) (flat_map (λ n. thrown (end_in n)) nodes) e) in
    ap (λ b. b || list_any (λ n. is_thrown (end_in n)) nodes) one ∙ rest

pub empty_where_none : (tree : Tree) → (exceptions_of tree ≡ []) ↔ (some_own_end is_thrown tree ≡ false)
empty_where_none tree =
    let tasks : List Node = (out-Tree tree).tasks in
    let body : NodeEnd = end_in (out-Tree tree).body in (
      λ e.
          ap (λ b. b || is_thrown body) (empty_all tasks (first_empty (flat_map (λ node. thrown (end_in node)) tasks) (thrown body) e))
          ∙ threw_nothing body (second_empty (flat_map (λ node. thrown (end_in node)) tasks) (thrown body) e),
      λ e.
          ap (λ l. l ++ thrown body) (all_empty tasks (or_left (list_any (λ node. is_thrown (end_in node)) tasks) (is_thrown body) e))
          ∙ thrown_nothing body (or_right (list_any (λ node. is_thrown (end_in node)) tasks) (is_thrown body) e),
    )

flat_tasks : (tasks : List Task) → flat_map (λ node. thrown (end_in node)) (map node_of tasks) ≡ flat_map (λ task. thrown task.end) tasks
flat_tasks [] = refl
flat_tasks (task ∷ tasks) =
    ap (λ l. l ++ flat_map (λ node. thrown (end_in node)) (map node_of tasks)) (ap (λ x. thrown x.end) (out-roll-Node (record { end = task.end; inner = task.inner })))
    ∙ ap (λ l. thrown task.end ++ l) (flat_tasks tasks)

-- the list of a tree as it is made
pub list_of_tree : (e : Option Ended) (p : Part) → exceptions_of (tree_of e p) ≡ flat_map (λ task. thrown task.end) p.tasks ++ thrown (end_of e)
list_of_tree e p =
    ap
    (λ x. flat_map (λ node. thrown (end_in node)) x.tasks ++ thrown (end_in x.body))
    (out-roll-Tree (record { body = roll-Node (record { end = end_of e; inner = p.inner }); tasks = map node_of p.tasks }))
    ∙ ap (λ l. l ++ thrown (end_in (roll-Node (record { end = end_of e; inner = p.inner })))) (flat_tasks p.tasks)
    ∙ ap (λ x. flat_map (λ task. thrown task.end) p.tasks ++ thrown x.end) (out-roll-Node (record { end = end_of e; inner = p.inner }))
