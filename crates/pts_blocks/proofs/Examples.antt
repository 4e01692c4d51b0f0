-- Small blocks, with the trees that fit them and some that do not.
use Rattle.std.proofs.Common.{◌≡◌, ℕ, Bool, true, false, ◌||◌, ◌⊎◌, Option, Some, None, Ok, List, [], ◌∷◌, ◌++◌, refl, sym, ap, ◌∙◌, subst, inl, inr, ⊎_elim, arith}
use Rattle.std.specs.Prelude.{flat_map, if◌then◌else◌}
use Rattle.std.specs.List.{list_any}
use Rattle.std.specs.Option.{option_map}
use Rattle.pts_types.specs.declared.value.Thrown.TheVariants.{Code}
use Rattle.pts_types.specs.declared.value.Value.TheVariants.{U64}
use Rattle.pts_lowering.specs.declared.tasks.AssignPoints.{AssignPoints}
use Rattle.pts_lowering.specs.declared.tasks.LoweredBlock.{LoweredBlock}
use Rattle.pts_lowering.specs.declared.tasks.LoweredTask.{LoweredTask, out-LoweredTask}
use Rattle.pts_lowering.specs.declared.tasks.LoweredTask.TheOpen.{LoweredTask-F}
use Rattle.pts_lowering.specs.declared.tasks.LoweredTask.TheVariants as tasks
use Rattle.pts_store.specs.Stores.{Store, arrays_with, cells_with}
use Rattle.pts_blocks.specs.declared.notes.Note.{Note}
use Rattle.pts_blocks.specs.declared.trees.Exception.{Exception}
use Rattle.pts_blocks.specs.declared.trees.Exception.TheVariants as exceptions
use Rattle.pts_blocks.specs.declared.trees.NodeEnd.{NodeEnd}
use Rattle.pts_blocks.specs.declared.trees.NodeEnd.TheVariants as ends
use Rattle.pts_blocks.specs.declared.trees.Tree.{Tree}
use Rattle.pts_blocks.specs.Changes.{no_changes, with_changes}
use Rattle.pts_blocks.specs.declared.notes.Choice.{Choice}
use Rattle.pts_blocks.specs.Footprints.{Footprint, IsLocal}
use Rattle.pts_blocks.specs.Meanings.{HasOneAnswer, Meaning}
use Rattle.pts_blocks.specs.Parts.{AreCaused, Ended, OneOf, Part, Task, block_part, end_of, followed, later, note_of, nothing, task_part, this, tree_of}
use Rattle.pts_blocks.specs.Runs.{Fits, Form, IsTaskBody, Point, Runs, Does, done, stops, goes, cancel_run, discard, run, throw, assign, call_terminates, block, assigned, behind_run, ended, is_of_body, may_go, start, with_store}
use Rattle.pts_blocks.specs.Trees.{body_end, end_around, exceptions_of, is_cancelled, is_discarded, is_failure, is_terminated, some_own_end, some_task, store_after, thrown, thrown_as_one}
use Rattle.pts_blocks.proofs.Alone.{alone_caused, one_before, one_behind}
use Rattle.pts_blocks.proofs.Causes.{causes_show}
use Rattle.pts_blocks.proofs.Deep.{deep_tree, first_empty, list_of_tree, own_body, own_tasks, own_tree, second_empty}
use Rattle.pts_blocks.proofs.Settled.{is_settled}

-- Each assignment puts 5 into the first cell. Each call ends the run. There is one inner block, `{ cell = 5; throw 3; }`.
abbrev some_points : AssignPoints
some_points = record { first = 0; write = 0 }

abbrev inner_block : LoweredBlock
inner_block = record { item = 2; first_point = 0; points = 1; body = tasks.Assign some_points ∷ tasks.Throw 3 ∷ [] }

abbrev no_choice : Choice
no_choice = record { grouping = None; index = None }

abbrev m : Meaning
m =
    record {
      blocks = inner_block ∷ [];
      target = λ points. record { array = 0; index = 0 };
      value = λ points store. Ok (U64 5);
      Gives = λ n store choice changes. ⊥;
      Terminates = λ n store choice. choice ≡ no_choice;
    }

one_answer : HasOneAnswer m
one_answer =
    record {
      given = λ n s c d v w h h'. absurd h;
      terminated = λ n s c d h h'. h ∙ sym h';
      either = λ n s c d v h h'. h;
    }

-- they read nothing, and no call writes
abbrev no_cells : Footprint
no_cells = record { reads = λ points array index. ⊥; call_reads = λ n array index. ⊥; call_writes = λ n array index. ⊥ }

local : IsLocal m no_cells
local =
    record {
      value = λ points s t agree. refl;
      gives = λ n s t choice changes agree h. h;
      terminates = λ n s t choice agree h. h;
      changes = λ n s choice changes h. absurd h;
    }

abbrev block_with : List LoweredTask → LoweredBlock
block_with body = record { item = 2; first_point = 0; points = 0; body = body }

at : {alone : Bool} (x : LoweredTask) {f : Form} {a b : Point} {e : Option Ended} {p : Part} → out-LoweredTask x ≡ f → Does m alone f a e p b → Does m alone (out-LoweredTask x) a e p b
at {alone} x {a = a} {b = b} {e = e} {p = p} is d = subst (λ form. Does m alone form a e p b) (sym is) d

opened : {alone : Bool} (x : LoweredTask) {f : Form} {a b : Point} {e : Option Ended} {p : Part} → out-LoweredTask x ≡ f → Does m alone (out-LoweredTask x) a e p b → Does m alone f a e p b
opened {alone} x {a = a} {b = b} {e = e} {p = p} is d = subst (λ form. Does m alone form a e p b) is d

abbrev threw : ℕ → NodeEnd
threw code = ends.Threw (exceptions.One (Code code))

-- ---- `run { throw 7; } run { throw 9; }`

abbrev throws : ℕ → LoweredTask
throws code = tasks.Run (tasks.Throw code ∷ [])

abbrev both : List LoweredTask
both = throws 7 ∷ throws 9 ∷ []

task_body : (code : ℕ) → IsTaskBody (tasks.Throw code ∷ [])
task_body code = ap (λ f. is_of_body f || false) (tasks.outs-Throw code)

spawned : {alone : Bool} (code : ℕ) (a : Point) → may_go alone a.failed ≡ true
    → Does m alone (out-LoweredTask (throws code)) a None (task_part a.phase (threw code) nothing) (behind_run alone a (threw code) a.store)
spawned code a may = at (throws code) (tasks.outs-Run (tasks.Throw code ∷ [])) (run may (task_body code) (stops (at (tasks.Throw code) (tasks.outs-Throw code) throw)))

-- one worker: the second `run` is cancelled, and the list is [7]
abbrev cancelled_tree : Tree
cancelled_tree = tree_of (Some (record { phase = 0; end = ends.Cancelled 1 })) (followed (task_part 0 (threw 7) nothing) nothing)

fits_alone : (s : Store) → Fits m true (block_with both) s cancelled_tree [] s
fits_alone s =
    let runs : Runs m true both (start s) (Some (record { phase = 0; end = ends.Cancelled 1 })) (followed (task_part 0 (threw 7) nothing) nothing)
    (behind_run true (start s) (threw 7) s) =
    goes (spawned 7 (start s) refl) (stops (at (throws 9) (tasks.outs-Run (tasks.Throw 9 ∷ [])) (cancel_run refl))) in
    record {
      end = Some (record { phase = 0; end = ends.Cancelled 1 });
      part = followed (task_part 0 (threw 7) nothing) nothing;
      to = behind_run true (start s) (threw 7) s;
      runs = runs;
      caused = alone_caused m runs;
      tree_is = refl;
      notes_are = refl;
      after_is = refl;
    }

alone_lists : (s t : Store) (tree : Tree) (notes : List Note) → Fits m true (block_with both) s tree notes t → exceptions_of tree ≡ exceptions.One (Code 7) ∷ []
alone_lists s t tree notes fits =
    ap exceptions_of (is_settled m one_answer one_answer (block_with both) s t s tree cancelled_tree notes [] fits (fits_alone s)).0
    ∙ list_of_tree (Some (record { phase = 0; end = ends.Cancelled 1 })) (followed (task_part 0 (threw 7) nothing) nothing)

-- several workers: both may run, and the list is [7, 9]
abbrev both_part : Part
both_part = followed (task_part 0 (threw 7) nothing) (followed (task_part 0 (threw 9) nothing) nothing)

no_discarded : (phase : ℕ) → OneOf (λ task. (task.phase ≡ phase) × (is_discarded task.end ≡ true)) both_part.tasks → ⊥
no_discarded phase (this h) = let e = h.1 in absurd (cc)
no_discarded phase (later (this h)) = let e = h.1 in absurd (cc)
no_discarded phase (later (later h)) = elim h [ ]

fits_both : (s : Store) → Fits m false (block_with both) s (tree_of None both_part) [] s
fits_both s =
    record {
      end = None;
      part = both_part;
      to = behind_run false (behind_run false (start s) (threw 7) s) (threw 9) s;
      runs = goes (spawned 7 (start s) refl) (goes (spawned 9 (behind_run false (start s) (threw 7) s) refl) done);
      caused = record { discarded = λ phase one. absurd (no_discarded phase one); cancelled = tt };
      tree_is = refl;
      notes_are = refl;
      after_is = refl;
    }

both_lists : exceptions_of (tree_of None both_part) ≡ exceptions.One (Code 7) ∷ exceptions.One (Code 9) ∷ []
both_lists = list_of_tree None both_part

-- or the first is discarded, for what the second threw, and the list is [9]
abbrev later_part : Part
later_part = followed (task_part 0 ends.Discarded nothing) (followed (task_part 0 (threw 9) nothing) nothing)

fits_later : (s : Store) → Fits m false (block_with both) s (tree_of None later_part) [] s
fits_later s =
    record {
      end = None;
      part = later_part;
      to = behind_run false (behind_run false (start s) ends.Discarded s) (threw 9) s;
      runs =
          goes
          (at (throws 7) (tasks.outs-Run (tasks.Throw 7 ∷ [])) (discard refl))
          (goes (spawned 9 (behind_run false (start s) ends.Discarded s) refl) done);
      caused = record { discarded = λ phase one. inl (later (this (omega arith, refl))); cancelled = tt };
      tree_is = refl;
      notes_are = refl;
      after_is = refl;
    }

later_lists : exceptions_of (tree_of None later_part) ≡ exceptions.One (Code 9) ∷ []
later_lists = list_of_tree None later_part

-- but no tree without an exception fits it: what is discarded or cancelled needs a cause
abbrev listed : Option Ended → Part → List Exception
listed e p = flat_map (λ task. thrown task.end) p.tasks ++ thrown (end_of e)

record Uncaused (e : Option Ended) (p : Part) : Type 0 where
  pub some : list_any (λ task. is_discarded task.end) p.tasks || is_cancelled (end_of e) ≡ true
  pub none : list_any (λ task. is_failure task.end) p.tasks || is_failure (end_of e) ≡ false

abbrev Cases : Option Ended → Part → Type 0
Cases e p = (listed e p ≡ [] → ⊥) ⊎ Uncaused e p

does_throw : {code : ℕ} {a b : Point} {e : Option Ended} {p : Part} → Does m false (LoweredTask-F.Throw code) a e p b → end_of e ≡ threw code
does_throw throw = refl

task_throws : (code : ℕ) {a b : Point} {e : Option Ended} {p : Part} → Runs m false (tasks.Throw code ∷ []) a e p b → end_of e ≡ threw code
task_throws code (stops d) = does_throw (opened (tasks.Throw code) (tasks.outs-Throw code) d)
task_throws code (goes d r) = let e = does_throw (opened (tasks.Throw code) (tasks.outs-Throw code) d) in absurd (cc)

-- a task that threw, or a discarded one
spawn_cases : (code : ℕ) {a b : Point} {p : Part} → Does m false (LoweredTask-F.Run (tasks.Throw code ∷ [])) a None p b
    → OneOf (λ task. task.end ≡ threw code) p.tasks ⊎ (p ≡ task_part a.phase ends.Discarded nothing)
spawn_cases code (discard h) = inr refl
spawn_cases code (run h plain r) = inl (this (task_throws code r))

cancel_cases : {ys : List LoweredTask} {a b : Point} {x : Ended} {p : Part} → Does m false (LoweredTask-F.Run ys) a (Some x) p b
    → (p ≡ nothing) × (x ≡ ended a (ends.Cancelled a.marks))
cancel_cases (cancel_run h) = (refl, refl)

one_thrown : (code : ℕ) {tasks : List Task} (rest : List Exception) → OneOf (λ task. task.end ≡ threw code) tasks
    → flat_map (λ task. thrown task.end) tasks ++ rest ≡ [] → ⊥
one_thrown code rest (this {task = task} {rest = others} h) e =
    let one : thrown task.end ≡ exceptions.One (Code code) ∷ [] = ap thrown h in
    let none : thrown task.end ≡ [] =
    first_empty (thrown task.end) (flat_map (λ t. thrown t.end) others) (first_empty (thrown task.end ++ flat_map (λ t. thrown t.end) others) rest e) in
    absurd (cc)
one_thrown code rest (later {task = task} {rest = others} h) e =
    let none : flat_map (λ t. thrown t.end) others ≡ [] =
    second_empty (thrown task.end) (flat_map (λ t. thrown t.end) others) (first_empty (thrown task.end ++ flat_map (λ t. thrown t.end) others) rest e) in
    let left : rest ≡ [] = second_empty (thrown task.end ++ flat_map (λ t. thrown t.end) others) rest e in
    one_thrown code rest h (ap (λ l. l ++ rest) none ∙ left)

abbrev discarded : Part
discarded = task_part 0 ends.Discarded nothing

second_cases : {a b : Point} {e : Option Ended} {p : Part} → Runs m false (throws 9 ∷ []) a e p b → Cases e (followed discarded p)
second_cases (stops {e = x} {p = p} d) =
    let is = cancel_cases (opened (throws 9) (tasks.outs-Run (tasks.Throw 9 ∷ [])) d) in
    inr
    (subst
    (λ q. Uncaused (Some x) (followed discarded q))
    (sym is.0)
    (subst (λ y. Uncaused (Some y) (followed discarded nothing)) (sym is.1) (record { some = refl; none = refl })))
second_cases (goes {p = p} d done) =
    ⊎_elim
    (λ one. inl (one_thrown 9 [] (one_behind discarded.tasks (one_before [] one))))
    (λ is. inr (subst (λ q. Uncaused None (followed discarded (followed q nothing))) (sym is) (record { some = refl; none = refl })))
    (spawn_cases 9 (opened (throws 9) (tasks.outs-Run (tasks.Throw 9 ∷ [])) d))

first_cases : (s : Store) {b : Point} {e : Option Ended} {p : Part} → Runs m false both (start s) e p b → Cases e p
first_cases s (stops {e = x} {p = p} d) =
    let is = cancel_cases (opened (throws 7) (tasks.outs-Run (tasks.Throw 7 ∷ [])) d) in
    inr
    (subst
    (λ q. Uncaused (Some x) q)
    (sym is.0)
    (subst (λ y. Uncaused (Some y) nothing) (sym is.1) (record { some = refl; none = refl })))
first_cases s (goes {b = b} {e = e} {p = p} {q = q} d r) =
    ⊎_elim
    (λ one. inl (one_thrown 7 (thrown (end_of e)) (one_before q.tasks one)))
    (λ is.
    subst
    (λ first. Cases e (followed first q))
    (sym is)
    (second_cases r))
    (spawn_cases 7 (opened (throws 7) (tasks.outs-Run (tasks.Throw 7 ∷ [])) d))

-- a list without exceptions is not permitted
some_exception : (s t : Store) (tree : Tree) (notes : List Note) → Fits m false (block_with both) s tree notes t → exceptions_of tree ≡ [] → ⊥
some_exception s t tree notes fits empty =
    ⊎_elim
    (λ some. some (sym (list_of_tree fits.end fits.part) ∙ sym (ap exceptions_of fits.tree_is) ∙ empty))
    (λ (uncaused : Uncaused fits.end fits.part).
    let shown : some_own_end is_failure tree ≡ true =
    causes_show m false (block_with both) s t tree notes fits
    (ap (λ u. some_task is_discarded u || is_cancelled (body_end u)) fits.tree_is
    ∙ ap (λ end. some_task is_discarded (tree_of fits.end fits.part) || is_cancelled end) (own_body fits.end fits.part)
    ∙ ap (λ b. b || is_cancelled (end_of fits.end)) (own_tasks is_discarded fits.end fits.part)
    ∙ uncaused.some) in
    let unshown : some_own_end is_failure tree ≡ false =
    ap (some_own_end is_failure) fits.tree_is ∙ own_tree is_failure fits.end fits.part ∙ uncaused.none in
    let never : false ≡ true = sym unshown ∙ shown in
    absurd (cc))
    (first_cases s fits.runs)

-- ---- `run { task_block { cell = 5; throw 3; } }`

abbrev changes_of_inner : Part
changes_of_inner = followed (record { tasks = []; inner = []; notes = []; changes = assigned m some_points (U64 5) }) nothing

abbrev inner_end : Option Ended
inner_end = Some (record { phase = 0; end = threw 3 })

abbrev inner_tree : Tree
inner_tree = tree_of inner_end changes_of_inner

-- the body ends behind the assignment, whose change stays
inner_runs : {alone : Bool} (s : Store) → Runs m alone inner_block.body (start s) inner_end changes_of_inner (with_store (start s) (with_changes (assigned m some_points (U64 5)) s))
inner_runs s = goes (at (tasks.Assign some_points) (tasks.outs-Assign some_points) (assign refl)) (stops (at (tasks.Throw 3) (tasks.outs-Throw 3) throw))

inner_ends : end_around inner_tree ≡ Some (ends.Threw (exceptions.Many (exceptions.One (Code 3) ∷ [])))
inner_ends =
    ap (λ b. if b then Some ends.Terminated else thrown_as_one (exceptions_of inner_tree)) (own_tree is_terminated inner_end changes_of_inner)
    ∙ ap thrown_as_one (list_of_tree inner_end changes_of_inner)

-- its list is thrown as one exception where it stands, and ends the task around it
abbrev outer_end : Option Ended
outer_end = Some (record { phase = 0; end = ends.Threw (exceptions.Many (exceptions.One (Code 3) ∷ [])) })

abbrev with_five : Store → Store
with_five s = with_changes (assigned m some_points (U64 5)) s

inner_caused : AreCaused changes_of_inner.tasks inner_end
inner_caused = record { discarded = λ phase one. elim one [ ]; cancelled = λ e. absurd (cc) }

outer_runs : {alone : Bool} (s : Store) → Runs m alone (tasks.Block 0 ∷ []) (start s) outer_end (block_part inner_tree changes_of_inner) (with_store (start s) (with_five s))
outer_runs {alone} s =
    let inside : Does m alone (LoweredTask-F.Block 0) (start s) (option_map (ended (start s)) (end_around inner_tree)) (block_part inner_tree changes_of_inner)
    (with_store (start s) (with_five s)) =
    block refl (inner_runs s) inner_caused in
    stops
    (at
    (tasks.Block 0)
    (tasks.outs-Block 0)
    (subst
    (λ end. Does m alone (LoweredTask-F.Block 0) (start s) (option_map (ended (start s)) end) (block_part inner_tree changes_of_inner) (with_store (start s) (with_five s)))
    inner_ends
    inside))

abbrev nested : List LoweredTask
nested = tasks.Run (tasks.Block 0 ∷ []) ∷ []

abbrev nested_part : Part
nested_part = followed (task_part 0 (end_of outer_end) (block_part inner_tree changes_of_inner)) nothing

fits_nested : (alone : Bool) (s : Store) → may_go alone false ≡ true → Fits m alone (block_with nested) s (tree_of None nested_part) [] (with_five s)
fits_nested alone s may =
    record {
      end = None;
      part = nested_part;
      to = behind_run alone (start s) (end_of outer_end) (with_five s);
      runs =
          goes
          (at
          (tasks.Run (tasks.Block 0 ∷ []))
          (tasks.outs-Run (tasks.Block 0 ∷ []))
          (run may (ap (λ f. is_of_body f || false) (tasks.outs-Block 0)) (outer_runs s)))
          done;
      caused = record { discarded = λ phase one. absurd (kept phase one); cancelled = tt };
      tree_is = refl;
      notes_are = refl;
      after_is = refl;
    }
  where
    kept : (phase : ℕ) → OneOf (λ task. (task.phase ≡ phase) × (is_discarded task.end ≡ true)) nested_part.tasks → ⊥
    kept phase (this h) = let e = h.1 in absurd (cc)
    kept phase (later h) = elim h [ ]

-- the list is [[3]], and what was written stays
nested_lists : exceptions_of (tree_of None nested_part) ≡ exceptions.Many (exceptions.One (Code 3) ∷ []) ∷ []
nested_lists = list_of_tree None nested_part

nested_stays : (s : Store) → store_after (tree_of None nested_part) s (with_five s) ≡ with_five s
nested_stays s =
    ap
    (λ b. if b then s else with_five s)
    (deep_tree is_terminated None nested_part ∙ ap (λ b. (((b || false) || false) || false) || false) (deep_tree is_terminated inner_end changes_of_inner))

five_is_seen : with_five ((U64 0 ∷ []) ∷ []) ≡ (U64 5 ∷ []) ∷ []
unfolding arrays_with cells_with
five_is_seen = refl

-- ---- `run { call; }`, where the call ends the run

abbrev called : List LoweredTask
called = tasks.Run (tasks.Call 0 ∷ []) ∷ []

abbrev called_part : Part
called_part = followed (task_part 0 ends.Terminated (record { tasks = []; inner = []; notes = note_of 0 no_choice true ∷ []; changes = no_changes })) nothing

fits_called : (alone : Bool) (s : Store) → may_go alone false ≡ true
    → Fits m alone (block_with called) s (tree_of None called_part) (note_of 0 no_choice true ∷ []) s
fits_called alone s may =
    record {
      end = None;
      part = called_part;
      to = behind_run alone (start s) ends.Terminated s;
      runs =
          goes
          (at
          (tasks.Run (tasks.Call 0 ∷ []))
          (tasks.outs-Run (tasks.Call 0 ∷ []))
          (run
          may
          (ap (λ f. is_of_body f || false) (tasks.outs-Call 0))
          (stops (at (tasks.Call 0) (tasks.outs-Call 0) (call_terminates refl)))))
          done;
      caused = record { discarded = λ phase one. absurd (kept phase one); cancelled = tt };
      tree_is = refl;
      notes_are = refl;
      after_is = refl;
    }
  where
    kept : (phase : ℕ) → OneOf (λ task. (task.phase ≡ phase) × (is_discarded task.end ≡ true)) called_part.tasks → ⊥
    kept phase (this h) = let e = h.1 in absurd (cc)
    kept phase (later h) = elim h [ ]

-- nothing of the block is kept, whatever else was written
called_undone : (s t : Store) → store_after (tree_of None called_part) s t ≡ s
called_undone s t = ap (λ b. if b then s else t) (deep_tree is_terminated None called_part)
