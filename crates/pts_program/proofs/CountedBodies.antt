-- In the body of each block of a program runs stand alone, and all runs and waits are counted.
use Rattle.std.proofs.Common.{◌≡◌, ℕ, suc, ◌+◌, ◌-◌, ◌^◌, ◌<◌, ◌≤◌, Bool, true, false, cond, ◌&&◌, not, List, [], ◌∷◌, length, map, refl, sym, ap, ◌∙◌, subst, arith}
use Rattle.std.specs.Prelude.{All, filter, min}
use Rattle.std.specs.List.{list_all}
use Rattle.std.proofs.lemmas.Bool.{and_parts, false≢true}
use Rattle.pts_tree.specs.Statements.{Task, run_allowed, task, task_allowed, block}
use Rattle.pts_tree.specs.declared.block.Block.{Block}
use Rattle.pts_tree.specs.declared.block.TaskStmt.{TaskStmt, roll-TaskStmt}
use Rattle.pts_tree.specs.declared.block.TaskStmt.TheOpen.{TaskStmt-F}
use Rattle.pts_tree.specs.declared.block.TaskStmt.TheVariants as t
use Rattle.pts_tree.specs.declared.block.TaskStmt.TheViews.{out-TaskStmt, roll-out-TaskStmt}
use Rattle.pts_tree.specs.declared.script.Item.{Item}
use Rattle.pts_tree.specs.declared.script.Item.TheVariants as items
use Rattle.pts_tree.proofs.Tasks as tasks
use Rattle.pts_rules.specs.Known.{Scope}
use Rattle.pts_rules.specs.Scopes.{known}
use Rattle.pts_constants.specs.Blocks.{info, inner_blocks, is_run, is_wait, item_blocks}
use Rattle.pts_constants.specs.Resolved.{resolved_block, resolved_call, resolved_cell, resolved_expr, resolved_loop, resolved_task}
use Rattle.pts_constants.proofs.BlockForms.{run-Run, run-Wait, run-Throw, run-Assign, run-Call, run-Loop, run-Block, wait-Run, wait-Wait, wait-Throw, wait-Assign, wait-Call, wait-Loop, wait-Block}
use Rattle.pts_constants.proofs.ResolvedStatements.{task-Run, task-Wait, task-Throw, task-Assign, task-Call, task-Loop, task-Block, task-body}
use Rattle.pts_points.proofs.Each.{Each}
use Rattle.pts_points.proofs.Each as each_of
use Rattle.pts_program.specs.declared.lists.Lists.{Lists}
use Rattle.pts_program.specs.Bodies.{IsBlockBody, run_form_right, run_right, stands_in_run}
use Rattle.pts_program.specs.Lists.{IsProgram}
use Rattle.pts_program.proofs.BlockBodies.{Good, blocks_good, blocks_short}
use Rattle.pts_program.proofs.ItemTurns.{IsTurn, IsWritten, by_items}
use Rattle.pts_program.proofs.Truths.{both}

stands : (x : TaskStmt) (a b : Bool) → is_run x ≡ a → is_wait x ≡ b → (not a && not b) ≡ true → stands_in_run x ≡ true
stands x a b run wait h = (λ i. not (run i) && not (wait i)) ∙ h

-- what is of one form as it was
record IsSame (scope : Scope) (x : TaskStmt) : Type 0 where
  pub run : is_run (resolved_task scope x) ≡ is_run x
  pub wait : is_wait (resolved_task scope x) ≡ is_wait x

same_by : (scope : Scope) (x y : TaskStmt) (a b : Bool) → resolved_task scope x ≡ y → is_run x ≡ a → is_wait x ≡ b → is_run y ≡ a → is_wait y ≡ b → IsSame scope x
same_by scope x y a b is r w r' w' = record { run = ap is_run is ∙ r' ∙ sym r; wait = ap is_wait is ∙ w' ∙ sym w }

-- what the grammar lets stand in a run
abbrev MayStand : TaskStmt → Type 0
MayStand x = run_allowed (task x) ≡ true → stands_in_run x ≡ true

may_not : (x : TaskStmt) (s : Task) → task x ≡ s → s.in_run ≡ false → MayStand x
may_not x s is out h = absurd (false≢true (sym (ap (λ (z : Task). z.in_run) is ∙ out) ∙ (and_parts (task x).in_run (task x).allowed h).0))

module _ (scope : Scope) where
  record Has (x : TaskStmt) : Type 0 where
    pub same : IsSame scope x
    pub may : MayStand x

  by_out : (z : TaskStmt-F TaskStmt Block) → Has (roll-TaskStmt z)
  by_out (TaskStmt-F.Run xs) =
      subst Has (sym (t.rolls-Run xs)) (record { same = same_by scope (t.Run xs) _ _ _ (task-Run scope xs) (run-Run xs) (wait-Run xs) (run-Run _) (wait-Run _); may = may_not (t.Run xs) _ (tasks.task-Run xs) refl })
  by_out TaskStmt-F.Wait =
      subst Has (sym t.rolls-Wait) (record { same = same_by scope t.Wait _ _ _ (task-Wait scope) run-Wait wait-Wait run-Wait wait-Wait; may = may_not t.Wait _ tasks.task-Wait refl })
  by_out (TaskStmt-F.Throw n) =
      subst Has (sym (t.rolls-Throw n)) (record { same = same_by scope (t.Throw n) _ _ _ (task-Throw scope n) (run-Throw n) (wait-Throw n) (run-Throw n) (wait-Throw n); may = λ h. stands (t.Throw n) _ _ (run-Throw n) (wait-Throw n) refl })
  by_out (TaskStmt-F.Assign at x) =
      subst Has (sym (t.rolls-Assign at x))
      (record { same = same_by scope (t.Assign at x) _ _ _ (task-Assign scope at x) (run-Assign at x) (wait-Assign at x) (run-Assign _ _) (wait-Assign _ _); may = λ h. stands (t.Assign at x) _ _ (run-Assign at x) (wait-Assign at x) refl })
  by_out (TaskStmt-F.Call x) =
      subst Has (sym (t.rolls-Call x)) (record { same = same_by scope (t.Call x) _ _ _ (task-Call scope x) (run-Call x) (wait-Call x) (run-Call _) (wait-Call _); may = λ h. stands (t.Call x) _ _ (run-Call x) (wait-Call x) refl })
  by_out (TaskStmt-F.Loop x) =
      subst Has (sym (t.rolls-Loop x)) (record { same = same_by scope (t.Loop x) _ _ _ (task-Loop scope x) (run-Loop x) (wait-Loop x) (run-Loop _) (wait-Loop _); may = λ h. stands (t.Loop x) _ _ (run-Loop x) (wait-Loop x) refl })
  by_out (TaskStmt-F.Block x) =
      subst Has (sym (t.rolls-Block x)) (record { same = same_by scope (t.Block x) _ _ _ (task-Block scope x) (run-Block x) (wait-Block x) (run-Block _) (wait-Block _); may = λ h. stands (t.Block x) _ _ (run-Block x) (wait-Block x) refl })

  has : (x : TaskStmt) → Has x
  has x = subst Has (roll-out-TaskStmt x) (by_out (out-TaskStmt x))

  -- ---- runs

  all_stand : (xs : List TaskStmt) → list_all run_allowed (map task xs) ≡ true → list_all stands_in_run (map (resolved_task scope) xs) ≡ true
  all_stand [] h = refl
  all_stand (x ∷ xs) h =
      let parts = and_parts (run_allowed (task x)) (list_all run_allowed (map task xs)) h in
      let same = (has x).same in
      both (stands_in_run (resolved_task scope x)) (list_all stands_in_run (map (resolved_task scope) xs))
      ((λ i. not (same.run i) && not (same.wait i)) ∙ (has x).may parts.0) (all_stand xs parts.1)

  abbrev RunsRight : TaskStmt → Type 0
  RunsRight x = (task x).allowed ≡ true → run_right (resolved_task scope x) ≡ true

  -- what is no run is right
  other : (x y : TaskStmt) (z : TaskStmt-F TaskStmt Block) → resolved_task scope x ≡ y → out-TaskStmt y ≡ z → run_form_right z ≡ true → RunsRight x
  other x y z is out right h = ap run_right is ∙ ap run_form_right out ∙ right

  run_by : (z : TaskStmt-F TaskStmt Block) → RunsRight (roll-TaskStmt z)
  run_by (TaskStmt-F.Run xs) =
      subst RunsRight (sym (t.rolls-Run xs))
      (λ h. ap run_right (task-Run scope xs) ∙ ap run_form_right (t.outs-Run (map (resolved_task scope) xs)) ∙ all_stand xs (sym (ap task_allowed (tasks.task-Run xs)) ∙ h))
  run_by TaskStmt-F.Wait = subst RunsRight (sym t.rolls-Wait) (other t.Wait _ _ (task-Wait scope) t.outs-Wait refl)
  run_by (TaskStmt-F.Throw n) = subst RunsRight (sym (t.rolls-Throw n)) (other (t.Throw n) _ _ (task-Throw scope n) (t.outs-Throw n) refl)
  run_by (TaskStmt-F.Assign at x) = subst RunsRight (sym (t.rolls-Assign at x)) (other (t.Assign at x) _ _ (task-Assign scope at x) (t.outs-Assign (resolved_cell scope at) (resolved_expr scope x)) refl)
  run_by (TaskStmt-F.Call x) = subst RunsRight (sym (t.rolls-Call x)) (other (t.Call x) _ _ (task-Call scope x) (t.outs-Call (resolved_call scope x)) refl)
  run_by (TaskStmt-F.Loop x) = subst RunsRight (sym (t.rolls-Loop x)) (other (t.Loop x) _ _ (task-Loop scope x) (t.outs-Loop (resolved_loop scope x)) refl)
  run_by (TaskStmt-F.Block x) = subst RunsRight (sym (t.rolls-Block x)) (other (t.Block x) _ _ (task-Block scope x) (t.outs-Block (resolved_block scope x)) refl)

  runs_right : (x : TaskStmt) → RunsRight x
  runs_right x = subst RunsRight (roll-out-TaskStmt x) (run_by (out-TaskStmt x))

  body_right : (xs : List TaskStmt) → list_all task_allowed (map task xs) ≡ true → list_all run_right (map (resolved_task scope) xs) ≡ true
  body_right [] h = refl
  body_right (x ∷ xs) h =
      let parts = and_parts (task_allowed (task x)) (list_all task_allowed (map task xs)) h in
      both (run_right (resolved_task scope x)) (list_all run_right (map (resolved_task scope) xs)) (runs_right x parts.0) (body_right xs parts.1)

  -- ---- counts

  few_by : (n k : ℕ) (b : Bool) (x : TaskStmt) (kept : List TaskStmt) → length kept ≤ n → k ≡ suc n → length (cond b (x ∷ kept) kept) ≤ k
  few_by n k true x kept h is = omega (arith, h, is)
  few_by n k false x kept h is = omega (arith, h, is)

  few_of : (test : TaskStmt → Bool) (xs : List TaskStmt) → length (filter test xs) ≤ length xs
  few_of test [] = omega arith
  few_of test (x ∷ xs) = few_by (length xs) (length (x ∷ xs)) (test x) x (filter test xs) (few_of test xs) refl

  not_cut : (n k : ℕ) → n ≤ k → k < 2 ^ 32 → min n (2 ^ 32 - 1) ≡ n
  not_cut n k le few = omega (arith, le, few)

  one_passes : (b : Bool) (x y : TaskStmt) (xs ys : List TaskStmt) → length xs ≡ length ys → length (cond b (x ∷ xs) xs) ≡ length (cond b (y ∷ ys) ys)
  one_passes true x y xs ys h = ap suc h
  one_passes false x y xs ys h = h

  passes_same : (test : TaskStmt → Bool) → ((x : TaskStmt) → test (resolved_task scope x) ≡ test x) → (xs : List TaskStmt) → length (filter test (map (resolved_task scope) xs)) ≡ length (filter test xs)
  passes_same test same [] = refl
  passes_same test same (x ∷ xs) =
      ap (λ b. length (cond b (resolved_task scope x ∷ filter test (map (resolved_task scope) xs)) (filter test (map (resolved_task scope) xs)))) (same x)
      ∙ one_passes (test x) (resolved_task scope x) x (filter test (map (resolved_task scope) xs)) (filter test xs) (passes_same test same xs)

  -- ---- blocks

  block_shaped : (number n : ℕ) (x : Block) → Good x → length x.body ≤ n → n < 2 ^ 32 → IsBlockBody (info scope number x)
  block_shaped number n x good short few =
      let body : (resolved_block scope x).body ≡ map (resolved_task scope) x.body = ap (λ z. z.body) (task-body scope x) in
      let allowed : list_all task_allowed (map task x.body) ≡ true = sym (ap (λ z. z.allowed) (tasks.block-is x)) ∙ good in
      record {
        alone = ap (list_all run_right) body ∙ body_right x.body allowed;
        runs =
            not_cut (length (filter is_run x.body)) (length x.body) (few_of is_run x.body) (omega (arith, short, few))
            ∙ sym (ap (λ zs. length (filter is_run zs)) body ∙ passes_same is_run (λ y. (has y).same.run) x.body);
        waits =
            not_cut (length (filter is_wait x.body)) (length x.body) (few_of is_wait x.body) (omega (arith, short, few))
            ∙ sym (ap (λ zs. length (filter is_wait zs)) body ∙ passes_same is_wait (λ y. (has y).same.wait) x.body);
      }

  blocks_shaped : (number n : ℕ) (xs : List Block) → Each Good xs → Each (λ b. length b.body ≤ n) xs → n < 2 ^ 32 → Each IsBlockBody (map (info scope number) xs)
  blocks_shaped number n [] good short few = tt
  blocks_shaped number n (x ∷ xs) good short few = (block_shaped number n x good.0 short.0 few, blocks_shaped number n xs good.1 short.1 few)

  item_shaped : (number : ℕ) (x : Item) → IsWritten x → Each IsBlockBody (map (info scope number) (item_blocks x))
  item_shaped number (items.Const x) written = tt
  item_shaped number (items.Array x) written = tt
  item_shaped number (items.Function x) written = tt
  item_shaped number (items.Call x) written = tt
  item_shaped number (items.Loop x) written = tt
  item_shaped number (items.Block x) written = blocks_shaped number (length (block x [])) (x ∷ inner_blocks x) (blocks_good x written.allowed) (blocks_short x) written.few
  item_shaped number (items.Print x) written = tt

-- ---- all items

abbrev Shaped : List Item → Lists → Type 0
Shaped before lists = Each IsBlockBody lists.blocks

shaped_turn : IsTurn Shaped
shaped_turn before x lists keeps written h =
    each_of.both IsBlockBody lists.blocks (map (info (known before) (length before + 1)) (item_blocks x)) h (item_shaped (known before) (length before + 1) x written)

pub all_shaped : (lists : Lists) → IsProgram lists → All IsBlockBody lists.blocks
all_shaped lists h = each_of.all_of IsBlockBody lists.blocks (by_items Shaped shaped_turn tt lists h)
