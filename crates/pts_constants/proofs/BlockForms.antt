-- The blocks of a block and of its statements, form by form.
use Rattle.std.proofs.Common.{◌≡◌, ℕ, true, false, List, [], ◌∷◌, ◌++◌, map, refl, sym, ap, ◌∙◌}
use Rattle.std.specs.Prelude.{flat_map}
use Rattle.std.proofs.lemmas.List.{append_assoc}
use Rattle.pts_tree.specs.declared.sum.Cell.{Cell}
use Rattle.pts_tree.specs.declared.call.Call.{Call}
use Rattle.pts_tree.specs.declared.expr.Expr.{Expr}
use Rattle.pts_tree.specs.declared.loops.Loop.{Loop}
use Rattle.pts_tree.specs.declared.block.Block.{Block}
use Rattle.pts_tree.specs.declared.block.TaskStmt.{TaskStmt}
use Rattle.pts_tree.specs.declared.block.TaskStmt.TheOpen.{TaskStmt-F}
use Rattle.pts_tree.specs.declared.block.TaskStmt.TheVariants as t
use Rattle.pts_tree.specs.declared.block.TaskStmt.TheFolds.{para-roll-TaskStmt, para-roll-Block}
use Rattle.pts_tree.specs.declared.block.TaskStmt.TheViews.{out-Block, roll-out-Block}
use Rattle.pts_rules.specs.Known.{Scope}
use Rattle.pts_constants.specs.declared.infos.BlockInfo.{BlockInfo}
use Rattle.pts_constants.specs.Blocks.{inner_step, inner_blocks, task_blocks, run_form, wait_form, is_run, is_wait, info, task_infos, block_infos}
use Rattle.pts_constants.proofs.Additions.{map_flat}

-- ---- which statements are `run` and `wait`

pub run-Run : (xs : List TaskStmt) → is_run (t.Run xs) ≡ true
run-Run xs = ap run_form (t.outs-Run xs)

pub run-Wait : is_run t.Wait ≡ false
run-Wait = ap run_form t.outs-Wait

pub run-Throw : (n : ℕ) → is_run (t.Throw n) ≡ false
run-Throw n = ap run_form (t.outs-Throw n)

pub run-Assign : (at : Cell) (x : Expr) → is_run (t.Assign at x) ≡ false
run-Assign at x = ap run_form (t.outs-Assign at x)

pub run-Call : (x : Call) → is_run (t.Call x) ≡ false
run-Call x = ap run_form (t.outs-Call x)

pub run-Loop : (x : Loop) → is_run (t.Loop x) ≡ false
run-Loop x = ap run_form (t.outs-Loop x)

pub run-Block : (x : Block) → is_run (t.Block x) ≡ false
run-Block x = ap run_form (t.outs-Block x)

pub ruleset runs_by_form = (run-Run, run-Wait, run-Throw, run-Assign, run-Call, run-Loop, run-Block)

pub wait-Run : (xs : List TaskStmt) → is_wait (t.Run xs) ≡ false
wait-Run xs = ap wait_form (t.outs-Run xs)

pub wait-Wait : is_wait t.Wait ≡ true
wait-Wait = ap wait_form t.outs-Wait

pub wait-Throw : (n : ℕ) → is_wait (t.Throw n) ≡ false
wait-Throw n = ap wait_form (t.outs-Throw n)

pub wait-Assign : (at : Cell) (x : Expr) → is_wait (t.Assign at x) ≡ false
wait-Assign at x = ap wait_form (t.outs-Assign at x)

pub wait-Call : (x : Call) → is_wait (t.Call x) ≡ false
wait-Call x = ap wait_form (t.outs-Call x)

pub wait-Loop : (x : Loop) → is_wait (t.Loop x) ≡ false
wait-Loop x = ap wait_form (t.outs-Loop x)

pub wait-Block : (x : Block) → is_wait (t.Block x) ≡ false
wait-Block x = ap wait_form (t.outs-Block x)

pub ruleset waits_by_form = (wait-Run, wait-Wait, wait-Throw, wait-Assign, wait-Call, wait-Loop, wait-Block)

-- ---- blocks

-- statements beside the blocks of each, and then the blocks
joined : (xs : List TaskStmt) → flat_map {X = TaskStmt × List Block} (λ y. y.1) (map (λ y. (y, task_blocks y)) xs) ≡ flat_map task_blocks xs
joined [] = refl
joined (x ∷ xs) = ap (λ ys. task_blocks x ++ ys) (joined xs)

blocks-Run : (xs : List TaskStmt) → task_blocks (t.Run xs) ≡ flat_map task_blocks xs
unfolding task_blocks
blocks-Run xs = ap task_blocks (sym (t.rolls-Run xs)) ∙ para-roll-TaskStmt (List Block) (List Block) inner_step (λ x. flat_map (λ y. y.1) x.body) (TaskStmt-F.Run xs) ∙ joined xs

blocks-Block : (x : Block) → task_blocks (t.Block x) ≡ x ∷ inner_blocks x
unfolding task_blocks inner_blocks
blocks-Block x = ap task_blocks (sym (t.rolls-Block x)) ∙ para-roll-TaskStmt (List Block) (List Block) inner_step (λ x. flat_map (λ y. y.1) x.body) (TaskStmt-F.Block x)

blocks-body : (x : Block) → inner_blocks x ≡ flat_map task_blocks x.body
unfolding task_blocks inner_blocks
blocks-body x = ap inner_blocks (sym (roll-out-Block x)) ∙ para-roll-Block (List Block) (List Block) inner_step (λ x. flat_map (λ y. y.1) x.body) (out-Block x) ∙ joined x.body

-- ---- what is kept of them

infos_of : (scope : Scope) (number : ℕ) (xs : List TaskStmt) → map (info scope number) (flat_map task_blocks xs) ≡ flat_map (task_infos scope number) xs
unfolding task_infos
infos_of scope number xs = map_flat (info scope number) task_blocks xs

pub infos-Run : (scope : Scope) (number : ℕ) (xs : List TaskStmt) → task_infos scope number (t.Run xs) ≡ flat_map (task_infos scope number) xs
unfolding task_infos
infos-Run scope number xs = ap (map (info scope number)) (blocks-Run xs) ∙ infos_of scope number xs

pub infos-Block : (scope : Scope) (number : ℕ) (x : Block) → task_infos scope number (t.Block x) ≡ block_infos scope number x
unfolding task_infos
infos-Block scope number x = ap (map (info scope number)) (blocks-Block x)

pub infos-Wait : (scope : Scope) (number : ℕ) → task_infos scope number t.Wait ≡ []
unfolding task_infos task_blocks
infos-Wait scope number = ap (map (info scope number)) (ap task_blocks (sym t.rolls-Wait) ∙ para-roll-TaskStmt (List Block) (List Block) inner_step (λ x. flat_map (λ y. y.1) x.body) TaskStmt-F.Wait)

pub infos-Throw : (scope : Scope) (number : ℕ) (n : ℕ) → task_infos scope number (t.Throw n) ≡ []
unfolding task_infos task_blocks
infos-Throw scope number n = ap (map (info scope number)) (ap task_blocks (sym (t.rolls-Throw n)) ∙ para-roll-TaskStmt (List Block) (List Block) inner_step (λ x. flat_map (λ y. y.1) x.body) (TaskStmt-F.Throw n))

pub infos-Assign : (scope : Scope) (number : ℕ) (at : Cell) (x : Expr) → task_infos scope number (t.Assign at x) ≡ []
unfolding task_infos task_blocks
infos-Assign scope number at x = ap (map (info scope number)) (ap task_blocks (sym (t.rolls-Assign at x)) ∙ para-roll-TaskStmt (List Block) (List Block) inner_step (λ x. flat_map (λ y. y.1) x.body) (TaskStmt-F.Assign at x))

pub infos-Call : (scope : Scope) (number : ℕ) (x : Call) → task_infos scope number (t.Call x) ≡ []
unfolding task_infos task_blocks
infos-Call scope number x = ap (map (info scope number)) (ap task_blocks (sym (t.rolls-Call x)) ∙ para-roll-TaskStmt (List Block) (List Block) inner_step (λ x. flat_map (λ y. y.1) x.body) (TaskStmt-F.Call x))

pub infos-Loop : (scope : Scope) (number : ℕ) (x : Loop) → task_infos scope number (t.Loop x) ≡ []
unfolding task_infos task_blocks
infos-Loop scope number x = ap (map (info scope number)) (ap task_blocks (sym (t.rolls-Loop x)) ∙ para-roll-TaskStmt (List Block) (List Block) inner_step (λ x. flat_map (λ y. y.1) x.body) (TaskStmt-F.Loop x))

pub ruleset task_by_form = (infos-Run, infos-Block, infos-Wait, infos-Throw, infos-Assign, infos-Call, infos-Loop)

-- a block, and then those inside it
pub block_added : (scope : Scope) (number : ℕ) (x : Block) (before middle after : List BlockInfo)
    → middle ≡ before ++ info scope number x ∷ [] → after ≡ middle ++ flat_map (task_infos scope number) x.body → after ≡ before ++ block_infos scope number x
block_added scope number x before middle after e f =
    f
    ∙ (λ i. e i ++ flat_map (task_infos scope number) x.body)
    ∙ append_assoc before (info scope number x ∷ []) (flat_map (task_infos scope number) x.body)
    ∙ ap (λ ys. before ++ info scope number x ∷ ys) (sym (ap (map (info scope number)) (blocks-body x) ∙ infos_of scope number x.body))
