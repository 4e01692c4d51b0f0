-- How each statement of a task block is spelled, by what spells its parts.
use Rattle.std.proofs.Common.{◌≡◌, ℕ, List, ◌∷◌, map, sym, ap, ◌∙◌}
use Rattle.pts_tree.specs.declared.mark.Mark.TheVariants as m
use Rattle.pts_tree.specs.declared.sum.Cell.{Cell}
use Rattle.pts_tree.specs.declared.expr.Expr.{Expr}
use Rattle.pts_tree.specs.declared.call.Call.{Call}
use Rattle.pts_tree.specs.declared.loops.Loop.{Loop}
use Rattle.pts_tree.specs.declared.block.TaskStmt.{TaskStmt}
use Rattle.pts_tree.specs.declared.block.TaskStmt.TheOpen.{TaskStmt-F}
use Rattle.pts_tree.specs.declared.block.TaskStmt.TheVariants as t
use Rattle.pts_tree.specs.declared.block.TaskStmt.TheFolds.{fold-roll-TaskStmt, fold_out-Block}
use Rattle.pts_tree.specs.declared.block.Block.{Block, out-Block}
use Rattle.pts_tree.specs.Signs.{Mark}
use Rattle.pts_tree.specs.Spelling.{Text, call}
use Rattle.pts_tree.specs.Statements.{Phrase, phrase_text, Task, task_text, task_step, block_step, task, whole_block, tstmt, block, wait, throw_stmt, assign_cell, loop, run, task_block}
use Rattle.pts_tree.proofs.Lists.{each_map}

pub task-Run : (xs : List TaskStmt) → task (t.Run xs) ≡ task_step (TaskStmt-F.Run (map task xs))
unfolding task whole_block
task-Run xs = ap task (sym (t.rolls-Run xs)) ∙ fold-roll-TaskStmt Task Phrase task_step block_step (TaskStmt-F.Run xs)

pub task-Wait : task t.Wait ≡ task_step TaskStmt-F.Wait
unfolding task whole_block
task-Wait = ap task (sym t.rolls-Wait) ∙ fold-roll-TaskStmt Task Phrase task_step block_step TaskStmt-F.Wait

pub task-Throw : (n : ℕ) → task (t.Throw n) ≡ task_step (TaskStmt-F.Throw n)
unfolding task whole_block
task-Throw n = ap task (sym (t.rolls-Throw n)) ∙ fold-roll-TaskStmt Task Phrase task_step block_step (TaskStmt-F.Throw n)

pub task-Assign : (at : Cell) (x : Expr) → task (t.Assign at x) ≡ task_step (TaskStmt-F.Assign at x)
unfolding task whole_block
task-Assign at x = ap task (sym (t.rolls-Assign at x)) ∙ fold-roll-TaskStmt Task Phrase task_step block_step (TaskStmt-F.Assign at x)

pub task-Call : (x : Call) → task (t.Call x) ≡ task_step (TaskStmt-F.Call x)
unfolding task whole_block
task-Call x = ap task (sym (t.rolls-Call x)) ∙ fold-roll-TaskStmt Task Phrase task_step block_step (TaskStmt-F.Call x)

pub task-Loop : (x : Loop) → task (t.Loop x) ≡ task_step (TaskStmt-F.Loop x)
unfolding task whole_block
task-Loop x = ap task (sym (t.rolls-Loop x)) ∙ fold-roll-TaskStmt Task Phrase task_step block_step (TaskStmt-F.Loop x)

pub task-Block : (x : Block) → task (t.Block x) ≡ task_step (TaskStmt-F.Block (whole_block x))
unfolding task whole_block
task-Block x = ap task (sym (t.rolls-Block x)) ∙ fold-roll-TaskStmt Task Phrase task_step block_step (TaskStmt-F.Block x)

pub block-is : (x : Block) → whole_block x ≡ block_step (record { body = map task (out-Block x).body })
unfolding task whole_block
block-is x = fold_out-Block Task Phrase task_step block_step x

pub text-Run : (xs : List TaskStmt) → ◌≡◌ {A = Text} (tstmt (t.Run xs)) (run xs)
text-Run xs = ap task_text (task-Run xs) ∙ (λ i tail. Mark m.Run ∷ Mark m.OpenBrace ∷ each_map task_text task xs (Mark m.CloseBrace ∷ tail) i)

pub text-Wait : ◌≡◌ {A = Text} (tstmt t.Wait) (wait)
text-Wait = ap task_text task-Wait

pub text-Throw : (n : ℕ) → ◌≡◌ {A = Text} (tstmt (t.Throw n)) (throw_stmt n)
text-Throw n = ap task_text (task-Throw n)

pub text-Assign : (at : Cell) (x : Expr) → ◌≡◌ {A = Text} (tstmt (t.Assign at x)) (assign_cell at x)
text-Assign at x = ap task_text (task-Assign at x)

pub text-Call : (x : Call) → ◌≡◌ {A = Text} (tstmt (t.Call x)) (call x)
text-Call x = ap task_text (task-Call x)

pub text-Loop : (x : Loop) → ◌≡◌ {A = Text} (tstmt (t.Loop x)) (loop x)
text-Loop x = ap task_text (task-Loop x)

pub text-Block : (x : Block) → ◌≡◌ {A = Text} (tstmt (t.Block x)) (block x)
text-Block x = ap task_text (task-Block x)

pub block_text : (x : Block) → ◌≡◌ {A = Text} (block x) (task_block (out-Block x).body)
block_text x = ap phrase_text (block-is x) ∙ (λ i tail. Mark m.TaskBlock ∷ Mark m.OpenBrace ∷ each_map task_text task (out-Block x).body (Mark m.CloseBrace ∷ tail) i)

pub ruleset texts = (text-Run, text-Wait, text-Throw, text-Assign, text-Call, text-Loop, text-Block, block_text)
