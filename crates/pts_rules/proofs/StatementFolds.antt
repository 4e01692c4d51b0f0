-- What a fold over a statement of a body, or of a task block, is at each form of it.
use Rattle.std.proofs.Common.{◌≡◌, ℕ, Option, Some, None, option_map, List, map, sym, ap, ◌∙◌}
use Rattle.pts_types.specs.declared.operation.ScalarOp.{ScalarOp}
use Rattle.pts_tree.specs.declared.sum.Cell.{Cell}
use Rattle.pts_tree.specs.declared.call.Call.{Call}
use Rattle.pts_tree.specs.declared.expr.Expr.{Expr}
use Rattle.pts_tree.specs.declared.expr.Place.{Place}
use Rattle.pts_tree.specs.declared.loops.Loop.{Loop}
use Rattle.pts_tree.specs.declared.loops.BodyStmt.{BodyStmt}
use Rattle.pts_tree.specs.declared.loops.BodyStmt.TheOpen.{BodyStmt-F}
use Rattle.pts_tree.specs.declared.loops.BodyStmt.TheVariants as b
use Rattle.pts_tree.specs.declared.loops.BodyStmt.TheFolds.{fold-BodyStmt, fold-roll-BodyStmt}
use Rattle.pts_tree.specs.declared.block.Block.{Block}
use Rattle.pts_tree.specs.declared.block.TaskStmt.{TaskStmt}
use Rattle.pts_tree.specs.declared.block.TaskStmt.TheOpen.{TaskStmt-F, Block-F}
use Rattle.pts_tree.specs.declared.block.TaskStmt.TheVariants as t
use Rattle.pts_tree.specs.declared.block.TaskStmt.TheFolds.{fold-TaskStmt, fold-Block, fold-roll-TaskStmt, fold_out-Block}

-- ---- statements of a body

module _ (A : Type 0) (step : BodyStmt-F A → A) where
  -- the fold
  abbrev value : BodyStmt → A
  value = fold-BodyStmt A step

  pub at-Assign : (at : Place) (x : Expr) → value (b.Assign at x) ≡ step (BodyStmt-F.Assign at x)
  at-Assign at x = ap value (sym (b.rolls-Assign at x)) ∙ fold-roll-BodyStmt A step (BodyStmt-F.Assign at x)

  pub at-Let : (name : List ℕ) (x : Expr) → value (b.Let name x) ≡ step (BodyStmt-F.Let name x)
  at-Let name x = ap value (sym (b.rolls-Let name x)) ∙ fold-roll-BodyStmt A step (BodyStmt-F.Let name x)

  pub at-Combine : (name : List ℕ) (x : Expr) → value (b.Combine name x) ≡ step (BodyStmt-F.Combine name x)
  at-Combine name x = ap value (sym (b.rolls-Combine name x)) ∙ fold-roll-BodyStmt A step (BodyStmt-F.Combine name x)

  pub at-If : (x : Expr) (xs : List BodyStmt) (ys : Option (List BodyStmt)) → value (b.If x xs ys) ≡ step (BodyStmt-F.If x (map value xs) (option_map (map value) ys))
  at-If x xs None = ap value (sym (b.rolls-If x xs None)) ∙ fold-roll-BodyStmt A step (BodyStmt-F.If x xs None)
  at-If x xs (Some ys) = ap value (sym (b.rolls-If x xs (Some ys))) ∙ fold-roll-BodyStmt A step (BodyStmt-F.If x xs (Some ys))

  pub at-VecOff : (xs : List BodyStmt) → value (b.VecOff xs) ≡ step (BodyStmt-F.VecOff (map value xs))
  at-VecOff xs = ap value (sym (b.rolls-VecOff xs)) ∙ fold-roll-BodyStmt A step (BodyStmt-F.VecOff xs)

  pub at-Ordered : (at : Place) (op : ScalarOp) (x : Expr) → value (b.Ordered at op x) ≡ step (BodyStmt-F.Ordered at op x)
  at-Ordered at op x = ap value (sym (b.rolls-Ordered at op x)) ∙ fold-roll-BodyStmt A step (BodyStmt-F.Ordered at op x)

-- ---- statements of a block

module _ (A B : Type 0) (step : TaskStmt-F A B → A) (block_step : Block-F A B → B) where
  abbrev task_value : TaskStmt → A
  task_value = fold-TaskStmt A B step block_step

  abbrev block_value : Block → B
  block_value = fold-Block A B step block_step

  pub at-Run : (xs : List TaskStmt) → task_value (t.Run xs) ≡ step (TaskStmt-F.Run (map task_value xs))
  at-Run xs = ap task_value (sym (t.rolls-Run xs)) ∙ fold-roll-TaskStmt A B step block_step (TaskStmt-F.Run xs)

  pub at-Wait : task_value t.Wait ≡ step TaskStmt-F.Wait
  at-Wait = ap task_value (sym t.rolls-Wait) ∙ fold-roll-TaskStmt A B step block_step TaskStmt-F.Wait

  pub at-Throw : (n : ℕ) → task_value (t.Throw n) ≡ step (TaskStmt-F.Throw n)
  at-Throw n = ap task_value (sym (t.rolls-Throw n)) ∙ fold-roll-TaskStmt A B step block_step (TaskStmt-F.Throw n)

  pub at-cell : (at : Cell) (x : Expr) → task_value (t.Assign at x) ≡ step (TaskStmt-F.Assign at x)
  at-cell at x = ap task_value (sym (t.rolls-Assign at x)) ∙ fold-roll-TaskStmt A B step block_step (TaskStmt-F.Assign at x)

  pub at-Call : (x : Call) → task_value (t.Call x) ≡ step (TaskStmt-F.Call x)
  at-Call x = ap task_value (sym (t.rolls-Call x)) ∙ fold-roll-TaskStmt A B step block_step (TaskStmt-F.Call x)

  pub at-Loop : (x : Loop) → task_value (t.Loop x) ≡ step (TaskStmt-F.Loop x)
  at-Loop x = ap task_value (sym (t.rolls-Loop x)) ∙ fold-roll-TaskStmt A B step block_step (TaskStmt-F.Loop x)

  pub at-Block : (x : Block) → task_value (t.Block x) ≡ step (TaskStmt-F.Block (block_value x))
  at-Block x = ap task_value (sym (t.rolls-Block x)) ∙ fold-roll-TaskStmt A B step block_step (TaskStmt-F.Block x)

  pub at-body : (x : Block) → block_value x ≡ block_step (record { body = map task_value x.body })
  at-body x = fold_out-Block A B step block_step x
