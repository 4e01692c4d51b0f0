-- The statements of a block without constants are its statements without constants.
use Rattle.std.proofs.Common.{◌≡◌, List, [], ◌∷◌, ◌++◌, map, refl, sym, ap, ◌∙◌, subst}
use Rattle.std.specs.Prelude.{flat_map}
use Rattle.std.proofs.lemmas.List.{map-append}
use Rattle.pts_tree.specs.declared.block.Block.{Block, roll-Block, out-roll-Block, map-Block, ind-Block}
use Rattle.pts_tree.specs.declared.block.TaskStmt.{TaskStmt, roll-TaskStmt}
use Rattle.pts_tree.specs.declared.block.TaskStmt.TheOpen.{TaskStmt-F, Block-F}
use Rattle.pts_tree.specs.declared.block.TaskStmt.TheVariants as t
use Rattle.pts_tree.specs.declared.block.TaskStmt.TheFolds.{map-TaskStmt}
use Rattle.pts_rules.specs.Known.{Scope}
use Rattle.pts_rules.specs.Parts.{Simple, Throw, Assign, Call, Loop, block_statements}
use Rattle.pts_rules.proofs.Tasks.{task_statements, statements-Run, statements-Wait, statements-Throw, statements-Assign, statements-Call, statements-Loop, statements-Block, statements-body}
use Rattle.pts_constants.specs.Resolved.{resolved_block, resolved_call, resolved_cell, resolved_expr, resolved_loop, resolved_task}
use Rattle.pts_constants.proofs.ResolvedStatements.{task-Run, task-Wait, task-Throw, task-Assign, task-Call, task-Loop, task-Block, task-body}

-- a statement without constants
abbrev pub resolved_simple : Scope → Simple → Simple
resolved_simple scope (Throw n) = Throw n
resolved_simple scope (Assign at x) = Assign (resolved_cell scope at) (resolved_expr scope x)
resolved_simple scope (Call x) = Call (resolved_call scope x)
resolved_simple scope (Loop x) = Loop (resolved_loop scope x)

module _ (scope : Scope) where
  abbrev r : List Simple → List Simple
  r = map (resolved_simple scope)

  abbrev TaskIs : TaskStmt → Type 0
  TaskIs x = task_statements (resolved_task scope x) ≡ r (task_statements x)

  abbrev BlockIs : Block → Type 0
  BlockIs x = block_statements (resolved_block scope x) ≡ r (block_statements x)

  -- a statement of a block, and a block, with what is known of it
  abbrev KnownTask : Type 0
  KnownTask = (x : TaskStmt) × TaskIs x

  abbrev KnownBlock : Type 0
  KnownBlock = (x : Block) × BlockIs x

  abbrev firsts : List KnownTask → List TaskStmt
  firsts ys = map (λ (y : KnownTask). y.0) ys

  all_are : (ys : List KnownTask) → flat_map task_statements (map (resolved_task scope) (firsts ys)) ≡ r (flat_map task_statements (firsts ys))
  all_are [] = refl
  all_are (y ∷ ys) =
      (λ i. y.1 i ++ all_are ys i) ∙ sym (map-append (resolved_simple scope) (task_statements y.0) (flat_map task_statements (firsts ys)))

  -- through what a statement and its resolved form are
  through : (x y : TaskStmt) (as_is now : List Simple) → resolved_task scope x ≡ y → task_statements x ≡ as_is → task_statements y ≡ now → now ≡ r as_is → TaskIs x
  through x y as_is now is was after same = ap task_statements is ∙ after ∙ same ∙ ap r (sym was)

  by_task : (y : TaskStmt-F KnownTask KnownBlock) → TaskIs (roll-TaskStmt (map-TaskStmt KnownTask KnownBlock TaskStmt Block (λ z. z.0) (λ z. z.0) y))
  by_task (TaskStmt-F.Run ys) =
      subst TaskIs (sym (t.rolls-Run (firsts ys)))
      (through (t.Run (firsts ys)) _ _ _ (task-Run scope (firsts ys)) (statements-Run (firsts ys)) (statements-Run (map (resolved_task scope) (firsts ys))) (all_are ys))
  by_task TaskStmt-F.Wait = subst TaskIs (sym t.rolls-Wait) (through t.Wait _ _ _ (task-Wait scope) statements-Wait statements-Wait refl)
  by_task (TaskStmt-F.Throw n) = subst TaskIs (sym (t.rolls-Throw n)) (through (t.Throw n) _ _ _ (task-Throw scope n) (statements-Throw n) (statements-Throw n) refl)
  by_task (TaskStmt-F.Assign at x) =
      subst TaskIs (sym (t.rolls-Assign at x)) (through (t.Assign at x) _ _ _ (task-Assign scope at x) (statements-Assign at x) (statements-Assign (resolved_cell scope at) (resolved_expr scope x)) refl)
  by_task (TaskStmt-F.Call x) = subst TaskIs (sym (t.rolls-Call x)) (through (t.Call x) _ _ _ (task-Call scope x) (statements-Call x) (statements-Call (resolved_call scope x)) refl)
  by_task (TaskStmt-F.Loop x) = subst TaskIs (sym (t.rolls-Loop x)) (through (t.Loop x) _ _ _ (task-Loop scope x) (statements-Loop x) (statements-Loop (resolved_loop scope x)) refl)
  by_task (TaskStmt-F.Block y) =
      subst TaskIs (sym (t.rolls-Block y.0)) (through (t.Block y.0) _ _ _ (task-Block scope y.0) (statements-Block y.0) (statements-Block (resolved_block scope y.0)) y.1)

  by_block : (y : Block-F KnownTask KnownBlock) → BlockIs (roll-Block (map-Block KnownTask KnownBlock TaskStmt Block (λ z. z.0) (λ z. z.0) y))
  by_block y =
      let x = roll-Block (map-Block KnownTask KnownBlock TaskStmt Block (λ z. z.0) (λ z. z.0) y) in
      let body : x.body ≡ firsts y.body = ap (λ z. z.body) (out-roll-Block (map-Block KnownTask KnownBlock TaskStmt Block (λ z. z.0) (λ z. z.0) y)) in
      ap block_statements (task-body scope x) ∙ statements-body (record { body = map (resolved_task scope) x.body })
      ∙ ap (λ xs. flat_map task_statements (map (resolved_task scope) xs)) body ∙ all_are y.body
      ∙ ap (λ xs. r (flat_map task_statements xs)) (sym body) ∙ ap r (sym (statements-body x))

  pub block_replaced : (x : Block) → block_statements (resolved_block scope x) ≡ map (resolved_simple scope) (block_statements x)
  block_replaced =
      ind-Block TaskIs BlockIs (λ x y is. subst (λ z. TaskIs (roll-TaskStmt z)) is (by_task y)) (λ x y is. subst (λ z. BlockIs (roll-Block z)) is (by_block y))
