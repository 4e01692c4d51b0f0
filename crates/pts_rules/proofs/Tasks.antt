-- What each definition on task blocks is, statement by statement.
use Rattle.std.proofs.Common.{◌≡◌, ℕ, ◌+◌, List, [], ◌∷◌, ◌++◌, map, refl, ap, ◌∙◌}
use Rattle.std.specs.Prelude.{flat_map}
use Rattle.pts_tree.specs.declared.sum.Cell.{Cell}
use Rattle.pts_tree.specs.declared.call.Call as call
use Rattle.pts_tree.specs.declared.expr.Expr.{Expr}
use Rattle.pts_tree.specs.declared.loops.Loop as loops
use Rattle.pts_tree.specs.declared.block.Block.{Block}
use Rattle.pts_tree.specs.declared.block.TaskStmt.{TaskStmt}
use Rattle.pts_tree.specs.declared.block.TaskStmt.TheVariants as t
use Rattle.pts_tree.specs.declared.block.TaskStmt.TheFolds.{fold-TaskStmt}
use Rattle.pts_rules.specs.Parts.{Simple, Throw, Assign, Call, Loop, simple_step, block_statements}
use Rattle.pts_rules.specs.Counts.{greatest, nesting, nesting_step}
use Rattle.pts_rules.proofs.StatementFolds.{at-Run, at-Wait, at-Throw, at-cell, at-Call, at-Loop, at-Block, at-body}

-- the statements of one statement of a block
unfoldable pub task_statements : TaskStmt → List Simple
task_statements = fold-TaskStmt (List Simple) (List Simple) simple_step (λ x. flat_map (λ y. y) x.body)

-- lists that are made of parts, and then joined
joined : (xs : List TaskStmt) → flat_map (λ y. y) (map task_statements xs) ≡ flat_map task_statements xs
joined [] = refl
joined (x ∷ xs) = ap (λ ys. task_statements x ++ ys) (joined xs)

pub statements-Run : (xs : List TaskStmt) → task_statements (t.Run xs) ≡ flat_map task_statements xs
unfolding task_statements
statements-Run xs = at-Run (List Simple) (List Simple) simple_step (λ x. flat_map (λ y. y) x.body) xs ∙ joined xs

pub statements-Wait : task_statements t.Wait ≡ []
unfolding task_statements
statements-Wait = at-Wait (List Simple) (List Simple) simple_step (λ x. flat_map (λ y. y) x.body)

pub statements-Throw : (n : ℕ) → task_statements (t.Throw n) ≡ Throw n ∷ []
unfolding task_statements
statements-Throw n = at-Throw (List Simple) (List Simple) simple_step (λ x. flat_map (λ y. y) x.body) n

pub statements-Assign : (at : Cell) (x : Expr) → task_statements (t.Assign at x) ≡ Assign at x ∷ []
unfolding task_statements
statements-Assign at x = at-cell (List Simple) (List Simple) simple_step (λ x. flat_map (λ y. y) x.body) at x

pub statements-Call : (x : call.Call) → task_statements (t.Call x) ≡ Call x ∷ []
unfolding task_statements
statements-Call x = at-Call (List Simple) (List Simple) simple_step (λ x. flat_map (λ y. y) x.body) x

pub statements-Loop : (x : loops.Loop) → task_statements (t.Loop x) ≡ Loop x ∷ []
unfolding task_statements
statements-Loop x = at-Loop (List Simple) (List Simple) simple_step (λ x. flat_map (λ y. y) x.body) x

pub statements-Block : (x : Block) → task_statements (t.Block x) ≡ block_statements x
unfolding task_statements block_statements
statements-Block x = at-Block (List Simple) (List Simple) simple_step (λ x. flat_map (λ y. y) x.body) x

-- a block has the statements of its body
pub statements-body : (x : Block) → block_statements x ≡ flat_map task_statements x.body
unfolding task_statements block_statements
statements-body x = at-body (List Simple) (List Simple) simple_step (λ x. flat_map (λ y. y) x.body) x ∙ joined x.body

pub ruleset statements_by_form = (statements-Run, statements-Wait, statements-Throw, statements-Assign, statements-Call, statements-Loop, statements-Block, statements-body)

-- ---- how deep blocks stand inside each other

unfoldable pub task_nesting : TaskStmt → ℕ
task_nesting = fold-TaskStmt ℕ ℕ nesting_step (λ x. 1 + greatest x.body)

pub nesting-Run : (xs : List TaskStmt) → task_nesting (t.Run xs) ≡ greatest (map task_nesting xs)
unfolding task_nesting
nesting-Run xs = at-Run ℕ ℕ nesting_step (λ x. 1 + greatest x.body) xs

pub nesting-Wait : task_nesting t.Wait ≡ 0
unfolding task_nesting
nesting-Wait = at-Wait ℕ ℕ nesting_step (λ x. 1 + greatest x.body)

pub nesting-Throw : (n : ℕ) → task_nesting (t.Throw n) ≡ 0
unfolding task_nesting
nesting-Throw n = at-Throw ℕ ℕ nesting_step (λ x. 1 + greatest x.body) n

pub nesting-Assign : (at : Cell) (x : Expr) → task_nesting (t.Assign at x) ≡ 0
unfolding task_nesting
nesting-Assign at x = at-cell ℕ ℕ nesting_step (λ x. 1 + greatest x.body) at x

pub nesting-Call : (x : call.Call) → task_nesting (t.Call x) ≡ 0
unfolding task_nesting
nesting-Call x = at-Call ℕ ℕ nesting_step (λ x. 1 + greatest x.body) x

pub nesting-Loop : (x : loops.Loop) → task_nesting (t.Loop x) ≡ 0
unfolding task_nesting
nesting-Loop x = at-Loop ℕ ℕ nesting_step (λ x. 1 + greatest x.body) x

pub nesting-Block : (x : Block) → task_nesting (t.Block x) ≡ nesting x
unfolding task_nesting nesting
nesting-Block x = at-Block ℕ ℕ nesting_step (λ x. 1 + greatest x.body) x

pub nesting-body : (x : Block) → nesting x ≡ 1 + greatest (map task_nesting x.body)
unfolding task_nesting nesting
nesting-body x = at-body ℕ ℕ nesting_step (λ x. 1 + greatest x.body) x

pub ruleset nesting_by_form = (nesting-Run, nesting-Wait, nesting-Throw, nesting-Assign, nesting-Call, nesting-Loop, nesting-Block, nesting-body)
