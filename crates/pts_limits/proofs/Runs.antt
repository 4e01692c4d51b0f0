-- The `run` of blocks, statement by statement.
use Rattle.std.proofs.Common.{◌≡◌, ℕ, false, List, [], ◌∷◌, ◌++◌, map, refl, ap, ◌∙◌}
use Rattle.std.specs.Prelude.{nat_lt, ◌||◌, flat_map, sum}
use Rattle.std.specs.List.{list_any}
use Rattle.pts_tree.specs.declared.sum.Cell.{Cell}
use Rattle.pts_tree.specs.declared.call.Call as call
use Rattle.pts_tree.specs.declared.expr.Expr.{Expr}
use Rattle.pts_tree.specs.declared.loops.Loop as loops
use Rattle.pts_tree.specs.declared.block.Block.{Block}
use Rattle.pts_tree.specs.declared.block.TaskStmt.{TaskStmt}
use Rattle.pts_tree.specs.declared.block.TaskStmt.TheOpen.{TaskStmt-F}
use Rattle.pts_tree.specs.declared.block.TaskStmt.TheVariants as t
use Rattle.pts_rules.specs.Counts.{Runs, runs, runs_step}
use Rattle.pts_rules.proofs.StatementFolds.{at-Run, at-Wait, at-Throw, at-cell, at-Call, at-Loop, at-Block, at-body}
use Rattle.pts_limits.specs.Amounts.{block_runs, in_task, task_runs}
use Rattle.pts_limits.proofs.Walks.{any_of_each}

pub in-Run : (xs : List TaskStmt) → in_task (t.Run xs) ≡ runs_step (TaskStmt-F.Run (map in_task xs))
unfolding in_task
in-Run xs = at-Run Runs (List ℕ) runs_step (λ x. block_runs x.body) xs

pub in-Wait : in_task t.Wait ≡ runs_step TaskStmt-F.Wait
unfolding in_task
in-Wait = at-Wait Runs (List ℕ) runs_step (λ x. block_runs x.body)

pub in-Throw : (n : ℕ) → in_task (t.Throw n) ≡ runs_step (TaskStmt-F.Throw n)
unfolding in_task
in-Throw n = at-Throw Runs (List ℕ) runs_step (λ x. block_runs x.body) n

pub in-Assign : (at : Cell) (x : Expr) → in_task (t.Assign at x) ≡ runs_step (TaskStmt-F.Assign at x)
unfolding in_task
in-Assign at x = at-cell Runs (List ℕ) runs_step (λ x. block_runs x.body) at x

pub in-Call : (x : call.Call) → in_task (t.Call x) ≡ runs_step (TaskStmt-F.Call x)
unfolding in_task
in-Call x = at-Call Runs (List ℕ) runs_step (λ x. block_runs x.body) x

pub in-Loop : (x : loops.Loop) → in_task (t.Loop x) ≡ runs_step (TaskStmt-F.Loop x)
unfolding in_task
in-Loop x = at-Loop Runs (List ℕ) runs_step (λ x. block_runs x.body) x

pub in-Block : (x : Block) → in_task (t.Block x) ≡ runs_step (TaskStmt-F.Block (runs x))
unfolding in_task runs
in-Block x = at-Block Runs (List ℕ) runs_step (λ x. block_runs x.body) x

in-body : (x : Block) → runs x ≡ block_runs (map in_task x.body)
unfolding in_task runs
in-body x = at-body Runs (List ℕ) runs_step (λ x. block_runs x.body) x

-- ---- what is asked of them

inner_runs : (xs : List TaskStmt) → flat_map {X = Runs} (λ y. y.inner) (map in_task xs) ≡ flat_map task_runs xs
inner_runs [] = refl
inner_runs (x ∷ xs) = ap (λ ys. task_runs x ++ ys) (inner_runs xs)

pub many-Run : (xs : List TaskStmt) → list_any (nat_lt 64) (task_runs (t.Run xs)) ≡ list_any (λ x. list_any (nat_lt 64) (task_runs x)) xs
many-Run xs = ap (λ (y : Runs). list_any (nat_lt 64) y.inner) (in-Run xs) ∙ ap (list_any (nat_lt 64)) (inner_runs xs) ∙ any_of_each (nat_lt 64) task_runs xs

pub many-Wait : list_any (nat_lt 64) (task_runs t.Wait) ≡ false
many-Wait = ap (λ (y : Runs). list_any (nat_lt 64) y.inner) in-Wait

pub many-Throw : (n : ℕ) → list_any (nat_lt 64) (task_runs (t.Throw n)) ≡ false
many-Throw n = ap (λ (y : Runs). list_any (nat_lt 64) y.inner) (in-Throw n)

pub many-Assign : (at : Cell) (x : Expr) → list_any (nat_lt 64) (task_runs (t.Assign at x)) ≡ false
many-Assign at x = ap (λ (y : Runs). list_any (nat_lt 64) y.inner) (in-Assign at x)

pub many-Call : (x : call.Call) → list_any (nat_lt 64) (task_runs (t.Call x)) ≡ false
many-Call x = ap (λ (y : Runs). list_any (nat_lt 64) y.inner) (in-Call x)

pub many-Loop : (x : loops.Loop) → list_any (nat_lt 64) (task_runs (t.Loop x)) ≡ false
many-Loop x = ap (λ (y : Runs). list_any (nat_lt 64) y.inner) (in-Loop x)

pub many-Block : (x : Block) → list_any (nat_lt 64) (task_runs (t.Block x)) ≡ list_any (nat_lt 64) (runs x)
many-Block x = ap (λ (y : Runs). list_any (nat_lt 64) y.inner) (in-Block x)

own_runs : (xs : List TaskStmt) → map {A = Runs} (λ y. y.own) (map in_task xs) ≡ map (λ x. (in_task x).own) xs
own_runs [] = refl
own_runs (x ∷ xs) = ap (λ ns. (in_task x).own ∷ ns) (own_runs xs)

pub many-body : (x : Block) → list_any (nat_lt 64) (runs x) ≡ (nat_lt 64 (sum (map (λ y. (in_task y).own) x.body)) || list_any (λ y. list_any (nat_lt 64) (task_runs y)) x.body)
many-body x =
    ap (list_any (nat_lt 64)) (in-body x)
    ∙ (λ i. nat_lt 64 (sum (own_runs x.body i)) || list_any (nat_lt 64) (inner_runs x.body i))
    ∙ ap (λ b. nat_lt 64 (sum (map (λ y. (in_task y).own) x.body)) || b) (any_of_each (nat_lt 64) task_runs x.body)

pub ruleset in_by_form = (in-Run, in-Wait, in-Throw, in-Assign, in-Call, in-Loop, in-Block)

pub ruleset many_by_form = (many-Run, many-Wait, many-Throw, many-Assign, many-Call, many-Loop, many-Block, many-body)
