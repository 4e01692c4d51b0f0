-- Amounts as they are counted in 64 bits, and the `run` of a statement.
use Rattle.std.specs.Prelude.{ℕ, ◌-◌, ◌^◌, min, List, ◌∷◌, sum, map, flat_map}
use Rattle.pts_tree.specs.declared.block.TaskStmt.{TaskStmt}
use Rattle.pts_tree.specs.declared.block.TaskStmt.TheFolds.{fold-TaskStmt}
use Rattle.pts_rules.specs.Counts.{Runs, runs_step}

-- at most the greatest `u64`
abbrev pub capped : ℕ → ℕ
capped n = min n (2 ^ 64 - 1)

-- how many `run` stand directly in a block of these statements and in each block inside
abbrev pub block_runs : List Runs → List ℕ
block_runs xs = sum (map (λ y. y.own) xs) ∷ flat_map (λ y. y.inner) xs

-- a statement by whether it is a `run`, and by the numbers of `run` of each block inside it
unfoldable pub in_task : TaskStmt → Runs
in_task = fold-TaskStmt Runs (List ℕ) runs_step (λ x. block_runs x.body)

-- how many `run` stand directly in each block inside a statement
abbrev pub task_runs : TaskStmt → List ℕ
task_runs x = (in_task x).inner
