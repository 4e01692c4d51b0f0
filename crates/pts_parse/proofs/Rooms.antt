-- How an expression is read with room for more brackets, and inside of one more.
use Rattle.std.proofs.Common.{◌≡◌, ℕ, zero, suc, Bool, ◌-◌, ◌<◌, List, refl, arith}
use Rattle.pts_tree.specs.Signs.{Sign}
use Rattle.pts_parse.specs.declared.expressions.Level.{Level}
use Rattle.pts_parse.specs.declared.expressions.Level.TheVariants as levels
use Rattle.pts_parse.specs.declared.expressions.Connective.{Connective}
use Rattle.pts_parse.specs.declared.expressions.Connective.TheVariants as connectives
use Rattle.pts_parse.specs.Reading.{each_of}
use Rattle.pts_parse.specs.ExprReading.{expr, expr_of, inner}
use Rattle.pts_parse.specs.BlockReading.{sees_task, task_of, task_list, inner_tasks}
use Rattle.pts_parse.specs.LoopReading.{bstmts, bstmt_of, sees_bstmt, inner_bstmts}

pub expr_is : (room : ℕ) (ts : List Sign) → expr room ts ≡ expr_of room (inner room) ts
unfolding expr inner
expr_is zero ts = refl
expr_is (suc room) ts = refl

pub inner_is : (room : ℕ) → 0 < room → inner room ≡ expr (room - 1)
unfolding expr inner
inner_is zero h = absurd (omega arith)
inner_is (suc room) h = let e : suc room - 1 ≡ room = omega arith in rw e refl

-- how far the levels of expressions are from the innermost one, for the measure of their cycle
abbrev pub connective_rank : Connective → ℕ
connective_rank connectives.All = 40
connective_rank connectives.Any = 50

abbrev pub level_rank : Level → ℕ
level_rank levels.Multiplying = 10
level_rank levels.Adding = 20
level_rank levels.Bitwise = 30

-- ---- statements of a body

pub bstmts_is : (room : ℕ) (ts : List Sign) → bstmts room ts ≡ each_of sees_bstmt (bstmt_of room (inner_bstmts room)) ts
unfolding bstmts inner_bstmts
bstmts_is zero ts = refl
bstmts_is (suc room) ts = refl

pub inner_bstmts_is : (room : ℕ) → 0 < room → inner_bstmts room ≡ bstmts (room - 1)
unfolding bstmts inner_bstmts
inner_bstmts_is zero h = absurd (omega arith)
inner_bstmts_is (suc room) h = let e : suc room - 1 ≡ room = omega arith in rw e refl

-- ---- statements of a block

pub task_list_is : (room : ℕ) (in_run : Bool) (ts : List Sign) → task_list room in_run ts ≡ each_of (sees_task in_run) (task_of in_run room (inner_tasks room)) ts
unfolding task_list inner_tasks
task_list_is zero in_run ts = refl
task_list_is (suc room) in_run ts = refl

pub inner_tasks_is : (room : ℕ) → 0 < room → inner_tasks room ≡ task_list (room - 1)
unfolding task_list inner_tasks
inner_tasks_is zero h = absurd (omega arith)
inner_tasks_is (suc room) h = let e : suc room - 1 ≡ room = omega arith in rw e refl
