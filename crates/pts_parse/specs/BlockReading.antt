-- Reading task blocks.
use Rattle.std.specs.Prelude.{ℕ, zero, suc, Bool, true, false, not, List, Ok}
use Rattle.pts_tree.specs.declared.mark.Mark.TheVariants as m
use Rattle.pts_tree.specs.declared.sign.SignKind.{SignKind}
use Rattle.pts_tree.specs.declared.sign.SignKind.TheVariants as k
use Rattle.pts_tree.specs.declared.block.TaskStmt.{TaskStmt}
use Rattle.pts_tree.specs.declared.block.TaskStmt.TheVariants as t
use Rattle.pts_tree.specs.declared.block.Block.{Block}
use Rattle.pts_parse.specs.Reading.{Parser, ◌>>=◌, ahead, past, unexpected, expect, open_bracket, number, each_of}
use Rattle.pts_parse.specs.SumReading.{cell}
use Rattle.pts_parse.specs.CallReading.{call}
use Rattle.pts_parse.specs.LoopReading.{value, loop_behind}

-- the statements inside of one more brace, by whether they stand directly in a `run`
abbrev pub Inside : Type 0
Inside = Bool → Parser (List TaskStmt)

-- NUMBER ";" behind "throw"
unfoldable pub throw_stmt : Parser TaskStmt
throw_stmt ts = number ts >>= λ n. expect m.Semicolon n.1 >>= λ r. Ok (t.Throw n.0, r)

-- cell "=" expr ";"
unfoldable pub assign_cell : ℕ → Parser TaskStmt
assign_cell room ts = cell room ts >>= λ c. value m.Equal room c.1 >>= λ x. Ok (t.Assign c.0 x.0, x.1)

-- "{" and statements and "}"
unfoldable pub braced_tasks : Bool → ℕ → Inside → Parser (List TaskStmt)
braced_tasks in_run room tasks ts = open_bracket room m.OpenBrace ts >>= λ r. tasks in_run r >>= λ xs. expect m.CloseBrace xs.1 >>= λ s. Ok (xs.0, s)

-- "{" tstmt* "}" behind "task_block"
unfoldable pub block_of : ℕ → Inside → Parser Block
block_of room tasks ts = braced_tasks false room tasks ts >>= λ xs. Ok (record { body = xs.0 }, xs.1)

abbrev pub rstmt_by : SignKind → ℕ → Inside → Parser TaskStmt
rstmt_by k.Name room tasks ts = assign_cell room ts
rstmt_by (k.Mark m.Throw) room tasks ts = throw_stmt (past ts)
rstmt_by (k.Mark m.ForLoop) room tasks ts = loop_behind room (past ts) >>= λ x. Ok (t.Loop x.0, x.1)
rstmt_by (k.Mark m.TaskBlock) room tasks ts = block_of room tasks (past ts) >>= λ x. Ok (t.Block x.0, x.1)
rstmt_by _ room tasks ts = call room ts >>= λ x. Ok (t.Call x.0, x.1)

unfoldable pub rstmt_of : ℕ → Inside → Parser TaskStmt
rstmt_of room tasks ts = rstmt_by (ahead ts) room tasks ts

abbrev pub tstmt_by : SignKind → ℕ → Inside → Parser TaskStmt
tstmt_by (k.Mark m.Run) room tasks ts = braced_tasks true room tasks (past ts) >>= λ xs. Ok (t.Run xs.0, xs.1)
tstmt_by (k.Mark m.Wait) room tasks ts = expect m.Semicolon (past ts) >>= λ r. Ok (t.Wait, r)
tstmt_by _ room tasks ts = rstmt_of room tasks ts

unfoldable pub tstmt_of : ℕ → Inside → Parser TaskStmt
tstmt_of room tasks ts = tstmt_by (ahead ts) room tasks ts

-- a statement, by whether it stands directly in a `run`
abbrev pub task_of : Bool → ℕ → Inside → Parser TaskStmt
task_of true room tasks ts = rstmt_of room tasks ts
task_of false room tasks ts = tstmt_of room tasks ts

-- a call begins
unfoldable pub sees_call : SignKind → Bool
sees_call (k.Mark m.ForEach) = true
sees_call (k.Mark m.Transform) = true
sees_call (k.Mark m.FindIf) = true
sees_call (k.Mark m.CountIf) = true
sees_call (k.Mark m.Reduce) = true
sees_call (k.Mark m.TransformReduce) = true
sees_call (k.Mark m.InclusiveScan) = true
sees_call (k.Mark m.ExclusiveScan) = true
sees_call (k.Mark m.TransformInclusiveScan) = true
sees_call (k.Mark m.TransformExclusiveScan) = true
sees_call _ = false

-- another statement follows, by whether it stands directly in a `run`
unfoldable pub sees_task : Bool → SignKind → Bool
sees_task in_run k.Name = true
sees_task in_run (k.Mark m.Throw) = true
sees_task in_run (k.Mark m.ForLoop) = true
sees_task in_run (k.Mark m.TaskBlock) = true
sees_task in_run (k.Mark m.Run) = not in_run
sees_task in_run (k.Mark m.Wait) = not in_run
sees_task in_run x = sees_call x

-- rstmt* or tstmt*
unfoldable pub task_list : ℕ → Inside
task_list zero in_run ts = each_of (sees_task in_run) (task_of in_run zero (λ _. unexpected)) ts
task_list (suc room) in_run ts = each_of (sees_task in_run) (task_of in_run (suc room) (task_list room)) ts

-- the statements inside of one more brace; without room for one they are never read
unfoldable pub inner_tasks : ℕ → Inside
inner_tasks zero in_run ts = unexpected ts
inner_tasks (suc room) in_run ts = task_list room in_run ts

-- "{" tstmt* "}" behind "task_block"
unfoldable pub block : ℕ → Parser Block
block room ts = block_of room (inner_tasks room) ts
