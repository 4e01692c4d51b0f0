-- Task blocks and their statements: each is read back from what it spells.
use Rattle.std.proofs.Common.{◌≡◌, ℕ, zero, suc, Bool, true, false, List, [], ◌∷◌, Ok, refl, sym, subst, map, true≢false}
use Rattle.std.specs.List.{list_all}
use Rattle.pts_tree.specs.declared.mark.Mark.TheVariants as m
use Rattle.pts_tree.specs.declared.sign.SignKind.TheVariants as k
use Rattle.pts_tree.specs.Signs.{Sign, Mark, Number}
use Rattle.pts_tree.specs.declared.sum.Cell.{Cell}
use Rattle.pts_tree.specs.declared.expr.Expr.{Expr}
use Rattle.pts_tree.specs.declared.call.Call.{Call}
use Rattle.pts_tree.specs.declared.call.CallForm.{CallForm}
use Rattle.pts_tree.specs.declared.call.CallForm.TheVariants as forms
use Rattle.pts_tree.specs.declared.loops.Loop.{Loop}
use Rattle.pts_tree.specs.declared.block.TaskStmt.{TaskStmt}
use Rattle.pts_tree.specs.declared.block.TaskStmt.TheOpen.{TaskStmt-F, Block-F}
use Rattle.pts_tree.specs.declared.block.TaskStmt.TheVariants as t
use Rattle.pts_tree.specs.declared.block.TaskStmt.TheViews.{roll-TaskStmt}
use Rattle.pts_tree.specs.declared.block.TaskStmt.TheFolds.{map-TaskStmt, map-Block, ind-Block}
use Rattle.pts_tree.specs.declared.block.Block.{Block, roll-Block}
use Rattle.pts_tree.specs.Spelling as spelling
use Rattle.pts_tree.specs.Spelling.{Text, each, call_allowed}
use Rattle.pts_tree.specs.Expressions.{expr_allowed}
use Rattle.pts_tree.specs.Statements as stated
use Rattle.pts_tree.specs.Statements.{Task, task, task_step, task_allowed, run_allowed, whole_block, tstmt, task_body, loop_allowed}
use Rattle.pts_tree.proofs.Tasks.{task-Run, task-Wait, task-Throw, task-Assign, task-Call, task-Loop, task-Block, block-is, text-Run, text-Wait, text-Throw, text-Assign, text-Call, text-Loop, text-Block, block_text}
use Rattle.pts_parse.specs.Reading.{Parser, ◌>>=◌, ahead, past, each_of}
use Rattle.pts_parse.specs.CallReading.{call}
use Rattle.pts_parse.specs.BlockReading.{Inside, throw_stmt, assign_cell, braced_tasks, block_of, rstmt_of, tstmt_of, task_of, sees_call, sees_task, task_list, inner_tasks, block}
use Rattle.pts_parse.proofs.KindFacts.{and_both}
use Rattle.pts_parse.proofs.Again.{Gets, done, next, behind_sign, expect_again, open_again, number_again, Each, none, one, each_to, Anything, each_again}
use Rattle.pts_parse.proofs.SumsAgain.{cell_again}
use Rattle.pts_parse.proofs.CallsAgain.{call_again}
use Rattle.pts_parse.proofs.LoopsAgain.{value_again, loop_again}

-- ---- statements

-- a statement that is spelled so begins as one, directly in a `run` or not, and is read back
pub record FitsTask (in_run : Bool) (text : Text) (x : TaskStmt) : Type 0 where
  pub seen : (ts : List Sign) → sees_task in_run (ahead (text ts)) ≡ true
  pub back : (room : ℕ) (ts : List Sign) → Gets 1 (text ts) ts (x, ts) (task_of in_run room (inner_tasks room) (text ts))

abbrev pub FitsIn : Bool → TaskStmt → Type 0
FitsIn in_run x = FitsTask in_run (tstmt x) x

task_list_is : (room : ℕ) (in_run : Bool) (ts : List Sign) → task_list room in_run ts ≡ each_of (sees_task in_run) (task_of in_run room (inner_tasks room)) ts
unfolding task_list inner_tasks
task_list_is zero in_run ts = refl
task_list_is (suc room) in_run ts = refl

-- neither the end nor a closing brace begins a statement
no_task : (in_run : Bool) → (sees_task in_run k.End ≡ false) × (sees_task in_run (k.Mark m.CloseBrace) ≡ false)
unfolding sees_task sees_call
no_task true = (refl, refl)
no_task false = (refl, refl)

tasks_again : (in_run : Bool) {xs : List TaskStmt} → Each (FitsIn in_run) xs → (room : ℕ) (ts : List Sign)
    → Gets 0 (each tstmt xs (Mark m.CloseBrace ∷ ts)) (Mark m.CloseBrace ∷ ts) (xs, Mark m.CloseBrace ∷ ts) (task_list room in_run (each tstmt xs (Mark m.CloseBrace ∷ ts)))
tasks_again in_run {xs = xs} fs room ts =
    subst (λ o. Gets 0 (each tstmt xs (Mark m.CloseBrace ∷ ts)) (Mark m.CloseBrace ∷ ts) (xs, Mark m.CloseBrace ∷ ts) o) (sym (task_list_is room in_run (each tstmt xs (Mark m.CloseBrace ∷ ts))))
    (each_again Anything (each_to (λ x f. record { seen = f.seen; ends = λ us. tt; back = λ us l. f.back room us }) fs) (no_task in_run).0 (Mark m.CloseBrace ∷ ts) (no_task in_run).1 tt)

-- inside of one more brace
inside_brace : (in_run : Bool) (xs : List TaskStmt) (before after : List Sign) (room less : ℕ) → room ≡ suc less → Gets 0 before after (xs, after) (task_list less in_run before)
    → Gets 0 before after (xs, after) (inner_tasks room in_run before)
unfolding inner_tasks
inside_brace in_run xs before after room less i g = subst (λ r. Gets 0 before after (xs, after) (inner_tasks r in_run before)) (sym i) g

braced_again : (in_run : Bool) {xs : List TaskStmt} → Each (FitsIn in_run) xs → (room : ℕ) (tail : List Sign) → Gets 1 (task_body xs tail) tail (xs, tail) (braced_tasks in_run room (inner_tasks room) (task_body xs tail))
unfolding braced_tasks
braced_again in_run {xs = xs} fs room tail =
    open_again _ room m.OpenBrace _ (λ less i.
    next _ (inside_brace in_run xs (each tstmt xs (Mark m.CloseBrace ∷ tail)) (Mark m.CloseBrace ∷ tail) room less i (tasks_again in_run fs less tail)) (next _ (expect_again m.CloseBrace tail) done))

block_of_again : {xs : List TaskStmt} → Each (FitsIn false) xs → (room : ℕ) (tail : List Sign) → Gets 1 (task_body xs tail) tail (record { body = xs }, tail) (block_of room (inner_tasks room) (task_body xs tail))
unfolding block_of
block_of_again fs room tail = next _ (braced_again false fs room tail) done

run_fits : (xs : List TaskStmt) → Each (FitsIn true) xs → FitsTask false (stated.run xs) (t.Run xs)
unfolding sees_task tstmt_of
run_fits xs fs = record { seen = λ ts. refl; back = λ room ts. behind_sign (next _ (braced_again true fs room ts) done) }

wait_fits : FitsTask false stated.wait t.Wait
unfolding sees_task tstmt_of
wait_fits = record { seen = λ ts. refl; back = λ room ts. behind_sign (next _ (expect_again m.Semicolon ts) done) }

throw_again : (n : ℕ) (ts : List Sign) → Gets 1 (Number n ∷ Mark m.Semicolon ∷ ts) ts (t.Throw n, ts) (throw_stmt (Number n ∷ Mark m.Semicolon ∷ ts))
unfolding throw_stmt
throw_again n ts = next _ (number_again n _) (next _ (expect_again m.Semicolon ts) done)

throw_fits : (in_run : Bool) (n : ℕ) → FitsTask in_run (stated.throw_stmt n) (t.Throw n)
unfolding sees_task tstmt_of rstmt_of
throw_fits true n = record { seen = λ ts. refl; back = λ room ts. behind_sign (throw_again n ts) }
throw_fits false n = record { seen = λ ts. refl; back = λ room ts. behind_sign (throw_again n ts) }

assign_again : (room : ℕ) (at : Cell) (x : Expr) → expr_allowed x ≡ true → (ts : List Sign) → Gets 1 (stated.assign_cell at x ts) ts (t.Assign at x, ts) (assign_cell room (stated.assign_cell at x ts))
unfolding assign_cell
assign_again room at x a ts = next _ (cell_again room at _) (next _ (value_again m.Equal room x a ts) done)

assign_fits : (in_run : Bool) (at : Cell) (x : Expr) → expr_allowed x ≡ true → FitsTask in_run (stated.assign_cell at x) (t.Assign at x)
unfolding sees_task tstmt_of rstmt_of
assign_fits true at x a = record { seen = λ ts. refl; back = λ room ts. assign_again room at x a ts }
assign_fits false at x a = record { seen = λ ts. refl; back = λ room ts. assign_again room at x a ts }

-- the word of a call begins a statement, and a call is read behind it
call_seen : (in_run : Bool) (form : CallForm) → sees_task in_run (k.Mark (spelling.form form)) ≡ true
unfolding sees_task sees_call
call_seen in_run forms.ForEach = refl
call_seen in_run forms.Transform = refl
call_seen in_run forms.FindIf = refl
call_seen in_run forms.CountIf = refl
call_seen in_run forms.Reduce = refl
call_seen in_run forms.TransformReduce = refl
call_seen in_run forms.InclusiveScan = refl
call_seen in_run forms.ExclusiveScan = refl
call_seen in_run forms.TransformInclusiveScan = refl
call_seen in_run forms.TransformExclusiveScan = refl

-- a call as a statement
abbrev called : ℕ → Parser TaskStmt
called room ts = call room ts >>= λ x. Ok (t.Call x.0, x.1)

run_call : (form : CallForm) (room : ℕ) (inside : Inside) (ts : List Sign) → rstmt_of room inside (Mark (spelling.form form) ∷ ts) ≡ called room (Mark (spelling.form form) ∷ ts)
unfolding rstmt_of
run_call forms.ForEach room inside ts = refl
run_call forms.Transform room inside ts = refl
run_call forms.FindIf room inside ts = refl
run_call forms.CountIf room inside ts = refl
run_call forms.Reduce room inside ts = refl
run_call forms.TransformReduce room inside ts = refl
run_call forms.InclusiveScan room inside ts = refl
run_call forms.ExclusiveScan room inside ts = refl
run_call forms.TransformInclusiveScan room inside ts = refl
run_call forms.TransformExclusiveScan room inside ts = refl

block_call : (form : CallForm) (room : ℕ) (inside : Inside) (ts : List Sign) → tstmt_of room inside (Mark (spelling.form form) ∷ ts) ≡ rstmt_of room inside (Mark (spelling.form form) ∷ ts)
unfolding tstmt_of
block_call forms.ForEach room inside ts = refl
block_call forms.Transform room inside ts = refl
block_call forms.FindIf room inside ts = refl
block_call forms.CountIf room inside ts = refl
block_call forms.Reduce room inside ts = refl
block_call forms.TransformReduce room inside ts = refl
block_call forms.InclusiveScan room inside ts = refl
block_call forms.ExclusiveScan room inside ts = refl
block_call forms.TransformInclusiveScan room inside ts = refl
block_call forms.TransformExclusiveScan room inside ts = refl

-- a call is read as a statement of a `run`
run_call_again : (room : ℕ) (x : Call) → call_allowed x ≡ true → (ts : List Sign) → Gets 1 (spelling.call x ts) ts (t.Call x, ts) (rstmt_of room (inner_tasks room) (spelling.call x ts))
run_call_again room x a ts = subst (λ o. Gets 1 (spelling.call x ts) ts (t.Call x, ts) o) (sym (run_call x.form room (inner_tasks room) (past (spelling.call x ts)))) (next _ (call_again room x a ts) done)

call_fits : (in_run : Bool) (x : Call) → call_allowed x ≡ true → FitsTask in_run (spelling.call x) (t.Call x)
call_fits true x a = record { seen = λ ts. call_seen true x.form; back = λ room ts. run_call_again room x a ts }
call_fits false x a = record {
  seen = λ ts. call_seen false x.form;
  back = λ room ts. subst (λ o. Gets 1 (spelling.call x ts) ts (t.Call x, ts) o) (sym (block_call x.form room (inner_tasks room) (past (spelling.call x ts)))) (run_call_again room x a ts);
}

loop_fits : (in_run : Bool) (x : Loop) → loop_allowed x ≡ true → FitsTask in_run (stated.loop x) (t.Loop x)
unfolding sees_task tstmt_of rstmt_of
loop_fits true x a = record { seen = λ ts. refl; back = λ room ts. behind_sign (next _ (loop_again room x a ts) done) }
loop_fits false x a = record { seen = λ ts. refl; back = λ room ts. behind_sign (next _ (loop_again room x a ts) done) }

block_fits : (in_run : Bool) (x : Block) → Each (FitsIn false) x.body → FitsTask in_run (stated.task_block x.body) (t.Block x)
unfolding sees_task tstmt_of rstmt_of
block_fits true x fs = record { seen = λ ts. refl; back = λ room ts. behind_sign (next _ (block_of_again fs room ts) done) }
block_fits false x fs = record { seen = λ ts. refl; back = λ room ts. behind_sign (next _ (block_of_again fs room ts) done) }

-- ---- all statements

-- the grammar has this statement, directly in a `run` or not
abbrev fine : Bool → Task → Bool
fine true x = run_allowed x
fine false x = task_allowed x

-- a statement that the grammar has is read back
abbrev Back : TaskStmt → Type 0
Back x = (in_run : Bool) → fine in_run (task x) ≡ true → FitsIn in_run x

-- so is each statement of a block that the grammar has
abbrev BackBlock : Block → Type 0
BackBlock x = (whole_block x).allowed ≡ true → Each (FitsIn false) x.body

-- from how a statement is spelled and allowed
from_task : (x : TaskStmt) (s : Task) (text : Text) → task x ≡ s → ◌≡◌ {A = Text} (tstmt x) text → ((in_run : Bool) → fine in_run s ≡ true → FitsTask in_run text x) → Back x
from_task x s text p q g in_run a = subst (λ u. FitsTask in_run u x) (sym q) (g in_run (subst (λ r. fine in_run r ≡ true) p a))

-- statements and blocks with what is known of them
abbrev Known : Type 0
Known = (x : TaskStmt) × Back x

abbrev KnownBlock : Type 0
KnownBlock = (x : Block) × BackBlock x

each_known : (in_run : Bool) (xs : List Known) → list_all (fine in_run) (map task (map (λ y. y.0) xs)) ≡ true → Each (FitsIn in_run) (map (λ (y : Known). y.0) xs)
each_known in_run [] a = none
each_known in_run (x ∷ xs) a = let both = and_both (fine in_run (task x.0)) (list_all (fine in_run) (map task (map (λ y. y.0) xs))) a in one (x.1 in_run both.0) (each_known in_run xs both.1)

run_case : (in_run : Bool) (ys : List Known) → fine in_run (task_step (TaskStmt-F.Run (map task (map (λ y. y.0) ys)))) ≡ true
    → FitsTask in_run (stated.run (map (λ (y : Known). y.0) ys)) (t.Run (map (λ (y : Known). y.0) ys))
run_case true ys a = absurd (true≢false (sym a))
run_case false ys a = run_fits (map (λ (y : Known). y.0) ys) (each_known true ys a)

wait_case : (in_run : Bool) → fine in_run (task_step TaskStmt-F.Wait) ≡ true → FitsTask in_run stated.wait t.Wait
wait_case true a = absurd (true≢false (sym a))
wait_case false a = wait_fits

assign_case : (in_run : Bool) (at : Cell) (x : Expr) → fine in_run (task_step (TaskStmt-F.Assign at x)) ≡ true → FitsTask in_run (stated.assign_cell at x) (t.Assign at x)
assign_case true at x a = assign_fits true at x a
assign_case false at x a = assign_fits false at x a

call_case : (in_run : Bool) (x : Call) → fine in_run (task_step (TaskStmt-F.Call x)) ≡ true → FitsTask in_run (spelling.call x) (t.Call x)
call_case true x a = call_fits true x a
call_case false x a = call_fits false x a

loop_case : (in_run : Bool) (x : Loop) → fine in_run (task_step (TaskStmt-F.Loop x)) ≡ true → FitsTask in_run (stated.loop x) (t.Loop x)
loop_case true x a = loop_fits true x a
loop_case false x a = loop_fits false x a

block_case : (in_run : Bool) (x : Block) → BackBlock x → fine in_run (task_step (TaskStmt-F.Block (whole_block x))) ≡ true → FitsTask in_run (stated.block x) (t.Block x)
block_case true x f a = subst (λ u. FitsTask true u (t.Block x)) (sym (block_text x)) (block_fits true x (f a))
block_case false x f a = subst (λ u. FitsTask false u (t.Block x)) (sym (block_text x)) (block_fits false x (f a))

by_case : (y : TaskStmt-F Known KnownBlock) → Back (roll-TaskStmt (map-TaskStmt Known KnownBlock TaskStmt Block (λ z. z.0) (λ z. z.0) y))
by_case (TaskStmt-F.Run ys) =
    let xs = map (λ (z : Known). z.0) ys in
    subst Back (sym (t.rolls-Run xs)) (from_task (t.Run xs) _ (stated.run xs) (task-Run xs) (text-Run xs) (λ in_run a. run_case in_run ys a))
by_case TaskStmt-F.Wait = subst Back (sym t.rolls-Wait) (from_task t.Wait _ stated.wait task-Wait text-Wait (λ in_run a. wait_case in_run a))
by_case (TaskStmt-F.Throw n) = subst Back (sym (t.rolls-Throw n)) (from_task (t.Throw n) _ (stated.throw_stmt n) (task-Throw n) (text-Throw n) (λ in_run a. throw_fits in_run n))
by_case (TaskStmt-F.Assign at x) = subst Back (sym (t.rolls-Assign at x)) (from_task (t.Assign at x) _ (stated.assign_cell at x) (task-Assign at x) (text-Assign at x) (λ in_run a. assign_case in_run at x a))
by_case (TaskStmt-F.Call x) = subst Back (sym (t.rolls-Call x)) (from_task (t.Call x) _ (spelling.call x) (task-Call x) (text-Call x) (λ in_run a. call_case in_run x a))
by_case (TaskStmt-F.Loop x) = subst Back (sym (t.rolls-Loop x)) (from_task (t.Loop x) _ (stated.loop x) (task-Loop x) (text-Loop x) (λ in_run a. loop_case in_run x a))
by_case (TaskStmt-F.Block y) = subst Back (sym (t.rolls-Block y.0)) (from_task (t.Block y.0) _ (stated.block y.0) (task-Block y.0) (text-Block y.0) (λ in_run a. block_case in_run y.0 y.1 a))

by_block : (y : Block-F Known KnownBlock) → BackBlock (roll-Block (map-Block Known KnownBlock TaskStmt Block (λ z. z.0) (λ z. z.0) y))
by_block y a =
    let x : Block = record { body = map (λ (z : Known). z.0) y.body } in
    each_known false y.body (subst (λ s. s.allowed ≡ true) (block-is x) a)

-- each statement of a block that the grammar has is read back
block_so : (x : Block) → (whole_block x).allowed ≡ true → Each (FitsIn false) x.body
block_so = ind-Block Back BackBlock (λ x y is. subst (λ z. Back (roll-TaskStmt z)) is (by_case y)) (λ x y is. subst (λ z. BackBlock (roll-Block z)) is (by_block y))

-- a block, behind its word
pub block_again : (room : ℕ) (x : Block) → (whole_block x).allowed ≡ true → (tail : List Sign) → Gets 1 (past (stated.block x tail)) tail (x, tail) (block room (past (stated.block x tail)))
unfolding block
block_again room x a tail =
    subst (λ (u : Text). Gets 1 (past (u tail)) tail (x, tail) (block_of room (inner_tasks room) (past (u tail)))) (sym (block_text x)) (block_of_again (block_so x a) room tail)
