-- Task blocks: each is read along its rule, spelled by the signs that were read, and one that the grammar has.
use Rattle.std.proofs.Common.{◌≡◌, ℕ, zero, suc, ◌-◌, ◌<◌, Bool, true, false, List, [], ◌∷◌, map, refl, ◌∙◌, ap, arith}
use Rattle.std.specs.List.{list_all}
use Rattle.std.specs.Cmp.Derive.{both_true}
use Rattle.std.proofs.lemmas.Bool.{and_parts}
use Rattle.pts_tree.specs.declared.mark.Mark.TheVariants as m
use Rattle.pts_tree.specs.declared.sign.SignKind.{SignKind}
use Rattle.pts_tree.specs.declared.sign.SignKind.TheVariants as k
use Rattle.pts_tree.specs.declared.block.TaskStmt.{TaskStmt}
use Rattle.pts_tree.specs.declared.block.Block.{Block}
use Rattle.pts_tree.specs.Marks.{place}
use Rattle.pts_tree.specs.Signs.{Sign, Mark, Number}
use Rattle.pts_tree.specs.Spelling as spelling
use Rattle.pts_tree.specs.Spelling.{Text, each}
use Rattle.pts_tree.specs.Statements as stmts
use Rattle.pts_tree.specs.Statements.{phrase_text, phrase_allowed, Task, task, task_text, task_allowed, run_allowed, tstmt, whole_block}
use Rattle.pts_tree.specs.Grammar as g
use Rattle.pts_tree.specs.Grammar.{Rule, The, Many, rows}
use Rattle.pts_tree.proofs.Tasks.{task-Run, task-Wait, task-Throw, task-Assign, task-Call, task-Loop, task-Block, block-is}
use Rattle.pts_parse.specs.Reading.{ahead, past, unexpected, each_of}
use Rattle.pts_parse.specs.BlockReading.{Inside, throw_stmt, assign_cell, braced_tasks, block_of, rstmt_by, rstmt_of, tstmt_by, tstmt_of, task_of, sees_call, sees_task, task_list, inner_tasks, block}
use Rattle.pts_parse.proofs.Tables.{first}
use Rattle.pts_parse.proofs.Passes.{Along, step, steps, skip, done, last}
use Rattle.pts_parse.proofs.Choices.{alone, choice, all_along, SeesRule}
use Rattle.pts_parse.proofs.SingleSigns.{behind, expect_along, open_along, close_along, number_along}
use Rattle.pts_parse.proofs.SumsAlong.{cell_along}
use Rattle.pts_parse.proofs.CallsAlong.{Allowed, begun_at, equal_read, call_along}
use Rattle.pts_parse.proofs.BodiesAlong.{value_along}
use Rattle.pts_parse.proofs.LoopsAlong.{loop_along}

-- ---- what is read

-- the rule of statements, by whether they stand directly in a `run`
abbrev task_rule : Bool → Rule
task_rule true = Rule.rstmt
task_rule false = Rule.tstmt

-- whether the grammar has a statement there
abbrev allowed_there : Bool → Task → Bool
allowed_there true x = run_allowed x
allowed_there false x = task_allowed x

-- what was read of a statement
abbrev ReadTask : Bool → List Sign → TaskStmt → List Sign → Type 0
ReadTask in_run before x after = Allowed task_text (allowed_there in_run) before (task x) after

-- statements one behind the other
abbrev tasks_text : List TaskStmt → Text
tasks_text xs tail = each task_text (map task xs) tail

abbrev tasks_allowed : Bool → List TaskStmt → Bool
tasks_allowed in_run xs = list_all (allowed_there in_run) (map task xs)

-- statements between braces
abbrev braced_text : List TaskStmt → Text
braced_text xs tail = stmts.tasks (map task xs) tail

-- what was read of a block
abbrev ReadBlock : List Sign → Block → List Sign → Type 0
ReadBlock before x after = Allowed phrase_text phrase_allowed before (whole_block x) after

-- ---- statements with no statements inside

throw_along : {room : ℕ} (ts : List Sign) → Along (g.number ∷ g.mark m.Semicolon ∷ []) room room (ReadTask true (Mark m.Throw ∷ ts)) ts (throw_stmt ts)
unfolding throw_stmt
throw_along ts =
    step (number_along ts) (λ n p.
    skip (expect_along m.Semicolon n.1 refl) (λ r q.
    done (equal_read (task-Throw n.0) (record { text = ap (λ us. Mark m.Throw ∷ us) (p ∙ ap (λ us. Number n.0 ∷ us) q); allowed = refl }))))

assign_along : (room : ℕ) (ts : List Sign)
    → Along (The Rule.cell ∷ g.mark m.Equal ∷ The Rule.expr ∷ g.mark m.Semicolon ∷ []) room room (ReadTask true ts) ts (assign_cell room ts)
unfolding assign_cell
assign_along room ts =
    step (cell_along room ts) (λ c p.
    steps (value_along m.Equal room refl c.1) (λ x q.
    done (equal_read (task-Assign c.0 x.0) (record { text = p ∙ ap (spelling.cell c.0) q.text; allowed = q.allowed }))))

-- ---- statements with statements inside

-- how the statements inside of one more brace are read
abbrev ReadWithin : ℕ → Inside → Type 0
ReadWithin room inside = 0 < room → (in_run : Bool) (ts : List Sign)
    → Along (Many (task_rule in_run) ∷ []) (room - 1) (room - 1) (Allowed tasks_text (tasks_allowed in_run) ts) ts (inside in_run ts)

module _ (room : ℕ) (inside : Inside) (inside_along : ReadWithin room inside) where
  braced_along : (in_run : Bool) (ts : List Sign)
      → Along (g.mark m.OpenBrace ∷ Many (task_rule in_run) ∷ g.mark m.CloseBrace ∷ []) room room (Allowed braced_text (tasks_allowed in_run) ts) ts (braced_tasks in_run room inside ts)
  unfolding braced_tasks
  braced_along in_run ts =
      skip (open_along m.OpenBrace room ts (λ left. refl)) (λ r p.
      step (inside_along p.1 in_run r) (λ xs q.
      skip (close_along m.CloseBrace room xs.1 (λ left. refl) p.1) (λ v s.
      done (record { text = p.0 ∙ ap (λ us. Mark m.OpenBrace ∷ us) (q.text ∙ ap (tasks_text xs.0) s); allowed = q.allowed }))))

  -- a block, of which the word was looked at
  block_of_along : (ts : List Sign) → ahead ts ≡ k.Mark m.TaskBlock → Along (The Rule.block ∷ []) room room (ReadBlock ts) ts (block_of room inside (past ts))
  unfolding block_of rows place
  block_of_along ts e =
      alone Rule.block refl (behind m.TaskBlock ts e refl refl (λ i. steps (braced_along false (past ts)) (λ xs q.
      done (equal_read (block-is (record { body = xs.0 })) (record { text = i ∙ ap (λ us. Mark m.TaskBlock ∷ us) q.text; allowed = q.allowed })))))

  rstmt_by_along : (x : SignKind) (ts : List Sign) → ahead ts ≡ x → Along (The Rule.rstmt ∷ []) room room (ReadTask true ts) ts (rstmt_by x room inside ts)
  unfolding rows first place
  rstmt_by_along k.Name ts e = choice Rule.rstmt 1 e refl (assign_along room ts)
  rstmt_by_along (k.Mark m.Throw) ts e =
      choice Rule.rstmt 0 e refl (behind m.Throw ts e refl refl (λ i. last (throw_along (past ts)) (λ x after q. begun_at i q)))
  rstmt_by_along (k.Mark m.ForLoop) ts e =
      choice Rule.rstmt 3 e refl (step (loop_along room ts e) (λ x q. done (equal_read (task-Loop x.0) (record { text = q.text; allowed = q.allowed }))))
  rstmt_by_along (k.Mark m.TaskBlock) ts e =
      choice Rule.rstmt 4 e refl (step (block_of_along ts e) (λ x q. done (equal_read (task-Block x.0) (record { text = q.text; allowed = q.allowed }))))
  rstmt_by_along _ ts e = choice Rule.rstmt 2 e refl (step (call_along room ts) (λ x q. done (equal_read (task-Call x.0) (record { text = q.text; allowed = q.allowed }))))

  rstmt_along : (ts : List Sign) → Along (The Rule.rstmt ∷ []) room room (ReadTask true ts) ts (rstmt_of room inside ts)
  unfolding rstmt_of
  rstmt_along ts = rstmt_by_along (ahead ts) ts refl

  tstmt_by_along : (x : SignKind) (ts : List Sign) → ahead ts ≡ x → Along (The Rule.tstmt ∷ []) room room (ReadTask false ts) ts (tstmt_by x room inside ts)
  unfolding rows first place
  tstmt_by_along (k.Mark m.Run) ts e =
      choice Rule.tstmt 0 e refl (behind m.Run ts e refl refl (λ i. steps (braced_along true (past ts)) (λ xs q.
      done (equal_read (task-Run xs.0) (record { text = i ∙ ap (λ us. Mark m.Run ∷ us) q.text; allowed = q.allowed })))))
  tstmt_by_along (k.Mark m.Wait) ts e =
      choice Rule.tstmt 1 e refl (behind m.Wait ts e refl refl (λ i. skip (expect_along m.Semicolon (past ts) refl) (λ r q.
      done (equal_read task-Wait (record { text = i ∙ ap (λ us. Mark m.Wait ∷ us) q; allowed = refl })))))
  tstmt_by_along _ ts e =
      choice Rule.tstmt 2 e refl (last (rstmt_along ts) (λ x after q. record { text = q.text; allowed = (and_parts (task x).in_run (task x).allowed q.allowed).1 }))

  task_along : (in_run : Bool) (ts : List Sign) → Along (The (task_rule in_run) ∷ []) room room (ReadTask in_run ts) ts (task_of in_run room inside ts)
  unfolding tstmt_of
  task_along true ts = rstmt_along ts
  task_along false ts = tstmt_by_along (ahead ts) ts refl

pub sees_call_first : SeesRule Rule.call sees_call
unfolding sees_call first place
sees_call_first (k.Mark m.ForEach) = refl
sees_call_first _ = refl

sees_rstmt : SeesRule Rule.rstmt (sees_task true)
unfolding sees_task sees_call first place
sees_rstmt k.Name = refl
sees_rstmt (k.Mark m.Throw) = refl
sees_rstmt _ = refl

sees_tstmt : SeesRule Rule.tstmt (sees_task false)
unfolding sees_task sees_call first place
sees_tstmt k.Name = refl
sees_tstmt (k.Mark m.Run) = refl
sees_tstmt _ = refl

sees_task_first : (in_run : Bool) → SeesRule (task_rule in_run) (sees_task in_run)
sees_task_first true x = sees_rstmt x
sees_task_first false x = sees_tstmt x

-- statements as often as one follows
tasks_along : (room : ℕ) (inside : Inside) → ReadWithin room inside → (in_run : Bool) (ts : List Sign)
    → Along (Many (task_rule in_run) ∷ []) room room (Allowed tasks_text (tasks_allowed in_run) ts) ts (each_of (sees_task in_run) (task_of in_run room inside) ts)
tasks_along room inside a in_run ts =
    all_along (ReadTask in_run) (Allowed tasks_text (tasks_allowed in_run)) (task_rule in_run) (sees_task_first in_run)
    (λ us. task_along room inside a in_run us) (λ us. record { text = refl; allowed = refl })
    (λ x xs before mid after q qs. record { text = q.text ∙ ap (tstmt x) qs.text; allowed = both_true q.allowed qs.allowed }) ts

-- where no brace may open, nothing is read inside of it
none_within : (inside : Inside) → ReadWithin 0 inside
none_within inside l = absurd (omega arith)

one_within : (room : ℕ) (inside : Inside)
    → ((in_run : Bool) (ts : List Sign) → Along (Many (task_rule in_run) ∷ []) room room (Allowed tasks_text (tasks_allowed in_run) ts) ts (inside in_run ts))
    → ReadWithin (suc room) inside
one_within room inside a l in_run ts = let e : suc room - 1 ≡ room = omega arith in rw e (a in_run ts)

task_list_along : (room : ℕ) (in_run : Bool) (ts : List Sign)
    → Along (Many (task_rule in_run) ∷ []) room room (Allowed tasks_text (tasks_allowed in_run) ts) ts (task_list room in_run ts)
unfolding task_list
task_list_along zero in_run ts = tasks_along zero (λ _. unexpected) (none_within (λ _. unexpected)) in_run ts
task_list_along (suc room) in_run ts = tasks_along (suc room) (task_list room) (one_within room (task_list room) (λ b us. task_list_along room b us)) in_run ts

inner_tasks_along : (room : ℕ) → ReadWithin room (inner_tasks room)
unfolding inner_tasks
inner_tasks_along zero = none_within (λ _. unexpected)
inner_tasks_along (suc room) = one_within room (task_list room) (λ b us. task_list_along room b us)

-- a block, of which the word was looked at
pub block_along : (room : ℕ) (ts : List Sign) → ahead ts ≡ k.Mark m.TaskBlock → Along (The Rule.block ∷ []) room room (ReadBlock ts) ts (block room (past ts))
unfolding block
block_along room ts e = block_of_along room (inner_tasks room) (inner_tasks_along room) ts e
