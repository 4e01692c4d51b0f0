-- What the grammar and the rule of names ask of each statement of an item.
use Rattle.std.proofs.Common.{◌≡◌, Bool, true, false, List, [], ◌∷◌, ◌++◌, map, sym, ap, ◌∙◌, subst}
use Rattle.std.specs.Prelude.{flat_map}
use Rattle.std.specs.List.{list_all, list_any}
use Rattle.std.proofs.lemmas.Bool.{and_parts, or_parts}
use Rattle.pts_tree.specs.Expressions.{expr_allowed}
use Rattle.pts_tree.specs.Scripts.{item_allowed}
use Rattle.pts_tree.specs.Spelling.{call_allowed}
use Rattle.pts_tree.specs.Statements.{Phrase, Task, block_step, loop_allowed, run_allowed, task, task_allowed, whole_block}
use Rattle.pts_tree.specs.declared.block.Block.{Block, roll-Block, out-roll-Block, map-Block, ind-Block}
use Rattle.pts_tree.specs.declared.block.TaskStmt.{TaskStmt, roll-TaskStmt}
use Rattle.pts_tree.specs.declared.block.TaskStmt.TheOpen.{TaskStmt-F, Block-F}
use Rattle.pts_tree.specs.declared.block.TaskStmt.TheVariants as t
use Rattle.pts_tree.specs.declared.block.TaskStmt.TheFolds.{map-TaskStmt}
use Rattle.pts_tree.specs.declared.script.Item.{Item}
use Rattle.pts_tree.specs.declared.script.Item.TheVariants as items
use Rattle.pts_tree.proofs.Tasks as tasks
use Rattle.pts_rules.specs.Names.{clash, names_in}
use Rattle.pts_rules.specs.Parts.{Name, Simple, Throw, Assign, Call, Loop, block_statements, statement_locals, statements}
use Rattle.pts_rules.specs.Scopes.{known}
use Rattle.pts_rules.proofs.Tasks.{task_statements, statements-Run, statements-Wait, statements-Throw, statements-Assign, statements-Call, statements-Loop, statements-Block, statements-body}
use Rattle.pts_points.proofs.Each.{Each}
use Rattle.pts_points.proofs.Each as each
use Rattle.pts_program.proofs.Keeping.{Keeps}

-- the grammar has this statement
abbrev pub Allowed : Simple → Type 0
Allowed (Throw n) = Unit {0}
Allowed (Assign at x) = expr_allowed x ≡ true
Allowed (Call x) = call_allowed x ≡ true
Allowed (Loop x) = loop_allowed x ≡ true

-- ---- blocks

abbrev TaskHas : TaskStmt → Type 0
TaskHas x = (task x).allowed ≡ true → Each Allowed (task_statements x)

abbrev BlockHas : Block → Type 0
BlockHas x = (whole_block x).allowed ≡ true → Each Allowed (block_statements x)

-- a statement of a block, and a block, with what is known of it
abbrev KnownTask : Type 0
KnownTask = (x : TaskStmt) × TaskHas x

abbrev KnownBlock : Type 0
KnownBlock = (x : Block) × BlockHas x

abbrev firsts : List KnownTask → List TaskStmt
firsts ys = map (λ (y : KnownTask). y.0) ys

all_have : (test : Task → Bool) → ((s : Task) → test s ≡ true → s.allowed ≡ true) → (ys : List KnownTask) → list_all test (map task (firsts ys)) ≡ true → Each Allowed (flat_map task_statements (firsts ys))
all_have test allows [] h = tt
all_have test allows (y ∷ ys) h =
    let parts = and_parts (test (task y.0)) (list_all test (map task (firsts ys))) h in
    each.both Allowed (task_statements y.0) (flat_map task_statements (firsts ys)) (y.1 (allows (task y.0) parts.0)) (all_have test allows ys parts.1)

allowed_by : (x : TaskStmt) (s : Task) → task x ≡ s → (task x).allowed ≡ true → s.allowed ≡ true
allowed_by x s is h = sym (ap task_allowed is) ∙ h

by_task : (y : TaskStmt-F KnownTask KnownBlock) → TaskHas (roll-TaskStmt (map-TaskStmt KnownTask KnownBlock TaskStmt Block (λ z. z.0) (λ z. z.0) y))
by_task (TaskStmt-F.Run ys) =
    subst TaskHas (sym (t.rolls-Run (firsts ys)))
    (λ h. subst (Each Allowed) (sym (statements-Run (firsts ys))) (all_have run_allowed (λ s g. (and_parts s.in_run s.allowed g).1) ys (allowed_by (t.Run (firsts ys)) _ (tasks.task-Run (firsts ys)) h)))
by_task TaskStmt-F.Wait = subst TaskHas (sym t.rolls-Wait) (λ h. subst (Each Allowed) (sym statements-Wait) tt)
by_task (TaskStmt-F.Throw n) = subst TaskHas (sym (t.rolls-Throw n)) (λ h. subst (Each Allowed) (sym (statements-Throw n)) (tt, tt))
by_task (TaskStmt-F.Assign at x) =
    subst TaskHas (sym (t.rolls-Assign at x)) (λ h. subst (Each Allowed) (sym (statements-Assign at x)) (allowed_by (t.Assign at x) _ (tasks.task-Assign at x) h, tt))
by_task (TaskStmt-F.Call x) = subst TaskHas (sym (t.rolls-Call x)) (λ h. subst (Each Allowed) (sym (statements-Call x)) (allowed_by (t.Call x) _ (tasks.task-Call x) h, tt))
by_task (TaskStmt-F.Loop x) = subst TaskHas (sym (t.rolls-Loop x)) (λ h. subst (Each Allowed) (sym (statements-Loop x)) (allowed_by (t.Loop x) _ (tasks.task-Loop x) h, tt))
by_task (TaskStmt-F.Block y) =
    subst TaskHas (sym (t.rolls-Block y.0)) (λ h. subst (Each Allowed) (sym (statements-Block y.0)) (y.1 (allowed_by (t.Block y.0) _ (tasks.task-Block y.0) h)))

by_block : (y : Block-F KnownTask KnownBlock) → BlockHas (roll-Block (map-Block KnownTask KnownBlock TaskStmt Block (λ z. z.0) (λ z. z.0) y))
by_block y =
    let x = map-Block KnownTask KnownBlock TaskStmt Block (λ z. z.0) (λ z. z.0) y in
    λ h.
    subst (Each Allowed) (sym (statements-body (roll-Block x) ∙ ap (λ z. flat_map task_statements z.body) (out-roll-Block x)))
    (all_have task_allowed (λ s g. g) y.body
    (sym (ap (λ z. z.allowed) (tasks.block-is (roll-Block x) ∙ ap (λ z. block_of z.body) (out-roll-Block x))) ∙ h))
  where
    block_of : List TaskStmt → Phrase
    block_of xs = block_step (record { body = map task xs })

pub block_allowed : (x : Block) → BlockHas x
block_allowed =
    ind-Block TaskHas BlockHas (λ x y is. subst (λ z. TaskHas (roll-TaskStmt z)) is (by_task y)) (λ x y is. subst (λ z. BlockHas (roll-Block z)) is (by_block y))

-- ---- items

pub item_has : (x : Item) → item_allowed x ≡ true → Each Allowed (statements x)
item_has (items.Const x) h = tt
item_has (items.Array x) h = tt
item_has (items.Function x) h = tt
item_has (items.Call x) h = (h, tt)
item_has (items.Loop x) h = (h, tt)
item_has (items.Block x) h = block_allowed x h
item_has (items.Print x) h = tt

-- ---- names

-- the local names of a statement differ from each other and from those in scope
abbrev pub Apart : List Name → Simple → Type 0
Apart others s = clash others (statement_locals s) ≡ false

each_apart : (others : List Name) (ss : List Simple) → list_any (clash others) (flat_map (λ y. statement_locals y ∷ []) ss) ≡ false → Each (Apart others) ss
each_apart others [] h = tt
each_apart others (s ∷ ss) h =
    let parts = or_parts (clash others (statement_locals s)) (list_any (clash others) (flat_map (λ y. statement_locals y ∷ []) ss)) h in
    (parts.0, each_apart others ss parts.1)

pub item_apart : (before : List Item) (x : Item) → Keeps before x → Each (Apart (names_in (known before) ++ [])) (statements x)
item_apart before (items.Const x) keeps = tt
item_apart before (items.Array x) keeps = tt
item_apart before (items.Function x) keeps = tt
item_apart before (items.Call x) keeps = each_apart (names_in (known before) ++ []) (statements (items.Call x)) keeps.once
item_apart before (items.Loop x) keeps = each_apart (names_in (known before) ++ []) (statements (items.Loop x)) keeps.once
item_apart before (items.Block x) keeps = each_apart (names_in (known before) ++ []) (statements (items.Block x)) keeps.once
item_apart before (items.Print x) keeps = tt
