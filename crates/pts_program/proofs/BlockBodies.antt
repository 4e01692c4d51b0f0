-- The blocks of an item, with what the grammar and their spelling say of each.
use Rattle.std.proofs.Common.{◌≡◌, ℕ, ◌+◌, ◌≤◌, Bool, true, List, [], ◌∷◌, ◌++◌, length, map, refl, sym, ap, ◌∙◌, subst, arith}
use Rattle.std.specs.Prelude.{flat_map}
use Rattle.std.specs.List.{list_all}
use Rattle.std.proofs.lemmas.Bool.{and_parts}
use Rattle.std.proofs.lemmas.List.{length-append}
use Rattle.pts_tree.specs.declared.mark.Mark.TheVariants as m
use Rattle.pts_tree.specs.declared.sum.Cell.{Cell}
use Rattle.pts_tree.specs.declared.expr.Expr.{Expr}
use Rattle.pts_tree.specs.declared.call.Call.{Call}
use Rattle.pts_tree.specs.declared.loops.Loop.{Loop}
use Rattle.pts_tree.specs.Signs.{Sign, Mark}
use Rattle.pts_tree.specs.Spelling.{Text, each}
use Rattle.pts_tree.specs.Statements.{Phrase, Task, block, block_step, run_allowed, task, task_allowed, task_block, task_body, tstmt, whole_block}
use Rattle.pts_tree.specs.declared.block.Block.{Block, out-Block, roll-Block, out-roll-Block, map-Block, ind-Block}
use Rattle.pts_tree.specs.declared.block.TaskStmt.{TaskStmt, roll-TaskStmt}
use Rattle.pts_tree.specs.declared.block.TaskStmt.TheOpen.{TaskStmt-F, Block-F}
use Rattle.pts_tree.specs.declared.block.TaskStmt.TheVariants as t
use Rattle.pts_tree.specs.declared.block.TaskStmt.TheFolds.{map-TaskStmt, para-roll-TaskStmt, para-roll-Block}
use Rattle.pts_tree.specs.declared.block.TaskStmt.TheViews.{roll-out-Block}
use Rattle.pts_tree.proofs.Tasks as tasks
use Rattle.pts_print.proofs.Spelled.{IsFront, ◌▸◌, call_front, cell_front, each_known, number_front, said, word_front}
use Rattle.pts_print.proofs.SpelledScripts.{block_front, expr_front, loop_front}
use Rattle.pts_constants.specs.Blocks.{inner_blocks, inner_step, task_blocks}
use Rattle.pts_points.proofs.Each.{Each}
use Rattle.pts_points.proofs.Each as each_of

-- ---- the blocks of each form

abbrev body_blocks : Block-F (TaskStmt × List Block) (Block × List Block) → List Block
body_blocks x = flat_map (λ y. y.1) x.body

joined : (xs : List TaskStmt) → flat_map {X = TaskStmt × List Block} (λ y. y.1) (map (λ y. (y, task_blocks y)) xs) ≡ flat_map task_blocks xs
joined [] = refl
joined (x ∷ xs) = ap (λ ys. task_blocks x ++ ys) (joined xs)

pub blocks-Run : (xs : List TaskStmt) → task_blocks (t.Run xs) ≡ flat_map task_blocks xs
unfolding task_blocks
blocks-Run xs = ap task_blocks (sym (t.rolls-Run xs)) ∙ para-roll-TaskStmt (List Block) (List Block) inner_step body_blocks (TaskStmt-F.Run xs) ∙ joined xs

pub blocks-Block : (x : Block) → task_blocks (t.Block x) ≡ x ∷ inner_blocks x
unfolding task_blocks inner_blocks
blocks-Block x = ap task_blocks (sym (t.rolls-Block x)) ∙ para-roll-TaskStmt (List Block) (List Block) inner_step body_blocks (TaskStmt-F.Block x)

pub blocks-body : (x : Block) → inner_blocks x ≡ flat_map task_blocks x.body
unfolding task_blocks inner_blocks
blocks-body x = ap inner_blocks (sym (roll-out-Block x)) ∙ para-roll-Block (List Block) (List Block) inner_step body_blocks (out-Block x) ∙ joined x.body

-- ---- what is known of each block

-- a block whose body has at most so many statements
abbrev Short : ℕ → Block → Type 0
Short n b = length b.body ≤ n

-- a block that the grammar has
abbrev pub Good : Block → Type 0
Good b = (whole_block b).allowed ≡ true

-- what spells a statement stands in front of what follows it, and is at least as long as the bodies of its blocks
record TaskHas (x : TaskStmt) : Type 0 where
  pub front : IsFront (tstmt x)
  pub some : 1 ≤ length (tstmt x [])
  pub short : Each (Short (length (tstmt x []))) (task_blocks x)
  pub good : (task x).allowed ≡ true → Each Good (task_blocks x)

record BlockHas (x : Block) : Type 0 where
  pub short : Each (Short (length (block x []))) (x ∷ inner_blocks x)
  pub good : (whole_block x).allowed ≡ true → Each Good (x ∷ inner_blocks x)

-- a statement of a block, and a block, with what is known of it
abbrev KnownTask : Type 0
KnownTask = (x : TaskStmt) × TaskHas x

abbrev KnownBlock : Type 0
KnownBlock = (x : Block) × BlockHas x

abbrev firsts : List KnownTask → List TaskStmt
firsts ys = map (λ (y : KnownTask). y.0) ys

longer : (n k : ℕ) → n ≤ k → (bs : List Block) → Each (Short n) bs → Each (Short k) bs
longer n k le bs h = each_of.weaker (Short n) (Short k) (λ b s. omega (arith, le, s)) bs h

-- a statement, and what follows it
length_front : (y : TaskStmt) → IsFront (tstmt y) → (tail : List Sign) → length (tstmt y tail) ≡ length (tstmt y []) + length tail
length_front y front tail = ap length (front.stands [] tail) ∙ length-append (tstmt y []) tail

-- at least a sign for each statement
as_many : (ys : List KnownTask) (tail : List Sign) → length (firsts ys) + length tail ≤ length (each tstmt (firsts ys) tail)
as_many [] tail = omega arith
as_many (y ∷ ys) tail = omega (arith, as_many ys tail, length_front y.0 y.1.front (each tstmt (firsts ys) tail), y.1.some)

all_short : (ys : List KnownTask) (tail : List Sign) → Each (Short (length (each tstmt (firsts ys) tail))) (flat_map task_blocks (firsts ys))
all_short [] tail = tt
all_short (y ∷ ys) tail =
    let rest = each tstmt (firsts ys) tail in
    let size = length_front y.0 y.1.front rest in
    let all = length (tstmt y.0 rest) in
    each_of.both (Short all) (task_blocks y.0) (flat_map task_blocks (firsts ys))
    (longer (length (tstmt y.0 [])) all (omega (arith, size)) (task_blocks y.0) y.1.short)
    (longer (length rest) all (omega (arith, size)) (flat_map task_blocks (firsts ys)) (all_short ys tail))

all_good : (test : Task → Bool) → ((s : Task) → test s ≡ true → s.allowed ≡ true) → (ys : List KnownTask) → list_all test (map task (firsts ys)) ≡ true → Each Good (flat_map task_blocks (firsts ys))
all_good test allows [] h = tt
all_good test allows (y ∷ ys) h =
    let parts = and_parts (test (task y.0)) (list_all test (map task (firsts ys))) h in
    each_of.both Good (task_blocks y.0) (flat_map task_blocks (firsts ys)) (y.1.good (allows (task y.0) parts.0)) (all_good test allows ys parts.1)

allowed_by : (x : TaskStmt) (s : Task) → task x ≡ s → (task x).allowed ≡ true → s.allowed ≡ true
allowed_by x s is h = sym (ap task_allowed is) ∙ h

-- a statement that has no blocks
no_blocks : (x : TaskStmt) → task_blocks x ≡ [] → IsFront (tstmt x) → 1 ≤ length (tstmt x []) → TaskHas x
no_blocks x none front some = record {
  front = front;
  some = some;
  short = subst (Each (Short (length (tstmt x [])))) (sym none) tt;
  good = λ h. subst (Each Good) (sym none) tt;
}

-- what spells it, by what it is spelled as
spelled : (x : TaskStmt) (f : Text) → ◌≡◌ {A = Text} (tstmt x) f → 1 ≤ length (f []) → 1 ≤ length (tstmt x [])
spelled x f is h = subst (λ (g : Text). 1 ≤ length (g [])) (sym is) h

-- ---- each form

pub blocks-Wait : task_blocks t.Wait ≡ []
unfolding task_blocks
blocks-Wait = ap task_blocks (sym t.rolls-Wait) ∙ para-roll-TaskStmt (List Block) (List Block) inner_step body_blocks TaskStmt-F.Wait

pub blocks-Throw : (n : ℕ) → task_blocks (t.Throw n) ≡ []
unfolding task_blocks
blocks-Throw n = ap task_blocks (sym (t.rolls-Throw n)) ∙ para-roll-TaskStmt (List Block) (List Block) inner_step body_blocks (TaskStmt-F.Throw n)

pub blocks-Assign : (at : Cell) (x : Expr) → task_blocks (t.Assign at x) ≡ []
unfolding task_blocks
blocks-Assign at x = ap task_blocks (sym (t.rolls-Assign at x)) ∙ para-roll-TaskStmt (List Block) (List Block) inner_step body_blocks (TaskStmt-F.Assign at x)

pub blocks-Call : (x : Call) → task_blocks (t.Call x) ≡ []
unfolding task_blocks
blocks-Call x = ap task_blocks (sym (t.rolls-Call x)) ∙ para-roll-TaskStmt (List Block) (List Block) inner_step body_blocks (TaskStmt-F.Call x)

pub blocks-Loop : (x : Loop) → task_blocks (t.Loop x) ≡ []
unfolding task_blocks
blocks-Loop x = ap task_blocks (sym (t.rolls-Loop x)) ∙ para-roll-TaskStmt (List Block) (List Block) inner_step body_blocks (TaskStmt-F.Loop x)

tasks_front : (ys : List KnownTask) → IsFront (task_body (firsts ys))
tasks_front ys = word_front m.OpenBrace ▸ each_known TaskHas tstmt (λ x p. p.front) ys ▸ word_front m.CloseBrace

run_has : (ys : List KnownTask) → TaskHas (t.Run (firsts ys))
run_has ys =
    let xs = firsts ys in
    let inner = length (each tstmt xs (Mark m.CloseBrace ∷ [])) in
    let size : length (tstmt (t.Run xs) []) ≡ 2 + inner = ap (λ (f : Text). length (f [])) (tasks.text-Run xs) ∙ omega arith in
    record {
      front = said (tasks.text-Run xs) (word_front m.Run ▸ tasks_front ys);
      some = omega (arith, size);
      short =
          subst (Each (Short (length (tstmt (t.Run xs) [])))) (sym (blocks-Run xs))
          (longer inner (length (tstmt (t.Run xs) [])) (omega (arith, size)) (flat_map task_blocks xs) (all_short ys (Mark m.CloseBrace ∷ [])));
      good = λ h. subst (Each Good) (sym (blocks-Run xs)) (all_good run_allowed (λ s g. (and_parts s.in_run s.allowed g).1) ys (allowed_by (t.Run xs) _ (tasks.task-Run xs) h));
    }

block_has : (y : KnownBlock) → TaskHas (t.Block y.0)
block_has y =
    let x = y.0 in
    let size : length (tstmt (t.Block x) []) ≡ length (block x []) = ap (λ (f : Text). length (f [])) (tasks.text-Block x) in
    let own : length (block x []) ≡ 2 + length (each tstmt (out-Block x).body (Mark m.CloseBrace ∷ [])) = ap (λ (f : Text). length (f [])) (tasks.block_text x) ∙ omega arith in
    record {
      front = said (tasks.text-Block x) (block_front x);
      some = omega (arith, size, own);
      short =
          subst (Each (Short (length (tstmt (t.Block x) [])))) (sym (blocks-Block x))
          (longer (length (block x [])) (length (tstmt (t.Block x) [])) (omega (arith, size)) (x ∷ inner_blocks x) y.1.short);
      good = λ h. subst (Each Good) (sym (blocks-Block x)) (y.1.good (allowed_by (t.Block x) _ (tasks.task-Block x) h));
    }

by_task : (y : TaskStmt-F KnownTask KnownBlock) → TaskHas (roll-TaskStmt (map-TaskStmt KnownTask KnownBlock TaskStmt Block (λ z. z.0) (λ z. z.0) y))
by_task (TaskStmt-F.Run ys) = subst TaskHas (sym (t.rolls-Run (firsts ys))) (run_has ys)
by_task TaskStmt-F.Wait =
    subst TaskHas (sym t.rolls-Wait)
    (no_blocks t.Wait blocks-Wait (said tasks.text-Wait (word_front m.Wait ▸ word_front m.Semicolon)) (spelled t.Wait _ tasks.text-Wait (omega arith)))
by_task (TaskStmt-F.Throw n) =
    subst TaskHas (sym (t.rolls-Throw n))
    (no_blocks (t.Throw n) (blocks-Throw n) (said (tasks.text-Throw n) (word_front m.Throw ▸ number_front n ▸ word_front m.Semicolon)) (spelled (t.Throw n) _ (tasks.text-Throw n) (omega arith)))
by_task (TaskStmt-F.Assign at x) =
    subst TaskHas (sym (t.rolls-Assign at x))
    (no_blocks (t.Assign at x) (blocks-Assign at x) (said (tasks.text-Assign at x) (cell_front at ▸ word_front m.Equal ▸ expr_front x ▸ word_front m.Semicolon))
    (spelled (t.Assign at x) _ (tasks.text-Assign at x) (omega arith)))
by_task (TaskStmt-F.Call x) =
    subst TaskHas (sym (t.rolls-Call x)) (no_blocks (t.Call x) (blocks-Call x) (said (tasks.text-Call x) (call_front x)) (spelled (t.Call x) _ (tasks.text-Call x) (omega arith)))
by_task (TaskStmt-F.Loop x) =
    subst TaskHas (sym (t.rolls-Loop x)) (no_blocks (t.Loop x) (blocks-Loop x) (said (tasks.text-Loop x) (loop_front x)) (spelled (t.Loop x) _ (tasks.text-Loop x) (omega arith)))
by_task (TaskStmt-F.Block y) = subst TaskHas (sym (t.rolls-Block y.0)) (block_has y)

abbrev block_of : List TaskStmt → Phrase
block_of xs = block_step (record { body = map task xs })

by_block : (y : Block-F KnownTask KnownBlock) → BlockHas (roll-Block (map-Block KnownTask KnownBlock TaskStmt Block (λ z. z.0) (λ z. z.0) y))
by_block y =
    let whole = map-Block KnownTask KnownBlock TaskStmt Block (λ z. z.0) (λ z. z.0) y in
    let x = roll-Block whole in
    let xs = firsts y.body in
    let body : x.body ≡ xs = ap (λ z. z.body) (out-roll-Block whole) in
    let inner = length (each tstmt xs (Mark m.CloseBrace ∷ [])) in
    let size : length (block x []) ≡ 2 + inner =
    ap (λ (f : Text). length (f [])) (tasks.block_text x) ∙ ap (λ zs. length (task_block zs [])) body ∙ omega arith in
    let count = ap length body in
    let many = as_many y.body (Mark m.CloseBrace ∷ []) in
    record {
      short = (
        omega (arith, count, many, size),
        subst (Each (Short (length (block x [])))) (sym (blocks-body x ∙ ap (flat_map task_blocks) body))
            (longer inner (length (block x [])) (omega (arith, size)) (flat_map task_blocks xs) (all_short y.body (Mark m.CloseBrace ∷ []))),
      );
      good = λ h. (
        h,
        subst (Each Good) (sym (blocks-body x ∙ ap (flat_map task_blocks) body))
            (all_good task_allowed (λ s g. g) y.body (sym (ap (λ z. z.allowed) (tasks.block-is x ∙ ap block_of body)) ∙ h)),
      );
    }

block_has_all : (x : Block) → BlockHas x
block_has_all =
    ind-Block TaskHas BlockHas (λ x y is. subst (λ z. TaskHas (roll-TaskStmt z)) is (by_task y)) (λ x y is. subst (λ z. BlockHas (roll-Block z)) is (by_block y))

-- no block of a block has more statements than the block has signs
pub blocks_short : (x : Block) → Each (λ b. length b.body ≤ length (block x [])) (x ∷ inner_blocks x)
blocks_short x = (block_has_all x).short

-- the grammar has each block of a block that it has
pub blocks_good : (x : Block) → Good x → Each Good (x ∷ inner_blocks x)
blocks_good x h = (block_has_all x).good h
