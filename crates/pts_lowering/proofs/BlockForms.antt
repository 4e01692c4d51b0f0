-- The statements of blocks, form by form, and loops over them.
use Rattle.std.proofs.Common.{◌≡◌, ℕ, ◌+◌, ◌^◌, ◌<◌, ◌≤◌, List, [], ◌∷◌, ◌++◌, map, length, get_or, drop, refl, sym, ap, ◌∙◌, append_assoc, arith}
use Rattle.std.proofs.lemmas.List.{append-nil, drop_more, drop_all}
use Rattle.pts_tree.specs.declared.sum.Cell.{Cell}
use Rattle.pts_tree.specs.declared.call.Call as call
use Rattle.pts_tree.specs.declared.expr.Expr.{Expr}
use Rattle.pts_tree.specs.declared.loops.Loop as loops
use Rattle.pts_tree.specs.declared.block.Block.{Block}
use Rattle.pts_tree.specs.declared.block.TaskStmt.{TaskStmt}
use Rattle.pts_tree.specs.declared.block.TaskStmt.TheVariants as t
use Rattle.pts_rules.specs.Parts.{Call, Loop}
use Rattle.pts_rules.specs.Counts.{statement_points}
use Rattle.pts_rules.proofs.StatementFolds.{at-Run, at-Wait, at-Throw, at-cell, at-Call, at-Loop, at-Block, at-body}
use Rattle.pts_limits.specs.Amounts.{capped}
use Rattle.pts_code.specs.Values.{throw_code}
use Rattle.pts_lowering.specs.declared.blocks.Numbers.{Numbers}
use Rattle.pts_lowering.specs.declared.tasks.LoweredBlock.{LoweredBlock}
use Rattle.pts_lowering.specs.declared.tasks.LoweredTask.{LoweredTask}
use Rattle.pts_lowering.specs.declared.tasks.LoweredTask.TheVariants as tasks
use Rattle.pts_lowering.specs.Blocks.{Piece, assign_leaf, block_around, block_of, block_piece, call_leaf, each, inner, leaf, moved, none, task_piece, task_step, total}

-- a count of 32 bits was not cut
pub uncapped : (n k : ℕ) → k ≡ capped n → k < 2 ^ 32 → k ≡ n
uncapped n k e h = grind (arith, e, h)

-- ---- form by form

module _ (item : ℕ) where
  pub piece-Run : (xs : List TaskStmt) → task_piece item (t.Run xs) ≡ record { takes = total (map (task_piece item) xs); task = λ at. tasks.Run (each (map (task_piece item) xs) at); blocks = inner (map (task_piece item) xs) }
  unfolding task_piece
  piece-Run xs = at-Run Piece (List Piece) (task_step item) (λ x. x.body) xs

  pub piece-Wait : task_piece item t.Wait ≡ leaf none (λ at. tasks.Wait)
  unfolding task_piece
  piece-Wait = at-Wait Piece (List Piece) (task_step item) (λ x. x.body)

  pub piece-Throw : (n : ℕ) → task_piece item (t.Throw n) ≡ leaf none (λ at. tasks.Throw (throw_code n))
  unfolding task_piece
  piece-Throw n = at-Throw Piece (List Piece) (task_step item) (λ x. x.body) n

  pub piece-Assign : (to : Cell) (x : Expr) → task_piece item (t.Assign to x) ≡ assign_leaf x
  unfolding task_piece
  piece-Assign to x = at-cell Piece (List Piece) (task_step item) (λ x. x.body) to x

  pub piece-Call : (x : call.Call) → task_piece item (t.Call x) ≡ call_leaf (statement_points (Call x))
  unfolding task_piece
  piece-Call x = at-Call Piece (List Piece) (task_step item) (λ x. x.body) x

  pub piece-Loop : (x : loops.Loop) → task_piece item (t.Loop x) ≡ call_leaf (statement_points (Loop x))
  unfolding task_piece
  piece-Loop x = at-Loop Piece (List Piece) (task_step item) (λ x. x.body) x

  pub piece-Block : (x : Block) → task_piece item (t.Block x) ≡ block_of item x
  unfolding task_piece
  piece-Block x = at-Block Piece (List Piece) (task_step item) (λ x. x.body) x ∙ ap (block_piece item) (at-body Piece (List Piece) (task_step item) (λ x. x.body) x)

pub ruleset pieces_by_form = (piece-Run, piece-Wait, piece-Throw, piece-Assign, piece-Call, piece-Loop, piece-Block)

-- ---- statements one behind the other

moved_none : (at : Numbers) → moved at none ≡ at
moved_none at = λ i. record { points = zero_more at.points i; calls = zero_more at.calls i; blocks = zero_more at.blocks i }
  where
    zero_more : (n : ℕ) → n + 0 ≡ n
    zero_more n = omega arith

moved_both : (at x y : Numbers) → moved (moved at x) y ≡ moved at (moved x y)
moved_both at x y = λ i. record { points = joined at.points x.points y.points i; calls = joined at.calls x.calls y.calls i; blocks = joined at.blocks x.blocks y.blocks i }
  where
    joined : (a b c : ℕ) → a + b + c ≡ a + (b + c)
    joined a b c = omega arith

-- what is made of the statements before a place, and what is left to be made, are all that is to be made
pub record Lowering (item : ℕ) (xs : List TaskStmt) (i : ℕ) (start now : Numbers) (before blocks : List LoweredBlock) (made : List LoweredTask) : Type 0 where
  pub tasks : made ++ each (map (task_piece item) (drop i xs)) now ≡ each (map (task_piece item) xs) start
  pub numbers : moved now (total (map (task_piece item) (drop i xs))) ≡ moved start (total (map (task_piece item) xs))
  pub inside : blocks ++ inner (map (task_piece item) (drop i xs)) now ≡ before ++ inner (map (task_piece item) xs) start

module _ (item : ℕ) (xs : List TaskStmt) where
  pub lowering_none : (start : Numbers) (before : List LoweredBlock) → Lowering item xs 0 start start before before []
  lowering_none start before = record { tasks = refl; numbers = refl; inside = refl }

  pub lowering_one : (i : ℕ) (start now next : Numbers) (before blocks more : List LoweredBlock) (made after : List LoweredTask) (x : TaskStmt) (y : LoweredTask)
      → Lowering item xs i start now before blocks made → i < length xs → x ≡ get_or xs i x
      → y ≡ (task_piece item x).task now → next ≡ moved now (task_piece item x).takes → more ≡ blocks ++ (task_piece item x).blocks now → after ≡ made ++ y ∷ []
      → Lowering item xs (i + 1) start next before more after
  lowering_one i start now next before blocks more made after x y w within is e f g h =
      let p = task_piece item x in
      let rest = map (task_piece item) (drop (i + 1) xs) in
      let split : drop i xs ≡ x ∷ drop (i + 1) xs = drop_more xs i x within ∙ ap (λ z. z ∷ drop (i + 1) xs) (sym is) in
      record {
        tasks =
            (λ j. h j ++ each rest (f j))
            ∙ append_assoc made (y ∷ []) (each rest (moved now p.takes))
            ∙ (λ j. made ++ e j ∷ each rest (moved now p.takes))
            ∙ ap (λ zs. made ++ each (map (task_piece item) zs) now) (sym split)
            ∙ w.tasks;
        numbers =
            (λ j. moved (f j) (total rest))
            ∙ moved_both now p.takes (total rest)
            ∙ ap (λ zs. moved now (total (map (task_piece item) zs))) (sym split)
            ∙ w.numbers;
        inside =
            (λ j. g j ++ inner rest (f j))
            ∙ append_assoc blocks (p.blocks now) (inner rest (moved now p.takes))
            ∙ ap (λ zs. blocks ++ inner (map (task_piece item) zs) now) (sym split)
            ∙ w.inside;
      }

  pub lowering_all : (i : ℕ) (start now : Numbers) (before blocks : List LoweredBlock) (made : List LoweredTask) → Lowering item xs i start now before blocks made → length xs ≤ i
      → (made ≡ each (map (task_piece item) xs) start) × (now ≡ moved start (total (map (task_piece item) xs))) × (blocks ≡ before ++ inner (map (task_piece item) xs) start)
  lowering_all i start now before blocks made w all =
      let none_left : drop i xs ≡ [] = drop_all i xs all in (
        sym (append-nil made) ∙ ap (λ zs. made ++ each (map (task_piece item) zs) now) (sym none_left) ∙ w.tasks,
        sym (moved_none now) ∙ ap (λ zs. moved now (total (map (task_piece item) zs))) (sym none_left) ∙ w.numbers,
        sym (append-nil blocks) ∙ ap (λ zs. blocks ++ inner (map (task_piece item) zs) now) (sym none_left) ∙ w.inside,
      )

pub ruleset lowerings = (lowering_none, lowering_one, lowering_all)

-- a statement that takes nothing, and one that adds no blocks
pub leaf_moved : (at : Numbers) → at ≡ moved at none
leaf_moved at = sym (moved_none at)

pub nothing_more : (blocks : List LoweredBlock) → blocks ≡ blocks ++ []
nothing_more blocks = sym (append-nil blocks)

-- ---- a block

pub block_taken : (at next n : Numbers) → next ≡ moved (record at { blocks = at.blocks + 1 }) n → next ≡ moved at (block_around n)
block_taken at next n e = e ∙ (λ i. record { points = at.points + n.points; calls = at.calls + n.calls; blocks = joined at.blocks n.blocks i })
  where
    joined : (a b : ℕ) → a + 1 + b ≡ a + (1 + b)
    joined a b = omega arith

pub inside_added : (before inside : List LoweredBlock) (x : LoweredBlock) → (before ++ x ∷ []) ++ inside ≡ before ++ x ∷ inside
inside_added before inside x = append_assoc before (x ∷ []) inside
