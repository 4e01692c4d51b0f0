-- What holds of every statement of an item holds of those of each block in it, with its constants and without.
use Rattle.std.proofs.Common.{◌≡◌, ℕ, List, [], ◌∷◌, map, sym, ap, ◌∙◌, subst}
use Rattle.std.specs.Prelude.{flat_map}
use Rattle.pts_tree.specs.declared.block.Block.{Block, roll-Block, out-roll-Block, map-Block, ind-Block}
use Rattle.pts_tree.specs.declared.block.TaskStmt.{TaskStmt, roll-TaskStmt}
use Rattle.pts_tree.specs.declared.block.TaskStmt.TheOpen.{TaskStmt-F, Block-F}
use Rattle.pts_tree.specs.declared.block.TaskStmt.TheVariants as t
use Rattle.pts_tree.specs.declared.block.TaskStmt.TheFolds.{map-TaskStmt}
use Rattle.pts_tree.specs.declared.script.Item.{Item}
use Rattle.pts_tree.specs.declared.script.Item.TheVariants as items
use Rattle.pts_rules.specs.Known.{Scope}
use Rattle.pts_rules.specs.Parts.{Simple, Throw, Assign, Call, Loop, block_statements, statements}
use Rattle.pts_rules.proofs.Tasks.{task_statements, statements-Run, statements-Block, statements-body}
use Rattle.pts_constants.specs.Blocks.{info, inner_blocks, item_blocks, task_blocks}
use Rattle.pts_constants.specs.Resolved.{resolved_block}
use Rattle.pts_constants.specs.Texts.{text_of}
use Rattle.pts_points.proofs.Each.{Each}
use Rattle.pts_points.proofs.Each as each
use Rattle.pts_program.specs.Namings.{HoldsIn, HoldsOf}
use Rattle.pts_program.proofs.BlockBodies.{blocks-Assign, blocks-Block, blocks-Call, blocks-Loop, blocks-Run, blocks-Throw, blocks-Wait, blocks-body}
use Rattle.pts_program.proofs.Replaced.{block_replaced, resolved_simple}

module _ (P : Simple → Type 0) where
  -- it holds of each statement of a block
  abbrev Inside : Block → Type 0
  Inside b = Each P (block_statements b)

  abbrev TaskHas : TaskStmt → Type 0
  TaskHas x = Each P (task_statements x) → Each Inside (task_blocks x)

  abbrev BlockHas : Block → Type 0
  BlockHas x = Inside x → Each Inside (x ∷ inner_blocks x)

  -- a statement of a block, and a block, with what is known of it
  abbrev KnownTask : Type 0
  KnownTask = (x : TaskStmt) × TaskHas x

  abbrev KnownBlock : Type 0
  KnownBlock = (x : Block) × BlockHas x

  abbrev firsts : List KnownTask → List TaskStmt
  firsts ys = map (λ (y : KnownTask). y.0) ys

  all_have : (ys : List KnownTask) → Each P (flat_map task_statements (firsts ys)) → Each Inside (flat_map task_blocks (firsts ys))
  all_have [] h = tt
  all_have (y ∷ ys) h =
      each.both Inside (task_blocks y.0) (flat_map task_blocks (firsts ys)) (y.1 (each.front P (task_statements y.0) (flat_map task_statements (firsts ys)) h))
      (all_have ys (each.back P (task_statements y.0) (flat_map task_statements (firsts ys)) h))

  none : (x : TaskStmt) → task_blocks x ≡ [] → TaskHas x
  none x is h = subst (Each Inside) (sym is) tt

  by_task : (y : TaskStmt-F KnownTask KnownBlock) → TaskHas (roll-TaskStmt (map-TaskStmt KnownTask KnownBlock TaskStmt Block (λ z. z.0) (λ z. z.0) y))
  by_task (TaskStmt-F.Run ys) =
      subst TaskHas (sym (t.rolls-Run (firsts ys))) (λ h. subst (Each Inside) (sym (blocks-Run (firsts ys))) (all_have ys (subst (Each P) (statements-Run (firsts ys)) h)))
  by_task TaskStmt-F.Wait = subst TaskHas (sym t.rolls-Wait) (none t.Wait blocks-Wait)
  by_task (TaskStmt-F.Throw n) = subst TaskHas (sym (t.rolls-Throw n)) (none (t.Throw n) (blocks-Throw n))
  by_task (TaskStmt-F.Assign at x) = subst TaskHas (sym (t.rolls-Assign at x)) (none (t.Assign at x) (blocks-Assign at x))
  by_task (TaskStmt-F.Call x) = subst TaskHas (sym (t.rolls-Call x)) (none (t.Call x) (blocks-Call x))
  by_task (TaskStmt-F.Loop x) = subst TaskHas (sym (t.rolls-Loop x)) (none (t.Loop x) (blocks-Loop x))
  by_task (TaskStmt-F.Block y) =
      subst TaskHas (sym (t.rolls-Block y.0)) (λ h. subst (Each Inside) (sym (blocks-Block y.0)) (y.1 (subst (Each P) (statements-Block y.0) h)))

  by_block : (y : Block-F KnownTask KnownBlock) → BlockHas (roll-Block (map-Block KnownTask KnownBlock TaskStmt Block (λ z. z.0) (λ z. z.0) y))
  by_block y =
      let whole = map-Block KnownTask KnownBlock TaskStmt Block (λ z. z.0) (λ z. z.0) y in
      let x = roll-Block whole in
      let body : x.body ≡ firsts y.body = ap (λ z. z.body) (out-roll-Block whole) in
      λ h. (
        h,
        subst (Each Inside) (sym (blocks-body x ∙ ap (flat_map task_blocks) body)) (all_have y.body (subst (Each P) (statements-body x ∙ ap (flat_map task_statements) body) h)),
      )

  block_inside : (x : Block) → BlockHas x
  block_inside =
      ind-Block TaskHas BlockHas (λ x y is. subst (λ z. TaskHas (roll-TaskStmt z)) is (by_task y)) (λ x y is. subst (λ z. BlockHas (roll-Block z)) is (by_block y))

  item_inside : (x : Item) → Each P (statements x) → Each Inside (item_blocks x)
  item_inside (items.Const x) h = tt
  item_inside (items.Array x) h = tt
  item_inside (items.Function x) h = tt
  item_inside (items.Call x) h = tt
  item_inside (items.Loop x) h = tt
  item_inside (items.Block x) h = block_inside x h
  item_inside (items.Print x) h = tt

module _ (P : Simple → Type 0) (scope : Scope) where
  -- what holds of a statement without its constants
  abbrev pub Without : Simple → Type 0
  Without s = P (resolved_simple scope s)

  -- of a call or a loop
  text_holds : (s : Simple) → Without s → Each (HoldsOf P) (text_of scope s)
  text_holds (Throw n) h = tt
  text_holds (Assign at x) h = tt
  text_holds (Call x) h = (h, tt)
  text_holds (Loop x) h = (h, tt)

  pub texts_hold : (ss : List Simple) → Each Without ss → Each (HoldsOf P) (flat_map (text_of scope) ss)
  texts_hold [] h = tt
  texts_hold (s ∷ ss) h = each.both (HoldsOf P) (text_of scope s) (flat_map (text_of scope) ss) (text_holds s h.0) (texts_hold ss h.1)

  block_holds : (number : ℕ) (bs : List Block) → Each (Inside Without) bs → Each (HoldsIn P) (map (info scope number) bs)
  block_holds number [] h = tt
  block_holds number (b ∷ bs) h = (
    each.all_of P (block_statements (resolved_block scope b)) (subst (Each P) (sym (block_replaced scope b)) (each.mapped P (resolved_simple scope) (block_statements b) h.0)),
    block_holds number bs h.1,
  )

  -- of the blocks of an item
  pub blocks_hold : (number : ℕ) (x : Item) → Each Without (statements x) → Each (HoldsIn P) (map (info scope number) (item_blocks x))
  blocks_hold number x h = block_holds number (item_blocks x) (item_inside Without x h)
