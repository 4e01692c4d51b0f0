-- Every statement of a block, and every block, has its points; and so have the blocks of every program.
use Rattle.std.proofs.Common.{◌≡◌, ℕ, ◌+◌, ◌≤◌, ⊎_elim, Some, List, [], ◌∷◌, ◌++◌, length, map, refl, sym, ap, ◌∙◌, subst, arith}
use Rattle.std.specs.Prelude.{All, false, flat_map, slice_get}
use Rattle.std.proofs.lemmas.List.{length-append, length-map}
use Rattle.std.proofs.lemmas.Option.{none-some}
use Rattle.pts_tree.specs.declared.block.Block.{Block, roll-Block, out-roll-Block, map-Block, ind-Block}
use Rattle.pts_tree.specs.declared.block.TaskStmt.{TaskStmt, roll-TaskStmt}
use Rattle.pts_tree.specs.declared.block.TaskStmt.TheOpen.{TaskStmt-F, Block-F}
use Rattle.pts_tree.specs.declared.block.TaskStmt.TheVariants as t
use Rattle.pts_tree.specs.declared.block.TaskStmt.TheFolds.{map-TaskStmt}
use Rattle.pts_tree.specs.declared.script.Item.{Item}
use Rattle.pts_tree.specs.declared.script.Item.TheVariants as items
use Rattle.pts_rules.specs.Indices.{is_not_affine}
use Rattle.pts_rules.specs.Known.{Scope}
use Rattle.pts_rules.specs.Parts.{Simple, block_statements, statements}
use Rattle.pts_rules.specs.Scopes.{known}
use Rattle.pts_rules.proofs.Tasks.{task_statements, statements-Run, statements-Wait, statements-Throw, statements-Assign, statements-Call, statements-Loop, statements-Block, statements-body}
use Rattle.pts_constants.specs.Blocks.{blocks_of, inner_blocks, item_blocks, task_blocks}
use Rattle.pts_constants.specs.Blocks as constants
use Rattle.pts_points.specs.declared.point.PointInfo.{PointInfo}
use Rattle.pts_points.specs.Building.{points_among}
use Rattle.pts_points.specs.Points.{calls_of, info, item_points, points_of}
use Rattle.pts_points.proofs.Builds.{map_length}
use Rattle.pts_points.proofs.Each.{Each, all_of, at_place, both, weaker}
use Rattle.pts_points.proofs.StatementTurns.{points_count}
use Rattle.pts_lowering.specs.declared.blocks.Numbers.{Numbers}
use Rattle.pts_lowering.specs.declared.tasks.LoweredBlock.{LoweredBlock}
use Rattle.pts_lowering.specs.Blocks.{Piece, block_of, block_piece, lowered_blocks, task_piece}
use Rattle.pts_lowering.proofs.BlockForms.{piece-Run, piece-Wait, piece-Throw, piece-Assign, piece-Call, piece-Loop, piece-Block}
use Rattle.pts_program.specs.declared.lists.Lists.{Lists}
use Rattle.pts_program.specs.Lists.{no_lists, with_item, IsProgram}
use Rattle.pts_program.proofs.BlockBodies.{blocks-Run, blocks-Wait, blocks-Throw, blocks-Assign, blocks-Call, blocks-Loop, blocks-Block, blocks-body}
use Rattle.pts_program.proofs.ItemTurns.{IsTurn, by_items}
use Rattle.pts_layout.specs.Layout.{IsInOrder, IsWithin, StandsAt}
use Rattle.pts_layout.proofs.Blocks.{AreGood, Good, Grows, good_assign, good_block, good_call, good_loop, good_more, good_none, good_run, good_throw, good_wait, still_have}
use Rattle.pts_layout.proofs.Items.{ArePlaced, AreOf, item_placed, none_placed, now_stands, one_more, placed_more, still_stands}
use Rattle.pts_layout.proofs.Places.{InSecond, IsPart, in_either, in_longer, second_part, within}

-- ---- every form

module _ (scope : Scope) (item : ℕ) (lists : Lists) where
  -- likewise for what is equal to it
  said : (p q : Piece) (ss ts : List Simple) (a b : ℕ) → p ≡ q → ss ≡ ts → a ≡ b → Good scope item lists q ts b → Good scope item lists p ss a
  said p q ss ts a b e f g h =
      subst (λ z. Good scope item lists z ss a) (sym e) (subst (λ z. Good scope item lists q z a) (sym f) (subst (λ z. Good scope item lists q ts z) (sym g) h))

  abbrev TaskHas : TaskStmt → Type 0
  TaskHas x = Good scope item lists (task_piece item x) (task_statements x) (length (task_blocks x))

  abbrev BlockHas : Block → Type 0
  BlockHas x = Good scope item lists (block_of item x) (block_statements x) (length (x ∷ inner_blocks x))

  -- a statement of a block, and a block, with what is known of it
  abbrev KnownTask : Type 0
  KnownTask = (x : TaskStmt) × TaskHas x

  abbrev KnownBlock : Type 0
  KnownBlock = (x : Block) × BlockHas x

  abbrev firsts : List KnownTask → List TaskStmt
  firsts ys = map (λ (y : KnownTask). y.0) ys

  all_good : (ys : List KnownTask) → AreGood scope item lists (map (task_piece item) (firsts ys)) (flat_map task_statements (firsts ys)) (length (flat_map task_blocks (firsts ys)))
  all_good [] = good_none scope item lists
  all_good (y ∷ ys) =
      let ps = map (task_piece item) (firsts ys) in
      let ts = flat_map task_statements (firsts ys) in
      subst (AreGood scope item lists (task_piece item y.0 ∷ ps) (task_statements y.0 ++ ts)) (sym (length-append (task_blocks y.0) (flat_map task_blocks (firsts ys))))
      (good_more scope item lists (task_piece item y.0) ps (task_statements y.0) ts (length (task_blocks y.0)) (length (flat_map task_blocks (firsts ys))) y.1 (all_good ys))

  by_task : (y : TaskStmt-F KnownTask KnownBlock) → TaskHas (roll-TaskStmt (map-TaskStmt KnownTask KnownBlock TaskStmt Block (λ z. z.0) (λ z. z.0) y))
  by_task (TaskStmt-F.Run ys) =
      let xs = firsts ys in
      subst TaskHas (sym (t.rolls-Run xs))
      (said _ _ _ _ _ _ (piece-Run item xs) (statements-Run xs) (ap length (blocks-Run xs))
      (good_run scope item lists (map (task_piece item) xs) (flat_map task_statements xs) (length (flat_map task_blocks xs)) (all_good ys)))
  by_task TaskStmt-F.Wait = subst TaskHas (sym t.rolls-Wait) (said _ _ _ _ _ _ (piece-Wait item) statements-Wait (ap length blocks-Wait) (good_wait scope item lists))
  by_task (TaskStmt-F.Throw n) =
      subst TaskHas (sym (t.rolls-Throw n)) (said _ _ _ _ _ _ (piece-Throw item n) (statements-Throw n) (ap length (blocks-Throw n)) (good_throw scope item lists n))
  by_task (TaskStmt-F.Assign to x) =
      subst TaskHas (sym (t.rolls-Assign to x)) (said _ _ _ _ _ _ (piece-Assign item to x) (statements-Assign to x) (ap length (blocks-Assign to x)) (good_assign scope item lists to x))
  by_task (TaskStmt-F.Call x) =
      subst TaskHas (sym (t.rolls-Call x)) (said _ _ _ _ _ _ (piece-Call item x) (statements-Call x) (ap length (blocks-Call x)) (good_call scope item lists x))
  by_task (TaskStmt-F.Loop x) =
      subst TaskHas (sym (t.rolls-Loop x)) (said _ _ _ _ _ _ (piece-Loop item x) (statements-Loop x) (ap length (blocks-Loop x)) (good_loop scope item lists x))
  by_task (TaskStmt-F.Block y) =
      subst TaskHas (sym (t.rolls-Block y.0)) (said _ _ _ _ _ _ (piece-Block item y.0) (statements-Block y.0) (ap length (blocks-Block y.0)) y.1)

  by_block : (y : Block-F KnownTask KnownBlock) → BlockHas (roll-Block (map-Block KnownTask KnownBlock TaskStmt Block (λ z. z.0) (λ z. z.0) y))
  by_block y =
      let whole = map-Block KnownTask KnownBlock TaskStmt Block (λ z. z.0) (λ z. z.0) y in
      let x = roll-Block whole in
      let xs = firsts y.body in
      let body : x.body ≡ xs = ap (λ z. z.body) (out-roll-Block whole) in
      let count = ap length (blocks-body x ∙ ap (flat_map task_blocks) body) in
      said (block_of item x) (block_piece item (map (task_piece item) xs)) (block_statements x) (flat_map task_statements xs) (length (x ∷ inner_blocks x)) (1 + length (flat_map task_blocks xs))
      (ap (λ zs. block_piece item (map (task_piece item) zs)) body) (statements-body x ∙ ap (flat_map task_statements) body) (omega (arith, count))
      (good_block scope item lists (map (task_piece item) xs) (flat_map task_statements xs) (length (flat_map task_blocks xs)) (all_good y.body))

  pub block_good : (x : Block) → Good scope item lists (block_of item x) (block_statements x) (length (x ∷ inner_blocks x))
  block_good =
      ind-Block TaskHas BlockHas (λ x y is. subst (λ z. TaskHas (roll-TaskStmt z)) is (by_task y)) (λ x y is. subst (λ z. BlockHas (roll-Block z)) is (by_block y))

-- ---- the blocks of one item

-- the blocks of an item, before which these lists have so many calls and blocks, are as many as the texts of its blocks, and have
-- the points of the item that they name
record NewBlocks (scope : Scope) (item calls blocks : ℕ) (x : Item) (lists : Lists) : Type 0 where
  pub many : length (lowered_blocks item calls blocks x) ≡ length (blocks_of scope item x)
  pub items : Each (λ b. b.item ≡ item) (lowered_blocks item calls blocks x)
  pub ends : Each (λ b. b.first_point + b.points ≤ length (points_of scope item calls x)) (lowered_blocks item calls blocks x)
  pub order : Each (IsInOrder lists) (lowered_blocks item calls blocks x)

pub point_total : (scope : Scope) (item calls : ℕ) (x : Item) → length (points_of scope item calls x) ≡ points_among scope (statements x)
point_total scope item calls x = map_length (info item) (item_points scope calls x) ∙ points_count scope 0 0 calls (statements x)

module _ (scope : Scope) (item calls blocks : ℕ) (lists : Lists) where
  no_blocks : (x : Item) → lowered_blocks item calls blocks x ≡ [] → blocks_of scope item x ≡ [] → NewBlocks scope item calls blocks x lists
  no_blocks x e f = record {
    many = ap length e ∙ sym (ap length f);
    items = subst (Each (λ b. b.item ≡ item)) (sym e) tt;
    ends = subst (Each (λ b. b.first_point + b.points ≤ length (points_of scope item calls x))) (sym e) tt;
    order = subst (Each (IsInOrder lists)) (sym e) tt;
  }

  new_blocks : (x : Item) → is_not_affine scope x ≡ false → IsPart lists.calls calls (calls_of scope item calls x) → IsPart lists.lowered_blocks blocks (lowered_blocks item calls blocks x)
      → NewBlocks scope item calls blocks x lists
  new_blocks (items.Const x) lines called inside = no_blocks (items.Const x) refl refl
  new_blocks (items.Array x) lines called inside = no_blocks (items.Array x) refl refl
  new_blocks (items.Function x) lines called inside = no_blocks (items.Function x) refl refl
  new_blocks (items.Call x) lines called inside = no_blocks (items.Call x) refl refl
  new_blocks (items.Loop x) lines called inside = no_blocks (items.Loop x) refl refl
  new_blocks (items.Print x) lines called inside = no_blocks (items.Print x) refl refl
  new_blocks (items.Block x) lines called inside =
      let at : Numbers = record { points = 0; calls = calls; blocks = blocks } in
      let good = block_good scope item lists x in
      let count = good.many at in
      let texts = length-map (item_blocks (items.Block x)) (constants.info scope item) in
      let size = good.points lines in
      let total = point_total scope item calls (items.Block x) in
      record {
        many = omega (arith, count, texts);
        items = good.items at;
        ends =
            weaker (λ b. b.first_point + b.points ≤ 0 + (block_of item x).takes.points) (λ b. b.first_point + b.points ≤ length (points_of scope item calls (items.Block x)))
            (λ b h. omega (arith, h, size, total)) ((block_of item x).blocks at) (good.ends at);
        order = good.order at (record { lines = lines; calls = called; inside = inside });
      }

-- ---- one item more

-- the blocks of the items up to this one
record HaveBlocks (n : ℕ) (lists : Lists) : Type 0 where
  pub placed : ArePlaced n lists.points
  pub many : length lists.lowered_blocks ≡ length lists.blocks
  pub below : Each (λ b. b.item ≤ n) lists.lowered_blocks
  pub order : Each (IsInOrder lists) lists.lowered_blocks
  pub all : (m k : ℕ) (b : LoweredBlock) → slice_get lists.lowered_blocks m ≡ Some b → IsWithin b k → StandsAt lists.points b.item k (λ x. x.item ≡ b.item)

module _ (scope : Scope) (n : ℕ) (lists : Lists) (x : Item) (lines : is_not_affine scope x ≡ false) (old : HaveBlocks n lists) where
  abbrev new_points : List PointInfo
  new_points = points_of scope (n + 1) (length lists.calls) x

  abbrev new_lowered : List LoweredBlock
  new_lowered = lowered_blocks (n + 1) (length lists.calls) (length lists.blocks) x

  abbrev next : Lists
  next = with_item scope (n + 1) lists x

  grows : Grows lists next
  grows = record {
    calls = λ k y. in_longer lists.calls (calls_of scope (n + 1) (length lists.calls) x) k y;
    blocks = λ k y. in_longer lists.lowered_blocks new_lowered k y;
  }

  new : NewBlocks scope (n + 1) (length lists.calls) (length lists.blocks) x next
  new =
      new_blocks scope (n + 1) (length lists.calls) (length lists.blocks) next x lines (second_part lists.calls (calls_of scope (n + 1) (length lists.calls) x) (length lists.calls) refl)
      (second_part lists.lowered_blocks new_lowered (length lists.blocks) old.many)

  new_placed : AreOf (n + 1) new_points
  new_placed = item_placed scope (n + 1) (length lists.calls) x

  -- each point of a new block stands behind those of the items before
  new_all : (d k : ℕ) (b : LoweredBlock) → slice_get new_lowered d ≡ Some b → IsWithin b k → StandsAt next.points b.item k (λ z. z.item ≡ b.item)
  new_all d k b there has =
      let own : b.item ≡ n + 1 = at_place (λ y. y.item ≡ n + 1) new_lowered d b new.items there in
      let end : b.first_point + b.points ≤ length new_points = at_place (λ y. y.first_point + y.points ≤ length new_points) new_lowered d b new.ends there in
      let before = has.before in
      let point = within new_points k (omega (arith, end, before)) in
      let same : point.element.item ≡ n + 1 = at_place (λ y. y.item ≡ n + 1) new_points k point.element new_placed.own point.there in
      subst (λ m. StandsAt next.points m k (λ z. z.item ≡ m)) (sym own)
      (now_stands n lists.points new_points old.placed new_placed k point.element (λ z. z.item ≡ n + 1) point.there same)

  all_stand : (m k : ℕ) (b : LoweredBlock) → slice_get next.lowered_blocks m ≡ Some b → IsWithin b k → StandsAt next.points b.item k (λ z. z.item ≡ b.item)
  all_stand m k b there has =
      ⊎_elim
      (λ (here : slice_get lists.lowered_blocks m ≡ Some b).
      still_stands n lists.points new_points old.placed new_placed b.item k (λ z. z.item ≡ b.item) (at_place (λ y. y.item ≤ n) lists.lowered_blocks m b old.below here) (old.all m k b here has))
      (λ (behind : InSecond lists.lowered_blocks new_lowered m b). new_all behind.place k b behind.there has) (in_either lists.lowered_blocks new_lowered m b there)

  blocks_more : HaveBlocks (n + 1) next
  blocks_more = record {
    placed = placed_more n lists.points new_points old.placed new_placed;
    many =
        (let before = old.many in
        let own = new.many in
        let lowered = length-append lists.lowered_blocks new_lowered in
        let texts = length-append lists.blocks (blocks_of scope (n + 1) x) in
        omega (arith, before, own, lowered, texts));
    below =
        both (λ b. b.item ≤ n + 1) lists.lowered_blocks new_lowered (weaker (λ b. b.item ≤ n) (λ b. b.item ≤ n + 1) (λ b h. omega (arith, h)) lists.lowered_blocks old.below)
        (weaker (λ b. b.item ≡ n + 1) (λ b. b.item ≤ n + 1) (λ b e. omega (arith, e)) new_lowered new.items);
    order =
        both (IsInOrder next) lists.lowered_blocks new_lowered
        (weaker (IsInOrder lists) (IsInOrder next) (λ b h. still_have lists next grows b.body b.first_point (b.first_point + b.points) h) lists.lowered_blocks old.order) new.order;
    all = all_stand;
  }

-- ---- a program

abbrev BlocksHad : List Item → Lists → Type 0
BlocksHad before lists = HaveBlocks (length before) lists

blocks_turn : IsTurn BlocksHad
blocks_turn before x lists keeps written h =
    subst (λ m. HaveBlocks m (with_item (known before) (length before + 1) lists x)) (sym (one_more before x))
    (blocks_more (known before) (length before) lists x keeps.affine h)

nothing_had : HaveBlocks 0 no_lists
nothing_had = record { placed = none_placed; many = refl; below = tt; order = tt; all = λ m k b there. absurd (none-some b there) }

all_had : (lists : Lists) (h : IsProgram lists) → HaveBlocks (length h.script.items) lists
all_had = by_items BlocksHad blocks_turn nothing_had

pub blocks_in_order : (lists : Lists) → IsProgram lists → All (IsInOrder lists) lists.lowered_blocks
blocks_in_order lists h = all_of (IsInOrder lists) lists.lowered_blocks (all_had lists h).order

pub blocks_have_points : (lists : Lists) (n k : ℕ) (block : LoweredBlock) → IsProgram lists → slice_get lists.lowered_blocks n ≡ Some block → IsWithin block k
    → StandsAt lists.points block.item k (λ x. x.item ≡ block.item)
blocks_have_points lists n k block h = (all_had lists h).all n k block
