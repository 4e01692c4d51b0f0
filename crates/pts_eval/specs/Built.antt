-- Which statements are built.
use Rattle.std.specs.Prelude.{ℕ, Bool, true, false, is_none, option_map, find, slice_get, Option, Some, None}
use Rattle.pts_program.specs.declared.info.StatementInfo.{StatementInfo}
use Rattle.pts_program.specs.declared.info.StatementInfo.TheVariants.{Call, Block, Print}
use Rattle.pts_program.specs.declared.lists.Lists.{Lists}

-- the statement is not built: a task block is not, and each call that the program has is
abbrev pub is_later : Lists → StatementInfo → Bool
is_later lists (Print array) = false
is_later lists (Block block) = true
is_later lists (Call call) = is_none (slice_get lists.lowered_calls call)

-- the item of a statement; that of a `print` is asked of nobody
abbrev pub item_of : Lists → StatementInfo → ℕ
item_of lists (Call call) = elim (slice_get lists.calls call) [ None ↦ 0 | Some info ↦ info.item ]
item_of lists (Block block) = elim (slice_get lists.blocks block) [ None ↦ 0 | Some info ↦ info.item ]
item_of lists (Print array) = 0

-- the item of the first statement that is not built
abbrev pub first_later : Lists → Option ℕ
first_later lists = option_map (item_of lists) (find (is_later lists) lists.statements)
