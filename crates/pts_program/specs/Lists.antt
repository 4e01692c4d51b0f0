-- The lists of a script, in text order: arrays, functions, statements, calls, points, blocks, texts, and calls and blocks in the
-- form in which they run.
use Rattle.std.specs.Prelude.{◌≡◌, ℕ, ◌+◌, List, [], ◌∷◌, ◌++◌, length}
use Rattle.pts_tree.specs.declared.script.Item.{Item}
use Rattle.pts_tree.specs.declared.script.Item.TheVariants as items
use Rattle.pts_tree.specs.declared.script.Script.{Script}
use Rattle.pts_rules.specs.Known.{Scope, natural, number}
use Rattle.pts_rules.specs.Scopes.{known}
use Rattle.pts_syntax.specs.Syntax.{IsSpelled}
use Rattle.pts_code.specs.declared.function.FunctionInfo.{FunctionInfo}
use Rattle.pts_constants.specs.Resolved.{resolved_expr}
use Rattle.pts_constants.specs.Texts.{texts_of}
use Rattle.pts_constants.specs.Blocks.{blocks_of}
use Rattle.pts_lowering.specs.Blocks.{lowered_blocks}
use Rattle.pts_lowering.specs.Forms.{lowered_calls}
use Rattle.pts_points.specs.Points.{array_at, calls_of, points_of}
use Rattle.pts_starts.specs.Starts.{start_cells}
use Rattle.pts_program.specs.declared.info.ArrayInfo.{ArrayInfo}
use Rattle.pts_program.specs.declared.info.StatementInfo.{StatementInfo}
use Rattle.pts_program.specs.declared.info.StatementInfo.TheVariants as statement_infos
use Rattle.pts_program.specs.declared.lists.Lists.{Lists}
use Rattle.pts_program.specs.Faults.{IsSound}

-- the array that an item declares
abbrev pub arrays_of : Scope → Item → List ArrayInfo
arrays_of scope (items.Array x) =
    record { name = x.name; kind = x.kind; cells = start_cells scope x.kind (natural (number scope x.length)) x.start } ∷ []
arrays_of scope x = []

-- the function that it declares
abbrev pub functions_of : Scope → Item → List FunctionInfo
functions_of scope (items.Function x) = record { name = x.name; params = x.params; kind = x.kind; body = resolved_expr scope x.body } ∷ []
functions_of scope x = []

-- the statement that it is, where this many calls and blocks stand before it
abbrev pub statements_of : Scope → ℕ → ℕ → Item → List StatementInfo
statements_of scope calls blocks (items.Call x) = statement_infos.Call calls ∷ []
statements_of scope calls blocks (items.Loop x) = statement_infos.Call calls ∷ []
statements_of scope calls blocks (items.Block x) = statement_infos.Block blocks ∷ []
statements_of scope calls blocks (items.Print x) = statement_infos.Print (array_at scope x) ∷ []
statements_of scope calls blocks x = []

-- no items
abbrev pub no_lists : Lists
no_lists = record { arrays = []; functions = []; statements = []; calls = []; points = []; blocks = []; texts = []; lowered_calls = []; lowered_blocks = [] }

-- item n more, in the scope that the items before it leave
abbrev pub with_item : Scope → ℕ → Lists → Item → Lists
with_item scope n lists x =
    let calls : ℕ = length lists.calls in
    record {
      arrays = lists.arrays ++ arrays_of scope x;
      functions = lists.functions ++ functions_of scope x;
      statements = lists.statements ++ statements_of scope calls (length lists.blocks) x;
      calls = lists.calls ++ calls_of scope n calls x;
      points = lists.points ++ points_of scope n calls x;
      blocks = lists.blocks ++ blocks_of scope n x;
      texts = lists.texts ++ texts_of scope x;
      lowered_calls = lists.lowered_calls ++ lowered_calls scope x;
      lowered_blocks = lists.lowered_blocks ++ lowered_blocks n calls (length lists.blocks) x;
    }

-- items behind those before them
abbrev pub with_items : List Item → Lists → List Item → Lists
with_items before lists [] = lists
with_items before lists (x ∷ rest) = with_items (before ++ x ∷ []) (with_item (known before) (length before + 1) lists x) rest

-- the lists of a script
abbrev pub lists_of : Script → Lists
lists_of script = with_items [] no_lists script.items

-- the lists of a script that the grammar spells and that breaks no rule
pub record IsProgram (lists : Lists) : Type 0 where
  pub script : Script
  pub sound : IsSound script
  pub spelled : IsSpelled script
  pub made : lists ≡ lists_of script
