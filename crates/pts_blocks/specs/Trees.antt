-- What the tree of a block says.
use Rattle.std.specs.Prelude.{Bool, true, false, ◌||◌, if◌then◌else◌, Option, Some, None, List, [], ◌∷◌, ◌++◌, flat_map}
use Rattle.std.specs.List.{list_any}
use Rattle.pts_store.specs.Stores.{Store}
use Rattle.pts_blocks.specs.declared.trees.Exception.{Exception}
use Rattle.pts_blocks.specs.declared.trees.Exception.TheVariants as exceptions
use Rattle.pts_blocks.specs.declared.trees.Node.{Node, out-Node}
use Rattle.pts_blocks.specs.declared.trees.Node.TheFolds.{fold-Tree}
use Rattle.pts_blocks.specs.declared.trees.NodeEnd.{NodeEnd}
use Rattle.pts_blocks.specs.declared.trees.NodeEnd.TheVariants as ends
use Rattle.pts_blocks.specs.declared.trees.Tree.{Tree, out-Tree}

-- ---- ends

abbrev pub is_terminated : NodeEnd → Bool
is_terminated ends.Terminated = true
is_terminated end = false

abbrev pub is_cancelled : NodeEnd → Bool
is_cancelled (ends.Cancelled mark) = true
is_cancelled end = false

abbrev pub is_discarded : NodeEnd → Bool
is_discarded ends.Discarded = true
is_discarded end = false

abbrev pub is_thrown : NodeEnd → Bool
is_thrown (ends.Threw exception) = true
is_thrown end = false

-- an end for which others may be cancelled or discarded
abbrev pub is_failure : NodeEnd → Bool
is_failure (ends.Threw exception) = true
is_failure ends.Terminated = true
is_failure end = false

-- the exception that left a node
abbrev pub thrown : NodeEnd → List Exception
thrown (ends.Threw exception) = exception ∷ []
thrown end = []

-- ---- trees

abbrev pub end_in : Node → NodeEnd
end_in node = (out-Node node).end

abbrev pub body_end : Tree → NodeEnd
body_end tree = end_in (out-Tree tree).body

-- The exception list of a block ([parallel.taskblock]): those of its tasks in the order in which they were spawned, and then the body's.
-- The list of an inner block is one of them.
abbrev pub exceptions_of : Tree → List Exception
exceptions_of tree = flat_map (λ node. thrown (end_in node)) (out-Tree tree).tasks ++ thrown (body_end tree)

-- a task of the block has such an end
abbrev pub some_task : (NodeEnd → Bool) → Tree → Bool
some_task test tree = list_any (λ node. test (end_in node)) (out-Tree tree).tasks

-- a node of the block has
abbrev pub some_own_end : (NodeEnd → Bool) → Tree → Bool
some_own_end test tree = some_task test tree || test (body_end tree)

-- a node of the block has, or of a block inside it
unfoldable pub some_end : (NodeEnd → Bool) → Tree → Bool
some_end test =
    fold-Tree Bool Bool (λ node. list_any (λ inner. inner) node.inner || test node.end) (λ tree. list_any (λ task. task) tree.tasks || tree.body)

-- a list that is not empty is thrown as one exception
abbrev pub thrown_as_one : List Exception → Option NodeEnd
thrown_as_one [] = None
thrown_as_one (x ∷ xs) = Some (ends.Threw (exceptions.Many (x ∷ xs)))

-- how a block ends the node around it, if it does: a node of the block that is terminated comes before all that were thrown
abbrev pub end_around : Tree → Option NodeEnd
end_around tree = if some_own_end is_terminated tree then Some ends.Terminated else thrown_as_one (exceptions_of tree)

-- the store that a block leaves, where its serial run leads from `before` to `after`: a run that is ended leaves no writes of the block
abbrev pub store_after : Tree → Store → Store → Store
store_after tree before after = if some_end is_terminated tree then before else after
