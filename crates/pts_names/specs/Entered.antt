-- What is asked on the way through an item: names against the names in scope, and names that are entered.
use Rattle.std.specs.Prelude.{◌≡◌, Bool, false, not, ◌||◌, List, [], ◌∷◌, ◌++◌, flat_map}
use Rattle.std.specs.List.{list_any}
use Rattle.pts_types.specs.declared.value.Kind.TheVariants.{U64}
use Rattle.pts_tree.specs.declared.loops.Loop.{Loop}
use Rattle.pts_tree.specs.declared.block.TaskStmt.{TaskStmt}
use Rattle.pts_tree.specs.declared.block.TaskStmt.TheFolds.{fold-TaskStmt}
use Rattle.pts_rules.specs.declared.meaning.Meaning.TheVariants.{Value}
use Rattle.pts_rules.specs.Known.{Entry, Scope}
use Rattle.pts_rules.specs.Parts.{Name, Simple, uses, free, is_among, without, simple_step, sum_names, names_of, clause_names, head_locals, statement_names, statement_locals}
use Rattle.pts_rules.specs.Names.{names_in, clash}

-- ---- names in scope

-- the name is not in scope
unfoldable pub is_missing : Scope → Name → Bool
is_missing scope name = not (is_among name (names_in scope))

-- one of these names is not in scope
unfoldable pub misses : Scope → List Name → Bool
misses scope names = list_any (is_missing scope) names

-- ---- names that are entered

-- a local name; what it stands for is not asked
abbrev pub local : Name → Entry
local name = (name, Value U64)

-- the scope once these names have been entered, from the first on
unfoldable pub entered : List Name → Scope → Scope
entered [] scope = scope
entered (name ∷ names) scope = entered names (local name ∷ scope)

-- one of these names is in scope when it is its turn to be entered
unfoldable pub repeats : Scope → List Name → Bool
repeats scope [] = false
repeats scope (name ∷ names) = is_among name (names_in scope) || repeats (local name ∷ scope) names

-- the first scope is what is left of the other one once its latest names have been left
pub record IsOver (low high : Scope) : Type 0 where
  pub front : Scope
  pub is : high ≡ front ++ low

-- ---- loops

-- the names of a loop's head
abbrev pub head_names : Loop → List Name
head_names x = sum_names x.low ++ sum_names x.high ++ names_of sum_names x.step ++ flat_map clause_names x.clauses

-- the names of a loop's body
abbrev pub body_names : Loop → List Name
body_names x = without (head_locals x) (free (flat_map (λ y. uses y ∷ []) x.body))

-- ---- statements of a block

-- the statements of one statement of a block
unfoldable pub task_statements : TaskStmt → List Simple
task_statements = fold-TaskStmt (List Simple) (List Simple) simple_step (λ x. flat_map (λ y. y) x.body)

-- what a statement of a block uses besides local names
unfoldable pub task_names : TaskStmt → List Name
task_names x = flat_map statement_names (task_statements x)

-- the local names of the loops of a statement of a block
unfoldable pub task_locals : TaskStmt → List (List Name)
task_locals x = flat_map (λ y. statement_locals y ∷ []) (task_statements x)

-- one of these loops has a local name twice, or one that is in scope
unfoldable pub clashes : Scope → List (List Name) → Bool
clashes scope locals = list_any (clash (names_in scope)) locals
