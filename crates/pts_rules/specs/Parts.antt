-- The statements of an item, and the names that it uses and binds.
use Rattle.std.specs.Prelude.{ℕ, Bool, not, option_to_list, Option, Some, None, List, [], ◌∷◌, ◌++◌, filter, flat_map}
use Rattle.std.specs.List.{list_any}
use Rattle.std.specs.Str.{bytes_eq}
use Rattle.pts_tree.specs.declared.sum.Atom.{Atom}
use Rattle.pts_tree.specs.declared.sum.Atom.TheVariants as atoms
use Rattle.pts_tree.specs.declared.sum.Sum.{Sum}
use Rattle.pts_tree.specs.declared.sum.Val.{Val}
use Rattle.pts_tree.specs.declared.sum.Val.TheVariants as vals
use Rattle.pts_tree.specs.declared.sum.Range.{Range}
use Rattle.pts_tree.specs.declared.sum.Cell.{Cell}
use Rattle.pts_tree.specs.declared.call.Op.{Op}
use Rattle.pts_tree.specs.declared.call.Op.TheVariants as op_variants
use Rattle.pts_tree.specs.declared.call.Call as call
use Rattle.pts_tree.specs.declared.expr.Expr.{Expr}
use Rattle.pts_tree.specs.declared.expr.Expr.TheOpen.{Expr-F}
use Rattle.pts_tree.specs.declared.expr.Expr.TheFolds.{fold-Expr}
use Rattle.pts_tree.specs.declared.expr.Place.{Place}
use Rattle.pts_tree.specs.declared.loops.Loop as loops
use Rattle.pts_tree.specs.declared.loops.Clause.{Clause}
use Rattle.pts_tree.specs.declared.loops.Clause.TheVariants as clauses
use Rattle.pts_tree.specs.declared.loops.Initial.{Initial}
use Rattle.pts_tree.specs.declared.loops.Initial.TheVariants as initials
use Rattle.pts_tree.specs.declared.loops.BodyStmt.{BodyStmt}
use Rattle.pts_tree.specs.declared.loops.BodyStmt.TheOpen.{BodyStmt-F}
use Rattle.pts_tree.specs.declared.loops.BodyStmt.TheFolds.{fold-BodyStmt}
use Rattle.pts_tree.specs.declared.block.Block.{Block}
use Rattle.pts_tree.specs.declared.block.TaskStmt.TheOpen.{TaskStmt-F}
use Rattle.pts_tree.specs.declared.block.TaskStmt.TheFolds.{fold-Block}
use Rattle.pts_tree.specs.declared.script.Param.{Param}
use Rattle.pts_tree.specs.declared.script.Start.{Start}
use Rattle.pts_tree.specs.declared.script.Start.TheVariants as starts
use Rattle.pts_tree.specs.declared.script.Item.{Item}
use Rattle.pts_tree.specs.declared.script.Item.TheVariants as items

-- ---- statements

-- a statement that has no other one inside, but for a loop's body
pub data Simple : Type 0 where
  Throw : ℕ → Simple
  Assign : Cell → Expr → Simple
  Call : call.Call → Simple
  Loop : loops.Loop → Simple

-- the statements of a block in text order, with those of its tasks and of the blocks inside
abbrev pub simple_step : TaskStmt-F (List Simple) (List Simple) → List Simple
simple_step (TaskStmt-F.Run xs) = flat_map (λ x. x) xs
simple_step TaskStmt-F.Wait = []
simple_step (TaskStmt-F.Throw n) = Throw n ∷ []
simple_step (TaskStmt-F.Assign at x) = Assign at x ∷ []
simple_step (TaskStmt-F.Call x) = Call x ∷ []
simple_step (TaskStmt-F.Loop x) = Loop x ∷ []
simple_step (TaskStmt-F.Block x) = x

-- the statements of a block
unfoldable pub block_statements : Block → List Simple
block_statements = fold-Block (List Simple) (List Simple) simple_step (λ x. flat_map (λ y. y) x.body)

-- the calls, loops, assignments and throws of an item, in text order
abbrev pub statements : Item → List Simple
statements (items.Call x) = Call x ∷ []
statements (items.Loop x) = Loop x ∷ []
statements (items.Block x) = block_statements x
statements _ = []

-- ---- names

-- the text of a name
abbrev pub Name : Type 0
Name = List ℕ

-- the name is one of these
abbrev pub is_among : Name → List Name → Bool
is_among x names = list_any (bytes_eq x) names

-- these names without those of the first list
abbrev pub without : List Name → List Name → List Name
without hidden names = filter (λ x. not (is_among x hidden)) names

abbrev pub atom_names : Atom → List Name
atom_names (atoms.Number n) = []
atom_names (atoms.Name x) = x ∷ []

-- the names of a sum
abbrev pub sum_names : Sum → List Name
sum_names x = atom_names x.first ++ flat_map (λ part. atom_names part.atom) x.rest

abbrev pub val_names : Val → List Name
val_names (vals.Sum x) = sum_names x
val_names _ = []

abbrev pub range_names : Range → List Name
range_names x = x.array ∷ sum_names x.low ++ sum_names x.high

abbrev pub cell_names : Cell → List Name
cell_names x = x.array ∷ sum_names x.index

-- a function as an operation
abbrev pub op_names : Op → List Name
op_names (op_variants.Table x) = []
op_names (op_variants.Name x) = x ∷ []

-- the names of a part where it is there
abbrev pub names_of : {A : Type 0} → (A → List Name) → Option A → List Name
names_of f None = []
names_of f (Some x) = f x

-- every name of an expression
abbrev pub expr_names_step : Expr-F (List Name) (List Name) → List Name
expr_names_step (Expr-F.Name x) = x ∷ []
expr_names_step (Expr-F.Call x xs) = x ∷ flat_map (λ y. y) xs
expr_names_step (Expr-F.Element x y) = x ∷ y
expr_names_step (Expr-F.Convert to x) = x
expr_names_step (Expr-F.Paren x) = x
expr_names_step (Expr-F.Minus x) = x
expr_names_step (Expr-F.Not x) = x
expr_names_step (Expr-F.Chain x xs) = x ++ flat_map (λ y. y) xs
expr_names_step (Expr-F.Compare op x y) = x ++ y
expr_names_step (Expr-F.All xs) = flat_map (λ y. y) xs
expr_names_step (Expr-F.Any xs) = flat_map (λ y. y) xs
expr_names_step (Expr-F.If x y z) = x ++ y ++ z
expr_names_step _ = []

-- the names of an expression
unfoldable pub expr_names : Expr → List Name
expr_names = fold-Expr (List Name) (List Name) expr_names_step (λ part. part.operand)

abbrev pub place_names : Place → List Name
place_names x = x.array ∷ expr_names x.index

-- what a statement of a body uses, and what it binds for those after it
pub record Uses : Type 0 where
  pub used : List Name
  pub bound : List Name

-- what statements between braces use: a `let` is in scope from the next statement on
abbrev pub free : List Uses → List Name
free [] = []
free (x ∷ xs) = x.used ++ without x.bound (free xs)

-- a statement that binds nothing
abbrev pub using : List Name → Uses
using names = record { used = names; bound = [] }

abbrev pub uses_step : BodyStmt-F Uses → Uses
uses_step (BodyStmt-F.Assign at x) = using (place_names at ++ expr_names x)
uses_step (BodyStmt-F.Let name x) = record { used = expr_names x; bound = name ∷ [] }
uses_step (BodyStmt-F.Combine name x) = using (name ∷ expr_names x)
uses_step (BodyStmt-F.If x xs ys) = using (expr_names x ++ free xs ++ names_of free ys)
uses_step (BodyStmt-F.VecOff xs) = using (free xs)
uses_step (BodyStmt-F.Ordered at op x) = using (place_names at ++ expr_names x)

-- what a statement of a body uses and binds
unfoldable pub uses : BodyStmt → Uses
uses = fold-BodyStmt Uses uses_step

abbrev pub lets_step : BodyStmt-F (List Name) → List Name
lets_step (BodyStmt-F.Let name x) = name ∷ []
lets_step (BodyStmt-F.If x xs ys) = flat_map (λ y. y) xs ++ names_of (flat_map (λ y. y)) ys
lets_step (BodyStmt-F.VecOff xs) = flat_map (λ y. y) xs
lets_step _ = []

-- the names of every `let` in a statement of a body
unfoldable pub lets : BodyStmt → List Name
lets = fold-BodyStmt (List Name) lets_step

-- ---- loops and calls

abbrev pub initial_names : Initial → List Name
initial_names (initials.Val x) = val_names x
initial_names (initials.Cell x) = cell_names x

-- what a clause uses in the loop's head
abbrev pub clause_names : Clause → List Name
clause_names (clauses.Reduce x) = cell_names x.cell ++ op_names x.op ++ names_of val_names x.identity
clause_names (clauses.Induct x) = initial_names x.initial ++ names_of sum_names x.step

-- the view or the induction of a clause
abbrev pub clause_name : Clause → Name
clause_name (clauses.Reduce x) = x.view
clause_name (clauses.Induct x) = x.name

-- the names that a loop's body has from its head: the index, the views and the inductions
abbrev pub head_locals : loops.Loop → List Name
head_locals x = x.index ∷ flat_map (λ c. clause_name c ∷ []) x.clauses

-- every local name of a loop
abbrev pub loop_locals : loops.Loop → List Name
loop_locals x = head_locals x ++ flat_map lets x.body

-- what a loop uses besides its local names, which are in scope in the body alone
abbrev pub loop_names : loops.Loop → List Name
loop_names x =
    sum_names x.low ++ sum_names x.high ++ names_of sum_names x.step ++ flat_map clause_names x.clauses
    ++ without (head_locals x) (free (flat_map (λ y. uses y ∷ []) x.body))

abbrev pub call_names : call.Call → List Name
call_names x =
    range_names x.first ++ names_of range_names x.second ++ names_of range_names x.target ++ names_of val_names x.init
    ++ names_of op_names x.op ++ option_to_list x.function ++ names_of cell_names x.store

-- what a statement uses besides its own local names
abbrev pub statement_names : Simple → List Name
statement_names (Throw n) = []
statement_names (Assign at x) = cell_names at ++ expr_names x
statement_names (Call x) = call_names x
statement_names (Loop x) = loop_names x

-- ---- items

abbrev pub start_names : Start → List Name
start_names (starts.List xs) = flat_map val_names xs
start_names (starts.Fill x) = val_names x
start_names (starts.Iota x y) = sum_names x ++ sum_names y
start_names (starts.Mix x) = sum_names x

abbrev pub param_names : List Param → List Name
param_names xs = flat_map (λ x. x.name ∷ []) xs

-- the names that an item uses where no local name of its own is meant
abbrev pub used_names : Item → List Name
used_names (items.Const x) = sum_names x.value
used_names (items.Array x) = sum_names x.length ++ start_names x.start
used_names (items.Function x) = without (param_names x.params) (expr_names x.body)
used_names (items.Print x) = x ∷ []
used_names x = flat_map statement_names (statements x)

-- the global name that an item declares, if it declares one
abbrev pub declared_names : Item → List Name
declared_names (items.Const x) = x.name ∷ []
declared_names (items.Array x) = x.name ∷ []
declared_names (items.Function x) = x.name ∷ []
declared_names _ = []

-- the local names of a loop; other statements have none
abbrev pub statement_locals : Simple → List Name
statement_locals (Loop x) = loop_locals x
statement_locals _ = []

-- the local names of an item, those of each function or loop as one list
abbrev pub local_names : Item → List (List Name)
local_names (items.Function x) = param_names x.params ∷ []
local_names x = flat_map (λ y. statement_locals y ∷ []) (statements x)
