-- Names of a program: those of its arrays and functions, and what its calls, loops and blocks name.
use Rattle.std.specs.Prelude.{All, ◌≡◌, ℕ, ◌≤◌, false, IsTrue, if◌then◌else◌, Option, Some, None, List, [], ◌∷◌, ◌++◌, flat_map, map, take, length, pos}
use Rattle.std.specs.List.{list_all}
use Rattle.std.specs.Str.{bytes_eq}
use Rattle.pts_rules.specs.declared.meaning.Meaning.TheVariants.{Array}
use Rattle.pts_rules.specs.Known.{Entry, Scope}
use Rattle.pts_rules.specs.Names.{clash}
use Rattle.pts_rules.specs.Mistyped.{statement_right}
use Rattle.pts_tree.specs.declared.loops.Loop as loops
use Rattle.pts_tree.specs.declared.loops.BodyStmt.{BodyStmt}
use Rattle.pts_tree.specs.declared.loops.BodyStmt.TheOpen.{BodyStmt-F}
use Rattle.pts_tree.specs.declared.loops.BodyStmt.TheFolds.{fold-BodyStmt}
use Rattle.pts_rules.specs.Parts.{Name, Simple, Throw, Assign, Call, Loop, block_statements, call_names, cell_names, clause_names, expr_names, head_locals, is_among, place_names, statement_locals, sum_names}
use Rattle.pts_rules.specs.Parts as parts
use Rattle.pts_code.specs.declared.function.FunctionInfo.{FunctionInfo}
use Rattle.pts_code.specs.Functions.{scope_of}
use Rattle.pts_constants.specs.declared.infos.BlockInfo.{BlockInfo}
use Rattle.pts_constants.specs.declared.texts.CallText.{CallText}
use Rattle.pts_constants.specs.declared.texts.CallText.TheVariants as texts
use Rattle.pts_program.specs.declared.info.ArrayInfo.{ArrayInfo}
use Rattle.pts_program.specs.declared.lists.Lists.{Lists}

-- ---- arrays and functions

abbrev pub array_names : List ArrayInfo → List Name
array_names arrays = map (λ a. a.name) arrays

abbrev pub function_names : List FunctionInfo → List Name
function_names functions = map (λ f. f.name) functions

-- the names of a program's arrays and functions
abbrev pub global_names : Lists → List Name
global_names lists = array_names lists.arrays ++ function_names lists.functions

-- the first array of this name
abbrev pub array_named : List ArrayInfo → Name → Option ArrayInfo
array_named [] name = None
array_named (a ∷ arrays) name = if bytes_eq name a.name then Some a else array_named arrays name

-- an array as a name in scope
abbrev pub array_entry : ArrayInfo → Entry
array_entry a = (a.name, Array a.kind (pos (length a.cells)))

-- these arrays and functions as names in scope, where nothing else is
abbrev pub names_of : List ArrayInfo → List FunctionInfo → Scope
names_of arrays functions = map array_entry arrays ++ scope_of functions

-- ---- texts

-- a text as a statement
abbrev pub as_statement : CallText → Simple
as_statement (texts.Call x) = Call x
as_statement (texts.Loop x) = Loop x

-- a statement of right kinds where the arrays and functions of a program are in scope, and no constants
abbrev pub IsRight : Lists → Simple → Type 0
IsRight lists x = IsTrue (statement_right (names_of lists.arrays lists.functions) x)

-- a text in which this holds, and a block in which it holds of every call, loop, assignment and throw at any depth
abbrev pub HoldsOf : (Simple → Type 0) → CallText → Type 0
HoldsOf P text = P (as_statement text)

abbrev pub HoldsIn : (Simple → Type 0) → BlockInfo → Type 0
HoldsIn P block = All P (block_statements block.body)

-- the names of the first arrays and functions, so many of each
abbrev pub first_names : Lists → ℕ → ℕ → List Name
first_names lists arrays functions = array_names (take arrays lists.arrays) ++ function_names (take functions lists.functions)

-- one case for each form of statement
abbrev pub all_names_step : BodyStmt-F (List Name) → List Name
all_names_step (BodyStmt-F.Assign at x) = place_names at ++ expr_names x
all_names_step (BodyStmt-F.Let name x) = name ∷ expr_names x
all_names_step (BodyStmt-F.Combine name x) = name ∷ expr_names x
all_names_step (BodyStmt-F.If x xs ys) = expr_names x ++ flat_map (λ y. y) xs ++ parts.names_of (flat_map (λ y. y)) ys
all_names_step (BodyStmt-F.VecOff xs) = flat_map (λ y. y) xs
all_names_step (BodyStmt-F.Ordered at op x) = place_names at ++ expr_names x

-- all names of a statement of a body
unfoldable pub all_names : BodyStmt → List Name
all_names = fold-BodyStmt (List Name) all_names_step

abbrev pub loop_text_names : loops.Loop → List Name
loop_text_names x =
    head_locals x ++ sum_names x.low ++ sum_names x.high ++ parts.names_of sum_names x.step ++ flat_map clause_names x.clauses ++ flat_map all_names x.body

-- all names of a statement, at whatever place
abbrev pub simple_names : Simple → List Name
simple_names (Throw n) = []
simple_names (Assign at x) = cell_names at ++ expr_names x
simple_names (Call x) = call_names x
simple_names (Loop x) = loop_text_names x

-- Of the arrays and functions so many stand before the statement. Each name in it is one of theirs or a local one, and its
-- local names differ from each other and from theirs.
pub record IsNamed (lists : Lists) (x : Simple) : Type 0 where
  pub arrays : ℕ
  pub functions : ℕ
  pub within : (arrays ≤ length lists.arrays) × (functions ≤ length lists.functions)
  pub known : IsTrue (list_all (λ name. is_among name (first_names lists arrays functions ++ statement_locals x)) (simple_names x))
  pub apart : clash (first_names lists arrays functions) (statement_locals x) ≡ false
