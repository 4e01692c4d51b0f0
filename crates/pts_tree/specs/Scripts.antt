-- Which signs spell an item and a script, and the canonical bytes of a script.
use Rattle.std.specs.Prelude.{◌≡◌, ℕ, Bool, true, ◌&&◌, ◌==◌, List, [], ◌∷◌}
use Rattle.std.specs.List.{list_all}
use Rattle.pts_tree.specs.declared.mark.Mark.TheVariants as m
use Rattle.pts_tree.specs.declared.sum.Sum.{Sum}
use Rattle.pts_tree.specs.declared.sum.Val.{Val}
use Rattle.pts_tree.specs.declared.script.ConstDecl.{ConstDecl}
use Rattle.pts_tree.specs.declared.script.ArrayDecl.{ArrayDecl}
use Rattle.pts_tree.specs.declared.script.FunctionDecl.{FunctionDecl}
use Rattle.pts_tree.specs.declared.script.Param.{Param}
use Rattle.pts_tree.specs.declared.script.Start.{Start}
use Rattle.pts_tree.specs.declared.script.Start.TheVariants as starts
use Rattle.pts_tree.specs.declared.script.Item.{Item}
use Rattle.pts_tree.specs.declared.script.Item.TheVariants as items
use Rattle.pts_tree.specs.declared.script.Script.{Script}
use Rattle.pts_tree.specs.Signs.{Sign, Mark, Name, Number}
use Rattle.pts_tree.specs.Spelling.{Text, each, separated, kind, sum, val, call, call_allowed, is_filled}
use Rattle.pts_tree.specs.Expressions.{expr, expr_allowed}
use Rattle.pts_tree.specs.Statements.{loop, loop_allowed, block, whole_block}

-- ---- declarations

-- "const" NAME "=" sum ";"
abbrev pub const_decl : ConstDecl → Text
const_decl x tail = Mark m.Const ∷ Name x.name ∷ Mark m.Equal ∷ sum x.value (Mark m.Semicolon ∷ tail)

-- values with a comma between any two
abbrev pub vals : List Val → Text
vals xs tail = separated m.Comma val xs tail

-- "list" val ("," val)*
abbrev pub list : List Val → Text
list xs tail = Mark m.List ∷ vals xs tail

-- "fill" val
abbrev pub fill : Val → Text
fill x tail = Mark m.Fill ∷ val x tail

-- "iota" sum "step" sum
abbrev pub iota : Sum → Sum → Text
iota x y tail = Mark m.Iota ∷ sum x (Mark m.Step ∷ sum y tail)

-- "mix" sum
abbrev pub mix : Sum → Text
mix x tail = Mark m.Mix ∷ sum x tail

-- what an array starts with
abbrev pub start : Start → Text
start (starts.List xs) tail = list xs tail
start (starts.Fill x) tail = fill x tail
start (starts.Iota x y) tail = iota x y tail
start (starts.Mix x) tail = mix x tail

-- a list has at least one value
abbrev pub start_allowed : Start → Bool
start_allowed (starts.List xs) = is_filled xs
start_allowed _ = true

-- a comma and a value
abbrev pub next_val : Val → Text
next_val x tail = Mark m.Comma ∷ val x tail

-- "array" NAME ":" kind "[" sum "]" "=" start ";"
abbrev pub array_decl : ArrayDecl → Text
array_decl x tail =
    Mark m.Array ∷ Name x.name ∷ Mark m.Colon ∷ Mark (kind x.kind) ∷ Mark m.OpenBracket ∷ sum x.length (Mark m.CloseBracket ∷ Mark m.Equal ∷ start x.start (Mark m.Semicolon ∷ tail))

-- NAME ":" kind
abbrev pub param : Param → Text
param x tail = Name x.name ∷ Mark m.Colon ∷ Mark (kind x.kind) ∷ tail

-- a comma and a parameter
abbrev pub next_param : Param → Text
next_param x tail = Mark m.Comma ∷ param x tail

-- parameters with a comma between any two
abbrev pub params : List Param → Text
params xs tail = separated m.Comma param xs tail

-- "fn" NAME "(" param ("," param)* ")" "->" kind "=" expr ";"
abbrev pub function_decl : FunctionDecl → Text
function_decl x tail =
    Mark m.Function ∷ Name x.name ∷ Mark m.OpenParen ∷ params x.params
    (Mark m.CloseParen ∷ Mark m.Arrow ∷ Mark (kind x.kind) ∷ Mark m.Equal ∷ expr x.body (Mark m.Semicolon ∷ tail))

-- ---- items and scripts

-- "print" NAME ";"
abbrev pub print : List ℕ → Text
print text tail = Mark m.Print ∷ Name text ∷ Mark m.Semicolon ∷ tail

-- one case for each declaration and statement
abbrev pub item : Item → Text
item (items.Const x) tail = const_decl x tail
item (items.Array x) tail = array_decl x tail
item (items.Function x) tail = function_decl x tail
item (items.Call x) tail = call x tail
item (items.Loop x) tail = loop x tail
item (items.Block x) tail = block x tail
item (items.Print text) tail = print text tail

-- whether the grammar has this item
abbrev pub item_allowed : Item → Bool
item_allowed (items.Const x) = true
item_allowed (items.Array x) = start_allowed x.start
item_allowed (items.Function x) = is_filled x.params && expr_allowed x.body
item_allowed (items.Call x) = call_allowed x
item_allowed (items.Loop x) = loop_allowed x
item_allowed (items.Block x) = (whole_block x).allowed
item_allowed (items.Print text) = true

-- "pts" NUMBER ";"
abbrev pub header : ℕ → Text
header version tail = Mark m.Pts ∷ Number version ∷ Mark m.Semicolon ∷ tail

-- the header and item*
abbrev pub script : Script → Text
script x tail = header x.version (each item x.items tail)

-- whether the grammar has this script; the version is 1
abbrev pub script_allowed : Script → Bool
script_allowed x = x.version == 1 && list_all item_allowed x.items

-- these signs are the spelling of this script
pub record Spells (signs : List Sign) (x : Script) : Type 0 where
  pub text : signs ≡ script x []
  pub allowed : script_allowed x ≡ true
