-- Reading declarations, items and scripts.
use Rattle.std.specs.Prelude.{ℕ, Bool, true, if◌then◌else◌, List, [], ◌∷◌, Result, Ok}
use Rattle.pts_types.specs.declared.value.Kind.{Kind}
use Rattle.pts_tree.specs.declared.mark.Mark.TheVariants as m
use Rattle.pts_tree.specs.declared.sign.SignKind.{SignKind}
use Rattle.pts_tree.specs.declared.sign.SignKind.TheVariants as k
use Rattle.pts_tree.specs.Grammar.{same}
use Rattle.pts_tree.specs.Signs.{Sign}
use Rattle.pts_tree.specs.declared.sum.Val.{Val}
use Rattle.pts_tree.specs.declared.script.Param.{Param}
use Rattle.pts_tree.specs.declared.script.Start.{Start}
use Rattle.pts_tree.specs.declared.script.Start.TheVariants as starts
use Rattle.pts_tree.specs.declared.script.Item.{Item}
use Rattle.pts_tree.specs.declared.script.Item.TheVariants as items
use Rattle.pts_tree.specs.declared.script.Script.{Script}
use Rattle.pts_parse.specs.declared.reader.Stop.{Stop}
use Rattle.pts_parse.specs.Reading.{Parser, ◌>>=◌, ahead, past, unexpected, expect, open_bracket, name, each_of}
use Rattle.pts_parse.specs.SumReading.{sum, val, index, kind, typed}
use Rattle.pts_parse.specs.CallReading.{call}
use Rattle.pts_parse.specs.ExprReading.{sees_comma}
use Rattle.pts_parse.specs.LoopReading.{value, loop_behind}
use Rattle.pts_parse.specs.BlockReading.{block, sees_call}

-- ---- declarations, behind their word

-- NAME "=" sum ";"
unfoldable pub const_decl : Parser Item
const_decl ts =
    name ts >>= λ n. expect m.Equal n.1 >>= λ r. sum r >>= λ x. expect m.Semicolon x.1 >>= λ s. Ok (items.Const (record { name = n.0; value = x.0 }), s)

-- "," val
unfoldable pub next_val : Parser Val
next_val ts = expect m.Comma ts >>= λ r. val r

unfoldable pub next_vals : Parser (List Val)
next_vals ts = each_of sees_comma next_val ts

-- val ("," val)*
unfoldable pub vals : Parser (List Val)
vals ts = val ts >>= λ x. next_vals x.1 >>= λ xs. Ok (x.0 ∷ xs.0, xs.1)

-- sum "step" sum behind "iota"
unfoldable pub iota : Parser Start
iota ts = sum ts >>= λ x. expect m.Step x.1 >>= λ r. sum r >>= λ y. Ok (starts.Iota x.0 y.0, y.1)

abbrev pub start_by : SignKind → Parser Start
start_by (k.Mark m.List) ts = vals (past ts) >>= λ xs. Ok (starts.List xs.0, xs.1)
start_by (k.Mark m.Fill) ts = val (past ts) >>= λ x. Ok (starts.Fill x.0, x.1)
start_by (k.Mark m.Iota) ts = iota (past ts)
start_by (k.Mark m.Mix) ts = sum (past ts) >>= λ x. Ok (starts.Mix x.0, x.1)
start_by _ ts = unexpected ts

unfoldable pub start : Parser Start
start ts = start_by (ahead ts) ts

-- "=" start ";"
unfoldable pub start_part : Parser Start
start_part ts = expect m.Equal ts >>= λ r. start r >>= λ x. expect m.Semicolon x.1 >>= λ s. Ok (x.0, s)

-- NAME ":" kind "[" sum "]" "=" start ";"
unfoldable pub array_decl : ℕ → Parser Item
array_decl room ts =
    typed ts >>= λ h. index room h.1 >>= λ n. start_part n.1 >>= λ x.
    Ok (items.Array (record { name = h.0.0; kind = h.0.1; length = n.0; start = x.0 }), x.1)

-- NAME ":" kind
unfoldable pub param : Parser Param
param ts = typed ts >>= λ h. Ok (record { name = h.0.0; kind = h.0.1 }, h.1)

-- "," param
unfoldable pub next_param : Parser Param
next_param ts = expect m.Comma ts >>= λ r. param r

unfoldable pub next_params : Parser (List Param)
next_params ts = each_of sees_comma next_param ts

-- param ("," param)*
unfoldable pub params : Parser (List Param)
params ts = param ts >>= λ x. next_params x.1 >>= λ xs. Ok (x.0 ∷ xs.0, xs.1)

-- NAME "(" param ("," param)* ")"
unfoldable pub signature : ℕ → Parser (List ℕ × List Param)
signature room ts =
    name ts >>= λ n. open_bracket room m.OpenParen n.1 >>= λ r. params r >>= λ xs. expect m.CloseParen xs.1 >>= λ s. Ok ((n.0, xs.0), s)

-- "->" kind
unfoldable pub result_kind : Parser Kind
result_kind ts = expect m.Arrow ts >>= λ r. kind r

-- NAME "(" param ("," param)* ")" "->" kind "=" expr ";"
unfoldable pub function_decl : ℕ → Parser Item
function_decl room ts =
    signature room ts >>= λ h. result_kind h.1 >>= λ q. value m.Equal room q.1 >>= λ x.
    Ok (items.Function (record { name = h.0.0; params = h.0.1; kind = q.0; body = x.0 }), x.1)

-- ---- items

-- NAME ";" behind "print"
unfoldable pub print : Parser Item
print ts = name ts >>= λ n. expect m.Semicolon n.1 >>= λ r. Ok (items.Print n.0, r)

abbrev pub item_by : SignKind → ℕ → Parser Item
item_by (k.Mark m.Const) room ts = const_decl (past ts)
item_by (k.Mark m.Array) room ts = array_decl room (past ts)
item_by (k.Mark m.Function) room ts = function_decl room (past ts)
item_by (k.Mark m.ForLoop) room ts = loop_behind room (past ts) >>= λ x. Ok (items.Loop x.0, x.1)
item_by (k.Mark m.TaskBlock) room ts = block room (past ts) >>= λ x. Ok (items.Block x.0, x.1)
item_by (k.Mark m.Print) room ts = print (past ts)
item_by _ room ts = call room ts >>= λ x. Ok (items.Call x.0, x.1)

unfoldable pub item : ℕ → Parser Item
item room ts = item_by (ahead ts) room ts

-- another item follows
unfoldable pub sees_item : SignKind → Bool
sees_item (k.Mark m.Const) = true
sees_item (k.Mark m.Array) = true
sees_item (k.Mark m.Function) = true
sees_item (k.Mark m.ForLoop) = true
sees_item (k.Mark m.TaskBlock) = true
sees_item (k.Mark m.Print) = true
sees_item x = sees_call x

unfoldable pub item_list : ℕ → Parser (List Item)
item_list room ts = each_of sees_item (item room) ts

-- ---- scripts

-- the number 1
unfoldable pub version : List Sign → Result (List Sign) Stop
version ts = if same k.One (ahead ts) then Ok (past ts) else unexpected ts

-- "pts" NUMBER ";"
unfoldable pub header : List Sign → Result (List Sign) Stop
header ts = expect m.Pts ts >>= λ r. version r >>= λ s. expect m.Semicolon s

-- no sign is left
unfoldable pub finish : List Item → List Sign → Result Script Stop
finish xs [] = Ok (record { version = 1; items = xs })
finish xs (t ∷ ts) = unexpected (t ∷ ts)

-- the header and item*, where so many brackets may be open
unfoldable pub script : ℕ → List Sign → Result Script Stop
script room ts = header ts >>= λ r. item_list room r >>= λ xs. finish xs.0 xs.1
