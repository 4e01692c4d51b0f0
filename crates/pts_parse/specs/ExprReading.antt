-- Reading expressions. Each level takes how many more brackets may be open, and how an expression inside of one more is read.
use Rattle.std.specs.Prelude.{ℕ, zero, suc, Bool, if◌then◌else◌, is_some, List, [], ◌∷◌, Option, Some, None, Ok}
use Rattle.pts_types.specs.declared.operation.ScalarOp.{ScalarOp}
use Rattle.pts_types.specs.declared.operation.ScalarOp.TheVariants as ops
use Rattle.pts_tree.specs.declared.mark.Mark as mark
use Rattle.pts_tree.specs.declared.mark.Mark.TheVariants as m
use Rattle.pts_tree.specs.declared.sign.SignKind.{SignKind}
use Rattle.pts_tree.specs.declared.sign.SignKind.TheVariants as k
use Rattle.pts_tree.specs.Grammar.{same}
use Rattle.pts_tree.specs.declared.expr.Expr.{Expr}
use Rattle.pts_tree.specs.declared.expr.Expr.TheVariants as e
use Rattle.pts_tree.specs.declared.expr.ChainPart.{ChainPart}
use Rattle.pts_parse.specs.declared.expressions.Level.{Level}
use Rattle.pts_parse.specs.declared.expressions.Level.TheVariants as levels
use Rattle.pts_parse.specs.declared.expressions.Connective.{Connective}
use Rattle.pts_parse.specs.declared.expressions.Connective.TheVariants as connectives
use Rattle.pts_parse.specs.Reading.{Parser, ◌>>=◌, ahead, past, unexpected, expect, open_bracket, name, number, each_of}
use Rattle.pts_parse.specs.SumReading.{kind}

-- ---- between brackets

-- an expression between two brackets
unfoldable pub enclosed : mark.Mark → mark.Mark → ℕ → Parser Expr → Parser Expr
enclosed before after room inner ts = open_bracket room before ts >>= λ r. inner r >>= λ x. expect after x.1 >>= λ s. Ok (x.0, s)

-- "," expr
unfoldable pub next_argument : Parser Expr → Parser Expr
next_argument inner ts = expect m.Comma ts >>= λ r. inner r

-- another argument follows
unfoldable pub sees_comma : SignKind → Bool
sees_comma x = same (k.Mark m.Comma) x

unfoldable pub next_arguments : Parser Expr → Parser (List Expr)
next_arguments inner ts = each_of sees_comma (next_argument inner) ts

-- expr ("," expr)*
unfoldable pub arguments : Parser Expr → Parser (List Expr)
arguments inner ts = inner ts >>= λ x. next_arguments inner x.1 >>= λ xs. Ok (x.0 ∷ xs.0, xs.1)

-- "(" expr ("," expr)* ")" behind the name of a function
unfoldable pub function_call : List ℕ → ℕ → Parser Expr → Parser Expr
function_call text room inner ts = open_bracket room m.OpenParen ts >>= λ r. arguments inner r >>= λ xs. expect m.CloseParen xs.1 >>= λ s. Ok (e.Call text xs.0, s)

-- "[" expr "]" behind the name of an array
unfoldable pub element : List ℕ → ℕ → Parser Expr → Parser Expr
element text room inner ts = enclosed m.OpenBracket m.CloseBracket room inner ts >>= λ x. Ok (e.Element text x.0, x.1)

-- a name, a call of a function or an element of an array, behind the name
abbrev pub name_rest_by : SignKind → List ℕ → ℕ → Parser Expr → Parser Expr
name_rest_by (k.Mark m.OpenParen) text room inner ts = function_call text room inner ts
name_rest_by (k.Mark m.OpenBracket) text room inner ts = element text room inner ts
name_rest_by _ text room inner ts = Ok (e.Name text, ts)

unfoldable pub name_rest : List ℕ → ℕ → Parser Expr → Parser Expr
name_rest text room inner ts = name_rest_by (ahead ts) text room inner ts

-- kind "(" expr ")"
unfoldable pub convert : ℕ → Parser Expr → Parser Expr
convert room inner ts = kind ts >>= λ q. enclosed m.OpenParen m.CloseParen room inner q.1 >>= λ x. Ok (e.Convert q.0 x.0, x.1)

-- "(" expr ")"
unfoldable pub paren : ℕ → Parser Expr → Parser Expr
paren room inner ts = enclosed m.OpenParen m.CloseParen room inner ts >>= λ x. Ok (e.Paren x.0, x.1)

abbrev pub prim_by : SignKind → ℕ → Parser Expr → Parser Expr
prim_by k.Number room inner ts = number ts >>= λ n. Ok (e.Number n.0, n.1)
prim_by k.One room inner ts = number ts >>= λ n. Ok (e.Number n.0, n.1)
prim_by k.Name room inner ts = name ts >>= λ n. name_rest n.0 room inner n.1
prim_by (k.Mark m.True) room inner ts = Ok (e.True, past ts)
prim_by (k.Mark m.False) room inner ts = Ok (e.False, past ts)
prim_by (k.Mark m.I64) room inner ts = convert room inner ts
prim_by (k.Mark m.U64) room inner ts = convert room inner ts
prim_by (k.Mark m.Bool) room inner ts = convert room inner ts
prim_by (k.Mark m.Throw) room inner ts = number (past ts) >>= λ n. Ok (e.Throw n.0, n.1)
prim_by (k.Mark m.OpenParen) room inner ts = paren room inner ts
prim_by _ room inner ts = unexpected ts

unfoldable pub prim : ℕ → Parser Expr → Parser Expr
prim room inner ts = prim_by (ahead ts) room inner ts

-- prim | "-" prim | "!" prim
abbrev pub una_by : SignKind → ℕ → Parser Expr → Parser Expr
una_by (k.Mark m.MinusSign) room inner ts = prim room inner (past ts) >>= λ x. Ok (e.Minus x.0, x.1)
una_by (k.Mark m.Exclamation) room inner ts = prim room inner (past ts) >>= λ x. Ok (e.Not x.0, x.1)
una_by _ room inner ts = prim room inner ts

unfoldable pub una : ℕ → Parser Expr → Parser Expr
una room inner ts = una_by (ahead ts) room inner ts

-- ---- chains

-- the operator of a chain of this level
unfoldable pub operator : Level → SignKind → Option ScalarOp
operator levels.Multiplying (k.Mark m.Star) = Some ops.Multiplies
operator levels.Multiplying (k.Mark m.Slash) = Some ops.Divides
operator levels.Multiplying (k.Mark m.Percent) = Some ops.Modulus
operator levels.Adding (k.Mark m.PlusSign) = Some ops.Plus
operator levels.Adding (k.Mark m.MinusSign) = Some ops.Minus
operator levels.Bitwise (k.Mark m.Ampersand) = Some ops.BitAnd
operator levels.Bitwise (k.Mark m.Bar) = Some ops.BitOr
operator levels.Bitwise (k.Mark m.Caret) = Some ops.BitXor
operator _ _ = None

-- another part of the chain follows
unfoldable pub sees_operator : Level → SignKind → Bool
sees_operator level x = is_some (operator level x)

abbrev pub chain_part_by : Option ScalarOp → Parser Expr → Parser ChainPart
chain_part_by (Some op) operand ts = operand (past ts) >>= λ x. Ok (record { op = op; operand = x.0 }, x.1)
chain_part_by None operand ts = unexpected ts

-- an operator and an operand
unfoldable pub chain_part : Level → Parser Expr → Parser ChainPart
chain_part level operand ts = chain_part_by (operator level (ahead ts)) operand ts

unfoldable pub chain_parts : Level → Parser Expr → Parser (List ChainPart)
chain_parts level operand ts = each_of (sees_operator level) (chain_part level operand) ts

-- an operand alone is no chain
abbrev pub chained : Expr → List ChainPart → Expr
chained x [] = x
chained x (y ∷ ys) = e.Chain x (y ∷ ys)

-- an operand, and then an operator and an operand any number of times
unfoldable pub chain_of : Level → Parser Expr → Parser Expr
chain_of level operand ts = operand ts >>= λ x. chain_parts level operand x.1 >>= λ ys. Ok (chained x.0 ys.0, ys.1)

-- the operands of a chain of this level
abbrev pub operand : Level → ℕ → Parser Expr → Parser Expr
operand levels.Multiplying room inner ts = una room inner ts
operand levels.Adding room inner ts = chain_of levels.Multiplying (una room inner) ts
operand levels.Bitwise room inner ts = chain_of levels.Adding (chain_of levels.Multiplying (una room inner)) ts

abbrev pub chain : Level → ℕ → Parser Expr → Parser Expr
chain level room inner ts = chain_of level (operand level room inner) ts

-- ---- comparisons and what is made of them

-- "==" | "!=" | "<" | "<=" | ">" | ">="
unfoldable pub comparison : SignKind → Option ScalarOp
comparison (k.Mark m.EqualEqual) = Some ops.Equal
comparison (k.Mark m.ExclamationEqual) = Some ops.NotEqual
comparison (k.Mark m.Less) = Some ops.Less
comparison (k.Mark m.LessEqual) = Some ops.LessEqual
comparison (k.Mark m.Greater) = Some ops.Greater
comparison (k.Mark m.GreaterEqual) = Some ops.GreaterEqual
comparison _ = None

abbrev pub compared_by : Option ScalarOp → Expr → Parser Expr → Parser Expr
compared_by (Some op) x other ts = other (past ts) >>= λ y. Ok (e.Compare op x y.0, y.1)
compared_by None x other ts = Ok (x, ts)

-- an operand, and where a comparison follows its other operand
unfoldable pub compared : ℕ → Parser Expr → Parser Expr
compared room inner ts = chain levels.Bitwise room inner ts >>= λ x. compared_by (comparison (ahead x.1)) x.0 (chain levels.Bitwise room inner) x.1

-- the symbol between the members
abbrev pub connective_mark : Connective → mark.Mark
connective_mark connectives.All = m.AmpersandAmpersand
connective_mark connectives.Any = m.BarBar

-- another member follows
unfoldable pub sees_connective : Connective → SignKind → Bool
sees_connective which x = same (k.Mark (connective_mark which)) x

-- the symbol and a member
unfoldable pub next_member : Connective → Parser Expr → Parser Expr
next_member which member ts = expect (connective_mark which) ts >>= λ r. member r

unfoldable pub next_members : Connective → Parser Expr → Parser (List Expr)
next_members which member ts = each_of (sees_connective which) (next_member which member) ts

-- a member alone is joined with nothing
abbrev pub joined : Connective → Expr → List Expr → Expr
joined connectives.All x [] = x
joined connectives.All x (y ∷ ys) = e.All (x ∷ y ∷ ys)
joined connectives.Any x [] = x
joined connectives.Any x (y ∷ ys) = e.Any (x ∷ y ∷ ys)

-- a member, and then the symbol and a member any number of times
unfoldable pub members_of : Connective → Parser Expr → Parser Expr
members_of which member ts = member ts >>= λ x. next_members which member x.1 >>= λ ys. Ok (joined which x.0 ys.0, ys.1)

-- what `&&` joins, and what `||` joins
abbrev pub member : Connective → ℕ → Parser Expr → Parser Expr
member connectives.All room inner ts = compared room inner ts
member connectives.Any room inner ts = members_of connectives.All (compared room inner) ts

abbrev pub members : Connective → ℕ → Parser Expr → Parser Expr
members which room inner ts = members_of which (member which room inner) ts

-- ---- expressions

-- a word and an expression without `if`
unfoldable pub branch : mark.Mark → ℕ → Parser Expr → Parser Expr
branch word room inner ts = expect word ts >>= λ r. members connectives.Any room inner r

-- "if" or "then" or "else" or
unfoldable pub if_else : ℕ → Parser Expr → Parser Expr
if_else room inner ts =
    branch m.If room inner ts >>= λ x. branch m.Then room inner x.1 >>= λ y. branch m.Else room inner y.1 >>= λ z. Ok (e.If x.0 y.0 z.0, z.1)

unfoldable pub expr_of : ℕ → Parser Expr → Parser Expr
expr_of room inner ts = if same (k.Mark m.If) (ahead ts) then if_else room inner ts else members connectives.Any room inner ts

-- or | "if" or "then" or "else" or
unfoldable pub expr : ℕ → Parser Expr
expr zero ts = expr_of zero unexpected ts
expr (suc room) ts = expr_of (suc room) (expr room) ts

-- an expression inside of one more bracket; without room for one it is never read
unfoldable pub inner : ℕ → Parser Expr
inner zero ts = unexpected ts
inner (suc room) ts = expr room ts
