-- Which signs spell an expression, and which expressions the grammar has.
use Rattle.std.specs.Prelude.{ℕ, Bool, true, ◌&&◌, ◌==◌, nat_lt, nat_le, is_some, Option, Some, None, List, [], ◌∷◌}
use Rattle.std.specs.List.{list_all}
use Rattle.pts_types.specs.declared.value.Kind.{Kind}
use Rattle.pts_types.specs.declared.operation.ScalarOp.{ScalarOp}
use Rattle.pts_types.specs.declared.operation.ScalarOp.TheVariants as ops
use Rattle.pts_tree.specs.declared.mark.Mark as mark
use Rattle.pts_tree.specs.declared.mark.Mark.TheVariants as m
use Rattle.pts_tree.specs.declared.expr.Expr.{Expr}
use Rattle.pts_tree.specs.declared.expr.Expr.TheOpen.{Expr-F, ChainPart-F}
use Rattle.pts_tree.specs.declared.expr.Expr.TheFolds.{fold-Expr, fold-ChainPart}
use Rattle.pts_tree.specs.declared.expr.ChainPart.{ChainPart}
use Rattle.pts_tree.specs.Signs.{Mark, Name, Number}
use Rattle.pts_tree.specs.Spelling.{Text, each, separated, optional, word, kind, has_two, is_filled}

-- ---- operators

-- the operators of `bit`, `add` and `mul`
abbrev pub chain_mark : ScalarOp → Option mark.Mark
chain_mark ops.Multiplies = Some m.Star
chain_mark ops.Divides = Some m.Slash
chain_mark ops.Modulus = Some m.Percent
chain_mark ops.Plus = Some m.PlusSign
chain_mark ops.Minus = Some m.MinusSign
chain_mark ops.BitAnd = Some m.Ampersand
chain_mark ops.BitOr = Some m.Bar
chain_mark ops.BitXor = Some m.Caret
chain_mark _ = None

-- the level of a chain of such operators; no chain has level 0
abbrev pub operator_level : ScalarOp → ℕ
operator_level ops.Multiplies = 2
operator_level ops.Divides = 2
operator_level ops.Modulus = 2
operator_level ops.Plus = 3
operator_level ops.Minus = 3
operator_level ops.BitAnd = 4
operator_level ops.BitOr = 4
operator_level ops.BitXor = 4
operator_level _ = 0

-- "==" | "!=" | "<" | "<=" | ">" | ">="
abbrev pub compare_mark : ScalarOp → Option mark.Mark
compare_mark ops.Equal = Some m.EqualEqual
compare_mark ops.NotEqual = Some m.ExclamationEqual
compare_mark ops.Less = Some m.Less
compare_mark ops.LessEqual = Some m.LessEqual
compare_mark ops.Greater = Some m.Greater
compare_mark ops.GreaterEqual = Some m.GreaterEqual
compare_mark _ = None

-- ---- expressions

-- what spells an expression, the lowest level that it belongs to, and whether the grammar has it;
-- the levels are prim 0, una 1, mul 2, add 3, bit 4, cmp 5, and 6, or 7, expr 8
pub record Shape : Type 0 where
  pub text : Text
  pub level : ℕ
  pub allowed : Bool

-- an operator and what stands on its right
pub record Link : Type 0 where
  pub op : ScalarOp
  pub operand : Shape

-- an expression that the grammar has at this level
abbrev pub is_at : ℕ → Shape → Bool
is_at level x = nat_le x.level level && x.allowed

-- what spells an expression of this shape
abbrev pub shape_text : Shape → Text
shape_text x = x.text

-- whether the grammar has an expression of this shape
abbrev pub shape_allowed : Shape → Bool
shape_allowed x = x.allowed

-- an operator and its operand
abbrev pub link_text : Link → Text
link_text x tail = optional word (chain_mark x.op) (x.operand.text tail)

-- a chain has the level of its first operator
abbrev pub chain_level : List Link → ℕ
chain_level [] = 0
chain_level (x ∷ xs) = operator_level x.op

-- an operator of this level, and an operand of a lower one
abbrev pub is_link : ℕ → Link → Bool
is_link level x = operator_level x.op == level && nat_lt x.operand.level level && x.operand.allowed

-- a chain whose first operand is of a lower level than its operators
abbrev pub chain_allowed : ℕ → Shape → List Link → Bool
chain_allowed level first links = nat_lt first.level level && first.allowed && list_all (is_link level) links

-- one case for each alternative, with the shapes of its parts in their places
abbrev pub shape_step : Expr-F Shape Link → Shape
shape_step (Expr-F.Number n) = record { text = λ tail. Number n ∷ tail; level = 0; allowed = true }
shape_step Expr-F.True = record { text = λ tail. Mark m.True ∷ tail; level = 0; allowed = true }
shape_step Expr-F.False = record { text = λ tail. Mark m.False ∷ tail; level = 0; allowed = true }
shape_step (Expr-F.Name text) = record { text = λ tail. Name text ∷ tail; level = 0; allowed = true }
shape_step (Expr-F.Call text xs) = record { text = λ tail. Name text ∷ Mark m.OpenParen ∷ separated m.Comma shape_text xs (Mark m.CloseParen ∷ tail); level = 0; allowed = is_filled xs && list_all shape_allowed xs }
shape_step (Expr-F.Element text x) = record { text = λ tail. Name text ∷ Mark m.OpenBracket ∷ x.text (Mark m.CloseBracket ∷ tail); level = 0; allowed = x.allowed }
shape_step (Expr-F.Convert to x) = record { text = λ tail. Mark (kind to) ∷ Mark m.OpenParen ∷ x.text (Mark m.CloseParen ∷ tail); level = 0; allowed = x.allowed }
shape_step (Expr-F.Throw n) = record { text = λ tail. Mark m.Throw ∷ Number n ∷ tail; level = 0; allowed = true }
shape_step (Expr-F.Paren x) = record { text = λ tail. Mark m.OpenParen ∷ x.text (Mark m.CloseParen ∷ tail); level = 0; allowed = x.allowed }
shape_step (Expr-F.Minus x) = record { text = λ tail. Mark m.MinusSign ∷ x.text tail; level = 1; allowed = is_at 0 x }
shape_step (Expr-F.Not x) = record { text = λ tail. Mark m.Exclamation ∷ x.text tail; level = 1; allowed = is_at 0 x }
shape_step (Expr-F.Chain first links) = record { text = λ tail. first.text (each link_text links tail); level = chain_level links; allowed = chain_allowed (chain_level links) first links }
shape_step (Expr-F.Compare op x y) = record { text = λ tail. x.text (optional word (compare_mark op) (y.text tail)); level = 5; allowed = is_some (compare_mark op) && is_at 4 x && is_at 4 y }
shape_step (Expr-F.All xs) = record { text = separated m.AmpersandAmpersand shape_text xs; level = 6; allowed = has_two xs && list_all (is_at 5) xs }
shape_step (Expr-F.Any xs) = record { text = separated m.BarBar shape_text xs; level = 7; allowed = has_two xs && list_all (is_at 6) xs }
shape_step (Expr-F.If x y z) = record { text = λ tail. Mark m.If ∷ x.text (Mark m.Then ∷ y.text (Mark m.Else ∷ z.text tail)); level = 8; allowed = is_at 7 x && is_at 7 y && is_at 7 z }

-- a part of a chain, with the shape of its operand
abbrev pub link_step : ChainPart-F Shape Link → Link
link_step x = record { op = x.op; operand = x.operand }

-- the shape of an expression
unfoldable pub shape : Expr → Shape
shape = fold-Expr Shape Link shape_step link_step

-- a part of a chain with the shape of its operand
unfoldable pub link : ChainPart → Link
link = fold-ChainPart Shape Link shape_step link_step

-- what spells an expression
abbrev pub expr : Expr → Text
expr x = (shape x).text

-- whether the grammar has this expression
abbrev pub expr_allowed : Expr → Bool
expr_allowed x = (shape x).allowed

-- an operator of a chain and what stands on its right
abbrev pub chain_part : ChainPart → Text
chain_part x tail = optional word (chain_mark x.op) (expr x.operand tail)

-- a part between two symbols
abbrev pub enclosed : mark.Mark → Text → mark.Mark → Text
enclosed before text after tail = Mark before ∷ text (Mark after ∷ tail)

-- a symbol and an expression
abbrev pub next_expr : mark.Mark → Expr → Text
next_expr between x tail = Mark between ∷ expr x tail

-- "throw" NUMBER
abbrev pub throw : ℕ → Text
throw n tail = Mark m.Throw ∷ Number n ∷ tail

-- a call of a function
abbrev pub function_call : List ℕ → List Expr → Text
function_call text xs tail = Name text ∷ Mark m.OpenParen ∷ separated m.Comma expr xs (Mark m.CloseParen ∷ tail)

-- NAME "[" expr "]"
abbrev pub element : List ℕ → Expr → Text
element text x tail = Name text ∷ enclosed m.OpenBracket (expr x) m.CloseBracket tail

-- kind "(" expr ")"
abbrev pub convert : Kind → Expr → Text
convert to x tail = Mark (kind to) ∷ enclosed m.OpenParen (expr x) m.CloseParen tail

-- an operand, and then an operator and an operand any number of times
abbrev pub chain : Expr → List ChainPart → Text
chain x parts tail = expr x (each chain_part parts tail)

-- two operands and what compares them
abbrev pub compare : ScalarOp → Expr → Expr → Text
compare op x y tail = expr x (optional word (compare_mark op) (expr y tail))

-- "if" or "then" or "else" or
abbrev pub if_else : Expr → Expr → Expr → Text
if_else x y z tail = enclosed m.If (expr x) m.Then (expr y (next_expr m.Else z tail))
