-- Expressions: each is read back from what it spells, at its level and at each higher one.
use Rattle.std.proofs.Common.{◌≡◌, ℕ, suc, ◌<◌, ◌≤◌, Bool, true, false, ◌&&◌, List, [], ◌∷◌, Some, Ok, refl, sym, ap, subst, ◌∙◌, map, arith, true≢false}
use Rattle.std.specs.Prelude.{nat_le, nat_lt, ◌==◌, is_some}
use Rattle.std.specs.List.{list_all}
use Rattle.std.proofs.lemmas.Bool.{leb-true, eqb-true}
use Rattle.pts_types.specs.declared.value.Kind.{Kind}
use Rattle.pts_types.specs.declared.value.Kind.TheVariants as kinds
use Rattle.pts_types.specs.declared.operation.ScalarOp.{ScalarOp}
use Rattle.pts_types.specs.declared.operation.ScalarOp.TheVariants as ops
use Rattle.pts_tree.specs.declared.mark.Mark as mark
use Rattle.pts_tree.specs.declared.mark.Mark.TheVariants as m
use Rattle.pts_tree.specs.declared.sign.SignKind.TheVariants as k
use Rattle.pts_tree.specs.Marks.{place}
use Rattle.pts_tree.specs.Grammar.{same}
use Rattle.pts_tree.specs.Signs.{Sign, Mark, Number}
use Rattle.pts_tree.specs.declared.expr.Expr.{Expr}
use Rattle.pts_tree.specs.declared.expr.Expr.TheOpen.{Expr-F}
use Rattle.pts_tree.specs.declared.expr.Expr.TheViews.{roll-Expr}
use Rattle.pts_tree.specs.declared.expr.Expr.TheVariants as e
use Rattle.pts_tree.specs.declared.expr.Expr.TheFolds.{map-Expr, ind-Expr}
use Rattle.pts_tree.specs.declared.expr.ChainPart.{ChainPart}
use Rattle.pts_tree.specs.Spelling as spelling
use Rattle.pts_tree.specs.Spelling.{Text, each, separated, optional, word, is_filled, has_two}
use Rattle.pts_tree.specs.Expressions as spelled
use Rattle.pts_tree.specs.Expressions.{Shape, Link, shape_step, shape, link, shape_allowed, is_at, is_link, chain_level, chain_allowed, chain_mark, operator_level, compare_mark, expr_allowed}
use Rattle.pts_tree.proofs.Shapes.{shape-Number, shape-True, shape-False, shape-Name, shape-Call, shape-Element, shape-Convert, shape-Throw, shape-Paren, shape-Minus, shape-Not, shape-Chain, shape-Compare, shape-All, shape-Any, shape-If, link-is, text-Number, text-True, text-False, text-Name, text-Call, text-Element, text-Convert, text-Throw, text-Paren, text-Minus, text-Not, text-Chain, text-Compare, text-All, text-Any, text-If}
use Rattle.pts_parse.specs.declared.expressions.Level.{Level}
use Rattle.pts_parse.specs.declared.expressions.Level.TheVariants as levels
use Rattle.pts_parse.specs.declared.expressions.Connective.{Connective}
use Rattle.pts_parse.specs.declared.expressions.Connective.TheVariants as connectives
use Rattle.pts_parse.specs.Reading.{Read, ahead}
use Rattle.pts_parse.specs.ExprReading.{enclosed, next_argument, sees_comma, next_arguments, arguments, function_call, element, name_rest, convert, paren, prim_by, prim, una, operator, sees_operator, chain_part_by, chain_part, chain_parts, chain_of, operand, chain, comparison, compared_by, compared, connective_mark, sees_connective, next_member, next_members, joined, members_of, member, members, branch, if_else, expr_of, expr, inner}
use Rattle.pts_parse.proofs.KindFacts.{and_both}
use Rattle.pts_parse.proofs.Again.{Gets, got, done, next, behind_sign, in_case, same_mark, expect_again, open_again, name_again, number_again, by_number, Each, none, one, each_to, Repeats, each_again}
use Rattle.pts_parse.proofs.SumsAgain.{kind_again}
use Rattle.pts_parse.proofs.LevelsAgain.{reach, opens, height, member_level, reader, name_ends, no_operator, no_connective, Fits, fits, whole, inside}

-- an expression is read back
abbrev pub FitsExpr : Expr → Type 0
FitsExpr x = Fits (spelled.expr x) (shape x).level x

-- ---- expressions without operators

number_fits : (n : ℕ) → Fits (spelling.number n) 0 (e.Number n)
unfolding prim
number_fits n = fits (spelling.number n) 0 (e.Number n) (omega arith) (λ tail. by_number (λ q. opens q ≤ 0) (omega arith) (omega arith) n)
    (λ room tail h. by_number (λ q. Gets 1 (Number n ∷ tail) tail (e.Number n, tail) (prim_by q room (inner room) (Number n ∷ tail))) (next _ (number_again n tail) done) (next _ (number_again n tail) done) n)

true_fits : Fits (word m.True) 0 e.True
unfolding prim
true_fits = fits (word m.True) 0 e.True (omega arith) (λ tail. omega arith) (λ room tail h. got (omega arith))

false_fits : Fits (word m.False) 0 e.False
unfolding prim
false_fits = fits (word m.False) 0 e.False (omega arith) (λ tail. omega arith) (λ room tail h. got (omega arith))

name_fits : (text : List ℕ) → Fits (spelling.name text) 0 (e.Name text)
unfolding prim name_rest
name_fits text = fits (spelling.name text) 0 (e.Name text) (omega arith) (λ tail. omega arith)
    (λ room tail h. next _ (name_again text tail) (subst (λ o. Gets 0 tail tail (e.Name text, tail) o) (sym (name_ends (ahead tail) h text room (inner room) tail)) done))

throw_fits : (n : ℕ) → Fits (spelled.throw n) 0 (e.Throw n)
unfolding prim
throw_fits n = fits (spelled.throw n) 0 (e.Throw n) (omega arith) (λ tail. omega arith) (λ room tail h. behind_sign (next _ (number_again n tail) done))

-- ---- between brackets

pub enclosed_again : {text : Text} {level : ℕ} {x : Expr} (before after : mark.Mark) → 8 < reach (k.Mark after) → Fits text level x → (room : ℕ) (tail : List Sign)
    → Gets 1 (Mark before ∷ text (Mark after ∷ tail)) tail (x, tail) (enclosed before after room (inner room) (Mark before ∷ text (Mark after ∷ tail)))
unfolding enclosed
enclosed_again before after h f room tail =
    open_again _ room before _ (λ less i. next _ (inside room less i _ (whole f less (Mark after ∷ tail) h)) (next _ (expect_again after tail) done))

paren_fits : (x : Expr) → FitsExpr x → Fits (spelled.enclosed m.OpenParen (spelled.expr x) m.CloseParen) 0 (e.Paren x)
unfolding prim paren
paren_fits x f = fits (spelled.enclosed m.OpenParen (spelled.expr x) m.CloseParen) 0 (e.Paren x) (omega arith) (λ tail. omega arith)
    (λ room tail h. next _ (enclosed_again m.OpenParen m.CloseParen (omega arith) f room tail) done)

element_fits : (text : List ℕ) (x : Expr) → FitsExpr x → Fits (spelled.element text x) 0 (e.Element text x)
unfolding prim name_rest element
element_fits text x f = fits (spelled.element text x) 0 (e.Element text x) (omega arith) (λ tail. omega arith)
    (λ room tail h. next _ (name_again text _) (next _ (enclosed_again m.OpenBracket m.CloseBracket (omega arith) f room tail) done))

convert_again : (to : Kind) (x : Expr) → FitsExpr x → (room : ℕ) (tail : List Sign) → Gets 1 (spelled.convert to x tail) tail (e.Convert to x, tail) (convert room (inner room) (spelled.convert to x tail))
unfolding convert
convert_again to x f room tail = next _ (kind_again to _) (next _ (enclosed_again m.OpenParen m.CloseParen (omega arith) f room tail) done)

convert_fits : (to : Kind) (x : Expr) → FitsExpr x → Fits (spelled.convert to x) 0 (e.Convert to x)
unfolding prim
convert_fits kinds.I64 x f = fits (spelled.convert kinds.I64 x) 0 (e.Convert kinds.I64 x) (omega arith) (λ tail. omega arith) (λ room tail h. convert_again kinds.I64 x f room tail)
convert_fits kinds.U64 x f = fits (spelled.convert kinds.U64 x) 0 (e.Convert kinds.U64 x) (omega arith) (λ tail. omega arith) (λ room tail h. convert_again kinds.U64 x f room tail)
convert_fits kinds.Bool x f = fits (spelled.convert kinds.Bool x) 0 (e.Convert kinds.Bool x) (omega arith) (λ tail. omega arith) (λ room tail h. convert_again kinds.Bool x f room tail)

-- a comma and an argument
argument_repeats : (room less : ℕ) → room ≡ suc less → (x : Expr) → FitsExpr x
    → Repeats sees_comma (λ ts. 8 < reach (ahead ts)) (next_argument (inner room)) (λ y rest. Mark m.Comma ∷ spelled.expr y rest) x
unfolding sees_comma next_argument place
argument_repeats room less i x f = record { seen = λ ts. refl; ends = λ ts. omega arith; back = λ ts l. next _ (expect_again m.Comma _) (inside room less i _ (whole f less ts l)) }

arguments_again : (room less : ℕ) → room ≡ suc less → (x : Expr) (xs : List Expr) → FitsExpr x → Each FitsExpr xs → (tail : List Sign)
    → Gets 1 (separated m.Comma spelled.expr (x ∷ xs) (Mark m.CloseParen ∷ tail)) (Mark m.CloseParen ∷ tail) (x ∷ xs, Mark m.CloseParen ∷ tail)
    (arguments (inner room) (separated m.Comma spelled.expr (x ∷ xs) (Mark m.CloseParen ∷ tail)))
unfolding arguments next_arguments sees_comma place
arguments_again room less i x xs f fs tail =
    next _ (inside room less i _ (whole f less _ (follows fs)))
    (next _ (each_again (λ ts. 8 < reach (ahead ts)) (each_to (λ y g. argument_repeats room less i y g) fs) refl (Mark m.CloseParen ∷ tail) refl (omega arith)) done)
  where
    follows : {ys : List Expr} → Each FitsExpr ys → 8 < reach (ahead (each (λ y rest. Mark m.Comma ∷ spelled.expr y rest) ys (Mark m.CloseParen ∷ tail)))
    follows none = omega arith
    follows (one g gs) = omega arith

call_fits : (text : List ℕ) (xs : List Expr) → is_filled xs ≡ true → Each FitsExpr xs → Fits (spelled.function_call text xs) 0 (e.Call text xs)
unfolding prim name_rest function_call
call_fits text [] a fs = absurd (true≢false (sym a))
call_fits text (x ∷ xs) a (one f fs) = fits (spelled.function_call text (x ∷ xs)) 0 (e.Call text (x ∷ xs)) (omega arith) (λ tail. omega arith)
    (λ room tail h. next _ (name_again text _) (open_again _ room m.OpenParen _ (λ less i. next _ (arguments_again room less i x xs f fs tail) (next _ (expect_again m.CloseParen tail) done))))

-- ---- signs before an expression

minus_fits : (x : Expr) → FitsExpr x → (shape x).level ≤ 0 → Fits (spelled.next_expr m.MinusSign x) 1 (e.Minus x)
unfolding una
minus_fits x f l = fits (spelled.next_expr m.MinusSign x) 1 (e.Minus x) (omega arith) (λ tail. omega arith)
    (λ room tail h. behind_sign (next _ (f.back 0 l (omega arith) room tail (omega arith)) done))

not_fits : (x : Expr) → FitsExpr x → (shape x).level ≤ 0 → Fits (spelled.next_expr m.Exclamation x) 1 (e.Not x)
unfolding una
not_fits x f l = fits (spelled.next_expr m.Exclamation x) 1 (e.Not x) (omega arith) (λ tail. omega arith)
    (λ room tail h. behind_sign (next _ (f.back 0 l (omega arith) room tail (omega arith)) done))

-- ---- chains

-- what spells an operator of this level
record Operator (level : Level) (o : ScalarOp) : Type 0 where
  sign : mark.Mark
  spells : chain_mark o ≡ Some sign
  seen : operator level (k.Mark sign) ≡ Some o
  reaches : reach (k.Mark sign) ≡ height level

operator_of : (level : Level) (o : ScalarOp) → operator_level o ≡ height level → Operator level o
unfolding operator
operator_of levels.Multiplying ops.Multiplies i = record { sign = m.Star; spells = refl; seen = refl; reaches = refl }
operator_of levels.Multiplying ops.Divides i = record { sign = m.Slash; spells = refl; seen = refl; reaches = refl }
operator_of levels.Multiplying ops.Modulus i = record { sign = m.Percent; spells = refl; seen = refl; reaches = refl }
operator_of levels.Adding ops.Plus i = record { sign = m.PlusSign; spells = refl; seen = refl; reaches = refl }
operator_of levels.Adding ops.Minus i = record { sign = m.MinusSign; spells = refl; seen = refl; reaches = refl }
operator_of levels.Bitwise ops.BitAnd i = record { sign = m.Ampersand; spells = refl; seen = refl; reaches = refl }
operator_of levels.Bitwise ops.BitOr i = record { sign = m.Bar; spells = refl; seen = refl; reaches = refl }
operator_of levels.Bitwise ops.BitXor i = record { sign = m.Caret; spells = refl; seen = refl; reaches = refl }
operator_of _ _ i = absurd (omega arith)

-- the level of a chain with this operator
level_of : (o : ScalarOp) → 0 < operator_level o → (level : Level) × (height level ≡ operator_level o)
level_of ops.Multiplies h = (levels.Multiplying, refl)
level_of ops.Divides h = (levels.Multiplying, refl)
level_of ops.Modulus h = (levels.Multiplying, refl)
level_of ops.Plus h = (levels.Adding, refl)
level_of ops.Minus h = (levels.Adding, refl)
level_of ops.BitAnd h = (levels.Bitwise, refl)
level_of ops.BitOr h = (levels.Bitwise, refl)
level_of ops.BitXor h = (levels.Bitwise, refl)
level_of _ h = absurd (omega arith)

-- an operand of a chain of this level, where an operator of the level or of a higher one may follow
operand_again : (level : Level) (x : Expr) → FitsExpr x → (shape x).level < height level → (room : ℕ) (tail : List Sign) → height level ≤ reach (ahead tail)
    → Gets 1 (spelled.expr x tail) tail (x, tail) (operand level room (inner room) (spelled.expr x tail))
operand_again levels.Multiplying x f l room tail h = f.back 1 (omega arith) (omega arith) room tail (omega arith)
operand_again levels.Adding x f l room tail h = f.back 2 (omega arith) (omega arith) room tail (omega arith)
operand_again levels.Bitwise x f l room tail h = f.back 3 (omega arith) (omega arith) room tail (omega arith)

-- a part that a chain of this level may have
record IsPart (n : ℕ) (x : ChainPart) : Type 0 where
  same_level : operator_level x.op ≡ n
  lower : (shape x.operand).level < n
  fit : FitsExpr x.operand

-- an operator by its sign, and an operand
part_again : (level : Level) (room : ℕ) (x : ChainPart) (sign : mark.Mark) → operator level (k.Mark sign) ≡ Some x.op → (tail : List Sign)
    → Gets 1 (spelled.expr x.operand tail) tail (x.operand, tail) (operand level room (inner room) (spelled.expr x.operand tail))
    → Gets 1 (Mark sign ∷ spelled.expr x.operand tail) tail (x, tail) (chain_part level (operand level room (inner room)) (Mark sign ∷ spelled.expr x.operand tail))
unfolding chain_part
part_again level room x sign i tail g =
    subst (λ o. Gets 1 (Mark sign ∷ spelled.expr x.operand tail) tail (x, tail) (chain_part_by o (operand level room (inner room)) (Mark sign ∷ spelled.expr x.operand tail))) (sym i)
    (behind_sign (next _ g done))

part_repeats : (level : Level) (room : ℕ) (x : ChainPart) → IsPart (height level) x
    → Repeats (sees_operator level) (λ ts. height level ≤ reach (ahead ts)) (chain_part level (operand level room (inner room))) spelled.chain_part x
unfolding sees_operator
part_repeats level room x p = by (operator_of level x.op p.same_level)
  where
    by : Operator level x.op → Repeats (sees_operator level) (λ ts. height level ≤ reach (ahead ts)) (chain_part level (operand level room (inner room))) spelled.chain_part x
    by o = record {
      seen = λ ts. subst (λ q. sees_operator level (ahead (optional word q (spelled.expr x.operand ts))) ≡ true) (sym o.spells) (ap is_some o.seen);
      ends = λ ts. subst (λ q. height level ≤ reach (ahead (optional word q (spelled.expr x.operand ts)))) (sym o.spells) (omega (arith, o.reaches));
      back = λ ts l. subst (λ q. Gets 1 (optional word q (spelled.expr x.operand ts)) ts (x, ts) (chain_part level (operand level room (inner room)) (optional word q (spelled.expr x.operand ts)))) (sym o.spells)
          (part_again level room x o.sign o.seen ts (operand_again level x.operand p.fit p.lower room ts l));
    }

-- the end begins no part
no_part : (level : Level) → sees_operator level k.End ≡ false
unfolding sees_operator operator
no_part levels.Multiplying = refl
no_part levels.Adding = refl
no_part levels.Bitwise = refl

-- a chain of this level
chain_again : (level : Level) (x : Expr) (y : ChainPart) (ys : List ChainPart) → FitsExpr x → (shape x).level < height level → Each (IsPart (height level)) (y ∷ ys)
    → (room : ℕ) (tail : List Sign) → height level < reach (ahead tail)
    → Gets 1 (spelled.chain x (y ∷ ys) tail) tail (e.Chain x (y ∷ ys), tail) (chain level room (inner room) (spelled.chain x (y ∷ ys) tail))
unfolding chain_of chain_parts
chain_again level x y ys f l ps room tail h =
    next _ (operand_again level x f l room (each spelled.chain_part (y ∷ ys) tail) (follows parts))
    (next _ (each_again (λ ts. height level ≤ reach (ahead ts)) parts (no_part level) tail (no_operator level (ahead tail) h) (omega arith)) done)
  where
    parts : Each (Repeats (sees_operator level) (λ ts. height level ≤ reach (ahead ts)) (chain_part level (operand level room (inner room))) spelled.chain_part) (y ∷ ys)
    parts = each_to (λ z p. part_repeats level room z p) ps

    follows : {zs : List ChainPart} → Each (Repeats (sees_operator level) (λ ts. height level ≤ reach (ahead ts)) (chain_part level (operand level room (inner room))) spelled.chain_part) zs
        → height level ≤ reach (ahead (each spelled.chain_part zs tail))
    follows none = omega arith
    follows (one {xs = zs} r rs) = r.ends (each spelled.chain_part zs tail)

-- a chain is read at the level of its operators
chain_read : (level : Level) {before tail : List Sign} {x : Expr} (room : ℕ) → Gets 1 before tail (x, tail) (chain level room (inner room) before) → Gets 1 before tail (x, tail) (reader (height level) room before)
chain_read levels.Multiplying room g = g
chain_read levels.Adding room g = g
chain_read levels.Bitwise room g = g

height_within : (level : Level) → height level ≤ 8
height_within levels.Multiplying = omega arith
height_within levels.Adding = omega arith
height_within levels.Bitwise = omega arith

chain_fits : (level : Level) (x : Expr) (y : ChainPart) (ys : List ChainPart) → FitsExpr x → (shape x).level < height level → Each (IsPart (height level)) (y ∷ ys)
    → Fits (spelled.chain x (y ∷ ys)) (height level) (e.Chain x (y ∷ ys))
chain_fits level x y ys f l ps = fits (spelled.chain x (y ∷ ys)) (height level) (e.Chain x (y ∷ ys)) (height_within level)
    (λ tail. omega (arith, f.begins (each spelled.chain_part (y ∷ ys) tail)))
    (λ room tail h. chain_read level room (chain_again level x y ys f l ps room tail h))

-- ---- comparisons

-- what spells a comparison
record Comparison (o : ScalarOp) : Type 0 where
  sign : mark.Mark
  spells : compare_mark o ≡ Some sign
  seen : comparison (k.Mark sign) ≡ Some o
  reaches : 4 < reach (k.Mark sign)

comparison_of : (o : ScalarOp) → is_some (compare_mark o) ≡ true → Comparison o
unfolding comparison
comparison_of ops.Equal i = record { sign = m.EqualEqual; spells = refl; seen = refl; reaches = omega arith }
comparison_of ops.NotEqual i = record { sign = m.ExclamationEqual; spells = refl; seen = refl; reaches = omega arith }
comparison_of ops.Less i = record { sign = m.Less; spells = refl; seen = refl; reaches = omega arith }
comparison_of ops.LessEqual i = record { sign = m.LessEqual; spells = refl; seen = refl; reaches = omega arith }
comparison_of ops.Greater i = record { sign = m.Greater; spells = refl; seen = refl; reaches = omega arith }
comparison_of ops.GreaterEqual i = record { sign = m.GreaterEqual; spells = refl; seen = refl; reaches = omega arith }
comparison_of _ i = absurd (true≢false (sym i))

compared_again : (o : ScalarOp) (x y : Expr) (sign : mark.Mark) → comparison (k.Mark sign) ≡ Some o → 4 < reach (k.Mark sign) → FitsExpr x → (shape x).level ≤ 4 → FitsExpr y → (shape y).level ≤ 4
    → (room : ℕ) (tail : List Sign) → 4 < reach (ahead tail)
    → Gets 1 (spelled.expr x (Mark sign ∷ spelled.expr y tail)) tail (e.Compare o x y, tail) (compared room (inner room) (spelled.expr x (Mark sign ∷ spelled.expr y tail)))
unfolding compared
compared_again o x y sign i r f l g n room tail h =
    next _ (f.back 4 l (omega arith) room (Mark sign ∷ spelled.expr y tail) r)
    (subst (λ q. Gets 1 (Mark sign ∷ spelled.expr y tail) tail (e.Compare o x y, tail) (compared_by q x (chain levels.Bitwise room (inner room)) (Mark sign ∷ spelled.expr y tail))) (sym i)
    (behind_sign (next _ (g.back 4 n (omega arith) room tail h) done)))

compare_fits : (o : ScalarOp) (x y : Expr) → Comparison o → FitsExpr x → (shape x).level ≤ 4 → FitsExpr y → (shape y).level ≤ 4 → Fits (spelled.compare o x y) 5 (e.Compare o x y)
compare_fits o x y c f l g n = fits (spelled.compare o x y) 5 (e.Compare o x y) (omega arith)
    (λ tail. omega (arith, f.begins (optional word (compare_mark o) (spelled.expr y tail))))
    (λ room tail h. subst (λ q. Gets 1 (spelled.expr x (optional word q (spelled.expr y tail))) tail (e.Compare o x y, tail) (compared room (inner room) (spelled.expr x (optional word q (spelled.expr y tail))))) (sym c.spells)
    (compared_again o x y c.sign c.seen c.reaches f l g n room tail (omega arith)))

-- ---- members

-- a member that may be joined so
record IsMember (which : Connective) (x : Expr) : Type 0 where
  lower : (shape x).level ≤ member_level which
  fit : FitsExpr x

member_again : (which : Connective) (x : Expr) → IsMember which x → (room : ℕ) (tail : List Sign) → member_level which < reach (ahead tail)
    → Gets 1 (spelled.expr x tail) tail (x, tail) (member which room (inner room) (spelled.expr x tail))
member_again connectives.All x f room tail h = f.fit.back 5 f.lower (omega arith) room tail h
member_again connectives.Any x f room tail h = f.fit.back 6 f.lower (omega arith) room tail h

connective_reaches : (which : Connective) → member_level which < reach (k.Mark (connective_mark which))
connective_reaches connectives.All = omega arith
connective_reaches connectives.Any = omega arith

member_repeats : (which : Connective) (room : ℕ) (x : Expr) → IsMember which x
    → Repeats (sees_connective which) (λ ts. member_level which < reach (ahead ts)) (next_member which (member which room (inner room))) (λ y rest. Mark (connective_mark which) ∷ spelled.expr y rest) x
unfolding sees_connective next_member
member_repeats which room x f = record {
  seen = λ ts. same_mark (connective_mark which);
  ends = λ ts. connective_reaches which;
  back = λ ts l. next _ (expect_again (connective_mark which) _) (member_again which x f room ts l);
}

no_member : (which : Connective) → sees_connective which k.End ≡ false
unfolding sees_connective
no_member which = refl

-- members that are joined
joined_of : Connective → List Expr → Expr
joined_of connectives.All xs = e.All xs
joined_of connectives.Any xs = e.Any xs

-- what was read and the signs behind it
abbrev answer : Expr → List Sign → Read Expr
answer x ts = Ok (x, ts)

members_again : (which : Connective) (x y : Expr) (ys : List Expr) → IsMember which x → Each (IsMember which) (y ∷ ys) → (room : ℕ) (tail : List Sign) → suc (member_level which) < reach (ahead tail)
    → Gets 1 (separated (connective_mark which) spelled.expr (x ∷ y ∷ ys) tail) tail (joined_of which (x ∷ y ∷ ys), tail)
    (members which room (inner room) (separated (connective_mark which) spelled.expr (x ∷ y ∷ ys) tail))
unfolding members_of next_members joined_of
members_again which x y ys f fs room tail h =
    next _ (member_again which x f room _ (connective_reaches which))
    (next _ (each_again (λ ts. member_level which < reach (ahead ts)) (each_to (λ z g. member_repeats which room z g) fs) (no_member which) tail (no_connective which (ahead tail) h) (omega arith)) (by which))
  where
    by : (which : Connective) → Gets 0 tail tail (joined_of which (x ∷ y ∷ ys), tail) (answer (joined which x (y ∷ ys)) tail)
    by connectives.All = done
    by connectives.Any = done

all_fits : (xs : List Expr) → has_two xs ≡ true → Each (IsMember connectives.All) xs → Fits (separated m.AmpersandAmpersand spelled.expr xs) 6 (e.All xs)
unfolding joined_of
all_fits [] a fs = absurd (true≢false (sym a))
all_fits (x ∷ []) a fs = absurd (true≢false (sym a))
all_fits (x ∷ y ∷ ys) a (one f fs) = fits (separated m.AmpersandAmpersand spelled.expr (x ∷ y ∷ ys)) 6 (e.All (x ∷ y ∷ ys)) (omega arith)
    (λ tail. omega (arith, f.lower, f.fit.begins (each (λ z rest. Mark m.AmpersandAmpersand ∷ spelled.expr z rest) (y ∷ ys) tail)))
    (λ room tail h. members_again connectives.All x y ys f fs room tail h)

any_fits : (xs : List Expr) → has_two xs ≡ true → Each (IsMember connectives.Any) xs → Fits (separated m.BarBar spelled.expr xs) 7 (e.Any xs)
unfolding joined_of
any_fits [] a fs = absurd (true≢false (sym a))
any_fits (x ∷ []) a fs = absurd (true≢false (sym a))
any_fits (x ∷ y ∷ ys) a (one f fs) = fits (separated m.BarBar spelled.expr (x ∷ y ∷ ys)) 7 (e.Any (x ∷ y ∷ ys)) (omega arith)
    (λ tail. omega (arith, f.lower, f.fit.begins (each (λ z rest. Mark m.BarBar ∷ spelled.expr z rest) (y ∷ ys) tail)))
    (λ room tail h. members_again connectives.Any x y ys f fs room tail h)

-- ---- branches

branch_again : (sign : mark.Mark) (x : Expr) → FitsExpr x → (shape x).level ≤ 7 → (room : ℕ) (tail : List Sign) → 7 < reach (ahead tail)
    → Gets 1 (Mark sign ∷ spelled.expr x tail) tail (x, tail) (branch sign room (inner room) (Mark sign ∷ spelled.expr x tail))
unfolding branch
branch_again sign x f l room tail h = next _ (expect_again sign _) (f.back 7 l (omega arith) room tail h)

if_fits : (x y z : Expr) → FitsExpr x → (shape x).level ≤ 7 → FitsExpr y → (shape y).level ≤ 7 → FitsExpr z → (shape z).level ≤ 7 → Fits (spelled.if_else x y z) 8 (e.If x y z)
unfolding expr_of if_else
if_fits x y z f l g n h o = fits (spelled.if_else x y z) 8 (e.If x y z) (omega arith) (λ tail. omega arith)
    (λ room tail r. in_case _ (same (k.Mark m.If) (k.Mark m.If)) (same_mark m.If) (
    next _ (branch_again m.If x f l room _ (omega arith)) (
    next _ (branch_again m.Then y g n room _ (omega arith)) (
    next _ (branch_again m.Else z h o room tail (omega arith)) done))))

-- ---- all expressions

-- an expression that the grammar has is read back
abbrev pub Back : Expr → Type 0
Back x = expr_allowed x ≡ true → FitsExpr x

-- from how an expression is spelled and allowed
from_shape : (x : Expr) (s : Shape) (text : Text) → shape x ≡ s → ◌≡◌ {A = Text} (spelled.expr x) text → (s.allowed ≡ true → Fits text s.level x) → Back x
from_shape x s text p q g a = subst (λ t. Fits t (shape x).level x) (sym q) (subst (λ r. Fits text r.level x) (sym p) (g (subst (λ r. r.allowed ≡ true) p a)))

-- an expression that is allowed at a level
at_level : (n : ℕ) (x : Expr) → is_at n (shape x) ≡ true → ((shape x).level ≤ n) × (expr_allowed x ≡ true)
at_level n x a = let both = and_both (nat_le (shape x).level n) (shape x).allowed a in (leb-true (shape x).level n both.0, both.1)

-- an expression with what is known of it
abbrev Known : Type 0
Known = (x : Expr) × Back x

-- what a test says of each of these
each_known : (Q : Expr → Type 0) (test : Shape → Bool) → ((x : Expr) → Back x → test (shape x) ≡ true → Q x) → (xs : List Known) → list_all test (map shape (map (λ y. y.0) xs)) ≡ true
    → Each Q (map (λ y. y.0) xs)
each_known Q test h [] a = none
each_known Q test h (x ∷ xs) a = let both = and_both (test (shape x.0)) (list_all test (map shape (map (λ y. y.0) xs))) a in one (h x.0 x.1 both.0) (each_known Q test h xs both.1)

-- a part of a chain with what is known of its operand
abbrev KnownPart : Type 0
KnownPart = (x : ChainPart) × Back x.operand

each_part : (n : ℕ) (xs : List KnownPart) → list_all (is_link n) (map link (map (λ y. y.0) xs)) ≡ true → Each (IsPart n) (map (λ y. y.0) xs)
each_part n [] a = none
each_part n (x ∷ xs) a =
    let both = and_both (is_link n (link x.0)) (list_all (is_link n) (map link (map (λ y. y.0) xs))) a in
    let here = subst (λ y. is_link n y ≡ true) (link-is x.0) both.0 in
    let two = and_both (operator_level x.0.op == n && nat_lt (shape x.0.operand).level n) (shape x.0.operand).allowed here in
    let first = and_both (operator_level x.0.op == n) (nat_lt (shape x.0.operand).level n) two.0 in
    one (record { same_level = eqb-true (operator_level x.0.op) n first.0; lower = leb-true (suc (shape x.0.operand).level) n first.1; fit = x.1 two.1 }) (each_part n xs both.1)

-- a chain, at the level of its first operator
chain_at : (x : Expr) → Back x → (n : ℕ) (ys : List ChainPart) → nat_lt (shape x).level n && (shape x).allowed ≡ true → Each (IsPart n) ys → n ≡ chain_level (map link ys)
    → Fits (spelled.chain x ys) n (e.Chain x ys)
chain_at x f n [] a ps i = absurd (let both = and_both (nat_lt (shape x).level n) (shape x).allowed a in let l = leb-true (suc (shape x).level) n both.0 in omega arith)
chain_at x f n (y ∷ ys) a (one p ps) i =
    let both = and_both (nat_lt (shape x).level n) (shape x).allowed a in
    let l = leb-true (suc (shape x).level) n both.0 in
    let level = level_of y.op (omega (arith, p.same_level)) in
    let same = level.1 ∙ p.same_level in
    subst (λ h. Fits (spelled.chain x (y ∷ ys)) h (e.Chain x (y ∷ ys))) same
    (chain_fits level.0 x y ys (f both.1) (omega arith) (subst (λ h. Each (IsPart h) (y ∷ ys)) (sym same) (one p ps)))

filled_map : (zs : List Known) → is_filled (map shape (map (λ z. z.0) zs)) ≡ true → is_filled (map (λ (z : Known). z.0) zs) ≡ true
filled_map [] a = a
filled_map (z ∷ zs) a = a

two_map : (zs : List Known) → has_two (map shape (map (λ z. z.0) zs)) ≡ true → has_two (map (λ (z : Known). z.0) zs) ≡ true
two_map [] a = a
two_map (y ∷ zs) a = filled_map zs a

by_case : (y : Expr-F Known KnownPart) → Back (roll-Expr (map-Expr Known KnownPart Expr ChainPart (λ z. z.0) (λ z. z.0) y))
by_case (Expr-F.Number n) = subst Back (sym (e.rolls-Number n)) (from_shape (e.Number n) _ (spelling.number n) (shape-Number n) (text-Number n) (λ a. number_fits n))
by_case Expr-F.True = subst Back (sym e.rolls-True) (from_shape e.True _ (word m.True) shape-True text-True (λ a. true_fits))
by_case Expr-F.False = subst Back (sym e.rolls-False) (from_shape e.False _ (word m.False) shape-False text-False (λ a. false_fits))
by_case (Expr-F.Name text) = subst Back (sym (e.rolls-Name text)) (from_shape (e.Name text) _ (spelling.name text) (shape-Name text) (text-Name text) (λ a. name_fits text))
by_case (Expr-F.Call text ys) =
    let xs = map (λ (z : Known). z.0) ys in
    subst Back (sym (e.rolls-Call text xs)) (from_shape (e.Call text xs) _ (spelled.function_call text xs) (shape-Call text xs) (text-Call text xs)
    (λ a. let both = and_both (is_filled (map shape xs)) (list_all shape_allowed (map shape xs)) a in call_fits text xs (filled_map ys both.0) (each_known FitsExpr shape_allowed (λ x f b. f b) ys both.1)))
by_case (Expr-F.Element text y) = subst Back (sym (e.rolls-Element text y.0)) (from_shape (e.Element text y.0) _ (spelled.element text y.0) (shape-Element text y.0) (text-Element text y.0) (λ a. element_fits text y.0 (y.1 a)))
by_case (Expr-F.Convert to y) = subst Back (sym (e.rolls-Convert to y.0)) (from_shape (e.Convert to y.0) _ (spelled.convert to y.0) (shape-Convert to y.0) (text-Convert to y.0) (λ a. convert_fits to y.0 (y.1 a)))
by_case (Expr-F.Throw n) = subst Back (sym (e.rolls-Throw n)) (from_shape (e.Throw n) _ (spelled.throw n) (shape-Throw n) (text-Throw n) (λ a. throw_fits n))
by_case (Expr-F.Paren y) = subst Back (sym (e.rolls-Paren y.0)) (from_shape (e.Paren y.0) _ (spelled.enclosed m.OpenParen (spelled.expr y.0) m.CloseParen) (shape-Paren y.0) (text-Paren y.0) (λ a. paren_fits y.0 (y.1 a)))
by_case (Expr-F.Minus y) =
    subst Back (sym (e.rolls-Minus y.0)) (from_shape (e.Minus y.0) _ (spelled.next_expr m.MinusSign y.0) (shape-Minus y.0) (text-Minus y.0) (λ a. let at = at_level 0 y.0 a in minus_fits y.0 (y.1 at.1) at.0))
by_case (Expr-F.Not y) =
    subst Back (sym (e.rolls-Not y.0)) (from_shape (e.Not y.0) _ (spelled.next_expr m.Exclamation y.0) (shape-Not y.0) (text-Not y.0) (λ a. let at = at_level 0 y.0 a in not_fits y.0 (y.1 at.1) at.0))
by_case (Expr-F.Chain y ys) =
    let xs = map (λ (z : KnownPart). z.0) ys in
    let n = chain_level (map link xs) in
    subst Back (sym (e.rolls-Chain y.0 xs)) (from_shape (e.Chain y.0 xs) _ (spelled.chain y.0 xs) (shape-Chain y.0 xs) (text-Chain y.0 xs)
    (λ a. let both = and_both (nat_lt (shape y.0).level n && (shape y.0).allowed) (list_all (is_link n) (map link xs)) a in chain_at y.0 y.1 n xs both.0 (each_part n ys both.1) refl))
by_case (Expr-F.Compare o y z) =
    subst Back (sym (e.rolls-Compare o y.0 z.0)) (from_shape (e.Compare o y.0 z.0) _ (spelled.compare o y.0 z.0) (shape-Compare o y.0 z.0) (text-Compare o y.0 z.0)
    (λ a. let both = and_both (is_some (compare_mark o) && is_at 4 (shape y.0)) (is_at 4 (shape z.0)) a in
    let two = and_both (is_some (compare_mark o)) (is_at 4 (shape y.0)) both.0 in
    let first = at_level 4 y.0 two.1 in
    let second = at_level 4 z.0 both.1 in
    compare_fits o y.0 z.0 (comparison_of o two.0) (y.1 first.1) first.0 (z.1 second.1) second.0))
by_case (Expr-F.All ys) =
    let xs = map (λ (z : Known). z.0) ys in
    subst Back (sym (e.rolls-All xs)) (from_shape (e.All xs) _ (separated m.AmpersandAmpersand spelled.expr xs) (shape-All xs) (text-All xs)
    (λ a. let both = and_both (has_two (map shape xs)) (list_all (is_at 5) (map shape xs)) a in
    all_fits xs (two_map ys both.0) (each_known (IsMember connectives.All) (is_at 5) (λ x f b. let at = at_level 5 x b in record { lower = at.0; fit = f at.1 }) ys both.1)))
by_case (Expr-F.Any ys) =
    let xs = map (λ (z : Known). z.0) ys in
    subst Back (sym (e.rolls-Any xs)) (from_shape (e.Any xs) _ (separated m.BarBar spelled.expr xs) (shape-Any xs) (text-Any xs)
    (λ a. let both = and_both (has_two (map shape xs)) (list_all (is_at 6) (map shape xs)) a in
    any_fits xs (two_map ys both.0) (each_known (IsMember connectives.Any) (is_at 6) (λ x f b. let at = at_level 6 x b in record { lower = at.0; fit = f at.1 }) ys both.1)))
by_case (Expr-F.If x y z) =
    subst Back (sym (e.rolls-If x.0 y.0 z.0)) (from_shape (e.If x.0 y.0 z.0) _ (spelled.if_else x.0 y.0 z.0) (shape-If x.0 y.0 z.0) (text-If x.0 y.0 z.0)
    (λ a. let both = and_both (is_at 7 (shape x.0) && is_at 7 (shape y.0)) (is_at 7 (shape z.0)) a in
    let two = and_both (is_at 7 (shape x.0)) (is_at 7 (shape y.0)) both.0 in
    let first = at_level 7 x.0 two.0 in
    let second = at_level 7 y.0 two.1 in
    let third = at_level 7 z.0 both.1 in
    if_fits x.0 y.0 z.0 (x.1 first.1) first.0 (y.1 second.1) second.0 (z.1 third.1) third.0))

-- an expression that the grammar has is read back at its level and at each higher one
pub expr_fits : (x : Expr) → expr_allowed x ≡ true → FitsExpr x
expr_fits = ind-Expr Back (λ x. Back x.operand) (λ x y is. subst (λ z. Back (roll-Expr z)) is (by_case y)) (λ x y is. subst (λ z. Back z.operand) is y.operand.1)

-- the whole expression, where what follows goes on at no level
pub expr_again : (room : ℕ) (x : Expr) → expr_allowed x ≡ true → (tail : List Sign) → 8 < reach (ahead tail) → Gets 1 (spelled.expr x tail) tail (x, tail) (expr room (spelled.expr x tail))
expr_again room x a tail h = whole (expr_fits x a) room tail h
