-- Levels of expressions: how far a sign reaches among them, and how what belongs to a level is read at a higher one.
use Rattle.std.proofs.Common.{◌≡◌, ℕ, zero, suc, ◌<◌, ◌≤◌, false, List, None, Ok, refl, sym, subst, arith}
use Rattle.std.proofs.Math.Decide.{le_ind}
use Rattle.pts_tree.specs.declared.mark.Mark.TheVariants as m
use Rattle.pts_tree.specs.declared.sign.SignKind.{SignKind}
use Rattle.pts_tree.specs.declared.sign.SignKind.TheVariants as k
use Rattle.pts_tree.specs.Marks.{place}
use Rattle.pts_tree.specs.Grammar.{same}
use Rattle.pts_tree.specs.Signs.{Sign}
use Rattle.pts_tree.specs.Spelling.{Text}
use Rattle.pts_tree.specs.declared.expr.Expr.{Expr}
use Rattle.pts_tree.specs.declared.expr.Expr.TheVariants as e
use Rattle.pts_parse.specs.declared.expressions.Level.{Level}
use Rattle.pts_parse.specs.declared.expressions.Level.TheVariants as levels
use Rattle.pts_parse.specs.declared.expressions.Connective.{Connective}
use Rattle.pts_parse.specs.declared.expressions.Connective.TheVariants as connectives
use Rattle.pts_parse.specs.Reading.{Parser, ahead}
use Rattle.pts_parse.specs.ExprReading.{name_rest_by, prim, una_by, una, operator, sees_operator, chain_part, chain_parts, chain_of, chain, comparison, compared_by, compared, sees_connective, next_member, next_members, members_of, member, members, expr_of, expr, inner}
use Rattle.pts_parse.proofs.Rooms.{expr_is}
use Rattle.pts_parse.proofs.Again.{Gets, done, next, otherwise, none_again}

-- the level at which a sign behind an expression goes on with it: an expression of a lower level ends before the sign
abbrev pub reach : SignKind → ℕ
reach (k.Mark m.OpenParen) = 0
reach (k.Mark m.OpenBracket) = 0
reach (k.Mark m.Star) = 2
reach (k.Mark m.Slash) = 2
reach (k.Mark m.Percent) = 2
reach (k.Mark m.PlusSign) = 3
reach (k.Mark m.MinusSign) = 3
reach (k.Mark m.Ampersand) = 4
reach (k.Mark m.Bar) = 4
reach (k.Mark m.Caret) = 4
reach (k.Mark m.EqualEqual) = 5
reach (k.Mark m.ExclamationEqual) = 5
reach (k.Mark m.Less) = 5
reach (k.Mark m.LessEqual) = 5
reach (k.Mark m.Greater) = 5
reach (k.Mark m.GreaterEqual) = 5
reach (k.Mark m.AmpersandAmpersand) = 6
reach (k.Mark m.BarBar) = 7
reach _ = 9

-- the lowest level of the expressions that begin by this sign
abbrev pub opens : SignKind → ℕ
opens (k.Mark m.If) = 8
opens (k.Mark m.MinusSign) = 1
opens (k.Mark m.Exclamation) = 1
opens _ = 0

-- the level of a chain
abbrev pub height : Level → ℕ
height levels.Multiplying = 2
height levels.Adding = 3
height levels.Bitwise = 4

-- the level of the members that are joined
abbrev pub member_level : Connective → ℕ
member_level connectives.All = 5
member_level connectives.Any = 6

-- how an expression is read at each level
abbrev pub reader : ℕ → ℕ → Parser Expr
reader zero room ts = prim room (inner room) ts
reader (suc zero) room ts = una room (inner room) ts
reader (suc (suc zero)) room ts = chain levels.Multiplying room (inner room) ts
reader (suc (suc (suc zero))) room ts = chain levels.Adding room (inner room) ts
reader (suc (suc (suc (suc zero)))) room ts = chain levels.Bitwise room (inner room) ts
reader (suc (suc (suc (suc (suc zero))))) room ts = compared room (inner room) ts
reader (suc (suc (suc (suc (suc (suc zero)))))) room ts = members connectives.All room (inner room) ts
reader (suc (suc (suc (suc (suc (suc (suc zero))))))) room ts = members connectives.Any room (inner room) ts
reader (suc (suc (suc (suc (suc (suc (suc (suc l)))))))) room ts = expr_of room (inner room) ts

-- ---- signs that go on at no level so low

pub name_ends : (x : SignKind) → 0 < reach x → (text : List ℕ) (room : ℕ) (inside : Parser Expr) (ts : List Sign) → name_rest_by x text room inside ts ≡ Ok (e.Name text, ts)
name_ends (k.Mark m.OpenParen) h text room inside ts = absurd (omega arith)
name_ends (k.Mark m.OpenBracket) h text room inside ts = absurd (omega arith)
name_ends _ h text room inside ts = refl

una_is : (x : SignKind) → opens x ≤ 0 → (room : ℕ) (inside : Parser Expr) (ts : List Sign) → una_by x room inside ts ≡ prim room inside ts
una_is (k.Mark m.MinusSign) h room inside ts = absurd (omega arith)
una_is (k.Mark m.Exclamation) h room inside ts = absurd (omega arith)
una_is (k.Mark m.If) h room inside ts = absurd (omega arith)
una_is _ h room inside ts = refl

pub no_operator : (level : Level) (x : SignKind) → height level < reach x → sees_operator level x ≡ false
unfolding sees_operator operator
no_operator levels.Multiplying (k.Mark m.Star) h = absurd (omega arith)
no_operator levels.Multiplying (k.Mark m.Slash) h = absurd (omega arith)
no_operator levels.Multiplying (k.Mark m.Percent) h = absurd (omega arith)
no_operator levels.Adding (k.Mark m.PlusSign) h = absurd (omega arith)
no_operator levels.Adding (k.Mark m.MinusSign) h = absurd (omega arith)
no_operator levels.Bitwise (k.Mark m.Ampersand) h = absurd (omega arith)
no_operator levels.Bitwise (k.Mark m.Bar) h = absurd (omega arith)
no_operator levels.Bitwise (k.Mark m.Caret) h = absurd (omega arith)
no_operator _ _ h = refl

no_comparison : (x : SignKind) → 5 < reach x → comparison x ≡ None
unfolding comparison
no_comparison (k.Mark m.EqualEqual) h = absurd (omega arith)
no_comparison (k.Mark m.ExclamationEqual) h = absurd (omega arith)
no_comparison (k.Mark m.Less) h = absurd (omega arith)
no_comparison (k.Mark m.LessEqual) h = absurd (omega arith)
no_comparison (k.Mark m.Greater) h = absurd (omega arith)
no_comparison (k.Mark m.GreaterEqual) h = absurd (omega arith)
no_comparison _ h = refl

pub no_connective : (which : Connective) (x : SignKind) → suc (member_level which) < reach x → sees_connective which x ≡ false
unfolding sees_connective place
no_connective connectives.All (k.Mark m.AmpersandAmpersand) h = absurd (omega arith)
no_connective connectives.Any (k.Mark m.BarBar) h = absurd (omega arith)
no_connective connectives.All _ h = refl
no_connective connectives.Any _ h = refl

no_if : (x : SignKind) → opens x < 8 → same (k.Mark m.If) x ≡ false
unfolding place
no_if (k.Mark m.If) h = absurd (omega arith)
no_if _ h = refl

-- ---- from one level to the next

-- an operand alone, where no operator of the chain follows
chain_lift : {before tail : List Sign} {x : Expr} (level : Level) (operand : Parser Expr) → Gets 1 before tail (x, tail) (operand before) → height level < reach (ahead tail)
    → Gets 1 before tail (x, tail) (chain_of level operand before)
unfolding chain_of chain_parts
chain_lift {tail = tail} level operand g h = next _ g (next _ (none_again (sees_operator level) (chain_part level operand) tail (no_operator level (ahead tail) h)) done)

-- an operand alone, where no comparison follows
compared_lift : {before tail : List Sign} {x : Expr} (room : ℕ) (inside : Parser Expr) → Gets 1 before tail (x, tail) (chain levels.Bitwise room inside before) → 5 < reach (ahead tail)
    → Gets 1 before tail (x, tail) (compared room inside before)
unfolding compared
compared_lift {tail = tail} {x = x} room inside g h =
    next _ g (subst (λ o. Gets 0 tail tail (x, tail) (compared_by o x (chain levels.Bitwise room inside) tail)) (sym (no_comparison (ahead tail) h)) done)

-- a member alone, where no further one follows
members_lift : {before tail : List Sign} {x : Expr} (which : Connective) (member : Parser Expr) → Gets 1 before tail (x, tail) (member before) → suc (member_level which) < reach (ahead tail)
    → Gets 1 before tail (x, tail) (members_of which member before)
unfolding members_of next_members
members_lift {tail = tail} connectives.All member g h =
    next _ g (next _ (none_again (sees_connective connectives.All) (next_member connectives.All member) tail (no_connective connectives.All (ahead tail) h)) done)
members_lift {tail = tail} connectives.Any member g h =
    next _ g (next _ (none_again (sees_connective connectives.Any) (next_member connectives.Any member) tail (no_connective connectives.Any (ahead tail) h)) done)

-- what is read at one level and goes on at none up to the next is read at the next
raise : {before tail : List Sign} {x : Expr} (l : ℕ) → l < 8 → (room : ℕ) → opens (ahead before) ≤ l → suc l < reach (ahead tail)
    → Gets 1 before tail (x, tail) (reader l room before) → Gets 1 before tail (x, tail) (reader (suc l) room before)
unfolding una expr_of
raise {before = before} {tail = tail} {x = x} zero w room b h g = subst (λ o. Gets 1 before tail (x, tail) o) (sym (una_is (ahead before) b room (inner room) before)) g
raise (suc zero) w room b h g = chain_lift levels.Multiplying (una room (inner room)) g (omega arith)
raise (suc (suc zero)) w room b h g = chain_lift levels.Adding (chain levels.Multiplying room (inner room)) g (omega arith)
raise (suc (suc (suc zero))) w room b h g = chain_lift levels.Bitwise (chain levels.Adding room (inner room)) g (omega arith)
raise (suc (suc (suc (suc zero)))) w room b h g = compared_lift room (inner room) g (omega arith)
raise (suc (suc (suc (suc (suc zero))))) w room b h g = members_lift connectives.All (compared room (inner room)) g (omega arith)
raise (suc (suc (suc (suc (suc (suc zero)))))) w room b h g = members_lift connectives.Any (members connectives.All room (inner room)) g (omega arith)
raise {before = before} (suc (suc (suc (suc (suc (suc (suc zero))))))) w room b h g = otherwise _ (same (k.Mark m.If) (ahead before)) (no_if (ahead before) (omega arith)) g
raise (suc (suc (suc (suc (suc (suc (suc (suc l)))))))) w room b h g = absurd (omega arith)

-- ---- expressions

-- an expression that is spelled so and belongs to this level is read back at this level and at each higher one, where what follows goes on at none of them
pub record Fits (text : Text) (level : ℕ) (x : Expr) : Type 0 where
  pub within : level ≤ 8
  pub begins : (tail : List Sign) → opens (ahead (text tail)) ≤ level
  pub back : (l : ℕ) → level ≤ l → l ≤ 8 → (room : ℕ) (tail : List Sign) → l < reach (ahead tail) → Gets 1 (text tail) tail (x, tail) (reader l room (text tail))

-- it is enough to read it back at its own level
pub fits : (text : Text) (level : ℕ) (x : Expr) → level ≤ 8 → ((tail : List Sign) → opens (ahead (text tail)) ≤ level)
    → ((room : ℕ) (tail : List Sign) → level < reach (ahead tail) → Gets 1 (text tail) tail (x, tail) (reader level room (text tail))) → Fits text level x
fits text level x w b own = record {
  within = w;
  begins = b;
  back = λ l h. le_ind (λ n. n ≤ 8 → (room : ℕ) (tail : List Sign) → n < reach (ahead tail) → Gets 1 (text tail) tail (x, tail) (reader n room (text tail)))
      (λ v. own) (λ n o g v room tail r. raise n (omega arith) room (over n tail o) r (g (omega arith) room tail (omega arith))) l h;
}
  where
    over : (n : ℕ) (tail : List Sign) → level ≤ n → opens (ahead (text tail)) ≤ n
    over n tail o = let c = b tail in omega arith

-- it is read back as a whole
pub whole : {text : Text} {level : ℕ} {x : Expr} → Fits text level x → (room : ℕ) (tail : List Sign) → 8 < reach (ahead tail) → Gets 1 (text tail) tail (x, tail) (expr room (text tail))
whole {text = text} {x = x} f room tail h = subst (λ o. Gets 1 (text tail) tail (x, tail) o) (sym (expr_is room (text tail))) (f.back 8 f.within (omega arith) room tail h)

-- inside of one more bracket
pub inside : {before after : List Sign} {x : Expr} (room less : ℕ) → room ≡ suc less → (ts : List Sign) → Gets 1 before after (x, after) (expr less ts) → Gets 1 before after (x, after) (inner room ts)
unfolding inner
inside {before = before} {after = after} {x = x} room less i ts g = subst (λ r. Gets 1 before after (x, after) (inner r ts)) (sym i) g
