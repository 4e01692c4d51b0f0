-- Expressions: each is read along its rule, spelled by the signs that were read, and one that the grammar has.
use Rattle.std.proofs.Common.{◌≡◌, ℕ, zero, suc, ◌-◌, Bool, List, [], ◌∷◌, map, Some, refl, sym, ◌∙◌, ap, arith}
use Rattle.std.specs.List.{list_all}
use Rattle.std.specs.Cmp.Derive.{both_true}
use Rattle.pts_types.specs.declared.operation.ScalarOp.{ScalarOp}
use Rattle.pts_types.specs.declared.operation.ScalarOp.TheVariants as ops
use Rattle.pts_tree.specs.declared.mark.Mark as mark
use Rattle.pts_tree.specs.declared.mark.Mark.TheVariants as m
use Rattle.pts_tree.specs.declared.sign.SignKind.{SignKind}
use Rattle.pts_tree.specs.declared.sign.SignKind.TheVariants as k
use Rattle.pts_tree.specs.declared.expr.Expr.{Expr}
use Rattle.pts_tree.specs.declared.expr.Expr.TheVariants as e
use Rattle.pts_tree.specs.Marks.{place}
use Rattle.pts_tree.specs.Signs.{Sign, Mark}
use Rattle.pts_tree.specs.Spelling.{Text, each, optional, word}
use Rattle.pts_tree.specs.Expressions.{compare_mark, shape, shape_text, is_at, expr, expr_allowed}
use Rattle.pts_tree.specs.Grammar as g
use Rattle.pts_tree.specs.Grammar.{Rule, The, Many, Maybe, rows, same}
use Rattle.pts_tree.proofs.Shapes.{shape-Compare, shape-All, shape-Any, shape-If}
use Rattle.pts_parse.specs.declared.expressions.Level.TheVariants as levels
use Rattle.pts_parse.specs.declared.expressions.Connective.{Connective}
use Rattle.pts_parse.specs.declared.expressions.Connective.TheVariants as connectives
use Rattle.pts_parse.specs.Brackets.{room_behind}
use Rattle.pts_parse.specs.Reading.{Parser, ahead, past, unexpected}
use Rattle.pts_parse.specs.ExprReading as reading
use Rattle.pts_parse.specs.ExprReading.{chain, comparison, compared_by, compared, connective_mark, sees_connective, next_member, next_members, joined, members_of, member, members, branch, if_else, expr_of, enclosed, inner}
use Rattle.pts_parse.proofs.Tables.{first}
use Rattle.pts_parse.proofs.Passes.{Along, step, steps, skip, done, last, test_along}
use Rattle.pts_parse.proofs.Choices.{alone, choice, choice_by, all_along, SeesRule, sees_one, with_part, without_part}
use Rattle.pts_parse.proofs.SingleSigns.{behind, expect_along}
use Rattle.pts_parse.proofs.CallsAlong.{Allowed}
use Rattle.pts_parse.proofs.OperandsAlong.{ReadAt, shaped, wider, at_level, ReadInside, Enclosed, enclosed_along}
use Rattle.pts_parse.proofs.ChainsAlong.{bit_along}

-- ---- comparisons

-- the operator that was looked at and the operands on both sides
comparing : (op : ScalarOp) (n : mark.Mark) → compare_mark op ≡ Some n → (before mid there after : List Sign) (x y : Expr)
    → ReadAt 4 before x mid → mid ≡ Mark n ∷ there → ReadAt 4 there y after → ReadAt 5 before (e.Compare op x y) after
comparing op n c before mid there after x y p i q =
    shaped (shape-Compare op x y) (record {
      text = p.text ∙ ap (shape x).text (i ∙ ap (λ us. Mark n ∷ us) q.text ∙ ap (λ w. optional word w ((shape y).text after)) (sym c));
      within = omega arith;
      allowed = rw c (both_true (at_level (shape x) p) (at_level (shape y) q));
    })

compared_by_along : {room : ℕ} (other : Parser Expr) → ((ts : List Sign) → Along (The Rule.bit ∷ []) room room (ReadAt 4 ts) ts (other ts))
    → (s : SignKind) (before ts : List Sign) → ahead ts ≡ s → (x : Expr) → ReadAt 4 before x ts
    → Along (Maybe Rule.cmp_part ∷ []) room room (ReadAt 5 before) ts (compared_by (comparison s) x other ts)
unfolding rows first place comparison
compared_by_along other a (k.Mark m.EqualEqual) before ts e x p =
    with_part Rule.cmp_part (rw e refl) (alone Rule.cmp_part refl (behind m.EqualEqual ts e refl refl (λ i. step (a (past ts)) (λ y q.
    done (comparing ops.Equal m.EqualEqual refl before ts (past ts) y.1 x y.0 p i q)))))
compared_by_along other a (k.Mark m.ExclamationEqual) before ts e x p =
    with_part Rule.cmp_part (rw e refl) (alone Rule.cmp_part refl (behind m.ExclamationEqual ts e refl refl (λ i. step (a (past ts)) (λ y q.
    done (comparing ops.NotEqual m.ExclamationEqual refl before ts (past ts) y.1 x y.0 p i q)))))
compared_by_along other a (k.Mark m.Less) before ts e x p =
    with_part Rule.cmp_part (rw e refl) (alone Rule.cmp_part refl (behind m.Less ts e refl refl (λ i. step (a (past ts)) (λ y q.
    done (comparing ops.Less m.Less refl before ts (past ts) y.1 x y.0 p i q)))))
compared_by_along other a (k.Mark m.LessEqual) before ts e x p =
    with_part Rule.cmp_part (rw e refl) (alone Rule.cmp_part refl (behind m.LessEqual ts e refl refl (λ i. step (a (past ts)) (λ y q.
    done (comparing ops.LessEqual m.LessEqual refl before ts (past ts) y.1 x y.0 p i q)))))
compared_by_along other a (k.Mark m.Greater) before ts e x p =
    with_part Rule.cmp_part (rw e refl) (alone Rule.cmp_part refl (behind m.Greater ts e refl refl (λ i. step (a (past ts)) (λ y q.
    done (comparing ops.Greater m.Greater refl before ts (past ts) y.1 x y.0 p i q)))))
compared_by_along other a (k.Mark m.GreaterEqual) before ts e x p =
    with_part Rule.cmp_part (rw e refl) (alone Rule.cmp_part refl (behind m.GreaterEqual ts e refl refl (λ i. step (a (past ts)) (λ y q.
    done (comparing ops.GreaterEqual m.GreaterEqual refl before ts (past ts) y.1 x y.0 p i q)))))
compared_by_along other a _ before ts e x p = without_part Rule.cmp_part (rw e refl) (done (wider 5 (omega arith) p))

-- ---- joined members

-- the level of the members, and of what is made of them
abbrev member_level : Connective → ℕ
member_level connectives.All = 5
member_level connectives.Any = 6

abbrev joined_level : Connective → ℕ
joined_level connectives.All = 6
joined_level connectives.Any = 7

-- members, each behind the symbol
abbrev next_texts : Connective → List Expr → Text
next_texts which xs tail = each (λ x rest. Mark (connective_mark which) ∷ shape_text x rest) (map shape xs) tail

abbrev members_allowed : Connective → List Expr → Bool
members_allowed which xs = list_all (is_at (member_level which)) (map shape xs)

-- a member behind the symbol
abbrev NextMember : Connective → List Sign → Expr → List Sign → Type 0
NextMember which before x after = Allowed (λ y tail. Mark (connective_mark which) ∷ (shape y).text tail) (λ y. is_at (member_level which) (shape y)) before x after

joined_read : (which : Connective) (before mid after : List Sign) (x : Expr) (ys : List Expr) → ReadAt (member_level which) before x mid
    → Allowed (next_texts which) (members_allowed which) mid ys after → ReadAt (joined_level which) before (joined which x ys) after
joined_read connectives.All before mid after x [] p q = wider 6 (omega arith) (record { text = p.text ∙ ap (shape x).text q.text; within = p.within; allowed = p.allowed })
joined_read connectives.All before mid after x (y ∷ ys) p q =
    shaped (shape-All (x ∷ y ∷ ys)) (record { text = p.text ∙ ap (shape x).text q.text; within = omega arith; allowed = both_true (at_level (shape x) p) q.allowed })
joined_read connectives.Any before mid after x [] p q = wider 7 (omega arith) (record { text = p.text ∙ ap (shape x).text q.text; within = p.within; allowed = p.allowed })
joined_read connectives.Any before mid after x (y ∷ ys) p q =
    shaped (shape-Any (x ∷ y ∷ ys)) (record { text = p.text ∙ ap (shape x).text q.text; within = omega arith; allowed = both_true (at_level (shape x) p) q.allowed })

members_of_along : {room : ℕ} (which : Connective) (lower part rule : Rule) (member : Parser Expr)
    → rows rule ≡ (The lower ∷ Many part ∷ []) ∷ [] → rows part ≡ (g.mark (connective_mark which) ∷ The lower ∷ []) ∷ [] → SeesRule part (sees_connective which)
    → room_behind (k.Mark (connective_mark which)) room ≡ Some room
    → ((ts : List Sign) → Along (The lower ∷ []) room room (ReadAt (member_level which) ts) ts (member ts))
    → (ts : List Sign) → Along (The rule ∷ []) room room (ReadAt (joined_level which) ts) ts (members_of which member ts)
unfolding members_of next_members next_member
members_of_along which lower part rule member opened part_opened agrees b a ts =
    alone rule opened (
    step (a ts) (λ x p.
    step (all_along (NextMember which) (Allowed (next_texts which) (members_allowed which)) part agrees
    (λ us. alone part part_opened (skip (expect_along (connective_mark which) us b) (λ r i. last (a r) (λ y after q. record {
      text = i ∙ ap (λ vs. Mark (connective_mark which) ∷ vs) q.text;
      allowed = at_level (shape y) q;
    }))))
    (λ us. record { text = refl; allowed = refl })
    (λ y ys before mid after q qs. record { text = q.text ∙ ap (λ tail. Mark (connective_mark which) ∷ (shape y).text tail) qs.text; allowed = both_true q.allowed qs.allowed }) x.1) (λ ys q.
    done (joined_read which ts x.1 ys.1 x.0 ys.0 p q))))

sees_and : SeesRule Rule.and_part (sees_connective connectives.All)
unfolding sees_connective first
sees_and x = sees_one (k.Mark m.AmpersandAmpersand) x

sees_or : SeesRule Rule.or_part (sees_connective connectives.Any)
unfolding sees_connective first
sees_or x = sees_one (k.Mark m.BarBar) x

-- ---- expressions

module _ (room : ℕ) (inside : Parser Expr) (inside_along : ReadInside room inside) where
  compared_along : (ts : List Sign) → Along (The Rule.cmp ∷ []) room room (ReadAt 5 ts) ts (compared room inside ts)
  unfolding compared rows
  compared_along ts =
      alone Rule.cmp refl (
      step (bit_along room inside inside_along ts) (λ x p.
      compared_by_along (chain levels.Bitwise room inside) (λ us. bit_along room inside inside_along us) (ahead x.1) ts x.1 refl x.0 p))

  and_along : (ts : List Sign) → Along (The Rule.and ∷ []) room room (ReadAt 6 ts) ts (members_of connectives.All (compared room inside) ts)
  unfolding rows
  and_along ts = members_of_along connectives.All Rule.cmp Rule.and_part Rule.and (compared room inside) refl refl sees_and refl (λ us. compared_along us) ts

  or_along : (ts : List Sign) → Along (The Rule.or ∷ []) room room (ReadAt 7 ts) ts (members connectives.Any room inside ts)
  unfolding rows
  or_along ts = members_of_along connectives.Any Rule.and Rule.or_part Rule.or (members_of connectives.All (compared room inside)) refl refl sees_or refl (λ us. and_along us) ts

  -- a word and an expression without `if`
  branch_along : (n : mark.Mark) → room_behind (k.Mark n) room ≡ Some room → (ts : List Sign)
      → Along (g.mark n ∷ The Rule.or ∷ []) room room (Allowed (λ x tail. Mark n ∷ (shape x).text tail) (λ x. is_at 7 (shape x)) ts) ts (branch n room inside ts)
  unfolding branch
  branch_along n b ts =
      skip (expect_along n ts b) (λ r i. last (or_along r) (λ x after q. record { text = i ∙ ap (λ us. Mark n ∷ us) q.text; allowed = at_level (shape x) q }))

  if_else_along : (ts : List Sign)
      → Along (g.mark m.If ∷ The Rule.or ∷ g.mark m.Then ∷ The Rule.or ∷ g.mark m.Else ∷ The Rule.or ∷ []) room room (ReadAt 8 ts) ts (if_else room inside ts)
  unfolding if_else
  if_else_along ts =
      steps (branch_along m.If refl ts) (λ x p.
      steps (branch_along m.Then refl x.1) (λ y q.
      steps (branch_along m.Else refl y.1) (λ z s.
      done (shaped (shape-If x.0 y.0 z.0) (record {
        text = p.text ∙ ap (λ tail. Mark m.If ∷ (shape x.0).text tail) (q.text ∙ ap (λ tail. Mark m.Then ∷ (shape y.0).text tail) s.text);
        within = omega arith;
        allowed = both_true (both_true p.allowed q.allowed) s.allowed;
      })))))

  expr_of_along : (ts : List Sign) → Along (The Rule.expr ∷ []) room room (ReadAt 8 ts) ts (expr_of room inside ts)
  unfolding expr_of rows first place
  expr_of_along ts =
      test_along (same (k.Mark m.If) (ahead ts))
      (λ e. choice_by Rule.expr 1 (rw e refl) (if_else_along ts))
      (λ e. choice Rule.expr 0 refl (rw e refl) (last (or_along ts) (λ x after q. wider 8 (omega arith) q)))

-- where no bracket may open, none is read
none_inside : (inside : Parser Expr) → ReadInside 0 inside
none_inside inside l = absurd (omega arith)

one_inside : (room : ℕ) (inside : Parser Expr) → ((ts : List Sign) → Along (The Rule.expr ∷ []) room room (ReadAt 8 ts) ts (inside ts)) → ReadInside (suc room) inside
one_inside room inside a l ts = let e : suc room - 1 ≡ room = omega arith in rw e (a ts)

expr_at : (room : ℕ) (ts : List Sign) → Along (The Rule.expr ∷ []) room room (ReadAt 8 ts) ts (reading.expr room ts)
unfolding reading.expr
expr_at zero ts = expr_of_along zero unexpected (none_inside unexpected) ts
expr_at (suc room) ts = expr_of_along (suc room) (reading.expr room) (one_inside room (reading.expr room) (λ us. expr_at room us)) ts

pub expr_along : (room : ℕ) (ts : List Sign) → Along (The Rule.expr ∷ []) room room (Allowed expr expr_allowed ts) ts (reading.expr room ts)
expr_along room ts = last (expr_at room ts) (λ x after q. record { text = q.text; allowed = q.allowed })

-- how the expressions inside of one more bracket are read
inner_along : (room : ℕ) → ReadInside room (inner room)
unfolding inner
inner_along zero = none_inside unexpected
inner_along (suc room) = one_inside room (reading.expr room) (λ us. expr_at room us)

-- "[" expr "]"
pub bracketed_along : (room : ℕ) (ts : List Sign)
    → Along (g.mark m.OpenBracket ∷ The Rule.expr ∷ g.mark m.CloseBracket ∷ []) room room (Enclosed m.OpenBracket m.CloseBracket ts) ts
    (enclosed m.OpenBracket m.CloseBracket room (inner room) ts)
bracketed_along room ts = enclosed_along room (inner room) (inner_along room) m.OpenBracket m.CloseBracket (λ left. refl) (λ left. refl) ts
