-- The innermost levels of expressions: each operand is read along its rule, where what stands between brackets is.
use Rattle.std.proofs.Common.{◌≡◌, ℕ, suc, ◌-◌, ◌<◌, ◌≤◌, Bool, true, ◌&&◌, List, [], ◌∷◌, map, Some, refl, sym, subst, ◌∙◌, ap, arith}
use Rattle.std.specs.List.{list_all}
use Rattle.std.specs.Cmp.Derive.{both_true}
use Rattle.std.proofs.lemmas.Bool.{le-leb}
use Rattle.pts_tree.specs.declared.mark.Mark as mark
use Rattle.pts_tree.specs.declared.mark.Mark.TheVariants as m
use Rattle.pts_tree.specs.declared.sign.SignKind.{SignKind}
use Rattle.pts_tree.specs.declared.sign.SignKind.TheVariants as k
use Rattle.pts_tree.specs.declared.expr.Expr.{Expr}
use Rattle.pts_tree.specs.Marks.{place}
use Rattle.pts_tree.specs.Signs.{Sign, Mark, Name}
use Rattle.pts_tree.specs.Spelling as spelling
use Rattle.pts_tree.specs.Spelling.{Text, each, separated, is_filled}
use Rattle.pts_tree.specs.Expressions as exprs
use Rattle.pts_tree.specs.Expressions.{Shape, shape, shape_text, shape_allowed, is_at}
use Rattle.pts_tree.specs.Grammar as g
use Rattle.pts_tree.specs.Grammar.{Rule, One, The, Many, Maybe, rows}
use Rattle.pts_tree.proofs.Shapes.{shape-Number, shape-True, shape-False, shape-Name, shape-Call, shape-Element, shape-Convert, shape-Throw, shape-Paren, shape-Minus, shape-Not}
use Rattle.pts_parse.specs.Brackets.{room_behind, less}
use Rattle.pts_parse.specs.Reading.{Parser, ahead, past}
use Rattle.pts_parse.specs.ExprReading.{enclosed, next_argument, sees_comma, next_arguments, arguments, function_call, element, name_rest_by, name_rest, convert, paren, prim_by, prim, una_by, una}
use Rattle.pts_parse.proofs.Tables.{first}
use Rattle.pts_parse.proofs.Passes.{Along, step, steps, skip, done, last}
use Rattle.pts_parse.proofs.Choices.{alone, choice, no_choice, all_along, sees_one, with_part, without_part}
use Rattle.pts_parse.proofs.SingleSigns.{behind, word_along, expect_along, open_along, close_along, name_along, number_along}
use Rattle.pts_parse.proofs.SumsAlong.{kind_along}
use Rattle.pts_parse.proofs.CallsAlong.{Allowed}

-- ---- what is read

-- the signs before are an expression of this shape as it is spelled, and the signs behind it; and the grammar has it at this level
pub record Leveled (level : ℕ) (before : List Sign) (x : Shape) (after : List Sign) : Type 0 where
  pub text : before ≡ x.text after
  pub within : x.level ≤ level
  pub allowed : x.allowed ≡ true

-- what was read of an expression
abbrev pub ReadAt : ℕ → List Sign → Expr → List Sign → Type 0
ReadAt level before x after = Leveled level before (shape x) after

-- an expression has this shape
pub shaped : {level : ℕ} {before after : List Sign} {x y : Shape} → x ≡ y → Leveled level before y after → Leveled level before x after
shaped {level = level} {before = before} {after = after} e l = subst (λ s. Leveled level before s after) (sym e) l

-- a higher level has what a lower one has
pub wider : {level : ℕ} {before after : List Sign} {x : Shape} (more : ℕ) → level ≤ more → Leveled level before x after → Leveled more before x after
wider more w l = record { text = l.text; within = omega (arith, l.within, w); allowed = l.allowed }

pub at_level : {level : ℕ} {before after : List Sign} (x : Shape) → Leveled level before x after → is_at level x ≡ true
at_level {level = level} x l = both_true (le-leb x.level level l.within) l.allowed

-- an expression between two signs
abbrev pub Enclosed : mark.Mark → mark.Mark → List Sign → Expr → List Sign → Type 0
Enclosed opening closing before x after = Allowed (λ y. exprs.enclosed opening (shape y).text closing) exprs.expr_allowed before x after

-- expressions, each behind a comma
abbrev next_texts : List Expr → Text
next_texts xs tail = each (λ x rest. Mark m.Comma ∷ shape_text x rest) (map shape xs) tail

abbrev all_allowed : List Expr → Bool
all_allowed xs = list_all shape_allowed (map shape xs)

-- expressions with commas between them
abbrev arguments_text : List Expr → Text
arguments_text xs tail = separated m.Comma shape_text (map shape xs) tail

abbrev arguments_allowed : List Expr → Bool
arguments_allowed xs = is_filled (map shape xs) && all_allowed xs

-- ---- between brackets

-- how the expressions inside of one more bracket are read
abbrev pub ReadInside : ℕ → Parser Expr → Type 0
ReadInside room inner = 0 < room → (ts : List Sign) → Along (The Rule.expr ∷ []) (room - 1) (room - 1) (ReadAt 8 ts) ts (inner ts)

module _ (room : ℕ) (inner : Parser Expr) (inner_along : ReadInside room inner) where
  pub enclosed_along : (opening closing : mark.Mark) → ((left : ℕ) → room_behind (k.Mark opening) left ≡ less left) → ((left : ℕ) → room_behind (k.Mark closing) left ≡ Some (suc left))
      → (ts : List Sign) → Along (g.mark opening ∷ The Rule.expr ∷ g.mark closing ∷ []) room room (Enclosed opening closing ts) ts (enclosed opening closing room inner ts)
  unfolding enclosed
  enclosed_along opening closing o c ts =
      skip (open_along opening room ts o) (λ r p.
      step (inner_along p.1 r) (λ x q.
      skip (close_along closing room x.1 c p.1) (λ v s.
      done (record { text = p.0 ∙ ap (λ us. Mark opening ∷ us) (q.text ∙ ap (shape x.0).text s); allowed = q.allowed }))))

  next_argument_along : 0 < room → (ts : List Sign)
      → Along (The Rule.next_argument ∷ []) (room - 1) (room - 1) (Allowed (exprs.next_expr m.Comma) exprs.expr_allowed ts) ts (next_argument inner ts)
  unfolding next_argument rows
  next_argument_along l ts =
      alone Rule.next_argument refl (skip (expect_along m.Comma ts refl) (λ r p. last (inner_along l r) (λ x after q. record {
        text = p ∙ ap (λ us. Mark m.Comma ∷ us) q.text;
        allowed = q.allowed;
      })))

  next_arguments_along : 0 < room → (ts : List Sign) → Along (Many Rule.next_argument ∷ []) (room - 1) (room - 1) (Allowed next_texts all_allowed ts) ts (next_arguments inner ts)
  unfolding next_arguments first sees_comma
  next_arguments_along l ts =
      all_along (Allowed (exprs.next_expr m.Comma) exprs.expr_allowed) (Allowed next_texts all_allowed) Rule.next_argument (λ x. sees_one (k.Mark m.Comma) x)
      (λ us. next_argument_along l us) (λ us. record { text = refl; allowed = refl })
      (λ x xs before mid after q qs. record { text = q.text ∙ ap (exprs.next_expr m.Comma x) qs.text; allowed = both_true q.allowed qs.allowed }) ts

  arguments_along : 0 < room → (ts : List Sign)
      → Along (The Rule.expr ∷ Many Rule.next_argument ∷ []) (room - 1) (room - 1) (Allowed arguments_text arguments_allowed ts) ts (arguments inner ts)
  unfolding arguments
  arguments_along l ts =
      step (inner_along l ts) (λ x p.
      step (next_arguments_along l x.1) (λ xs q.
      done (record { text = p.text ∙ ap (shape x.0).text q.text; allowed = both_true p.allowed q.allowed })))

  -- the name that was read before, and what stands behind it
  function_call_along : (text : List ℕ) (ts : List Sign)
      → Along (g.mark m.OpenParen ∷ The Rule.expr ∷ Many Rule.next_argument ∷ g.mark m.CloseParen ∷ []) room room (ReadAt 0 (Name text ∷ ts)) ts (function_call text room inner ts)
  unfolding function_call
  function_call_along text ts =
      skip (open_along m.OpenParen room ts (λ left. refl)) (λ r p.
      steps (arguments_along p.1 r) (λ xs q.
      skip (close_along m.CloseParen room xs.1 (λ left. refl) p.1) (λ v s.
      done (shaped (shape-Call text xs.0) (record {
        text = ap (λ us. Name text ∷ us) (p.0 ∙ ap (λ us. Mark m.OpenParen ∷ us) (q.text ∙ ap (arguments_text xs.0) s));
        within = omega arith;
        allowed = q.allowed;
      })))))

  element_along : (text : List ℕ) (ts : List Sign)
      → Along (g.mark m.OpenBracket ∷ The Rule.expr ∷ g.mark m.CloseBracket ∷ []) room room (ReadAt 0 (Name text ∷ ts)) ts (element text room inner ts)
  unfolding element
  element_along text ts =
      steps (enclosed_along m.OpenBracket m.CloseBracket (λ left. refl) (λ left. refl) ts) (λ x q.
      done (shaped (shape-Element text x.0) (record { text = ap (λ us. Name text ∷ us) q.text; within = omega arith; allowed = q.allowed })))

  name_rest_by_along : (x : SignKind) (text : List ℕ) (ts : List Sign) → ahead ts ≡ x
      → Along (Maybe Rule.name_rest ∷ []) room room (ReadAt 0 (Name text ∷ ts)) ts (name_rest_by x text room inner ts)
  unfolding rows first place
  name_rest_by_along (k.Mark m.OpenParen) text ts e = with_part Rule.name_rest (rw e refl) (choice Rule.name_rest 0 e refl (function_call_along text ts))
  name_rest_by_along (k.Mark m.OpenBracket) text ts e = with_part Rule.name_rest (rw e refl) (choice Rule.name_rest 1 e refl (element_along text ts))
  name_rest_by_along _ text ts e = without_part Rule.name_rest (rw e refl) (done (shaped (shape-Name text) (record { text = refl; within = omega arith; allowed = refl })))

  name_rest_along : (text : List ℕ) (ts : List Sign) → Along (Maybe Rule.name_rest ∷ []) room room (ReadAt 0 (Name text ∷ ts)) ts (name_rest text room inner ts)
  unfolding name_rest
  name_rest_along text ts = name_rest_by_along (ahead ts) text ts refl

  -- ---- operands

  convert_along : (ts : List Sign) → Along (The Rule.kind ∷ g.mark m.OpenParen ∷ The Rule.expr ∷ g.mark m.CloseParen ∷ []) room room (ReadAt 0 ts) ts (convert room inner ts)
  unfolding convert
  convert_along ts =
      step (kind_along ts) (λ q p.
      steps (enclosed_along m.OpenParen m.CloseParen (λ left. refl) (λ left. refl) q.1) (λ x s.
      done (shaped (shape-Convert q.0 x.0) (record { text = p ∙ ap (λ us. Mark (spelling.kind q.0) ∷ us) s.text; within = omega arith; allowed = s.allowed }))))

  paren_along : (ts : List Sign) → Along (g.mark m.OpenParen ∷ The Rule.expr ∷ g.mark m.CloseParen ∷ []) room room (ReadAt 0 ts) ts (paren room inner ts)
  unfolding paren
  paren_along ts =
      steps (enclosed_along m.OpenParen m.CloseParen (λ left. refl) (λ left. refl) ts) (λ x s.
      done (shaped (shape-Paren x.0) (record { text = s.text; within = omega arith; allowed = s.allowed })))

  prim_by_along : (x : SignKind) (ts : List Sign) → ahead ts ≡ x → Along (The Rule.prim ∷ []) room room (ReadAt 0 ts) ts (prim_by x room inner ts)
  unfolding rows first place
  prim_by_along k.Number ts e = choice Rule.prim 0 e refl (step (number_along ts) (λ n q. done (shaped (shape-Number n.0) (record { text = q; within = omega arith; allowed = refl }))))
  prim_by_along k.One ts e = choice Rule.prim 0 e refl (step (number_along ts) (λ n q. done (shaped (shape-Number n.0) (record { text = q; within = omega arith; allowed = refl }))))
  prim_by_along (k.Mark m.True) ts e = choice Rule.prim 1 e refl (word_along m.True ts e refl refl (λ i. shaped shape-True (record { text = i; within = omega arith; allowed = refl })))
  prim_by_along (k.Mark m.False) ts e = choice Rule.prim 2 e refl (word_along m.False ts e refl refl (λ i. shaped shape-False (record { text = i; within = omega arith; allowed = refl })))
  prim_by_along k.Name ts e =
      choice Rule.prim 3 e refl (step (name_along ts) (λ n p. last (name_rest_along n.0 n.1) (λ x after q. record { text = p ∙ q.text; within = q.within; allowed = q.allowed })))
  prim_by_along (k.Mark m.I64) ts e = choice Rule.prim 4 e refl (convert_along ts)
  prim_by_along (k.Mark m.U64) ts e = choice Rule.prim 4 e refl (convert_along ts)
  prim_by_along (k.Mark m.Bool) ts e = choice Rule.prim 4 e refl (convert_along ts)
  prim_by_along (k.Mark m.Throw) ts e =
      choice Rule.prim 5 e refl (behind m.Throw ts e refl refl (λ i. step (number_along (past ts)) (λ n q.
      done (shaped (shape-Throw n.0) (record { text = i ∙ ap (λ us. Mark m.Throw ∷ us) q; within = omega arith; allowed = refl })))))
  prim_by_along (k.Mark m.OpenParen) ts e = choice Rule.prim 6 e refl (paren_along ts)
  prim_by_along _ ts e = no_choice Rule.prim e refl

  prim_along : (ts : List Sign) → Along (The Rule.prim ∷ []) room room (ReadAt 0 ts) ts (prim room inner ts)
  unfolding prim
  prim_along ts = prim_by_along (ahead ts) ts refl

  una_by_along : (x : SignKind) (ts : List Sign) → ahead ts ≡ x → Along (The Rule.una ∷ []) room room (ReadAt 1 ts) ts (una_by x room inner ts)
  unfolding rows first place
  una_by_along (k.Mark m.MinusSign) ts e =
      choice Rule.una 1 e refl (behind m.MinusSign ts e refl refl (λ i. step (prim_along (past ts)) (λ x q.
      done (shaped (shape-Minus x.0) (record { text = i ∙ ap (λ us. Mark m.MinusSign ∷ us) q.text; within = omega arith; allowed = at_level (shape x.0) q })))))
  una_by_along (k.Mark m.Exclamation) ts e =
      choice Rule.una 2 e refl (behind m.Exclamation ts e refl refl (λ i. step (prim_along (past ts)) (λ x q.
      done (shaped (shape-Not x.0) (record { text = i ∙ ap (λ us. Mark m.Exclamation ∷ us) q.text; within = omega arith; allowed = at_level (shape x.0) q })))))
  una_by_along _ ts e = choice Rule.una 0 e refl (last (prim_along ts) (λ x after q. wider 1 (omega arith) q))

  pub una_along : (ts : List Sign) → Along (The Rule.una ∷ []) room room (ReadAt 1 ts) ts (una room inner ts)
  unfolding una
  una_along ts = una_by_along (ahead ts) ts refl
