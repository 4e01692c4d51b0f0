-- Statements of loops' bodies: each is read along its rule, spelled by the signs that were read, and one that the grammar has.
use Rattle.std.proofs.Common.{◌≡◌, ℕ, zero, suc, ◌-◌, ◌<◌, Bool, is_some, List, [], ◌∷◌, map, Option, Some, refl, sym, ◌∙◌, ap, arith}
use Rattle.std.specs.List.{list_all}
use Rattle.std.proofs.lemmas.List.Folds.{list_all-map}
use Rattle.std.specs.Cmp.Derive.{both_true}
use Rattle.pts_types.specs.declared.operation.ScalarOp.{ScalarOp}
use Rattle.pts_tree.specs.declared.mark.Mark as mark
use Rattle.pts_tree.specs.declared.mark.Mark.TheVariants as m
use Rattle.pts_tree.specs.declared.sign.SignKind.{SignKind}
use Rattle.pts_tree.specs.declared.sign.SignKind.TheVariants as k
use Rattle.pts_tree.specs.declared.expr.Place.{Place}
use Rattle.pts_tree.specs.declared.loops.BodyStmt.{BodyStmt}
use Rattle.pts_tree.specs.Marks.{place}
use Rattle.pts_tree.specs.Signs.{Sign, Mark, Name}
use Rattle.pts_tree.specs.Spelling.{Text, each, optional, word, if_there}
use Rattle.pts_tree.specs.Expressions.{expr_allowed}
use Rattle.pts_tree.specs.Expressions as exprs
use Rattle.pts_tree.specs.Statements as stmts
use Rattle.pts_tree.specs.Statements.{phrase, phrase_text, phrase_allowed, upd_mark, bstmt, bstmt_allowed}
use Rattle.pts_tree.specs.Grammar as g
use Rattle.pts_tree.specs.Grammar.{Rule, The, Many, Maybe, rows, same}
use Rattle.pts_tree.proofs.Lists.{each_map}
use Rattle.pts_tree.proofs.Phrases.{phrases, phrase-Assign, phrase-Let, phrase-Combine, phrase-VecOff, phrase-Ordered, phrase-If}
use Rattle.pts_parse.specs.Brackets.{room_behind}
use Rattle.pts_parse.specs.Reading.{Parser, ahead, past, unexpected, each_of}
use Rattle.pts_parse.specs.LoopReading as reading
use Rattle.pts_parse.specs.LoopReading.{bracketed, value, assign, combine, name_stmt_by, name_stmt, let_name, braced, else_part, if_stmt, vec_off, upd_by, upd, ordered, bstmt_by, bstmt_of, sees_bstmt, bstmts, inner_bstmts, body}
use Rattle.pts_parse.proofs.Tables.{first}
use Rattle.pts_parse.proofs.Passes.{Along, step, steps, skip, done, last, test_along}
use Rattle.pts_parse.proofs.Choices.{alone, choice, no_choice, all_along, SeesRule, sees_one, with_part, without_part}
use Rattle.pts_parse.proofs.SingleSigns.{mark_seen, behind, word_along, expect_along, open_along, close_along, name_along}
use Rattle.pts_parse.proofs.CallsAlong.{Allowed, begun_at, equal_read}
use Rattle.pts_parse.proofs.ExprsAlong.{expr_along, bracketed_along}

-- ---- what is read

-- what was read of a statement: it is spelled so, and the grammar has it
abbrev ReadStmt : List Sign → BodyStmt → List Sign → Type 0
ReadStmt before x after = Allowed phrase_text phrase_allowed before (phrase x) after

-- statements one behind the other
abbrev stmts_text : List BodyStmt → Text
stmts_text xs tail = each phrase_text (map phrase xs) tail

abbrev stmts_allowed : List BodyStmt → Bool
stmts_allowed xs = list_all phrase_allowed (map phrase xs)

-- statements between braces
abbrev braced_text : List BodyStmt → Text
braced_text xs tail = stmts.braced (map phrase xs) tail

-- ---- statements with no statements inside

-- NAME "[" expr "]"
abbrev place_allowed : Place → Bool
place_allowed x = expr_allowed x.index

place_along : (room : ℕ) (ts : List Sign)
    → Along (g.name ∷ g.mark m.OpenBracket ∷ The Rule.expr ∷ g.mark m.CloseBracket ∷ []) room room (Allowed stmts.place place_allowed ts) ts (reading.place room ts)
unfolding reading.place bracketed
place_along room ts =
    step (name_along ts) (λ n p.
    steps (bracketed_along room n.1) (λ x q.
    done (record { text = p ∙ ap (λ us. Name n.0 ∷ us) q.text; allowed = q.allowed })))

pub value_along : (n : mark.Mark) (room : ℕ) → room_behind (k.Mark n) room ≡ Some room → (ts : List Sign)
    → Along (g.mark n ∷ The Rule.expr ∷ g.mark m.Semicolon ∷ []) room room (Allowed (stmts.value n) expr_allowed ts) ts (value n room ts)
unfolding value
value_along n room b ts =
    skip (expect_along n ts b) (λ r i.
    step (expr_along room r) (λ x q.
    skip (expect_along m.Semicolon x.1 refl) (λ s t.
    done (record { text = i ∙ ap (λ us. Mark n ∷ us) (q.text ∙ ap (exprs.expr x.0) t); allowed = q.allowed }))))

assign_along : (room : ℕ) (text : List ℕ) (ts : List Sign)
    → Along (g.mark m.OpenBracket ∷ The Rule.expr ∷ g.mark m.CloseBracket ∷ g.mark m.Equal ∷ The Rule.expr ∷ g.mark m.Semicolon ∷ []) room room
    (ReadStmt (Name text ∷ ts)) ts (assign room text ts)
unfolding assign bracketed
assign_along room text ts =
    steps (bracketed_along room ts) (λ i p.
    steps (value_along m.Equal room refl i.1) (λ x q.
    done (equal_read (phrase-Assign (record { array = text; index = i.0 }) x.0) (record {
      text = ap (λ us. Name text ∷ us) (p.text ∙ ap (exprs.enclosed m.OpenBracket (exprs.expr i.0) m.CloseBracket) q.text);
      allowed = both_true p.allowed q.allowed;
    }))))

combine_along : (room : ℕ) (text : List ℕ) (ts : List Sign)
    → Along (g.mark m.TildeEqual ∷ The Rule.expr ∷ g.mark m.Semicolon ∷ []) room room (ReadStmt (Name text ∷ ts)) ts (combine room text ts)
unfolding combine
combine_along room text ts =
    steps (value_along m.TildeEqual room refl ts) (λ x q. done (equal_read (phrase-Combine text x.0) (record { text = ap (λ us. Name text ∷ us) q.text; allowed = q.allowed })))

name_stmt_by_along : (x : SignKind) (room : ℕ) (text : List ℕ) (ts : List Sign) → ahead ts ≡ x
    → Along (The Rule.name_stmt ∷ []) room room (ReadStmt (Name text ∷ ts)) ts (name_stmt_by x room text ts)
unfolding rows first place
name_stmt_by_along (k.Mark m.OpenBracket) room text ts e = choice Rule.name_stmt 0 e refl (assign_along room text ts)
name_stmt_by_along (k.Mark m.TildeEqual) room text ts e = choice Rule.name_stmt 1 e refl (combine_along room text ts)
name_stmt_by_along _ room text ts e = no_choice Rule.name_stmt e refl

name_stmt_along : (room : ℕ) (text : List ℕ) (ts : List Sign) → Along (The Rule.name_stmt ∷ []) room room (ReadStmt (Name text ∷ ts)) ts (name_stmt room text ts)
unfolding name_stmt
name_stmt_along room text ts = name_stmt_by_along (ahead ts) room text ts refl

let_name_along : (room : ℕ) (ts : List Sign)
    → Along (g.name ∷ g.mark m.Equal ∷ The Rule.expr ∷ g.mark m.Semicolon ∷ []) room room (ReadStmt (Mark m.Let ∷ ts)) ts (let_name room ts)
unfolding let_name
let_name_along room ts =
    step (name_along ts) (λ n p.
    steps (value_along m.Equal room refl n.1) (λ x q.
    done (equal_read (phrase-Let n.0 x.0) (record { text = ap (λ us. Mark m.Let ∷ us) (p ∙ ap (λ us. Name n.0 ∷ us) q.text); allowed = q.allowed }))))

-- the operator of an update
abbrev upd_text : ScalarOp → Text
upd_text o tail = optional word (upd_mark o) tail

abbrev upd_allowed : ScalarOp → Bool
upd_allowed o = is_some (upd_mark o)

upd_by_along : {room : ℕ} (x : SignKind) (ts : List Sign) → ahead ts ≡ x → Along (The Rule.upd ∷ []) room room (Allowed upd_text upd_allowed ts) ts (upd_by x ts)
unfolding rows first place
upd_by_along (k.Mark m.PlusEqual) ts e = alone Rule.upd refl (word_along m.PlusEqual ts e refl refl (λ i. record { text = i; allowed = refl }))
upd_by_along (k.Mark m.MinusEqual) ts e = alone Rule.upd refl (word_along m.MinusEqual ts e refl refl (λ i. record { text = i; allowed = refl }))
upd_by_along (k.Mark m.StarEqual) ts e = alone Rule.upd refl (word_along m.StarEqual ts e refl refl (λ i. record { text = i; allowed = refl }))
upd_by_along (k.Mark m.AmpersandEqual) ts e = alone Rule.upd refl (word_along m.AmpersandEqual ts e refl refl (λ i. record { text = i; allowed = refl }))
upd_by_along (k.Mark m.BarEqual) ts e = alone Rule.upd refl (word_along m.BarEqual ts e refl refl (λ i. record { text = i; allowed = refl }))
upd_by_along (k.Mark m.CaretEqual) ts e = alone Rule.upd refl (word_along m.CaretEqual ts e refl refl (λ i. record { text = i; allowed = refl }))
upd_by_along _ ts e = no_choice Rule.upd e refl

upd_along : {room : ℕ} (ts : List Sign) → Along (The Rule.upd ∷ []) room room (Allowed upd_text upd_allowed ts) ts (upd ts)
unfolding upd
upd_along ts = upd_by_along (ahead ts) ts refl

ordered_along : (room : ℕ) (ts : List Sign)
    → Along (g.name ∷ g.mark m.OpenBracket ∷ The Rule.expr ∷ g.mark m.CloseBracket ∷ The Rule.upd ∷ The Rule.expr ∷ g.mark m.Semicolon ∷ []) room room
    (ReadStmt (Mark m.Ordered ∷ ts)) ts (ordered room ts)
unfolding ordered
ordered_along room ts =
    steps (place_along room ts) (λ at p.
    step (upd_along at.1) (λ o q.
    step (expr_along room o.1) (λ x s.
    skip (expect_along m.Semicolon x.1 refl) (λ r t.
    done (equal_read (phrase-Ordered at.0 o.0 x.0) (record {
      text = ap (λ us. Mark m.Ordered ∷ us) (p.text ∙ ap (stmts.place at.0) (q.text ∙ ap (upd_text o.0) (s.text ∙ ap (exprs.expr x.0) t)));
      allowed = both_true (both_true q.allowed p.allowed) s.allowed;
    }))))))

-- ---- statements with statements inside

-- how the statements inside of one more brace are read
abbrev ReadWithin : ℕ → Parser (List BodyStmt) → Type 0
ReadWithin room inside = 0 < room → (ts : List Sign) → Along (Many Rule.bstmt ∷ []) (room - 1) (room - 1) (Allowed stmts_text stmts_allowed ts) ts (inside ts)

-- the other branch, where there is one
abbrev else_text : Option (List BodyStmt) → Text
else_text ys tail = optional stmts.else_part (phrases ys) tail

abbrev else_allowed : Option (List BodyStmt) → Bool
else_allowed ys = if_there (list_all phrase_allowed) (phrases ys)

module _ (room : ℕ) (inside : Parser (List BodyStmt)) (inside_along : ReadWithin room inside) where
  braced_along : (ts : List Sign) → Along (g.mark m.OpenBrace ∷ Many Rule.bstmt ∷ g.mark m.CloseBrace ∷ []) room room (Allowed braced_text stmts_allowed ts) ts (braced room inside ts)
  unfolding braced
  braced_along ts =
      skip (open_along m.OpenBrace room ts (λ left. refl)) (λ r p.
      step (inside_along p.1 r) (λ xs q.
      skip (close_along m.CloseBrace room xs.1 (λ left. refl) p.1) (λ v s.
      done (record { text = p.0 ∙ ap (λ us. Mark m.OpenBrace ∷ us) (q.text ∙ ap (stmts_text xs.0) s); allowed = q.allowed }))))

  else_along : (ts : List Sign) → Along (Maybe Rule.else_part ∷ []) room room (Allowed else_text else_allowed ts) ts (else_part room inside ts)
  unfolding else_part rows first place
  else_along ts =
      test_along (same (k.Mark m.Else) (ahead ts))
      (λ e. with_part Rule.else_part (sym (sees_one (k.Mark m.Else) (ahead ts)) ∙ e) (alone Rule.else_part refl (
      behind m.Else ts (mark_seen m.Else ts e) refl refl (λ i. steps (braced_along (past ts)) (λ ys q.
      done (record { text = i ∙ ap (λ us. Mark m.Else ∷ us) q.text; allowed = q.allowed }))))))
      (λ e. without_part Rule.else_part (sym (sees_one (k.Mark m.Else) (ahead ts)) ∙ e) (done (record { text = refl; allowed = refl })))

  if_stmt_along : (ts : List Sign)
      → Along (The Rule.expr ∷ g.mark m.OpenBrace ∷ Many Rule.bstmt ∷ g.mark m.CloseBrace ∷ Maybe Rule.else_part ∷ []) room room (ReadStmt (Mark m.If ∷ ts)) ts (if_stmt room inside ts)
  unfolding if_stmt
  if_stmt_along ts =
      step (expr_along room ts) (λ x p.
      steps (braced_along x.1) (λ xs q.
      step (else_along xs.1) (λ ys s.
      done (equal_read (phrase-If x.0 xs.0 ys.0) (record {
        text = ap (λ us. Mark m.If ∷ us) (p.text ∙ ap (exprs.expr x.0) (q.text ∙ ap (braced_text xs.0) s.text));
        allowed = both_true (both_true p.allowed q.allowed) s.allowed;
      })))))

  vec_off_along : (ts : List Sign)
      → Along (g.mark m.OpenBrace ∷ Many Rule.bstmt ∷ g.mark m.CloseBrace ∷ []) room room (ReadStmt (Mark m.VecOff ∷ ts)) ts (vec_off room inside ts)
  unfolding vec_off
  vec_off_along ts =
      steps (braced_along ts) (λ xs q. done (equal_read (phrase-VecOff xs.0) (record { text = ap (λ us. Mark m.VecOff ∷ us) q.text; allowed = q.allowed })))

  bstmt_by_along : (x : SignKind) (ts : List Sign) → ahead ts ≡ x → Along (The Rule.bstmt ∷ []) room room (ReadStmt ts) ts (bstmt_by x room inside ts)
  unfolding rows first place
  bstmt_by_along k.Name ts e =
      choice Rule.bstmt 0 e refl (step (name_along ts) (λ n p. last (name_stmt_along room n.0 n.1) (λ x after q. begun_at p q)))
  bstmt_by_along (k.Mark m.Let) ts e =
      choice Rule.bstmt 1 e refl (behind m.Let ts e refl refl (λ i. last (let_name_along room (past ts)) (λ x after q. begun_at i q)))
  bstmt_by_along (k.Mark m.If) ts e =
      choice Rule.bstmt 2 e refl (behind m.If ts e refl refl (λ i. last (if_stmt_along (past ts)) (λ x after q. begun_at i q)))
  bstmt_by_along (k.Mark m.VecOff) ts e =
      choice Rule.bstmt 3 e refl (behind m.VecOff ts e refl refl (λ i. last (vec_off_along (past ts)) (λ x after q. begun_at i q)))
  bstmt_by_along (k.Mark m.Ordered) ts e =
      choice Rule.bstmt 4 e refl (behind m.Ordered ts e refl refl (λ i. last (ordered_along room (past ts)) (λ x after q. begun_at i q)))
  bstmt_by_along _ ts e = no_choice Rule.bstmt e refl

sees_bstmt_first : SeesRule Rule.bstmt sees_bstmt
unfolding sees_bstmt first place
sees_bstmt_first k.Name = refl
sees_bstmt_first (k.Mark m.Let) = refl
sees_bstmt_first (k.Mark m.If) = refl
sees_bstmt_first (k.Mark m.VecOff) = refl
sees_bstmt_first (k.Mark m.Ordered) = refl
sees_bstmt_first _ = refl

-- statements as often as one follows
stmts_along : (room : ℕ) (inside : Parser (List BodyStmt)) → ReadWithin room inside → (ts : List Sign)
    → Along (Many Rule.bstmt ∷ []) room room (Allowed stmts_text stmts_allowed ts) ts (each_of sees_bstmt (bstmt_of room inside) ts)
unfolding bstmt_of
stmts_along room inside a ts =
    all_along ReadStmt (Allowed stmts_text stmts_allowed) Rule.bstmt sees_bstmt_first
    (λ us. bstmt_by_along room inside a (ahead us) us refl) (λ us. record { text = refl; allowed = refl })
    (λ x xs before mid after q qs. record { text = q.text ∙ ap (bstmt x) qs.text; allowed = both_true q.allowed qs.allowed }) ts

-- where no brace may open, nothing is read inside of it
none_within : (inside : Parser (List BodyStmt)) → ReadWithin 0 inside
none_within inside l = absurd (omega arith)

one_within : (room : ℕ) (inside : Parser (List BodyStmt)) → ((ts : List Sign) → Along (Many Rule.bstmt ∷ []) room room (Allowed stmts_text stmts_allowed ts) ts (inside ts))
    → ReadWithin (suc room) inside
one_within room inside a l ts = let e : suc room - 1 ≡ room = omega arith in rw e (a ts)

bstmts_along : (room : ℕ) (ts : List Sign) → Along (Many Rule.bstmt ∷ []) room room (Allowed stmts_text stmts_allowed ts) ts (bstmts room ts)
unfolding bstmts
bstmts_along zero ts = stmts_along zero unexpected (none_within unexpected) ts
bstmts_along (suc room) ts = stmts_along (suc room) (bstmts room) (one_within room (bstmts room) (λ us. bstmts_along room us)) ts

inner_bstmts_along : (room : ℕ) → ReadWithin room (inner_bstmts room)
unfolding inner_bstmts
inner_bstmts_along zero = none_within unexpected
inner_bstmts_along (suc room) = one_within room (bstmts room) (λ us. bstmts_along room us)

-- "{" bstmt* "}"
pub body_along : (room : ℕ) (ts : List Sign)
    → Along (g.mark m.OpenBrace ∷ Many Rule.bstmt ∷ g.mark m.CloseBrace ∷ []) room room (Allowed stmts.body (list_all bstmt_allowed) ts) ts (body room ts)
unfolding body
body_along room ts =
    last (braced_along room (inner_bstmts room) (inner_bstmts_along room) ts) (λ xs after q. record {
      text = q.text ∙ ap (λ us. Mark m.OpenBrace ∷ us) (each_map phrase_text phrase xs (Mark m.CloseBrace ∷ after));
      allowed = sym (list_all-map phrase_allowed phrase xs) ∙ q.allowed;
    })
