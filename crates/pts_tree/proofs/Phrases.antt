-- How each statement of a loop's body is spelled, by what spells its parts.
use Rattle.std.proofs.Common.{◌≡◌, ℕ, List, ◌∷◌, Option, Some, None, map, refl, sym, ap, ◌∙◌}
use Rattle.pts_types.specs.declared.operation.ScalarOp.{ScalarOp}
use Rattle.pts_tree.specs.declared.mark.Mark.TheVariants as m
use Rattle.pts_tree.specs.declared.expr.Expr.{Expr}
use Rattle.pts_tree.specs.declared.expr.Place.{Place}
use Rattle.pts_tree.specs.declared.loops.BodyStmt.{BodyStmt}
use Rattle.pts_tree.specs.declared.loops.BodyStmt.TheOpen.{BodyStmt-F}
use Rattle.pts_tree.specs.declared.loops.BodyStmt.TheVariants as b
use Rattle.pts_tree.specs.declared.loops.BodyStmt.TheFolds.{fold-roll-BodyStmt}
use Rattle.pts_tree.specs.Signs.{Sign, Mark}
use Rattle.pts_tree.specs.Spelling.{Text, each, optional}
use Rattle.pts_tree.specs.Expressions.{expr}
use Rattle.pts_tree.specs.Statements.{Phrase, phrase_step, phrase, phrase_text, bstmt, assign, let_name, combine, ordered, else_part, body, else_body, if_stmt, vec_off}
use Rattle.pts_tree.proofs.Lists.{each_map}

-- each of these, where there are any
abbrev pub phrases : Option (List BodyStmt) → Option (List Phrase)
phrases None = None
phrases (Some xs) = Some (map phrase xs)

pub phrase-Assign : (at : Place) (x : Expr) → phrase (b.Assign at x) ≡ phrase_step (BodyStmt-F.Assign at x)
unfolding phrase
phrase-Assign at x = ap phrase (sym (b.rolls-Assign at x)) ∙ fold-roll-BodyStmt Phrase phrase_step (BodyStmt-F.Assign at x)

pub phrase-Let : (text : List ℕ) (x : Expr) → phrase (b.Let text x) ≡ phrase_step (BodyStmt-F.Let text x)
unfolding phrase
phrase-Let text x = ap phrase (sym (b.rolls-Let text x)) ∙ fold-roll-BodyStmt Phrase phrase_step (BodyStmt-F.Let text x)

pub phrase-Combine : (text : List ℕ) (x : Expr) → phrase (b.Combine text x) ≡ phrase_step (BodyStmt-F.Combine text x)
unfolding phrase
phrase-Combine text x = ap phrase (sym (b.rolls-Combine text x)) ∙ fold-roll-BodyStmt Phrase phrase_step (BodyStmt-F.Combine text x)

pub phrase-VecOff : (xs : List BodyStmt) → phrase (b.VecOff xs) ≡ phrase_step (BodyStmt-F.VecOff (map phrase xs))
unfolding phrase
phrase-VecOff xs = ap phrase (sym (b.rolls-VecOff xs)) ∙ fold-roll-BodyStmt Phrase phrase_step (BodyStmt-F.VecOff xs)

pub phrase-Ordered : (at : Place) (o : ScalarOp) (x : Expr) → phrase (b.Ordered at o x) ≡ phrase_step (BodyStmt-F.Ordered at o x)
unfolding phrase
phrase-Ordered at o x = ap phrase (sym (b.rolls-Ordered at o x)) ∙ fold-roll-BodyStmt Phrase phrase_step (BodyStmt-F.Ordered at o x)

pub phrase-If : (x : Expr) (xs : List BodyStmt) (ys : Option (List BodyStmt)) → phrase (b.If x xs ys) ≡ phrase_step (BodyStmt-F.If x (map phrase xs) (phrases ys))
unfolding phrase
phrase-If x xs None = ap phrase (sym (b.rolls-If x xs None)) ∙ fold-roll-BodyStmt Phrase phrase_step (BodyStmt-F.If x xs None)
phrase-If x xs (Some ys) = ap phrase (sym (b.rolls-If x xs (Some ys))) ∙ fold-roll-BodyStmt Phrase phrase_step (BodyStmt-F.If x xs (Some ys))

pub text-Assign : (at : Place) (x : Expr) → ◌≡◌ {A = Text} (bstmt (b.Assign at x)) (assign at x)
text-Assign at x = ap phrase_text (phrase-Assign at x)

pub text-Let : (text : List ℕ) (x : Expr) → ◌≡◌ {A = Text} (bstmt (b.Let text x)) (let_name text x)
text-Let text x = ap phrase_text (phrase-Let text x)

pub text-Combine : (text : List ℕ) (x : Expr) → ◌≡◌ {A = Text} (bstmt (b.Combine text x)) (combine text x)
text-Combine text x = ap phrase_text (phrase-Combine text x)

pub text-VecOff : (xs : List BodyStmt) → ◌≡◌ {A = Text} (bstmt (b.VecOff xs)) (vec_off xs)
text-VecOff xs = ap phrase_text (phrase-VecOff xs) ∙ (λ i tail. Mark m.VecOff ∷ Mark m.OpenBrace ∷ each_map phrase_text phrase xs (Mark m.CloseBrace ∷ tail) i)

pub text-Ordered : (at : Place) (o : ScalarOp) (x : Expr) → ◌≡◌ {A = Text} (bstmt (b.Ordered at o x)) (ordered at o x)
text-Ordered at o x = ap phrase_text (phrase-Ordered at o x)

-- what stands between braces
braces : (xs : List BodyStmt) (tail : List Sign) → ◌≡◌ {A = List Sign} (Mark m.OpenBrace ∷ each phrase_text (map phrase xs) (Mark m.CloseBrace ∷ tail)) (body xs tail)
braces xs tail = ap (λ us. Mark m.OpenBrace ∷ us) (each_map phrase_text phrase xs (Mark m.CloseBrace ∷ tail))

others : (ys : Option (List BodyStmt)) (tail : List Sign) → optional else_part (phrases ys) tail ≡ optional else_body ys tail
others None tail = refl
others (Some ys) tail = ap (λ us. Mark m.Else ∷ us) (braces ys tail)

pub text-If : (x : Expr) (xs : List BodyStmt) (ys : Option (List BodyStmt)) → ◌≡◌ {A = Text} (bstmt (b.If x xs ys)) (if_stmt x xs ys)
text-If x xs ys =
    ap phrase_text (phrase-If x xs ys)
    ∙ (λ i tail. Mark m.If ∷ expr x (braces xs (optional else_part (phrases ys) tail) i))
    ∙ (λ i tail. Mark m.If ∷ expr x (body xs (others ys tail i)))

pub ruleset texts = (text-Assign, text-Let, text-Combine, text-If, text-VecOff, text-Ordered)
