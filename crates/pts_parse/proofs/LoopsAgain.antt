-- Loops, their clauses and the statements of their bodies: each is read back from what it spells.
use Rattle.std.proofs.Common.{◌≡◌, ℕ, zero, suc, Bool, true, false, ◌&&◌, List, [], ◌∷◌, Option, Some, None, refl, sym, subst, map, arith, true≢false}
use Rattle.std.specs.Prelude.{is_some}
use Rattle.std.specs.List.{list_all}
use Rattle.pts_types.specs.declared.operation.Policy.{Policy}
use Rattle.pts_types.specs.declared.operation.ScalarOp.{ScalarOp}
use Rattle.pts_types.specs.declared.operation.ScalarOp.TheVariants as ops
use Rattle.pts_tree.specs.declared.mark.Mark as mark
use Rattle.pts_tree.specs.declared.mark.Mark.TheVariants as m
use Rattle.pts_tree.specs.declared.sign.SignKind.TheVariants as k
use Rattle.pts_tree.specs.Marks.{place}
use Rattle.pts_tree.specs.Grammar.{same}
use Rattle.pts_tree.specs.Signs.{Sign, Mark, Name, Number}
use Rattle.pts_tree.specs.declared.sum.Atom.{Atom}
use Rattle.pts_tree.specs.declared.sum.Atom.TheVariants as atoms
use Rattle.pts_tree.specs.declared.sum.SumPart.{SumPart}
use Rattle.pts_tree.specs.declared.sum.Sum.{Sum}
use Rattle.pts_tree.specs.declared.sum.Val.{Val}
use Rattle.pts_tree.specs.declared.sum.Val.TheVariants as vals
use Rattle.pts_tree.specs.declared.expr.Expr.{Expr}
use Rattle.pts_tree.specs.declared.expr.Place.{Place}
use Rattle.pts_tree.specs.declared.loops.Loop.{Loop}
use Rattle.pts_tree.specs.declared.loops.Clause.{Clause}
use Rattle.pts_tree.specs.declared.loops.Clause.TheVariants as clauses
use Rattle.pts_tree.specs.declared.loops.ReduceClause.{ReduceClause}
use Rattle.pts_tree.specs.declared.loops.InductClause.{InductClause}
use Rattle.pts_tree.specs.declared.loops.Initial.{Initial}
use Rattle.pts_tree.specs.declared.loops.Initial.TheVariants as initials
use Rattle.pts_tree.specs.declared.loops.BodyStmt.{BodyStmt}
use Rattle.pts_tree.specs.declared.loops.BodyStmt.TheOpen.{BodyStmt-F}
use Rattle.pts_tree.specs.declared.loops.BodyStmt.TheVariants as b
use Rattle.pts_tree.specs.declared.loops.BodyStmt.TheViews.{roll-BodyStmt}
use Rattle.pts_tree.specs.declared.loops.BodyStmt.TheFolds.{map-BodyStmt, ind-BodyStmt}
use Rattle.pts_tree.specs.Spelling as spelling
use Rattle.pts_tree.specs.Spelling.{Text, each, optional, word, op_allowed}
use Rattle.pts_tree.specs.Expressions as spelled
use Rattle.pts_tree.specs.Expressions.{expr_allowed}
use Rattle.pts_tree.specs.Statements as stated
use Rattle.pts_tree.specs.Statements.{Phrase, phrase, phrase_allowed, bstmt, bstmt_allowed, body, upd_mark, clause_allowed, loop_allowed}
use Rattle.pts_tree.proofs.Phrases.{phrase-Assign, phrase-Let, phrase-Combine, phrase-VecOff, phrase-Ordered, phrase-If, text-Assign, text-Let, text-Combine, text-VecOff, text-Ordered, text-If}
use Rattle.pts_parse.specs.Reading.{ahead, past, each_of}
use Rattle.pts_parse.specs.SumReading.{goes_on}
use Rattle.pts_parse.specs.LoopReading.{step, identity, view, reduce_clause, initial_sum, initial_behind, initial_by, initial, induct_head, induct_clause, clause, sees_clause, clauses_of, bracketed, place as place_of, value, assign, combine, name_stmt, let_name, braced, else_part, if_stmt, vec_off, upd, ordered, bstmt_of, sees_bstmt, bstmts, inner_bstmts, body as body_of, loop_head, bounds, loop_behind}
use Rattle.pts_parse.proofs.KindFacts.{and_both}
use Rattle.pts_parse.proofs.Again.{Gets, got, done, next, behind_sign, at_all, in_case, otherwise, same_mark, expect_again, open_again, name_again, number_again, by_number, Each, none, one, each_passed, each_to, each_again}
use Rattle.pts_parse.proofs.SumsAgain.{atom_again, sum_behind_again, sum_again, val_again, index_again, cell_again, typed_again}
use Rattle.pts_parse.proofs.CallsAgain.{policy_again, op_again}
use Rattle.pts_parse.proofs.ExprsAgain.{enclosed_again, expr_fits, expr_again}

-- ---- clauses

pub step_again : (x : Option Sum) (tail : List Sign) → same (k.Mark m.Step) (ahead tail) ≡ false → goes_on (ahead tail) ≡ false
    → Gets 0 (optional stated.step_part x tail) tail (x, tail) (step (optional stated.step_part x tail))
unfolding step
step_again None tail e l = otherwise _ (same (k.Mark m.Step) (ahead tail)) e done
step_again (Some x) tail e l = at_all (in_case _ (same (k.Mark m.Step) (k.Mark m.Step)) (same_mark m.Step) (behind_sign (next _ (sum_again x tail l) done)))

identity_again : (x : Option Val) (tail : List Sign) → same (k.Mark m.Identity) (ahead tail) ≡ false → goes_on (ahead tail) ≡ false
    → Gets 0 (optional stated.identity_part x tail) tail (x, tail) (identity (optional stated.identity_part x tail))
unfolding identity
identity_again None tail e l = otherwise _ (same (k.Mark m.Identity) (ahead tail)) e done
identity_again (Some x) tail e l = at_all (in_case _ (same (k.Mark m.Identity) (k.Mark m.Identity)) (same_mark m.Identity) (behind_sign (next _ (val_again x tail l) done)))

view_again : (text : List ℕ) (tail : List Sign) → Gets 1 (Mark m.As ∷ Name text ∷ tail) tail (text, tail) (view (Mark m.As ∷ Name text ∷ tail))
unfolding view
view_again text tail = next _ (expect_again m.As _) (name_again text tail)

reduce_clause_again : (room : ℕ) (x : ReduceClause) → op_allowed x.op ≡ true → (tail : List Sign)
    → Gets 1 (past (stated.reduce_clause x tail)) tail (clauses.Reduce x, tail) (reduce_clause room (past (stated.reduce_clause x tail)))
unfolding reduce_clause goes_on place
reduce_clause_again room x a tail =
    next _ (cell_again room x.cell _) (next _ (op_again x.op a _) (next _ (identity_again x.identity _ refl refl) (next _ (view_again x.view tail) done)))

initial_sum_again : (negative : Bool) (first : Atom) (xs : List SumPart) (tail : List Sign) → goes_on (ahead tail) ≡ false
    → Gets 0 (each spelling.sum_part xs tail) tail (initials.Val (vals.Sum (record { negative = negative; first = first; rest = xs })), tail) (initial_sum negative first (each spelling.sum_part xs tail))
unfolding initial_sum
initial_sum_again negative first xs tail e = next _ (sum_behind_again negative first xs tail e) done

-- no bracket stands behind the first atom of a sum
no_bracket : (xs : List SumPart) (tail : List Sign) → same (k.Mark m.OpenBracket) (ahead tail) ≡ false → same (k.Mark m.OpenBracket) (ahead (each spelling.sum_part xs tail)) ≡ false
unfolding place
no_bracket [] tail e = e
no_bracket (x ∷ xs) tail e = by x.minus
  where
    by : (minus : Bool) → same (k.Mark m.OpenBracket) (k.Mark (spelling.sum_sign minus)) ≡ false
    by false = refl
    by true = refl

-- a sum with which something starts
initial_from_sum : (room : ℕ) (negative : Bool) (first : Atom) (xs : List SumPart) (tail : List Sign) → goes_on (ahead tail) ≡ false → same (k.Mark m.OpenBracket) (ahead tail) ≡ false
    → Gets 1 (spelling.sum (record { negative = negative; first = first; rest = xs }) tail) tail (initials.Val (vals.Sum (record { negative = negative; first = first; rest = xs })), tail)
    (initial room (spelling.sum (record { negative = negative; first = first; rest = xs }) tail))
unfolding initial initial_behind
initial_from_sum room true first xs tail e l = behind_sign (next _ (atom_again first _) (initial_sum_again true first xs tail e))
initial_from_sum room false (atoms.Number n) xs tail e l =
    by_number (λ q. Gets 1 (Number n ∷ each spelling.sum_part xs tail) tail (initials.Val (vals.Sum (record { negative = false; first = atoms.Number n; rest = xs })), tail) (initial_by q room (Number n ∷ each spelling.sum_part xs tail)))
    (next _ (number_again n _) (initial_sum_again false (atoms.Number n) xs tail e)) (next _ (number_again n _) (initial_sum_again false (atoms.Number n) xs tail e)) n
initial_from_sum room false (atoms.Name text) xs tail e l =
    next _ (name_again text _) (otherwise _ (same (k.Mark m.OpenBracket) (ahead (each spelling.sum_part xs tail))) (no_bracket xs tail l) (initial_sum_again false (atoms.Name text) xs tail e))

initial_again : (room : ℕ) (x : Initial) (tail : List Sign) → goes_on (ahead tail) ≡ false → same (k.Mark m.OpenBracket) (ahead tail) ≡ false
    → Gets 1 (stated.initial x tail) tail (x, tail) (initial room (stated.initial x tail))
unfolding initial initial_behind
initial_again room (initials.Val (vals.Sum x)) tail e l = initial_from_sum room x.negative x.first x.rest tail e l
initial_again room (initials.Val vals.True) tail e l = got (omega arith)
initial_again room (initials.Val vals.False) tail e l = got (omega arith)
initial_again room (initials.Cell x) tail e l =
    next _ (name_again x.array _) (in_case _ (same (k.Mark m.OpenBracket) (k.Mark m.OpenBracket)) (same_mark m.OpenBracket) (next _ (index_again room x.index tail) done))

-- what may follow a clause
pub record EndsClause (ts : List Sign) : Type 0 where
  pub no_sum : goes_on (ahead ts) ≡ false
  pub no_step : same (k.Mark m.Step) (ahead ts) ≡ false
  pub no_cell : same (k.Mark m.OpenBracket) (ahead ts) ≡ false

-- what may follow what stands before a step
step_ends : (x : Option Sum) (tail : List Sign) → EndsClause tail → (goes_on (ahead (optional stated.step_part x tail)) ≡ false) × (same (k.Mark m.OpenBracket) (ahead (optional stated.step_part x tail)) ≡ false)
unfolding goes_on place
step_ends None tail l = (l.no_sum, l.no_cell)
step_ends (Some x) tail l = (refl, refl)

induct_head_again : (x : InductClause) (ts : List Sign)
    → Gets 1 (Name x.name ∷ Mark m.Colon ∷ Mark (spelling.kind x.kind) ∷ Mark m.Equal ∷ ts) ts ((x.name, x.kind), ts) (induct_head (Name x.name ∷ Mark m.Colon ∷ Mark (spelling.kind x.kind) ∷ Mark m.Equal ∷ ts))
unfolding induct_head
induct_head_again x ts = next _ (typed_again x.name x.kind _) (next _ (expect_again m.Equal ts) done)

induct_clause_again : (room : ℕ) (x : InductClause) (tail : List Sign) → EndsClause tail
    → Gets 1 (past (stated.induct_clause x tail)) tail (clauses.Induct x, tail) (induct_clause room (past (stated.induct_clause x tail)))
unfolding induct_clause
induct_clause_again room x tail l =
    let ends = step_ends x.step tail l in
    next _ (induct_head_again x _) (next _ (initial_again room x.initial _ ends.0 ends.1) (next _ (step_again x.step tail l.no_step l.no_sum) done))

clause_again : (room : ℕ) (x : Clause) → clause_allowed x ≡ true → (tail : List Sign) → EndsClause tail → Gets 1 (stated.clause x tail) tail (x, tail) (clause room (stated.clause x tail))
unfolding clause
clause_again room (clauses.Reduce x) a tail l = behind_sign (reduce_clause_again room x a tail)
clause_again room (clauses.Induct x) a tail l = behind_sign (induct_clause_again room x tail l)

clause_seen : (x : Clause) (ts : List Sign) → sees_clause (ahead (stated.clause x ts)) ≡ true
unfolding sees_clause
clause_seen (clauses.Reduce x) ts = refl
clause_seen (clauses.Induct x) ts = refl

clause_ends : (x : Clause) (ts : List Sign) → EndsClause (stated.clause x ts)
unfolding goes_on place
clause_ends (clauses.Reduce x) ts = record { no_sum = refl; no_step = refl; no_cell = refl }
clause_ends (clauses.Induct x) ts = record { no_sum = refl; no_step = refl; no_cell = refl }

brace_ends : (ts : List Sign) → EndsClause (Mark m.OpenBrace ∷ ts)
unfolding goes_on place
brace_ends ts = record { no_sum = refl; no_step = refl; no_cell = refl }

clauses_again : (room : ℕ) (xs : List Clause) → list_all clause_allowed xs ≡ true → (ts : List Sign)
    → Gets 0 (each stated.clause xs (Mark m.OpenBrace ∷ ts)) (Mark m.OpenBrace ∷ ts) (xs, Mark m.OpenBrace ∷ ts) (clauses_of room (each stated.clause xs (Mark m.OpenBrace ∷ ts)))
unfolding clauses_of sees_clause
clauses_again room xs a ts =
    each_again EndsClause (each_passed clause_allowed (λ x b. record { seen = clause_seen x; ends = clause_ends x; back = λ us l. clause_again room x b us l }) xs a) refl (Mark m.OpenBrace ∷ ts) refl (brace_ends ts)

-- ---- parts of statements

pub value_again : (sign : mark.Mark) (room : ℕ) (x : Expr) → expr_allowed x ≡ true → (tail : List Sign) → Gets 1 (stated.value sign x tail) tail (x, tail) (value sign room (stated.value sign x tail))
unfolding value
value_again sign room x a tail = next _ (expect_again sign _) (next _ (expr_again room x a (Mark m.Semicolon ∷ tail) (omega arith)) (next _ (expect_again m.Semicolon tail) done))

bracketed_again : (room : ℕ) (x : Expr) → expr_allowed x ≡ true → (tail : List Sign)
    → Gets 1 (Mark m.OpenBracket ∷ spelled.expr x (Mark m.CloseBracket ∷ tail)) tail (x, tail) (bracketed room (Mark m.OpenBracket ∷ spelled.expr x (Mark m.CloseBracket ∷ tail)))
unfolding bracketed
bracketed_again room x a tail = enclosed_again m.OpenBracket m.CloseBracket (omega arith) (expr_fits x a) room tail

place_again : (room : ℕ) (x : Place) → expr_allowed x.index ≡ true → (tail : List Sign) → Gets 1 (stated.place x tail) tail (x, tail) (place_of room (stated.place x tail))
unfolding place_of
place_again room x a tail = next _ (name_again x.array _) (next _ (bracketed_again room x.index a tail) done)

-- an update by its sign, and what stands behind it
upd_again : (o : ScalarOp) → is_some (upd_mark o) ≡ true → (tail : List Sign) → Gets 1 (optional word (upd_mark o) tail) tail (o, tail) (upd (optional word (upd_mark o) tail))
unfolding upd
upd_again ops.Plus a tail = got (omega arith)
upd_again ops.Minus a tail = got (omega arith)
upd_again ops.Multiplies a tail = got (omega arith)
upd_again ops.BitAnd a tail = got (omega arith)
upd_again ops.BitOr a tail = got (omega arith)
upd_again ops.BitXor a tail = got (omega arith)
upd_again _ a tail = absurd (true≢false (sym a))

-- ---- statements

-- a statement that is spelled so begins as one and is read back, where no `else` follows
pub record FitsStmt (text : Text) (x : BodyStmt) : Type 0 where
  pub seen : (ts : List Sign) → sees_bstmt (ahead (text ts)) ≡ true
  pub ends : (ts : List Sign) → same (k.Mark m.Else) (ahead (text ts)) ≡ false
  pub back : (room : ℕ) (ts : List Sign) → same (k.Mark m.Else) (ahead ts) ≡ false → Gets 1 (text ts) ts (x, ts) (bstmt_of room (inner_bstmts room) (text ts))

abbrev pub FitsBody : BodyStmt → Type 0
FitsBody x = FitsStmt (bstmt x) x

bstmts_is : (room : ℕ) (ts : List Sign) → bstmts room ts ≡ each_of sees_bstmt (bstmt_of room (inner_bstmts room)) ts
unfolding bstmts inner_bstmts
bstmts_is zero ts = refl
bstmts_is (suc room) ts = refl

stmts_again : {xs : List BodyStmt} → Each FitsBody xs → (room : ℕ) (ts : List Sign)
    → Gets 0 (each bstmt xs (Mark m.CloseBrace ∷ ts)) (Mark m.CloseBrace ∷ ts) (xs, Mark m.CloseBrace ∷ ts) (bstmts room (each bstmt xs (Mark m.CloseBrace ∷ ts)))
unfolding sees_bstmt place
stmts_again {xs = xs} fs room ts =
    subst (λ o. Gets 0 (each bstmt xs (Mark m.CloseBrace ∷ ts)) (Mark m.CloseBrace ∷ ts) (xs, Mark m.CloseBrace ∷ ts) o) (sym (bstmts_is room (each bstmt xs (Mark m.CloseBrace ∷ ts))))
    (each_again (λ us. same (k.Mark m.Else) (ahead us) ≡ false) (each_to (λ x f. record { seen = f.seen; ends = f.ends; back = λ us l. f.back room us l }) fs) refl (Mark m.CloseBrace ∷ ts) refl refl)

-- inside of one more brace
inside_brace : (xs : List BodyStmt) (before after : List Sign) (room less : ℕ) → room ≡ suc less → Gets 0 before after (xs, after) (bstmts less before) → Gets 0 before after (xs, after) (inner_bstmts room before)
unfolding inner_bstmts
inside_brace xs before after room less i g = subst (λ r. Gets 0 before after (xs, after) (inner_bstmts r before)) (sym i) g

braced_again : {xs : List BodyStmt} → Each FitsBody xs → (room : ℕ) (tail : List Sign) → Gets 1 (body xs tail) tail (xs, tail) (braced room (inner_bstmts room) (body xs tail))
unfolding braced
braced_again {xs = xs} fs room tail =
    open_again _ room m.OpenBrace _ (λ less i.
    next _ (inside_brace xs (each bstmt xs (Mark m.CloseBrace ∷ tail)) (Mark m.CloseBrace ∷ tail) room less i (stmts_again fs less tail)) (next _ (expect_again m.CloseBrace tail) done))

else_again : (room : ℕ) (ys : Option (List BodyStmt)) → ((xs : List BodyStmt) → ys ≡ Some xs → Each FitsBody xs) → (tail : List Sign) → same (k.Mark m.Else) (ahead tail) ≡ false
    → Gets 0 (optional stated.else_body ys tail) tail (ys, tail) (else_part room (inner_bstmts room) (optional stated.else_body ys tail))
unfolding else_part
else_again room None h tail e = otherwise _ (same (k.Mark m.Else) (ahead tail)) e done
else_again room (Some xs) h tail e = at_all (in_case _ (same (k.Mark m.Else) (k.Mark m.Else)) (same_mark m.Else) (behind_sign (next _ (braced_again (h xs refl) room tail) done)))

assign_fits : (at : Place) (x : Expr) → expr_allowed at.index ≡ true → expr_allowed x ≡ true → FitsStmt (stated.assign at x) (b.Assign at x)
unfolding sees_bstmt place bstmt_of name_stmt assign
assign_fits at x a c = record {
  seen = λ ts. refl;
  ends = λ ts. refl;
  back = λ room ts l.
      next _ (name_again at.array _) (next _ (bracketed_again room at.index a _) (next _ (value_again m.Equal room x c ts) done));
}

let_fits : (text : List ℕ) (x : Expr) → expr_allowed x ≡ true → FitsStmt (stated.let_name text x) (b.Let text x)
unfolding sees_bstmt place bstmt_of let_name
let_fits text x a = record { seen = λ ts. refl; ends = λ ts. refl; back = λ room ts l. behind_sign (next _ (name_again text _) (next _ (value_again m.Equal room x a ts) done)) }

combine_fits : (text : List ℕ) (x : Expr) → expr_allowed x ≡ true → FitsStmt (stated.combine text x) (b.Combine text x)
unfolding sees_bstmt place bstmt_of name_stmt combine
combine_fits text x a = record { seen = λ ts. refl; ends = λ ts. refl; back = λ room ts l. next _ (name_again text _) (next _ (value_again m.TildeEqual room x a ts) done) }

if_fits : (x : Expr) (xs : List BodyStmt) (ys : Option (List BodyStmt)) → expr_allowed x ≡ true → Each FitsBody xs → ((zs : List BodyStmt) → ys ≡ Some zs → Each FitsBody zs)
    → FitsStmt (stated.if_stmt x xs ys) (b.If x xs ys)
unfolding sees_bstmt place bstmt_of if_stmt
if_fits x xs ys a fs gs = record {
  seen = λ ts. refl;
  ends = λ ts. refl;
  back = λ room ts l.
      behind_sign (next _ (expr_again room x a _ (omega arith)) (next _ (braced_again fs room _) (next _ (else_again room ys gs ts l) done)));
}

vec_off_fits : (xs : List BodyStmt) → Each FitsBody xs → FitsStmt (stated.vec_off xs) (b.VecOff xs)
unfolding sees_bstmt place bstmt_of vec_off
vec_off_fits xs fs = record { seen = λ ts. refl; ends = λ ts. refl; back = λ room ts l. behind_sign (next _ (braced_again fs room ts) done) }

ordered_fits : (at : Place) (o : ScalarOp) (x : Expr) → is_some (upd_mark o) ≡ true → expr_allowed at.index ≡ true → expr_allowed x ≡ true → FitsStmt (stated.ordered at o x) (b.Ordered at o x)
unfolding sees_bstmt place bstmt_of ordered
ordered_fits at o x s a c = record {
  seen = λ ts. refl;
  ends = λ ts. refl;
  back = λ room ts l.
      behind_sign (next _ (place_again room at a _) (next _ (upd_again o s _) (next _ (expr_again room x c (Mark m.Semicolon ∷ ts) (omega arith)) (next _ (expect_again m.Semicolon ts) done))));
}

-- ---- all statements

-- a statement that the grammar has is read back
abbrev Back : BodyStmt → Type 0
Back x = bstmt_allowed x ≡ true → FitsBody x

-- from how a statement is spelled and allowed
from_phrase : (x : BodyStmt) (s : Phrase) (text : Text) → phrase x ≡ s → ◌≡◌ {A = Text} (bstmt x) text → (s.allowed ≡ true → FitsStmt text x) → Back x
from_phrase x s text p q g a = subst (λ t. FitsStmt t x) (sym q) (g (subst (λ r. r.allowed ≡ true) p a))

-- a statement with what is known of it
abbrev Known : Type 0
Known = (x : BodyStmt) × Back x

each_known : (xs : List Known) → list_all phrase_allowed (map phrase (map (λ y. y.0) xs)) ≡ true → Each FitsBody (map (λ (y : Known). y.0) xs)
each_known [] a = none
each_known (x ∷ xs) a = let both = and_both (bstmt_allowed x.0) (list_all phrase_allowed (map phrase (map (λ y. y.0) xs))) a in one (x.1 both.0) (each_known xs both.1)

by_case : (y : BodyStmt-F Known) → Back (roll-BodyStmt (map-BodyStmt Known BodyStmt (λ z. z.0) y))
by_case (BodyStmt-F.Assign at x) = subst Back (sym (b.rolls-Assign at x)) (from_phrase (b.Assign at x) _ (stated.assign at x) (phrase-Assign at x) (text-Assign at x)
    (λ a. let both = and_both (expr_allowed at.index) (expr_allowed x) a in assign_fits at x both.0 both.1))
by_case (BodyStmt-F.Let text x) = subst Back (sym (b.rolls-Let text x)) (from_phrase (b.Let text x) _ (stated.let_name text x) (phrase-Let text x) (text-Let text x) (λ a. let_fits text x a))
by_case (BodyStmt-F.Combine text x) = subst Back (sym (b.rolls-Combine text x)) (from_phrase (b.Combine text x) _ (stated.combine text x) (phrase-Combine text x) (text-Combine text x) (λ a. combine_fits text x a))
by_case (BodyStmt-F.If x ys None) =
    let xs = map (λ (z : Known). z.0) ys in
    subst Back (sym (b.rolls-If x xs None)) (from_phrase (b.If x xs None) _ (stated.if_stmt x xs None) (phrase-If x xs None) (text-If x xs None)
    (λ a. let both = and_both (expr_allowed x && list_all phrase_allowed (map phrase xs)) true a in
    let two = and_both (expr_allowed x) (list_all phrase_allowed (map phrase xs)) both.0 in
    if_fits x xs None two.0 (each_known ys two.1) (λ zs i. absurd (cc))))
by_case (BodyStmt-F.If x ys (Some zs)) =
    let xs = map (λ (z : Known). z.0) ys in
    let others = map (λ (z : Known). z.0) zs in
    subst Back (sym (b.rolls-If x xs (Some others))) (from_phrase (b.If x xs (Some others)) _ (stated.if_stmt x xs (Some others)) (phrase-If x xs (Some others)) (text-If x xs (Some others))
    (λ a. let both = and_both (expr_allowed x && list_all phrase_allowed (map phrase xs)) (list_all phrase_allowed (map phrase others)) a in
    let two = and_both (expr_allowed x) (list_all phrase_allowed (map phrase xs)) both.0 in
    if_fits x xs (Some others) two.0 (each_known ys two.1) (λ us i. let j : others ≡ us = cc in subst (Each FitsBody) j (each_known zs both.1))))
by_case (BodyStmt-F.VecOff ys) =
    let xs = map (λ (z : Known). z.0) ys in
    subst Back (sym (b.rolls-VecOff xs)) (from_phrase (b.VecOff xs) _ (stated.vec_off xs) (phrase-VecOff xs) (text-VecOff xs) (λ a. vec_off_fits xs (each_known ys a)))
by_case (BodyStmt-F.Ordered at o x) = subst Back (sym (b.rolls-Ordered at o x)) (from_phrase (b.Ordered at o x) _ (stated.ordered at o x) (phrase-Ordered at o x) (text-Ordered at o x)
    (λ a. let both = and_both (is_some (upd_mark o) && expr_allowed at.index) (expr_allowed x) a in
    let two = and_both (is_some (upd_mark o)) (expr_allowed at.index) both.0 in
    ordered_fits at o x two.0 two.1 both.1))

pub bstmt_fits : (x : BodyStmt) → bstmt_allowed x ≡ true → FitsBody x
bstmt_fits = ind-BodyStmt Back (λ x y is. subst (λ z. Back (roll-BodyStmt z)) is (by_case y))

body_again : (room : ℕ) (xs : List BodyStmt) → list_all bstmt_allowed xs ≡ true → (tail : List Sign) → Gets 1 (body xs tail) tail (xs, tail) (body_of room (body xs tail))
unfolding body_of
body_again room xs a tail = braced_again (each_passed bstmt_allowed (λ x c. bstmt_fits x c) xs a) room tail

-- ---- loops

loop_head_again : (p : Policy) (text : List ℕ) (ts : List Sign)
    → Gets 1 (Mark (spelling.policy p) ∷ Name text ∷ Mark m.Equal ∷ ts) ts ((p, text), ts) (loop_head (Mark (spelling.policy p) ∷ Name text ∷ Mark m.Equal ∷ ts))
unfolding loop_head
loop_head_again p text ts = next _ (policy_again p _) (next _ (name_again text _) (next _ (expect_again m.Equal ts) done))

bounds_again : (low high : Sum) (x : Option Sum) (ts : List Sign) → EndsClause ts
    → Gets 1 (spelling.sum low (Mark m.To ∷ spelling.sum high (optional stated.step_part x ts))) ts (((low, high), x), ts)
    (bounds (spelling.sum low (Mark m.To ∷ spelling.sum high (optional stated.step_part x ts))))
unfolding bounds goes_on
bounds_again low high x ts l =
    next _ (sum_again low _ refl) (next _ (expect_again m.To _) (next _ (sum_again high _ (step_ends x ts l).0) (next _ (step_again x ts l.no_step l.no_sum) done)))

clauses_end : (xs : List Clause) (ts : List Sign) → EndsClause (each stated.clause xs (Mark m.OpenBrace ∷ ts))
clauses_end [] ts = brace_ends ts
clauses_end (x ∷ xs) ts = clause_ends x (each stated.clause xs (Mark m.OpenBrace ∷ ts))

-- a loop, behind its word
pub loop_again : (room : ℕ) (x : Loop) → loop_allowed x ≡ true → (tail : List Sign) → Gets 1 (past (stated.loop x tail)) tail (x, tail) (loop_behind room (past (stated.loop x tail)))
unfolding loop_behind
loop_again room x a tail =
    let both = and_both (list_all clause_allowed x.clauses) (list_all bstmt_allowed x.body) a in
    next _ (loop_head_again x.policy x.index _) (
    next _ (bounds_again x.low x.high x.step (each stated.clause x.clauses (body x.body tail)) (clauses_end x.clauses _)) (
    next _ (clauses_again room x.clauses both.0 _) (
    next _ (body_again room x.body both.1 tail) done)))
