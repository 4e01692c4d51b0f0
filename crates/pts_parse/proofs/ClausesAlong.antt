-- Reductions and inductions of loops: each is read along its rule, spelled by the signs that were read, and one that the grammar has.
use Rattle.std.proofs.Common.{◌≡◌, ℕ, inl, inr, Bool, true, false, List, [], ◌∷◌, refl, sym, ◌∙◌, ap, arith}
use Rattle.std.specs.List.{list_all}
use Rattle.std.specs.Cmp.Derive.{both_true}
use Rattle.pts_types.specs.declared.value.Kind.{Kind}
use Rattle.pts_tree.specs.declared.mark.Mark.TheVariants as m
use Rattle.pts_tree.specs.declared.sign.SignKind.{SignKind}
use Rattle.pts_tree.specs.declared.sign.SignKind.TheVariants as k
use Rattle.pts_tree.specs.declared.sum.Atom.{Atom}
use Rattle.pts_tree.specs.declared.sum.Atom.TheVariants as atoms
use Rattle.pts_tree.specs.declared.sum.Sum.{Sum}
use Rattle.pts_tree.specs.declared.sum.Val.TheVariants as vals
use Rattle.pts_tree.specs.declared.loops.Initial.{Initial}
use Rattle.pts_tree.specs.declared.loops.Initial.TheVariants as initials
use Rattle.pts_tree.specs.Marks.{place}
use Rattle.pts_tree.specs.Signs.{Sign, Mark, Name}
use Rattle.pts_tree.specs.Spelling as spelling
use Rattle.pts_tree.specs.Spelling.{Text, each, optional}
use Rattle.pts_tree.specs.Statements as stmts
use Rattle.pts_tree.specs.Statements.{clause_allowed}
use Rattle.pts_tree.specs.Grammar as g
use Rattle.pts_tree.specs.Grammar.{Rule, Row, One, The, Many, Maybe, rows, same, Matches, ends, opens, without, with_it, no_more, one_more}
use Rattle.pts_parse.specs.Reading.{ahead, past}
use Rattle.pts_parse.specs.SumReading.{sum_behind, typed}
use Rattle.pts_parse.specs.LoopReading.{identity, view, reduce_clause, initial_sum, initial_behind, initial_by, initial, induct_head, induct_clause, clause_by, clause, sees_clause, clauses_of}
use Rattle.pts_parse.specs.LoopReading as reading
use Rattle.pts_parse.proofs.Tables.{first}
use Rattle.pts_parse.proofs.Passes.{Alone, Stops, chosen, left_out, put_in, no_further, one_further, Along, step, steps, skip, done, last, made, test_along}
use Rattle.pts_parse.proofs.Choices.{Leads, along_leads, alone, choice, choice_by, no_choice, all_along, SeesRule, sees_one, with_part, without_part}
use Rattle.pts_parse.proofs.SingleSigns.{mark_seen, behind, word_along, expect_along, name_along, number_along}
use Rattle.pts_parse.proofs.SumsAlong.{Spelled, atom_along, sum_parts_along, sum_along, val_along, index_along, cell_along, kind_along}
use Rattle.pts_parse.proofs.CallsAlong.{Allowed, begun_at, op_along}

-- ---- parts of clauses

pub step_along : {room : ℕ} (ts : List Sign) → Along (Maybe Rule.step_part ∷ []) room room (Spelled (optional stmts.step_part) ts) ts (reading.step ts)
unfolding reading.step rows first place
step_along ts =
    test_along (same (k.Mark m.Step) (ahead ts))
    (λ e. with_part Rule.step_part (sym (sees_one (k.Mark m.Step) (ahead ts)) ∙ e) (alone Rule.step_part refl (
    behind m.Step ts (mark_seen m.Step ts e) refl refl (λ i. step (sum_along (past ts)) (λ x q. done (i ∙ ap (λ us. Mark m.Step ∷ us) q))))))
    (λ e. without_part Rule.step_part (sym (sees_one (k.Mark m.Step) (ahead ts)) ∙ e) (done refl))

identity_along : {room : ℕ} (ts : List Sign) → Along (Maybe Rule.identity_part ∷ []) room room (Spelled (optional stmts.identity_part) ts) ts (identity ts)
unfolding identity rows first place
identity_along ts =
    test_along (same (k.Mark m.Identity) (ahead ts))
    (λ e. with_part Rule.identity_part (sym (sees_one (k.Mark m.Identity) (ahead ts)) ∙ e) (alone Rule.identity_part refl (
    behind m.Identity ts (mark_seen m.Identity ts e) refl refl (λ i. step (val_along (past ts)) (λ x q. done (i ∙ ap (λ us. Mark m.Identity ∷ us) q))))))
    (λ e. without_part Rule.identity_part (sym (sees_one (k.Mark m.Identity) (ahead ts)) ∙ e) (done refl))

-- "as" NAME
abbrev view_text : List ℕ → Text
view_text text tail = Mark m.As ∷ Name text ∷ tail

view_along : {room : ℕ} (ts : List Sign) → Along (g.mark m.As ∷ g.name ∷ []) room room (Spelled view_text ts) ts (view ts)
unfolding view
view_along ts = skip (expect_along m.As ts refl) (λ r i. last (name_along r) (λ x after q. i ∙ ap (λ us. Mark m.As ∷ us) q))

-- NAME ":" kind
abbrev pub typed_text : List ℕ × Kind → Text
typed_text h tail = Name h.0 ∷ Mark m.Colon ∷ Mark (spelling.kind h.1) ∷ tail

pub typed_along : {room : ℕ} (ts : List Sign) → Along (g.name ∷ g.mark m.Colon ∷ The Rule.kind ∷ []) room room (Spelled typed_text ts) ts (typed ts)
unfolding typed
typed_along ts =
    step (name_along ts) (λ n p.
    skip (expect_along m.Colon n.1 refl) (λ r q.
    step (kind_along r) (λ x s.
    done (p ∙ ap (λ us. Name n.0 ∷ us) (q ∙ ap (λ us. Mark m.Colon ∷ us) s)))))

-- NAME ":" kind "="
abbrev induct_head_text : List ℕ × Kind → Text
induct_head_text h tail = typed_text h (Mark m.Equal ∷ tail)

induct_head_along : {room : ℕ} (ts : List Sign) → Along (g.name ∷ g.mark m.Colon ∷ The Rule.kind ∷ g.mark m.Equal ∷ []) room room (Spelled induct_head_text ts) ts (induct_head ts)
unfolding induct_head
induct_head_along ts = steps (typed_along ts) (λ h p. skip (expect_along m.Equal h.1 refl) (λ r q. done (p ∙ ap (typed_text h.0) q)))

-- ---- what an induction begins with

-- a sum of which the sign and the first atom were read
initial_sum_along : {room : ℕ} (negative : Bool) (x : Atom) (ts : List Sign)
    → Along (Many Rule.sum_part ∷ []) room room (Spelled stmts.initial (spelling.minus negative (spelling.atom x ts))) ts (initial_sum negative x ts)
unfolding initial_sum sum_behind
initial_sum_along {room = room} negative x ts =
    made {B = Initial} (λ y. initials.Val (vals.Sum y)) (made {B = Sum} (λ xs. record { negative = negative; first = x; rest = xs }) (sum_parts_along ts)
    (λ xs after q. ap (λ us. spelling.minus negative (spelling.atom x us)) q)) (λ y after q. q)

-- where no bracket opens, what may follow a name is read as parts of a sum
sum_rest_chosen : (x : SignKind) → same (k.Mark m.OpenBracket) x ≡ false → Alone (The Rule.sum_part ∷ Many Rule.sum_part ∷ []) (rows Rule.initial_rest) x
unfolding rows first place
sum_rest_chosen x e other (inl p) = inr (rw (p, e) refl)
sum_rest_chosen x e other (inr (inl p)) = inl p
sum_rest_chosen x e other (inr (inr n)) = absurd n

sum_rest_stops : (w : Bool) (more : Row) (ts : List Sign) (left : ℕ) → same (k.Mark m.OpenBracket) (ahead ts) ≡ false
    → Stops w (Many Rule.sum_part ∷ more) ts left → Stops w (Maybe Rule.initial_rest ∷ more) ts left
unfolding rows first place
sum_rest_stops w more ts left e (no_further h s) = left_out (rw e h) s
sum_rest_stops w more ts left e (one_further h s) =
    put_in (rw e h) (chosen (The Rule.sum_part ∷ Many Rule.sum_part ∷ []) (inr (inl refl)) (sum_rest_chosen (ahead ts) e) s)

sum_rest_matches : (v : Bool) (more : Row) (ts : List Sign) → Matches rows v (Many Rule.sum_part ∷ more) ts → Matches rows v (Maybe Rule.initial_rest ∷ more) ts
unfolding rows
sum_rest_matches _ more _ ends = ends
sum_rest_matches v more ts (no_more p) = without p
sum_rest_matches v more ts (one_more p) = with_it (opens (The Rule.sum_part ∷ Many Rule.sum_part ∷ []) (inr (inl refl)) p)

sum_rest_leads : (ts : List Sign) → same (k.Mark m.OpenBracket) (ahead ts) ≡ false → Leads (Maybe Rule.initial_rest ∷ []) (Many Rule.sum_part ∷ []) ts
sum_rest_leads ts e = record { stops = λ w more left s. sum_rest_stops w more ts left e s; matches = λ v more p. sum_rest_matches v more ts p; takes = omega arith }

-- behind a name: the index of a cell, or the rest of a sum
initial_behind_along : (room : ℕ) (text : List ℕ) (ts : List Sign)
    → Along (Maybe Rule.initial_rest ∷ []) room room (Spelled stmts.initial (Name text ∷ ts)) ts (initial_behind room text ts)
unfolding initial_behind rows first place
initial_behind_along room text ts =
    test_along (same (k.Mark m.OpenBracket) (ahead ts))
    (λ e. with_part Rule.initial_rest (rw e refl) (choice_by Rule.initial_rest 0 (rw e refl) (steps (index_along room ts) (λ x q. done (ap (λ us. Name text ∷ us) q)))))
    (λ e. along_leads (sum_rest_leads ts e) (initial_sum_along false (atoms.Name text) ts))

initial_by_along : (x : SignKind) (room : ℕ) (ts : List Sign) → ahead ts ≡ x → Along (The Rule.initial ∷ []) room room (Spelled stmts.initial ts) ts (initial_by x room ts)
unfolding rows first place
initial_by_along k.Name room ts e = choice Rule.initial 0 e refl (step (name_along ts) (λ n p. last (initial_behind_along room n.0 n.1) (λ x after q. p ∙ q)))
initial_by_along k.Number room ts e =
    choice Rule.initial 1 e refl (step (number_along ts) (λ n p. last (initial_sum_along false (atoms.Number n.0) n.1) (λ x after q. p ∙ q)))
initial_by_along k.One room ts e =
    choice Rule.initial 1 e refl (step (number_along ts) (λ n p. last (initial_sum_along false (atoms.Number n.0) n.1) (λ x after q. p ∙ q)))
initial_by_along (k.Mark m.MinusSign) room ts e =
    choice Rule.initial 2 e refl (behind m.MinusSign ts e refl refl (λ i. step (atom_along (past ts)) (λ x p. last (initial_sum_along true x.0 x.1) (λ y after q.
    i ∙ ap (λ us. Mark m.MinusSign ∷ us) p ∙ q))))
initial_by_along (k.Mark m.True) room ts e = choice Rule.initial 3 e refl (word_along m.True ts e refl refl (λ i. i))
initial_by_along (k.Mark m.False) room ts e = choice Rule.initial 4 e refl (word_along m.False ts e refl refl (λ i. i))
initial_by_along _ room ts e = no_choice Rule.initial e refl

initial_along : (room : ℕ) (ts : List Sign) → Along (The Rule.initial ∷ []) room room (Spelled stmts.initial ts) ts (initial room ts)
unfolding initial
initial_along room ts = initial_by_along (ahead ts) room ts refl

-- ---- clauses

reduce_clause_along : (room : ℕ) (ts : List Sign)
    → Along (The Rule.cell ∷ The Rule.op ∷ Maybe Rule.identity_part ∷ g.mark m.As ∷ g.name ∷ []) room room
    (Allowed stmts.clause clause_allowed (Mark m.Reduce ∷ ts)) ts (reduce_clause room ts)
unfolding reduce_clause
reduce_clause_along room ts =
    step (cell_along room ts) (λ c p.
    step (op_along c.1) (λ o q.
    step (identity_along o.1) (λ x s.
    steps (view_along x.1) (λ v t.
    done (record { text = ap (λ us. Mark m.Reduce ∷ us) (p ∙ ap (spelling.cell c.0) (q.text ∙ ap (spelling.op o.0) (s ∙ ap (optional stmts.identity_part x.0) t))); allowed = q.allowed })))))

induct_clause_along : (room : ℕ) (ts : List Sign)
    → Along (g.name ∷ g.mark m.Colon ∷ The Rule.kind ∷ g.mark m.Equal ∷ The Rule.initial ∷ Maybe Rule.step_part ∷ []) room room
    (Allowed stmts.clause clause_allowed (Mark m.Induct ∷ ts)) ts (induct_clause room ts)
unfolding induct_clause
induct_clause_along room ts =
    steps (induct_head_along ts) (λ h p.
    step (initial_along room h.1) (λ x q.
    step (step_along x.1) (λ d s.
    done (record { text = ap (λ us. Mark m.Induct ∷ us) (p ∙ ap (induct_head_text h.0) (q ∙ ap (stmts.initial x.0) s)); allowed = refl }))))

clause_by_along : (x : SignKind) (room : ℕ) (ts : List Sign) → ahead ts ≡ x → Along (The Rule.clause ∷ []) room room (Allowed stmts.clause clause_allowed ts) ts (clause_by x room ts)
unfolding rows first place
clause_by_along (k.Mark m.Reduce) room ts e =
    choice Rule.clause 0 e refl (behind m.Reduce ts e refl refl (λ i. last (reduce_clause_along room (past ts)) (λ x after q. begun_at i q)))
clause_by_along (k.Mark m.Induct) room ts e =
    choice Rule.clause 1 e refl (behind m.Induct ts e refl refl (λ i. last (induct_clause_along room (past ts)) (λ x after q. begun_at i q)))
clause_by_along _ room ts e = no_choice Rule.clause e refl

sees_clause_first : SeesRule Rule.clause sees_clause
unfolding sees_clause first place
sees_clause_first (k.Mark m.Reduce) = refl
sees_clause_first (k.Mark m.Induct) = refl
sees_clause_first _ = refl

pub clauses_along : (room : ℕ) (ts : List Sign)
    → Along (Many Rule.clause ∷ []) room room (Allowed (each stmts.clause) (list_all clause_allowed) ts) ts (clauses_of room ts)
unfolding clauses_of clause
clauses_along room ts =
    all_along (Allowed stmts.clause clause_allowed) (Allowed (each stmts.clause) (list_all clause_allowed)) Rule.clause sees_clause_first
    (λ us. clause_by_along (ahead us) room us refl) (λ us. record { text = refl; allowed = refl })
    (λ x xs before mid after q qs. record { text = q.text ∙ ap (stmts.clause x) qs.text; allowed = both_true q.allowed qs.allowed }) ts
