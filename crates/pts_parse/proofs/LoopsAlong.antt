-- Loops: each is read along its rule, spelled by the signs that were read, and one that the grammar has.
use Rattle.std.proofs.Common.{◌≡◌, ℕ, List, [], ◌∷◌, Option, refl, ◌∙◌, ap}
use Rattle.std.specs.Cmp.Derive.{both_true}
use Rattle.pts_types.specs.declared.operation.Policy.{Policy}
use Rattle.pts_tree.specs.declared.mark.Mark.TheVariants as m
use Rattle.pts_tree.specs.declared.sign.SignKind.TheVariants as k
use Rattle.pts_tree.specs.declared.sum.Sum.{Sum}
use Rattle.pts_tree.specs.Signs.{Sign, Mark, Name}
use Rattle.pts_tree.specs.Spelling as spelling
use Rattle.pts_tree.specs.Spelling.{Text, each, optional}
use Rattle.pts_tree.specs.Statements as stmts
use Rattle.pts_tree.specs.Statements.{loop_allowed}
use Rattle.pts_tree.specs.Grammar as g
use Rattle.pts_tree.specs.Grammar.{Rule, The, Many, Maybe, rows}
use Rattle.pts_tree.specs.Marks.{place}
use Rattle.pts_parse.specs.Reading.{ahead, past}
use Rattle.pts_parse.specs.LoopReading.{loop_head, bounds, loop_behind}
use Rattle.pts_parse.proofs.Passes.{Along, step, steps, skip, done, last}
use Rattle.pts_parse.proofs.Choices.{alone}
use Rattle.pts_parse.proofs.SingleSigns.{behind, expect_along, name_along}
use Rattle.pts_parse.proofs.SumsAlong.{Spelled, sum_along}
use Rattle.pts_parse.proofs.CallsAlong.{Allowed, begun_at, policy_along}
use Rattle.pts_parse.proofs.ClausesAlong.{step_along, clauses_along}
use Rattle.pts_parse.proofs.BodiesAlong.{body_along}

-- policy NAME "="
abbrev head_text : Policy × List ℕ → Text
head_text h tail = Mark (spelling.policy h.0) ∷ Name h.1 ∷ Mark m.Equal ∷ tail

head_along : {room : ℕ} (ts : List Sign) → Along (The Rule.policy ∷ g.name ∷ g.mark m.Equal ∷ []) room room (Spelled head_text ts) ts (loop_head ts)
unfolding loop_head
head_along ts =
    step (policy_along ts) (λ p i.
    step (name_along p.1) (λ n q.
    skip (expect_along m.Equal n.1 refl) (λ r s.
    done (i ∙ ap (λ us. Mark (spelling.policy p.0) ∷ us) (q ∙ ap (λ us. Name n.0 ∷ us) s)))))

-- sum "to" sum optional("step" sum)
abbrev bounds_text : (Sum × Sum) × Option Sum → Text
bounds_text x tail = spelling.sum x.0.0 (Mark m.To ∷ spelling.sum x.0.1 (optional stmts.step_part x.1 tail))

bounds_along : {room : ℕ} (ts : List Sign)
    → Along (The Rule.sum ∷ g.mark m.To ∷ The Rule.sum ∷ Maybe Rule.step_part ∷ []) room room (Spelled bounds_text ts) ts (bounds ts)
unfolding bounds
bounds_along ts =
    step (sum_along ts) (λ low p.
    skip (expect_along m.To low.1 refl) (λ r q.
    step (sum_along r) (λ high s.
    step (step_along high.1) (λ d t.
    done (p ∙ ap (spelling.sum low.0) (q ∙ ap (λ us. Mark m.To ∷ us) (s ∙ ap (spelling.sum high.0) t)))))))

-- a loop behind its word
behind_word : (room : ℕ) (ts : List Sign)
    → Along (The Rule.policy ∷ g.name ∷ g.mark m.Equal ∷ The Rule.sum ∷ g.mark m.To ∷ The Rule.sum ∷ Maybe Rule.step_part ∷ Many Rule.clause
    ∷ g.mark m.OpenBrace ∷ Many Rule.bstmt ∷ g.mark m.CloseBrace ∷ []) room room (Allowed stmts.loop loop_allowed (Mark m.ForLoop ∷ ts)) ts (loop_behind room ts)
unfolding loop_behind
behind_word room ts =
    steps (head_along ts) (λ h p.
    steps (bounds_along h.1) (λ x q.
    step (clauses_along room x.1) (λ cs s.
    steps (body_along room cs.1) (λ xs t.
    done (record {
      text = ap (λ us. Mark m.ForLoop ∷ us) (p ∙ ap (head_text h.0) (q ∙ ap (bounds_text x.0) (s.text ∙ ap (each stmts.clause cs.0) t.text)));
      allowed = both_true s.allowed t.allowed;
    })))))

-- a loop, of which the word was looked at
pub loop_along : (room : ℕ) (ts : List Sign) → ahead ts ≡ k.Mark m.ForLoop → Along (The Rule.loop ∷ []) room room (Allowed stmts.loop loop_allowed ts) ts (loop_behind room (past ts))
unfolding rows place
loop_along room ts e =
    alone Rule.loop refl (behind m.ForLoop ts e refl refl (λ i. last (behind_word room (past ts)) (λ x after q. begun_at i q)))
