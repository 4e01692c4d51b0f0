-- Sums and what they measure: each is read along its rule, and spelled by the signs that were read.
use Rattle.std.proofs.Common.{◌≡◌, ℕ, Bool, true, false, List, [], ◌∷◌, refl, sym, ◌∙◌, ap}
use Rattle.pts_tree.specs.declared.mark.Mark.TheVariants as m
use Rattle.pts_tree.specs.declared.sign.SignKind.{SignKind}
use Rattle.pts_tree.specs.declared.sign.SignKind.TheVariants as k
use Rattle.pts_tree.specs.Marks.{place}
use Rattle.pts_tree.specs.Signs.{Sign, Mark, Name}
use Rattle.pts_tree.specs.Spelling as spelling
use Rattle.pts_tree.specs.Grammar as g
use Rattle.pts_tree.specs.Grammar.{Rule, Part, Row, One, The, Many, Maybe, rows, same, has, Matches}
use Rattle.pts_parse.specs.Reading.{ahead, past}
use Rattle.pts_parse.specs.SumReading.{atom_by, atom, sum_part_by, sum_part, goes_on, sum_parts, sum_behind, sum_from, sum, val_by, val, range, index, cell, kind_by, kind}
use Rattle.pts_parse.proofs.Tables.{first}
use Rattle.pts_parse.proofs.Passes.{Along, step, steps, skip, done, last, test_along}
use Rattle.pts_parse.proofs.Choices.{alone, choice, no_choice, all_along, SeesRule, sees_one, with_part, without_part}
use Rattle.pts_parse.proofs.SingleSigns.{mark_seen, behind, word_along, expect_along, open_along, close_along, name_along, number_along}

-- the signs before are this part as it is spelled, and the signs behind it
abbrev pub Spelled : {A : Type 0} → (A → spelling.Text) → List Sign → A → List Sign → Type 0
Spelled spell before x after = before ≡ spell x after

atom_by_along : {room : ℕ} (x : SignKind) (ts : List Sign) → ahead ts ≡ x → Along (The Rule.atom ∷ []) room room (Spelled spelling.atom ts) ts (atom_by x ts)
unfolding rows first place
atom_by_along k.Number ts e = choice Rule.atom 0 e refl (step (number_along ts) (λ x q. done q))
atom_by_along k.One ts e = choice Rule.atom 0 e refl (step (number_along ts) (λ x q. done q))
atom_by_along k.Name ts e = choice Rule.atom 1 e refl (step (name_along ts) (λ x q. done q))
atom_by_along _ ts e = no_choice Rule.atom e refl

pub atom_along : {room : ℕ} (ts : List Sign) → Along (The Rule.atom ∷ []) room room (Spelled spelling.atom ts) ts (atom ts)
unfolding atom
atom_along ts = atom_by_along (ahead ts) ts refl

sum_part_by_along : {room : ℕ} (x : SignKind) (ts : List Sign) → ahead ts ≡ x → Along (The Rule.sum_part ∷ []) room room (Spelled spelling.sum_part ts) ts (sum_part_by x ts)
unfolding rows first place
sum_part_by_along (k.Mark m.PlusSign) ts e =
    alone Rule.sum_part refl (behind m.PlusSign ts e refl refl (λ i. step (atom_along (past ts)) (λ x q. done (i ∙ ap (λ us. Mark m.PlusSign ∷ us) q))))
sum_part_by_along (k.Mark m.MinusSign) ts e =
    alone Rule.sum_part refl (behind m.MinusSign ts e refl refl (λ i. step (atom_along (past ts)) (λ x q. done (i ∙ ap (λ us. Mark m.MinusSign ∷ us) q))))
sum_part_by_along _ ts e = no_choice Rule.sum_part e refl

pub sum_part_along : {room : ℕ} (ts : List Sign) → Along (The Rule.sum_part ∷ []) room room (Spelled spelling.sum_part ts) ts (sum_part ts)
unfolding sum_part
sum_part_along ts = sum_part_by_along (ahead ts) ts refl

-- a sum goes on by the kinds with which its parts begin
goes_on_by : SeesRule Rule.sum_part goes_on
unfolding goes_on first place
goes_on_by (k.Mark m.PlusSign) = refl
goes_on_by (k.Mark m.MinusSign) = refl
goes_on_by _ = refl

pub sum_parts_along : {room : ℕ} (ts : List Sign) → Along (Many Rule.sum_part ∷ []) room room (Spelled (spelling.each spelling.sum_part) ts) ts (sum_parts ts)
unfolding sum_parts
sum_parts_along ts =
    all_along (Spelled spelling.sum_part) (Spelled (spelling.each spelling.sum_part)) Rule.sum_part goes_on_by (λ us. sum_part_along us) (λ us. refl)
    (λ x xs before mid after q qs. q ∙ ap (spelling.sum_part x) qs) ts

-- what follows the sign of a sum
sum_from_along : {room : ℕ} (negative : Bool) (ts : List Sign)
    → Along (The Rule.atom ∷ Many Rule.sum_part ∷ []) room room (λ x after. Spelled spelling.sum (spelling.minus negative ts) x after) ts (sum_from negative ts)
unfolding sum_from sum_behind
sum_from_along negative ts = step (atom_along ts) (λ x p. step (sum_parts_along x.1) (λ xs q. done (ap (spelling.minus negative) (p ∙ ap (spelling.atom x.0) q))))

pub sum_along : {room : ℕ} (ts : List Sign) → Along (The Rule.sum ∷ []) room room (Spelled spelling.sum ts) ts (sum ts)
unfolding sum rows first place
sum_along ts =
    test_along (same (k.Mark m.MinusSign) (ahead ts))
    (λ e. alone Rule.sum refl (with_part Rule.minus (sym (sees_one (k.Mark m.MinusSign) (ahead ts)) ∙ e) (alone Rule.minus refl (
    behind m.MinusSign ts (mark_seen m.MinusSign ts e) refl refl (λ i. last (sum_from_along true (past ts)) (λ x after q. i ∙ q))))))
    (λ e. alone Rule.sum refl (without_part Rule.minus (sym (sees_one (k.Mark m.MinusSign) (ahead ts)) ∙ e) (sum_from_along false ts)))

pub index_along : (room : ℕ) (ts : List Sign)
    → Along (g.mark m.OpenBracket ∷ The Rule.sum ∷ g.mark m.CloseBracket ∷ []) room room (λ x after. ts ≡ Mark m.OpenBracket ∷ spelling.sum x (Mark m.CloseBracket ∷ after)) ts (index room ts)
unfolding index
index_along room ts =
    skip (open_along m.OpenBracket room ts (λ left. refl)) (λ r q.
    step (sum_along r) (λ i s.
    skip (close_along m.CloseBracket room i.1 (λ left. refl) q.1) (λ after t.
    done (q.0 ∙ ap (λ us. Mark m.OpenBracket ∷ us) (s ∙ ap (spelling.sum i.0) t)))))

pub cell_along : (room : ℕ) (ts : List Sign) → Along (The Rule.cell ∷ []) room room (Spelled spelling.cell ts) ts (cell room ts)
unfolding cell rows
cell_along room ts =
    alone Rule.cell refl (
    step (name_along ts) (λ n p.
    steps (index_along room n.1) (λ x q.
    done (p ∙ ap (λ us. Name n.0 ∷ us) q))))

val_by_along : {room : ℕ} (x : SignKind) (ts : List Sign) → ahead ts ≡ x → Along (The Rule.val ∷ []) room room (Spelled spelling.val ts) ts (val_by x ts)
unfolding rows first place
val_by_along (k.Mark m.True) ts e = choice Rule.val 1 e refl (word_along m.True ts e refl refl (λ i. i))
val_by_along (k.Mark m.False) ts e = choice Rule.val 2 e refl (word_along m.False ts e refl refl (λ i. i))
val_by_along _ ts e = choice Rule.val 0 e refl (step (sum_along ts) (λ x q. done q))

pub val_along : {room : ℕ} (ts : List Sign) → Along (The Rule.val ∷ []) room room (Spelled spelling.val ts) ts (val ts)
unfolding val
val_along ts = val_by_along (ahead ts) ts refl

pub range_along : (room : ℕ) (ts : List Sign) → Along (The Rule.range ∷ []) room room (Spelled spelling.range ts) ts (range room ts)
unfolding range rows
range_along room ts =
    alone Rule.range refl (
    step (name_along ts) (λ n p.
    skip (open_along m.OpenBracket room n.1 (λ left. refl)) (λ r q.
    step (sum_along r) (λ low s.
    skip (expect_along m.Range low.1 refl) (λ u t.
    step (sum_along u) (λ high v.
    skip (close_along m.CloseBracket room high.1 (λ left. refl) q.1) (λ after w.
    done (p ∙ ap (λ us. Name n.0 ∷ us) (q.0 ∙ ap (λ us. Mark m.OpenBracket ∷ us) (s ∙ ap (spelling.sum low.0)
    (t ∙ ap (λ us. Mark m.Range ∷ us) (v ∙ ap (spelling.sum high.0) w))))))))))))

kind_by_along : {room : ℕ} (x : SignKind) (ts : List Sign) → ahead ts ≡ x
    → Along (The Rule.kind ∷ []) room room (Spelled (λ y. spelling.word (spelling.kind y)) ts) ts (kind_by x ts)
unfolding rows first place
kind_by_along (k.Mark m.I64) ts e = alone Rule.kind refl (word_along m.I64 ts e refl refl (λ i. i))
kind_by_along (k.Mark m.U64) ts e = alone Rule.kind refl (word_along m.U64 ts e refl refl (λ i. i))
kind_by_along (k.Mark m.Bool) ts e = alone Rule.kind refl (word_along m.Bool ts e refl refl (λ i. i))
kind_by_along _ ts e = no_choice Rule.kind e refl

pub kind_along : {room : ℕ} (ts : List Sign) → Along (The Rule.kind ∷ []) room room (Spelled (λ y. spelling.word (spelling.kind y)) ts) ts (kind ts)
unfolding kind
kind_along ts = kind_by_along (ahead ts) ts refl
