-- Scripts: what is read of all signs is the script that they spell, or the fault is right.
use Rattle.std.proofs.Common.{◌≡◌, ℕ, Bool, true, false, if◌then◌else◌, List, [], ◌∷◌, Result, Ok, Err, refl, sym, subst, ◌∙◌, ap}
use Rattle.std.specs.List.{list_all}
use Rattle.pts_tree.specs.declared.mark.Mark.TheVariants as m
use Rattle.pts_tree.specs.declared.sign.SignKind.TheVariants as k
use Rattle.pts_tree.specs.declared.script.Item.{Item}
use Rattle.pts_tree.specs.Signs.{Sign, Mark, Number}
use Rattle.pts_tree.specs.Spelling.{Text, each}
use Rattle.pts_tree.specs.Scripts as scripts
use Rattle.pts_tree.specs.Scripts.{item_allowed, Spells}
use Rattle.pts_tree.specs.Grammar as g
use Rattle.pts_tree.specs.Grammar.{Rule, Row, The, rows, same}
use Rattle.pts_parse.specs.declared.reader.Stop.{Stop}
use Rattle.pts_parse.specs.Reading.{Read, and_then, ahead, past, unexpected, expect}
use Rattle.pts_parse.specs.ScriptReading.{item_list, version, header, finish, script}
use Rattle.pts_parse.proofs.KindFacts.{one_kind}
use Rattle.pts_parse.proofs.Passes.{wrong_sign, Passes, Along, Skips, skips, stuck, skips_unexpected, skip_all, skips_both, last}
use Rattle.pts_parse.proofs.Choices.{alone, sees_one}
use Rattle.pts_parse.proofs.SingleSigns.{one_ahead, passes_sign, expect_along}
use Rattle.pts_parse.proofs.Endings.{Whole, whole_along}
use Rattle.pts_parse.proofs.CallsAlong.{Allowed}
use Rattle.pts_parse.proofs.ItemsAlong.{item_list_along}

-- the number 1
version_along : {room : ℕ} (ts : List Sign) → Skips (g.number_one ∷ []) room room (λ after. ts ≡ Number 1 ∷ after) ts (version ts)
unfolding version
version_along {room = room} ts = by (same k.One (ahead ts)) refl
  where
    by : (s : Bool) → same k.One (ahead ts) ≡ s → Skips (g.number_one ∷ []) room room (λ after. ts ≡ Number 1 ∷ after) ts (if s then Ok (past ts) else unexpected ts)
    by true e =
        let i = one_ahead ts (sym (one_kind k.One (ahead ts) e)) in
        skips (past ts) i (subst (λ us. Passes (g.number_one ∷ []) room us room (past ts)) (sym i) (passes_sign (k.One ∷ []) (Number 1) (past ts) refl refl))
    by false e = skips_unexpected (λ more. wrong_sign (sym (sees_one k.One (ahead ts)) ∙ e))

skips_last : {room room' : ℕ} {row : Row} {QA Q : List Sign → Type 0} {before : List Sign} {o : Result (List Sign) Stop}
    → Skips row room room' QA before o → ((after : List Sign) → QA after → Q after) → Skips row room room' Q before o
skips_last (skips after q p) go = skips after (go after q) p
skips_last (stuck e f) go = stuck e f

-- the last sign of the header, behind the others
semicolon_along : {room : ℕ} (ts r s : List Sign) → ts ≡ Mark m.Pts ∷ r → r ≡ Number 1 ∷ s
    → Skips (g.mark m.Semicolon ∷ []) room room (λ after. ts ≡ scripts.header 1 after) s (expect m.Semicolon s)
semicolon_along ts r s p q =
    skips_last (expect_along m.Semicolon s refl) (λ after t. p ∙ ap (λ us. Mark m.Pts ∷ us) (q ∙ ap (λ us. Number 1 ∷ us) t))

header_along : {room : ℕ} (ts : List Sign)
    → Skips (g.mark m.Pts ∷ g.number_one ∷ g.mark m.Semicolon ∷ []) room room (λ after. ts ≡ scripts.header 1 after) ts (header ts)
unfolding header
header_along ts =
    skips_both (expect_along m.Pts ts refl) (λ r p.
    skips_both (version_along r) (λ s q.
    semicolon_along ts r s p q))

-- the header and the items, before what sees to it that no sign is left
header_and_items : ℕ → List Sign → Read (List Item)
header_and_items room ts = and_then (header ts) (λ r. item_list room r)

-- what spells a script with these items
abbrev items_text : List Item → Text
items_text xs tail = scripts.header 1 (each scripts.item xs tail)

items_along : (room : ℕ) (ts : List Sign) → Along (The Rule.script ∷ []) room room (Allowed items_text (list_all item_allowed) ts) ts (header_and_items room ts)
unfolding header_and_items rows
items_along room ts =
    alone Rule.script refl (skip_all (header_along ts) (λ r p. last (item_list_along room r) (λ xs after q. record { text = p ∙ ap (scripts.header 1) q.text; allowed = q.allowed })))

-- what is read behind two steps
regrouped : {A B : Type 0} (o : Result (List Sign) Stop) (f : List Sign → Read A) (h : A × List Sign → Result B Stop) → and_then o (λ r. and_then (f r) h) ≡ and_then (and_then o f) h
unfolding and_then
regrouped (Ok r) f h = refl
regrouped (Err e) f h = refl

-- the end is looked at behind the header and the items
end_behind : (room : ℕ) (ts : List Sign) → script room ts ≡ and_then (header_and_items room ts) (λ xs. finish xs.0 xs.1)
unfolding script header_and_items
end_behind room ts = regrouped (header ts) (λ r. item_list room r) (λ xs. finish xs.0 xs.1)

pub script_along : (room : ℕ) (ts : List Sign) → Whole (The Rule.script ∷ []) room (λ x. Spells ts x) ts (script room ts)
unfolding finish
script_along room ts =
    rw (end_behind room ts) (whole_along (λ xs. finish xs.0 xs.1) (λ xs. record { version = 1; items = xs }) (λ xs. refl) (λ xs t after. refl) (items_along room ts)
    (λ xs q. record { text = q.text; allowed = q.allowed }))
