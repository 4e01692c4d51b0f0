-- The canonical bytes of a script are those of its signs, with one white byte behind each.
use Rattle.std.proofs.Common.{◌≡◌, ℕ, true, List, [], ◌∷◌, ◌++◌, refl, sym, ap, subst, ◌∙◌, append_assoc}
use Rattle.std.specs.Prelude.{flat_map}
use Rattle.std.proofs.lemmas.Bool.{false≢true}
use Rattle.pts_lex.specs.Lexical.{is_white}
use Rattle.pts_tree.specs.declared.mark.Mark.TheVariants as m
use Rattle.pts_tree.specs.declared.script.Item.{Item}
use Rattle.pts_tree.specs.declared.script.Script.{Script}
use Rattle.pts_tree.specs.Signs.{Sign, Mark, Number}
use Rattle.pts_tree.specs.Spelling.{each, is_filled}
use Rattle.pts_tree.specs.Scripts.{item, script}
use Rattle.pts_print.specs.Canonical.{sign_bytes, space, line_feed, spaced, line, item_line, canonical}
use Rattle.pts_print.proofs.Lines.{item_filled}
use Rattle.pts_print.proofs.SpelledScripts.{item_front}

-- the bytes of each sign, and one white byte behind it
abbrev pub IsWritten : List Sign → List ℕ → Type 0
IsWritten [] bytes = bytes ≡ []
IsWritten (s ∷ ss) bytes = (b : ℕ) × (rest : List ℕ) × (is_white b ≡ true) × (bytes ≡ sign_bytes s ++ b ∷ rest) × IsWritten ss rest

-- a line of at least one sign, and then what is written for others
line_written : (t : Sign) (ts ss : List Sign) (bytes : List ℕ) → IsWritten ss bytes → IsWritten (t ∷ ts ++ ss) (line (t ∷ ts) ++ bytes)
line_written t [] ss bytes w = (line_feed, bytes, refl, append_assoc (sign_bytes t) (line_feed ∷ []) bytes, w)
line_written t (u ∷ ts) ss bytes w =
    let joined : line (t ∷ u ∷ ts) ++ bytes ≡ sign_bytes t ++ space ∷ (line (u ∷ ts) ++ bytes) =
    ap (λ bs. bs ++ bytes) (append_assoc (sign_bytes t) (space ∷ spaced (u ∷ ts)) (line_feed ∷ []))
    ∙ append_assoc (sign_bytes t) (space ∷ line (u ∷ ts)) bytes in
    (space, line (u ∷ ts) ++ bytes, refl, joined, line_written u ts ss bytes w)

filled_written : (ts ss : List Sign) (bytes : List ℕ) → is_filled ts ≡ true → IsWritten ss bytes → IsWritten (ts ++ ss) (line ts ++ bytes)
filled_written [] ss bytes some w = absurd (false≢true some)
filled_written (t ∷ ts) ss bytes some w = line_written t ts ss bytes w

items_written : (xs : List Item) → IsWritten (each item xs []) (flat_map item_line xs)
items_written [] = refl
items_written (x ∷ xs) =
    let split : item x (each item xs []) ≡ item x [] ++ each item xs [] = (item_front x).stands [] (each item xs []) in
    subst (λ ts. IsWritten ts (flat_map item_line (x ∷ xs))) (sym split) (filled_written (item x []) (each item xs []) (flat_map item_line xs) (item_filled x) (items_written xs))

-- the header and a line for each item
pub canonical_written : (x : Script) → IsWritten (script x []) (canonical x)
canonical_written x = line_written (Mark m.Pts) (Number x.version ∷ Mark m.Semicolon ∷ []) (each item x.items []) (flat_map item_line x.items) (items_written x.items)
