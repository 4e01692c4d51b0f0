-- What is read can be written, and a script has no more items than tokens.
use Rattle.std.proofs.Common.{◌≡◌, ℕ, ◌+◌, ◌<◌, ◌≤◌, ◌^◌, List, [], ◌∷◌, None, length, All, ap, sym, subst, length-append, ◌∙◌, arith}
use Rattle.std.specs.List.{slice_range}
use Rattle.std.proofs.lemmas.List.Elements.{All-head, All-tail}
use Rattle.pts_lex.specs.declared.token.Token.{Token}
use Rattle.pts_lex.specs.Lexical.{IsSpelling}
use Rattle.pts_tree.specs.declared.script.Item.{Item}
use Rattle.pts_tree.specs.declared.script.Item.TheVariants as items
use Rattle.pts_tree.specs.declared.script.Script.{Script}
use Rattle.pts_tree.specs.Signs.{Sign, Mark, Name, Number}
use Rattle.pts_tree.specs.Spelling.{Text, each}
use Rattle.pts_tree.specs.Scripts.{item, script}
use Rattle.pts_tree.proofs.Tasks.{block_text}
use Rattle.pts_parse.specs.Brackets.{beyond, bracket_limit}
use Rattle.pts_print.proofs.SpelledScripts.{item_front}
use Rattle.pts_syntax.specs.Syntax.{Says, AllSay, AreSayable, IsParsed, IsSayable, IsSpelled, IsWritable}
use Rattle.pts_syntax.specs.TokenTexts.{IsTokenOf}
use Rattle.pts_syntax.proofs.TokenPlaces.{tokens_lie}

-- what a token says is a sign that some token says
sayable : (bytes : List ℕ) (t : Token) (s : Sign) → IsTokenOf bytes t → Says bytes t s → IsSayable s
sayable bytes t (Mark n) h said = tt
sayable bytes t (Name text) h said = subst (λ kind. IsSpelling kind text) said.0 (subst (IsSpelling t.kind) said.1 h.spells)
sayable bytes t (Number n) h said = (subst (λ kind. IsSpelling kind (slice_range bytes t.start t.end)) said h.spells).2

all_sayable : (bytes : List ℕ) (ts : List Token) (ss : List Sign) → All (IsTokenOf bytes) ts → AllSay bytes ts ss → AreSayable ss
all_sayable bytes [] [] h said = tt
all_sayable bytes (t ∷ ts) (s ∷ ss) h said =
    (sayable bytes t s (All-head (IsTokenOf bytes) t ts h) said.0, all_sayable bytes ts ss (All-tail (IsTokenOf bytes) t ts h) said.1)
all_sayable bytes [] (s ∷ ss) h said = absurd said
all_sayable bytes (t ∷ ts) [] h said = absurd said

pub writable : (bytes : List ℕ) (x : Script) → IsParsed bytes x → IsWritable x
writable bytes x parsed =
    let spelled : parsed.signs ≡ script x [] = parsed.read.spells.text in
    record {
      allowed = parsed.read.spells.allowed;
      sayable = subst AreSayable spelled (all_sayable bytes parsed.tokens parsed.signs (tokens_lie bytes parsed.tokens parsed.text.lexes) parsed.text.says);
      brackets = subst (λ ss. beyond bracket_limit ss ≡ None) spelled parsed.read.brackets;
    }

-- ---- items and signs

starts : (x : Item) → 1 ≤ length (item x [])
starts (items.Const x) = omega arith
starts (items.Array x) = omega arith
starts (items.Function x) = omega arith
starts (items.Call x) = omega arith
starts (items.Loop x) = omega arith
starts (items.Block x) = subst (λ (spelled : Text). 1 ≤ length (spelled [])) (sym (block_text x)) (omega arith)
starts (items.Print text) = omega arith

items_and_signs : (xs : List Item) (tail : List Sign) → length xs ≤ length (each item xs tail)
items_and_signs [] tail = omega arith
items_and_signs (x ∷ xs) tail =
    let rest = each item xs tail in
    let more : length xs ≤ length rest = items_and_signs xs tail in
    let size : length (item x rest) ≡ length (item x []) + length rest = ap length ((item_front x).stands [] rest) ∙ length-append (item x []) rest in
    omega (arith, more, starts x, size)

-- a script that is spelled has fewer than 2^32 items
pub few_items : (x : Script) → IsSpelled x → length x.items < 2 ^ 32
few_items x h = let items : length x.items ≤ length (each item x.items []) = items_and_signs x.items [] in let few = h.few in omega (arith, items, few)
