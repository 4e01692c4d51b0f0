-- What is read of all signs: the script that they spell, and where they spell none the first sign that does not go on.
use Rattle.std.proofs.Common.{◌≡◌, ◌↔◌, ◌⊎◌, inl, inr, ℕ, zero, suc, ◌≤◌, List, [], ◌∷◌, length, Option, Some, None, Result, Ok, Err, refl, sym, ◌∙◌, subst, arith}
use Rattle.pts_tree.specs.declared.mark.Mark.TheVariants as m
use Rattle.pts_tree.specs.declared.sign.SignKind.{SignKind}
use Rattle.pts_tree.specs.declared.sign.SignKind.TheVariants as k
use Rattle.pts_tree.specs.declared.script.Script.{Script}
use Rattle.pts_tree.specs.Signs.{Sign, kind_of}
use Rattle.pts_tree.specs.Grammar.{Rule, The, IsPhrase}
use Rattle.pts_tree.specs.Scripts.{Spells}
use Rattle.pts_parse.specs.declared.reader.Stop.{Stop}
use Rattle.pts_parse.specs.declared.reader.Stop.TheVariants as stops
use Rattle.pts_parse.specs.Brackets.{room_behind, beyond, bracket_limit}
use Rattle.pts_parse.specs.Promise.{IsRead, IsUnexpected, IsNesting}
use Rattle.pts_parse.specs.ScriptReading.{script}
use Rattle.pts_parse.proofs.Lookahead.{wrong_at}
use Rattle.pts_parse.proofs.Endings.{Fault, wrong_here, bracket_here, Whole, reads_all, faulty, unexpected_is, nesting_is}
use Rattle.pts_parse.proofs.ScriptsAlong.{script_along}
use Rattle.pts_parse.proofs.ScriptsAgain.{script_again}

-- ---- room for every bracket

-- each sign takes room for one bracket at most
data Leaves (room : ℕ) : Option ℕ → Type 0 where
  leaves : (left : ℕ) → room ≤ suc left → Leaves room (Some left)

behind_one : (x : SignKind) (room : ℕ) → Leaves (suc room) (room_behind x (suc room))
behind_one (k.Mark m.OpenParen) room = leaves room (omega arith)
behind_one (k.Mark m.OpenBracket) room = leaves room (omega arith)
behind_one (k.Mark m.OpenBrace) room = leaves room (omega arith)
behind_one (k.Mark m.CloseParen) room = leaves (suc (suc room)) (omega arith)
behind_one (k.Mark m.CloseBracket) room = leaves (suc (suc room)) (omega arith)
behind_one (k.Mark m.CloseBrace) room = leaves (suc (suc room)) (omega arith)
behind_one _ room = leaves (suc room) (omega arith)

-- where the next sign leaves this room, behind it none is too many
abbrev behind : Sign → List Sign → Option ℕ → Option ℕ
behind t ts o = elim o [ None ↦ Some (suc (length ts)) | Some left ↦ beyond left ts ]

roomy_behind : (t : Sign) (ts : List Sign) (room : ℕ) → suc (length ts) ≤ room → ((left : ℕ) → length ts ≤ left → beyond left ts ≡ None) → (o : Option ℕ) → Leaves room o → behind t ts o ≡ None
roomy_behind t ts room h go _ (leaves left l) = go left (omega arith)

-- with room for as many brackets as there are signs none is too many
roomy : (ts : List Sign) (room : ℕ) → length ts ≤ room → beyond room ts ≡ None
roomy [] room h = refl
roomy (t ∷ ts) zero h = absurd (omega arith)
roomy (t ∷ ts) (suc room) h = roomy_behind t ts (suc room) h (λ left l. roomy ts left l) (room_behind (kind_of t) (suc room)) (behind_one (kind_of t) room)

-- ---- what the whole reading says

-- all signs as a script, where there is room for every bracket
read_all : List Sign → Result Script Stop
read_all ts = script (length ts) ts

-- what was read for certain
whole_of : (room : ℕ) (ts : List Sign) (o : Result Script Stop) → Whole (The Rule.script ∷ []) room (λ x. Spells ts x) ts o → (x : Script) → o ≡ Ok x → Spells ts x × IsPhrase (The Rule.script) ts × (beyond room ts ≡ None)
whole_of room ts _ (reads_all y q mt b) x e = let i : y ≡ x = cc in (subst (λ z. Spells ts z) i q, mt, b)
whole_of room ts _ (faulty f g) x e = absurd (cc)

fault_of : (room : ℕ) (ts : List Sign) (o : Result Script Stop) → Whole (The Rule.script ∷ []) room (λ x. Spells ts x) ts o → (f : Stop) → o ≡ Err f → Fault (The Rule.script ∷ []) room ts f
fault_of room ts _ (reads_all y q mt b) f e = absurd (cc)
fault_of room ts _ (faulty g h) f e = let i : g ≡ f = cc in subst (λ z. Fault (The Rule.script ∷ []) room ts z) i h

no_nesting : (ts : List Sign) (f : Stop) → Fault (The Rule.script ∷ []) (length ts) ts f → (left : ℕ) → f ≡ stops.Nesting left → ⊥
no_nesting ts _ (wrong_here at s b) left e = absurd (cc)
no_nesting ts _ (bracket_here at s b) left e = let none : Some at ≡ None = sym b ∙ roomy ts (length ts) (omega arith) in absurd (cc)

-- what is spelled is read, where there is room for every bracket
pub spelled_read : (ts : List Sign) (x : Script) → Spells ts x → script (length ts) ts ≡ Ok x
spelled_read ts x h = by (script_again (length ts) ts x h)
  where
    by : (script (length ts) ts ≡ Ok x) ⊎ ((left : ℕ) × (script (length ts) ts ≡ Err (stops.Nesting left))) → script (length ts) ts ≡ Ok x
    by (inl e) = e
    by (inr n) = absurd (no_nesting ts (stops.Nesting n.0) (fault_of (length ts) ts (script (length ts) ts) (script_along (length ts) ts) (stops.Nesting n.0) n.1) n.0 refl)

pub one_reading : (ts : List Sign) (x y : Script) → Spells ts x → Spells ts y → x ≡ y
one_reading ts x y h i =
    let e : Ok x ≡ Ok y = sym (spelled_read ts x h) ∙ spelled_read ts y i in cc

pub spelled_phrase : (ts : List Sign) (x : Script) → Spells ts x → IsPhrase (The Rule.script) ts
spelled_phrase ts x h = (whole_of (length ts) ts (script (length ts) ts) (script_along (length ts) ts) x (spelled_read ts x h)).1

phrase_by : (ts : List Sign) (o : Result Script Stop) → Whole (The Rule.script ∷ []) (length ts) (λ x. Spells ts x) ts o → IsPhrase (The Rule.script) ts → (x : Script) × Spells ts x
phrase_by ts _ (reads_all x q mt b) p = (x, q)
phrase_by ts _ (faulty _ (wrong_here left s b)) p = absurd ((wrong_at ts left s).no_phrase p)
phrase_by ts _ (faulty _ (bracket_here left s b)) p = let none : Some left ≡ None = sym b ∙ roomy ts (length ts) (omega arith) in absurd (cc)

pub phrase_spelled : (ts : List Sign) → IsPhrase (The Rule.script) ts → (x : Script) × Spells ts x
phrase_spelled ts p = phrase_by ts (script (length ts) ts) (script_along (length ts) ts) p

pub phrases_are_spelled : (ts : List Sign) → IsPhrase (The Rule.script) ts ↔ ((x : Script) × Spells ts x)
phrases_are_spelled ts = (phrase_spelled ts, λ h. spelled_phrase ts h.0 h.1)

-- ---- what the parser promises

pub read_is : (ts : List Sign) (x : Script) → script bracket_limit ts ≡ Ok x → IsRead ts x
read_is ts x e =
    let w = whole_of bracket_limit ts (script bracket_limit ts) (script_along bracket_limit ts) x e in
    record { spells = w.0; brackets = w.2 }

pub unexpected_read : (ts : List Sign) (left : ℕ) → script bracket_limit ts ≡ Err (stops.Unexpected left) → IsUnexpected ts left
unexpected_read ts left e =
    unexpected_is ts left (fault_of bracket_limit ts (script bracket_limit ts) (script_along bracket_limit ts) (stops.Unexpected left) e) (λ x h. spelled_phrase ts x h)

pub nesting_read : (ts : List Sign) (left : ℕ) → script bracket_limit ts ≡ Err (stops.Nesting left) → IsNesting ts left
nesting_read ts left e = nesting_is ts left (fault_of bracket_limit ts (script bracket_limit ts) (script_along bracket_limit ts) (stops.Nesting left) e)
