-- Bytes have one answer: one script, or one fault.
use Rattle.std.proofs.Common.{◌≡◌, ◌≢◌, ◌⊎◌, inl, inr, false, ℕ, zero, suc, ◌-◌, ◌<◌, ◌≤◌, List, [], ◌∷◌, ◌++◌, length, take, Option, Some, None, IfSome, refl, sym, ap, subst, ◌∙◌, arith}
use Rattle.pts_lex.specs.declared.token.LexFault.TheVariants as lex_faults
use Rattle.pts_lex.proofs.OneFault.{one_fault}
use Rattle.pts_tree.specs.declared.script.Script.{Script}
use Rattle.pts_tree.specs.Signs.{Sign, kind_of}
use Rattle.pts_tree.specs.Grammar.{Rule, The, rows, IsViable}
use Rattle.pts_parse.specs.Brackets.{room_behind, beyond, bracket_limit}
use Rattle.pts_parse.specs.Promise.{IsRead, IsUnexpected, IsNesting}
use Rattle.pts_parse.proofs.Fronts.{front_begins}
use Rattle.pts_parse.proofs.WholeScripts.{one_reading}
use Rattle.pts_syntax.specs.declared.reading.SyntaxFault.{SyntaxFault}
use Rattle.pts_syntax.specs.declared.reading.SyntaxKind.{SyntaxKind}
use Rattle.pts_syntax.specs.declared.reading.SyntaxKind.TheVariants as fault_kinds
use Rattle.pts_syntax.specs.Syntax.{IsParsed, IsUnexpectedAt, IsNestingAt, ExplainsKind, Explains, place_of}
use Rattle.pts_syntax.proofs.OneAnswer.{one_answer, no_fault_in_text}

-- ---- of signs

order : (a b : ℕ) → (a < b) ⊎ ((b < a) ⊎ (a ≡ b))
order zero zero = inr (inr refl)
order zero (suc b) = inl (omega arith)
order (suc a) zero = inr (inl (omega arith))
order (suc a) (suc b) = elim (order a b) [
  | inl h ↦ inl (omega (arith, h))
  | inr other ↦ elim other [ inl h ↦ inr (inl (omega (arith, h))) | inr e ↦ inr (inr (ap suc e)) ]
]

take_front : (ts : List Sign) (low high : ℕ) → low ≤ high → (back : List Sign) × (take high ts ≡ take low ts ++ back)
take_front ts zero high h = (take high ts, refl)
take_front [] (suc low) zero h = absurd (omega arith)
take_front [] (suc low) (suc high) h = ([], refl)
take_front (t ∷ ts) (suc low) zero h = absurd (omega arith)
take_front (t ∷ ts) (suc low) (suc high) h = let f = take_front ts low high (omega arith) in (f.0, ap (λ us. t ∷ us) f.1)

-- fewer signs of a beginning of a script begin one
shorter : (ts : List Sign) (low high : ℕ) → low ≤ high → IsViable (take high ts) → IsViable (take low ts)
shorter ts low high h v =
    let f = take_front ts low high h in
    front_begins rows false (The Rule.script ∷ []) (take low ts) f.0 (subst IsViable f.1 v)

beyond_by : (o : Option ℕ) (t : Sign) (ts : List Sign) (left : ℕ) → ((room : ℕ) → beyond room ts ≡ Some left → 0 < left)
    → elim o [ None ↦ Some (suc (length ts)) | Some room ↦ beyond room ts ] ≡ Some left → 0 < left
beyond_by None t ts left go e = let i : suc (length ts) ≡ left = cc in omega (arith, i)
beyond_by (Some room) t ts left go e = go room e

beyond_positive : (ts : List Sign) (room left : ℕ) → beyond room ts ≡ Some left → 0 < left
beyond_positive [] room left e = absurd (cc)
beyond_positive (t ∷ ts) room left e = beyond_by (room_behind (kind_of t) room) t ts left (λ r i. beyond_positive ts r left i) e

unexpected_before : (ts : List Sign) (one other : ℕ) → IsUnexpected ts one → IsUnexpected ts other → one < other → ⊥
unexpected_before ts one other u v h =
    v.wrong (omega arith) (shorter ts (suc (length ts - other)) (length ts - one) (omega (arith, u.within, v.within)) u.before)

same_unexpected : (ts : List Sign) (one other : ℕ) → IsUnexpected ts one → IsUnexpected ts other → one ≡ other
same_unexpected ts one other u v = elim (order one other) [
  | inl less ↦ absurd (unexpected_before ts one other u v less)
  | inr rest ↦ elim rest [ inl more ↦ absurd (unexpected_before ts other one v u more) | inr e ↦ e ]
]

same_nesting : (ts : List Sign) (one other : ℕ) → IsNesting ts one → IsNesting ts other → one ≡ other
same_nesting ts one other n p = let e : Some one ≡ Some other = sym n.beyond_is ∙ p.beyond_is in cc

not_both : (ts : List Sign) (one other : ℕ) → IsUnexpected ts one → IsNesting ts other → ⊥
not_both ts one other u n =
    let least : other ≤ one = subst (λ o. IfSome o (λ l. l ≤ one)) n.beyond_is u.brackets in
    let some : 0 < other = beyond_positive ts bracket_limit other n.beyond_is in
    u.wrong (omega arith) (shorter ts (suc (length ts - one)) (suc (length ts - other)) (omega (arith, u.within, least)) n.viable)

read_not_nested : (ts : List Sign) (x : Script) (left : ℕ) → IsRead ts x → IsNesting ts left → ⊥
read_not_nested ts x left r n = let e : None ≡ Some left = sym r.brackets ∙ n.beyond_is in absurd (cc)

-- ---- of bytes

pub same_script : (bytes : List ℕ) (one other : Script) → IsParsed bytes one → IsParsed bytes other → one ≡ other
same_script bytes one other p q =
    let same = one_answer bytes p.tokens q.tokens p.signs q.signs p.text q.text in
    one_reading p.signs one other p.read.spells (rw same.signs_agree q.read.spells)

-- bytes that are a script have no fault of this kind
no_kind : (bytes : List ℕ) (x : Script) (at : ℕ) (kind : SyntaxKind) → IsParsed bytes x → ExplainsKind bytes at kind → kind ≡ fault_kinds.NoMemory
no_kind bytes x at fault_kinds.Byte p f = absurd (no_fault_in_text bytes p.tokens p.signs (lex_faults.Byte at) p.text f)
no_kind bytes x at fault_kinds.Number p f = absurd (no_fault_in_text bytes p.tokens p.signs (lex_faults.Number at) p.text f)
no_kind bytes x at fault_kinds.Unexpected p f =
    let same = one_answer bytes p.tokens f.tokens p.signs f.signs p.text f.text in
    absurd (f.fault.no_script x (rw (← same.signs_agree) p.read.spells))
no_kind bytes x at fault_kinds.Nesting p f =
    let same = one_answer bytes p.tokens f.tokens p.signs f.signs p.text f.text in
    absurd (read_not_nested f.signs x f.left (rw (← same.signs_agree) p.read) f.fault)
no_kind bytes x at fault_kinds.NoMemory p f = refl

pub no_fault_of_a_script : (bytes : List ℕ) (x : Script) (fault : SyntaxFault) → IsParsed bytes x → Explains bytes fault → fault.kind ≡ fault_kinds.NoMemory
no_fault_of_a_script bytes x fault p f = no_kind bytes x fault.at fault.kind p f

abbrev fault_at : ℕ → SyntaxKind → SyntaxFault
fault_at at kind = record { at = at; kind = kind }

-- a fault by its place and its kind
same_place : (one other : SyntaxFault) → one.at ≡ other.at → one.kind ≡ other.kind → one ≡ other
same_place one other p q = ap (λ at. fault_at at one.kind) p ∙ ap (λ kind. fault_at other.at kind) q

byte_place : (at place : ℕ) → lex_faults.Byte at ≡ lex_faults.Byte place → at ≡ place
byte_place at place e = cc

number_place : (at place : ℕ) → lex_faults.Number at ≡ lex_faults.Number place → at ≡ place
number_place at place e = cc

unexpected_places : (bytes : List ℕ) (at place : ℕ) → IsUnexpectedAt bytes at → IsUnexpectedAt bytes place → at ≡ place
unexpected_places bytes at place f g =
    let same = one_answer bytes f.tokens g.tokens f.signs g.signs f.text g.text in
    let left : f.left ≡ g.left = same_unexpected f.signs f.left g.left f.fault (rw same.signs_agree g.fault) in
    f.place ∙ ap (λ n. place_of bytes f.tokens n) left ∙ ap (λ ts. place_of bytes ts g.left) same.tokens_agree ∙ sym g.place

nesting_places : (bytes : List ℕ) (at place : ℕ) → IsNestingAt bytes at → IsNestingAt bytes place → at ≡ place
nesting_places bytes at place f g =
    let same = one_answer bytes f.tokens g.tokens f.signs g.signs f.text g.text in
    let left : f.left ≡ g.left = same_nesting f.signs f.left g.left f.fault (rw same.signs_agree g.fault) in
    f.place ∙ ap (λ n. place_of bytes f.tokens n) left ∙ ap (λ ts. place_of bytes ts g.left) same.tokens_agree ∙ sym g.place

not_both_places : (bytes : List ℕ) (at place : ℕ) → IsUnexpectedAt bytes at → IsNestingAt bytes place → ⊥
not_both_places bytes at place f g =
    let same = one_answer bytes f.tokens g.tokens f.signs g.signs f.text g.text in
    not_both f.signs f.left g.left f.fault (rw same.signs_agree g.fault)

by_kinds : (bytes : List ℕ) (at place : ℕ) (kind other : SyntaxKind) → ExplainsKind bytes at kind → ExplainsKind bytes place other
    → kind ≢ fault_kinds.NoMemory → other ≢ fault_kinds.NoMemory → (at ≡ place) × (kind ≡ other)
by_kinds bytes at place fault_kinds.NoMemory other f g a b = absurd (a refl)
by_kinds bytes at place fault_kinds.Byte fault_kinds.NoMemory f g a b = absurd (b refl)
by_kinds bytes at place fault_kinds.Byte fault_kinds.Byte f g a b = (byte_place at place (one_fault bytes (lex_faults.Byte at) (lex_faults.Byte place) f g), refl)
by_kinds bytes at place fault_kinds.Byte fault_kinds.Number f g a b = let e = one_fault bytes (lex_faults.Byte at) (lex_faults.Number place) f g in absurd (cc)
by_kinds bytes at place fault_kinds.Byte fault_kinds.Unexpected f g a b = absurd (no_fault_in_text bytes g.tokens g.signs (lex_faults.Byte at) g.text f)
by_kinds bytes at place fault_kinds.Byte fault_kinds.Nesting f g a b = absurd (no_fault_in_text bytes g.tokens g.signs (lex_faults.Byte at) g.text f)
by_kinds bytes at place fault_kinds.Number fault_kinds.NoMemory f g a b = absurd (b refl)
by_kinds bytes at place fault_kinds.Number fault_kinds.Byte f g a b = let e = one_fault bytes (lex_faults.Number at) (lex_faults.Byte place) f g in absurd (cc)
by_kinds bytes at place fault_kinds.Number fault_kinds.Number f g a b = (number_place at place (one_fault bytes (lex_faults.Number at) (lex_faults.Number place) f g), refl)
by_kinds bytes at place fault_kinds.Number fault_kinds.Unexpected f g a b = absurd (no_fault_in_text bytes g.tokens g.signs (lex_faults.Number at) g.text f)
by_kinds bytes at place fault_kinds.Number fault_kinds.Nesting f g a b = absurd (no_fault_in_text bytes g.tokens g.signs (lex_faults.Number at) g.text f)
by_kinds bytes at place fault_kinds.Unexpected fault_kinds.NoMemory f g a b = absurd (b refl)
by_kinds bytes at place fault_kinds.Unexpected fault_kinds.Byte f g a b = absurd (no_fault_in_text bytes f.tokens f.signs (lex_faults.Byte place) f.text g)
by_kinds bytes at place fault_kinds.Unexpected fault_kinds.Number f g a b = absurd (no_fault_in_text bytes f.tokens f.signs (lex_faults.Number place) f.text g)
by_kinds bytes at place fault_kinds.Unexpected fault_kinds.Unexpected f g a b = (unexpected_places bytes at place f g, refl)
by_kinds bytes at place fault_kinds.Unexpected fault_kinds.Nesting f g a b = absurd (not_both_places bytes at place f g)
by_kinds bytes at place fault_kinds.Nesting fault_kinds.NoMemory f g a b = absurd (b refl)
by_kinds bytes at place fault_kinds.Nesting fault_kinds.Byte f g a b = absurd (no_fault_in_text bytes f.tokens f.signs (lex_faults.Byte place) f.text g)
by_kinds bytes at place fault_kinds.Nesting fault_kinds.Number f g a b = absurd (no_fault_in_text bytes f.tokens f.signs (lex_faults.Number place) f.text g)
by_kinds bytes at place fault_kinds.Nesting fault_kinds.Unexpected f g a b = absurd (not_both_places bytes place at g f)
by_kinds bytes at place fault_kinds.Nesting fault_kinds.Nesting f g a b = (nesting_places bytes at place f g, refl)

pub same_fault : (bytes : List ℕ) (one other : SyntaxFault) → Explains bytes one → Explains bytes other → one.kind ≢ fault_kinds.NoMemory → other.kind ≢ fault_kinds.NoMemory → one ≡ other
same_fault bytes one other f g a b =
    let same = by_kinds bytes one.at other.at one.kind other.kind f g a b in
    same_place one other same.0 same.1
