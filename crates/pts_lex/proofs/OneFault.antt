-- A text that is all tokens has no fault, and no text has two first faults.
use Rattle.std.proofs.Common.{◌≡◌, ℕ, suc, ◌^◌, ◌≤◌, false, List, [], ◌∷◌, ◌++◌, length, take, drop, drop-cons, get_or, Some, None, Ok, Err, Option, Result, refl, sym, ap, ◌∙◌, arith}
use Rattle.std.proofs.lemmas.Bool.{ne_eqb, le-ltb}
use Rattle.std.proofs.lemmas.List.{length-take, take-append-drop}
use Rattle.pts_lex.specs.declared.token.LexFault.{LexFault}
use Rattle.pts_lex.specs.declared.token.LexFault.TheVariants as faults
use Rattle.pts_lex.specs.declared.token.Token.{Token}
use Rattle.pts_lex.specs.declared.token.TokenKind.{TokenKind}
use Rattle.pts_lex.specs.Lexical.{IsNumeral, IsLexeme, IsSpelling, IsBlank, IsStrayByte, IsGreatNumber, IsLexFault, Cuts, LeadTo, Lexes, IsFirstFault, number_of, hash}
use Rattle.pts_lex.specs.Scanning.{blank_len, lexeme_len, scan, token_of, kind_of}
use Rattle.pts_lex.proofs.Gaps.{IsSolid, gap_before_solid}
use Rattle.pts_lex.proofs.Lexemes.{First, first, found, none}
use Rattle.pts_lex.proofs.Scans.{scan_from, scan_cut, scan_blank, one_cut}
use Rattle.pts_lex.proofs.Spellings.{spelled_kind, numeral_kind}

-- ---- the scanner answers each fault that there is

no_lexeme : (bytes : List ℕ) → First bytes → ((text rest : List ℕ) → bytes ≡ text ++ rest → IsLexeme text → ⊥) → lexeme_len bytes ≡ 0
no_lexeme bytes (found f) h = absurd (h f.text f.rest f.parts f.lexeme)
no_lexeme bytes (none e other) h = e

stray_scan : (bytes : List ℕ) (at : ℕ) → IsStrayByte bytes at → scan bytes ≡ Err (faults.Byte at)
stray_scan bytes at s =
    let b = get_or bytes at 0 in
    let rest = drop (suc at) bytes in
    let behind : drop at bytes ≡ b ∷ rest = drop-cons bytes at 0 s.within in
    let parts : bytes ≡ take at bytes ++ (b ∷ rest) = sym (take-append-drop at bytes) ∙ ap (λ (t : List ℕ). take at bytes ++ t) behind in
    let solid : IsSolid b = record { not_white = s.not_white; not_hash = ne_eqb b hash s.not_hash } in
    let gap : blank_len false bytes ≡ length (take at bytes) = ap (blank_len false) parts ∙ gap_before_solid s.blank b rest solid in
    let len : blank_len false bytes ≡ at = omega (arith, gap, length-take at bytes, s.within) in
    let short : lexeme_len (b ∷ rest) ≡ 0 = no_lexeme (b ∷ rest) (first b rest) (λ text after e. s.none text after (behind ∙ e)) in
    scan_from bytes at len ∙ rw (behind, short) refl

great_kind : (text : List ℕ) → IsNumeral text → 2 ^ 64 ≤ number_of text → kind_of text ≡ None
great_kind [] i above = absurd i
great_kind (b ∷ bs) i above = numeral_kind b bs i ∙ rw (le-ltb (number_of (b ∷ bs)) (2 ^ 64) above) refl

great_scan : (bytes : List ℕ) (at : ℕ) → IsGreatNumber bytes at → scan bytes ≡ Err (faults.Number at)
great_scan bytes at g =
    let len : length (take at bytes) ≡ at = omega (arith, length-take at bytes, g.within) in
    scan_cut bytes (take at bytes) g.text g.rest g.cuts ∙ rw (great_kind g.text g.numeral g.above, len) refl

fault_scan : (bytes : List ℕ) (fault : LexFault) → IsLexFault bytes fault → scan bytes ≡ Err fault
fault_scan bytes (faults.Byte at) f = stray_scan bytes at f
fault_scan bytes (faults.Number at) f = great_scan bytes at f
fault_scan bytes faults.NoMemory f = absurd f

-- ---- tokens end at one place

-- no token begins the text
record IsEnd (bytes : List ℕ) : Type 0 where
  none : (t : Token) → scan bytes ≡ Ok (Some t) → ⊥

blank_end : (bytes : List ℕ) → IsBlank bytes → IsEnd bytes
blank_end bytes b = record { none = λ t e. let clash : Ok None ≡ Ok (Some t) = sym (scan_blank bytes b) ∙ e in cc }

fault_end : (bytes : List ℕ) (fault : LexFault) → IsLexFault bytes fault → IsEnd bytes
fault_end bytes fault f = record { none = λ t e. let clash : Err fault ≡ Ok (Some t) = sym (fault_scan bytes fault f) ∙ e in cc }

-- a token that a cut gives
no_cut : (bytes gap text rest : List ℕ) (k : TokenKind) → IsEnd bytes → Cuts bytes gap text rest → IsSpelling k text → ⊥
no_cut bytes gap text rest k stop c spells = stop.none _ (scan_cut bytes gap text rest c ∙ ap (token_of (length gap) (length text)) (spelled_kind k text spells))

-- the place and the rest
record SameEnd (end end2 : ℕ) (rest rest2 : List ℕ) : Type 0 where
  place : end ≡ end2
  left : rest ≡ rest2

same_end : (at : ℕ) (bytes : List ℕ) (ts us : List Token) (end end2 : ℕ) (rest rest2 : List ℕ)
    → LeadTo at bytes ts end rest → IsEnd rest → LeadTo at bytes us end2 rest2 → IsEnd rest2 → SameEnd end end2 rest rest2
same_end at bytes [] [] end end2 rest rest2 (same, here) b (same2, here2) d = record { place = same ∙ sym same2; left = here ∙ sym here2 }
same_end at bytes [] (u ∷ us) end end2 rest rest2 (same, here) b (gap, text, after, cuts, spells, start, stop, more) d =
    absurd (no_cut bytes gap text after u.kind (rw (← here) b) cuts spells)
same_end at bytes (t ∷ ts) [] end end2 rest rest2 (gap, text, after, cuts, spells, start, stop, more) b (same, here) d =
    absurd (no_cut bytes gap text after t.kind (rw (← here) d) cuts spells)
same_end at bytes (t ∷ ts) (u ∷ us) end end2 rest rest2 (gap, text, after, cuts, spells, start, stop, more) b (gap2, text2, after2, cuts2, spells2, start2, stop2, more2) d =
    let s = one_cut bytes gap text after gap2 text2 after2 cuts cuts2 in
    let stops : t.end ≡ u.end = omega (arith, stop, stop2, start, start2, s.gap_len, ap length s.same_text) in
    let again : LeadTo t.end after us end2 rest2 = rw (stops, ← s.same_rest) more2 in
    same_end t.end after ts us end end2 rest rest2 more b again d

-- bytes that are all tokens have no first fault
pub no_fault : (bytes : List ℕ) (tokens : List Token) (fault : LexFault) → Lexes bytes tokens → IsFirstFault bytes fault → ⊥
no_fault bytes tokens fault (end, rest, leads, blank) f =
    let s = same_end 0 bytes tokens f.tokens end f.end rest f.rest leads (blank_end rest blank) f.leads (fault_end f.rest f.inner f.is_fault) in
    let clash : Ok None ≡ Err f.inner = sym (scan_blank rest blank) ∙ ap scan s.left ∙ fault_scan f.rest f.inner f.is_fault in
    cc

inner_fault : (f g : LexFault) → ◌≡◌ {A = Result (Option Token) LexFault} (Err f) (Err g) → f ≡ g
inner_fault f g e = cc

-- two first faults are one
pub one_fault : (bytes : List ℕ) (fault other : LexFault) → IsFirstFault bytes fault → IsFirstFault bytes other → fault ≡ other
one_fault bytes fault other f g =
    let s = same_end 0 bytes f.tokens g.tokens f.end g.end f.rest g.rest f.leads (fault_end f.rest f.inner f.is_fault) g.leads (fault_end g.rest g.inner g.is_fault) in
    let same : f.inner ≡ g.inner = inner_fault f.inner g.inner (sym (fault_scan f.rest f.inner f.is_fault) ∙ ap scan s.left ∙ fault_scan g.rest g.inner g.is_fault) in
    f.fault_is ∙ rw (same, s.place) (sym g.fault_is)
