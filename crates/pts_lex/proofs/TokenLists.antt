-- Tokens one after another: a list goes on by the next, and a text has at most one.
use Rattle.std.proofs.Common.{◌≡◌, ℕ, ◌+◌, ◌-◌, ◌^◌, ◌<◌, ◌≤◌, List, [], ◌∷◌, ◌++◌, length, take, drop, Some, None, Ok, refl, sym, ap, ◌∙◌, arith, length-drop}
use Rattle.std.specs.List.{slice_range}
use Rattle.std.proofs.lemmas.List.{drop-drop, length-take}
use Rattle.pts_lex.specs.declared.token.LexFault.{LexFault}
use Rattle.pts_lex.specs.declared.token.LexFault.TheVariants as faults
use Rattle.pts_lex.specs.declared.token.Token.{Token}
use Rattle.pts_lex.specs.declared.token.TokenKind.{TokenKind}
use Rattle.pts_lex.specs.Lexical.{IsSpelling, IsBlank, IsFirstToken, IsLexFault, Cuts, LeadTo, Lexes, Explains, moved_fault, FitsBehind}
use Rattle.pts_lex.specs.Scanning.{scan, token_of}
use Rattle.pts_lex.proofs.Lexemes.{no_empty_lexeme}
use Rattle.pts_lex.proofs.Scans.{scan_cut, scan_blank, one_cut}
use Rattle.pts_lex.proofs.Spellings.{spelled_kind}

-- a token of a text that begins at `at`
abbrev pub moved : ℕ → Token → Token
moved at t = record { kind = t.kind; start = at + t.start; end = at + t.end }

-- ---- one token more

first_leads : (at : ℕ) (bytes : List ℕ) (t : Token) → IsFirstToken bytes t → LeadTo at bytes (moved at t ∷ []) (at + t.end) (drop t.end bytes)
first_leads at bytes t f =
    let start_is : length (take t.start bytes) ≡ t.start = omega (arith, length-take t.start bytes, f.ordered, f.within) in
    let text_is : length (slice_range bytes t.start t.end) ≡ t.end - t.start = omega (arith, length-take (t.end - t.start) (drop t.start bytes), length-drop t.start bytes, f.ordered, f.within) in
    (take t.start bytes, slice_range bytes t.start t.end, drop t.end bytes, f.cuts, f.spells, ap (λ (n : ℕ). at + n) (sym start_is), omega (arith, text_is, f.ordered), (refl, refl))

pub leads_on : (at : ℕ) (bytes : List ℕ) (ts : List Token) (end : ℕ) (rest : List ℕ) (t : Token) → LeadTo at bytes ts end rest → IsFirstToken rest t
    → LeadTo at bytes (ts ++ moved end t ∷ []) (end + t.end) (drop t.end rest)
leads_on at bytes [] end rest t (same, here) f = rw (same, here) (first_leads at bytes t (rw (← here) f))
leads_on at bytes (u ∷ ts) end rest t (gap, text, after, cuts, spells, start, stop, more) f =
    (gap, text, after, cuts, spells, start, stop, leads_on u.end after ts end rest t more f)

-- a token is not empty
pub some_text : (bytes : List ℕ) (t : Token) → IsFirstToken bytes t → 0 < t.end
some_text bytes t f = by_text (slice_range bytes t.start t.end) refl
  where
    by_text : (text : List ℕ) → slice_range bytes t.start t.end ≡ text → 0 < t.end
    by_text [] e = absurd (no_empty_lexeme (rw e at f.cuts.lexeme))
    by_text (b ∷ bs) e = omega (arith, ap length e, length-take (t.end - t.start) (drop t.start bytes))

-- ---- the loop

pub record IsRead (bytes : List ℕ) (found : List Token) (at : ℕ) : Type 0 where
  pub within : at ≤ length bytes
  pub leads : LeadTo 0 bytes found at (drop at bytes)

pub nothing_read : (bytes : List ℕ) → IsRead bytes [] 0
nothing_read bytes = record { within = omega arith; leads = (refl, refl) }

pub token_read : (bytes : List ℕ) (found : List Token) (at : ℕ) (t : Token) → IsRead bytes found at → IsFirstToken (drop at bytes) t → IsRead bytes (found ++ moved at t ∷ []) (at + t.end)
token_read bytes found at t r f = record {
  within = omega (arith, f.within, length-drop at bytes, r.within);
  leads = rw (← drop-drop) (leads_on 0 bytes found at (drop at bytes) t r.leads f);
}

pub all_read : (bytes : List ℕ) (found : List Token) (at : ℕ) → IsRead bytes found at → IsBlank (drop at bytes) → Lexes bytes found
all_read bytes found at r blank = (at, drop at bytes, r.leads, blank)

pub fault_read : (bytes : List ℕ) (found : List Token) (at : ℕ) (fault : LexFault) → IsRead bytes found at → IsLexFault (drop at bytes) fault → Explains bytes (moved_fault at fault)
fault_read bytes found at (faults.Byte place) r f = record { tokens = found; end = at; rest = drop at bytes; leads = r.leads; inner = faults.Byte place; is_fault = f; fault_is = refl }
fault_read bytes found at (faults.Number place) r f = record { tokens = found; end = at; rest = drop at bytes; leads = r.leads; inner = faults.Number place; is_fault = f; fault_is = refl }
fault_read bytes found at faults.NoMemory r f = tt

pub fault_fits : (bytes : List ℕ) (found : List Token) (at : ℕ) (fault : LexFault) → length bytes < 2 ^ 64 → IsRead bytes found at → IsLexFault (drop at bytes) fault → FitsBehind at fault
fault_fits bytes found at (faults.Byte place) small r f = omega (arith, f.within, length-drop at bytes, r.within, small)
fault_fits bytes found at (faults.Number place) small r f = omega (arith, f.within, length-drop at bytes, r.within, small)
fault_fits bytes found at faults.NoMemory small r f = tt

pub ruleset reading = (nothing_read, token_read, all_read, fault_read, fault_fits, some_text)

-- ---- one list for each text

blank_or_cut : (bytes gap text rest : List ℕ) (k : TokenKind) → IsBlank bytes → Cuts bytes gap text rest → IsSpelling k text → ⊥
blank_or_cut bytes gap text rest k blank c spells =
    let found : scan bytes ≡ token_of (length gap) (length text) (Some k) = scan_cut bytes gap text rest c ∙ ap (token_of (length gap) (length text)) (spelled_kind k text spells) in
    let none : scan bytes ≡ Ok None = scan_blank bytes blank in
    let clash : token_of (length gap) (length text) (Some k) ≡ Ok None = sym found ∙ none in
    cc

kinds_agree : (j k : TokenKind) (text : List ℕ) → IsSpelling j text → IsSpelling k text → j ≡ k
kinds_agree j k text s t = let e : Some j ≡ Some k = sym (spelled_kind j text s) ∙ spelled_kind k text t in cc

same_token : (t u : Token) → t.kind ≡ u.kind → t.start ≡ u.start → t.end ≡ u.end → t ≡ u
same_token t u kind start end = rw (kind, start, end) refl

same_lists : (at : ℕ) (bytes : List ℕ) (ts us : List Token) (end end2 : ℕ) (rest rest2 : List ℕ) → LeadTo at bytes ts end rest → IsBlank rest → LeadTo at bytes us end2 rest2 → IsBlank rest2 → ts ≡ us
same_lists at bytes [] [] end end2 rest rest2 l b m d = refl
same_lists at bytes [] (u ∷ us) end end2 rest rest2 (same, here) b (gap, text, after, cuts, spells, start, stop, more) d =
    absurd (blank_or_cut bytes gap text after u.kind (rw (← here) b) cuts spells)
same_lists at bytes (t ∷ ts) [] end end2 rest rest2 (gap, text, after, cuts, spells, start, stop, more) b (same, here) d =
    absurd (blank_or_cut bytes gap text after t.kind (rw (← here) d) cuts spells)
same_lists at bytes (t ∷ ts) (u ∷ us) end end2 rest rest2 (gap, text, after, cuts, spells, start, stop, more) b (gap2, text2, after2, cuts2, spells2, start2, stop2, more2) d =
    let s = one_cut bytes gap text after gap2 text2 after2 cuts cuts2 in
    let starts : t.start ≡ u.start = start ∙ rw (← s.gap_len) (sym start2) in
    let stops : t.end ≡ u.end = omega (arith, stop, stop2, starts, ap length s.same_text) in
    let kinds : t.kind ≡ u.kind = kinds_agree t.kind u.kind text spells (rw (← s.same_text) spells2) in
    let again : LeadTo t.end after us end2 rest2 = rw (stops, ← s.same_rest) more2 in
    let others : ts ≡ us = same_lists t.end after ts us end end2 rest rest2 more b again d in
    rw (same_token t u kinds starts stops, others) refl

pub at_most_one : (bytes : List ℕ) (some others : List Token) → Lexes bytes some → Lexes bytes others → some ≡ others
at_most_one bytes some others (end, rest, leads, blank) (end2, rest2, leads2, blank2) = same_lists 0 bytes some others end end2 rest rest2 leads blank leads2 blank2
