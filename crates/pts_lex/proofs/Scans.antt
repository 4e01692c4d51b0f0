-- The scanner finds the first token of a text, and the fault where there is none.
use Rattle.std.proofs.Common.{◌≡◌, ℕ, suc, ◌+◌, ◌-◌, ◌≤◌, false, eqb, List, [], ◌∷◌, ◌++◌, length, get_or, take, drop, Some, None, Ok, Err, Option, Result, refl, sym, ap, ◌∙◌, arith, append_assoc, length-append}
use Rattle.std.proofs.lemmas.Bool.{ne_eqb, eqb-false}
use Rattle.std.proofs.lemmas.List.{take_at, drop_at, drop_all}
use Rattle.pts_lex.specs.declared.token.LexFault.{LexFault}
use Rattle.pts_lex.specs.declared.token.LexFault.TheVariants as faults
use Rattle.pts_lex.specs.declared.token.Token.{Token}
use Rattle.pts_lex.specs.declared.token.TokenKind.{TokenKind}
use Rattle.std.specs.Prelude.{◌↔◌, IfOk, IfErr, IfSome}
use Rattle.std.specs.List.{slice_range}
use Rattle.pts_lex.specs.Lexical.{IsLexeme, IsSpelling, IsBlank, IsGap, IsFirstToken, IsStrayByte, IsGreatNumber, IsLexFault, Cuts, hash}
use Rattle.pts_lex.specs.Scanning.{blank_len, lexeme_len, kind_of, token_of, scan_at, scan}
use Rattle.pts_lex.proofs.Spellings.{IsTooGreat, kind_spells, too_great}
use Rattle.pts_lex.proofs.Gaps as gaps
use Rattle.pts_lex.proofs.Gaps.{IsSolid, Front, front, gap_before_solid, blank_to_the_end}
use Rattle.pts_lex.proofs.Lexemes as lexemes
use Rattle.pts_lex.proofs.Lexemes.{IsLongest, Found, First, first, lexeme_len_is, lexeme_solid, no_empty_lexeme}

-- ---- what is there is found

abbrev longest_of : (bytes gap text rest : List ℕ) → Cuts bytes gap text rest → IsLongest text rest
longest_of bytes gap text rest c = record { no_longer = c.longest }

pub scan_from : (bytes : List ℕ) (n : ℕ) → blank_len false bytes ≡ n → scan bytes ≡ scan_at n (drop n bytes)
unfolding scan
scan_from bytes n e = ap (λ (k : ℕ). scan_at k (drop k bytes)) e

scan_at_lexeme : (start b : ℕ) (bs rest : List ℕ) → lexeme_len (b ∷ bs ++ rest) ≡ suc (length bs)
    → scan_at start (b ∷ bs ++ rest) ≡ token_of start (suc (length bs)) (kind_of (b ∷ bs))
scan_at_lexeme start b bs rest e =
    let some : eqb (suc (length bs)) 0 ≡ false = ne_eqb (suc (length bs)) 0 (λ none. omega (arith, none)) in
    rw (e, some, take_at (b ∷ bs) rest (suc (length bs)) refl) refl

-- a lexeme behind a gap is what the scanner comes to
pub scan_cut : (bytes gap text rest : List ℕ) → Cuts bytes gap text rest → scan bytes ≡ token_of (length gap) (length text) (kind_of text)
scan_cut bytes gap [] rest c = absurd (no_empty_lexeme c.lexeme)
scan_cut bytes gap (b ∷ bs) rest c =
    let solid = lexeme_solid b bs c.lexeme in
    let len : blank_len false (gap ++ (b ∷ bs ++ rest)) ≡ length gap = gap_before_solid c.blank b (bs ++ rest) solid in
    let whole : lexeme_len (b ∷ bs ++ rest) ≡ suc (length bs) = lexeme_len_is (b ∷ bs) rest c.lexeme (longest_of bytes gap (b ∷ bs) rest c) in
    rw c.parts (scan_from (gap ++ (b ∷ bs ++ rest)) (length gap) len ∙ rw (drop_at gap (b ∷ bs ++ rest) (length gap) refl) (scan_at_lexeme (length gap) b bs rest whole))

-- a blank text has no token
pub scan_blank : (bytes : List ℕ) → IsBlank bytes → scan bytes ≡ Ok None
scan_blank bytes blank = scan_from bytes (length bytes) (blank_to_the_end bytes blank) ∙ rw (drop_all (length bytes) bytes (omega arith)) refl

-- ---- what is found is there

-- no lexeme begins at a byte that is no gap
pub record IsStray (bytes gap : List ℕ) (b : ℕ) (rest : List ℕ) : Type 0 where
  pub parts : bytes ≡ gap ++ b ∷ rest
  pub blank : IsGap gap
  pub is_solid : IsSolid b
  pub none : (text after : List ℕ) → b ∷ rest ≡ text ++ after → IsLexeme text → ⊥

-- what the scanner answers, and why
pub data Scans (bytes : List ℕ) : Type 0 where
  nothing : IsBlank bytes → scan bytes ≡ Ok None → Scans bytes
  cuts : (gap text rest : List ℕ) → Cuts bytes gap text rest → Scans bytes
  stray : (gap : List ℕ) (b : ℕ) (rest : List ℕ) → IsStray bytes gap b rest → scan bytes ≡ Err (faults.Byte (length gap)) → Scans bytes

scans_lexeme : (bytes gap : List ℕ) (b : ℕ) (rest : List ℕ) → bytes ≡ gap ++ b ∷ rest → IsGap gap → IsSolid b → blank_len false bytes ≡ length gap → First (b ∷ rest) → Scans bytes
scans_lexeme bytes gap b rest e g s len (lexemes.found f) =
    cuts gap f.text f.rest (record { parts = e ∙ ap (λ (t : List ℕ). gap ++ t) f.parts; blank = g; lexeme = f.lexeme; longest = f.longest.no_longer })
scans_lexeme bytes gap b rest e g s len (lexemes.none none_len no_lexeme) =
    let behind : drop (length gap) bytes ≡ b ∷ rest = rw e (drop_at gap (b ∷ rest) (length gap) refl) in
    stray gap b rest (record { parts = e; blank = g; is_solid = s; none = no_lexeme }) (scan_from bytes (length gap) len ∙ rw (behind, none_len) refl)

pub scans : (bytes : List ℕ) → Scans bytes
scans bytes =
    elim (front bytes) [
      | gaps.solid gap b rest e g s len ↦ scans_lexeme bytes gap b rest e g s len (first b rest)
      | gaps.ended blank len ↦ nothing blank (scan_blank bytes blank)
    ]

-- ---- the answers of the scanner as facts on the text

-- where the parts of a cut lie
pub record Lies (bytes gap text rest : List ℕ) : Type 0 where
  pub before : take (length gap) bytes ≡ gap
  pub at : drop (length gap) bytes ≡ text ++ rest
  pub is_text : slice_range bytes (length gap) (length gap + length text) ≡ text
  pub behind : drop (length gap + length text) bytes ≡ rest
  pub within : length gap + length text ≤ length bytes

pub lies : (bytes gap text rest : List ℕ) → bytes ≡ gap ++ (text ++ rest) → Lies bytes gap text rest
lies bytes gap text rest e =
    let at : drop (length gap) bytes ≡ text ++ rest = rw e (drop_at gap (text ++ rest) (length gap) refl) in
    let over : (length gap + length text) - length gap ≡ length text = omega arith in
    let joined : bytes ≡ (gap ++ text) ++ rest = e ∙ sym (append_assoc gap text rest) in
    record {
      before = rw e (take_at gap (text ++ rest) (length gap) refl);
      at = at;
      is_text = rw (at, over) (take_at text rest (length text) refl);
      behind = rw joined (drop_at (gap ++ text) rest (length gap + length text) (length-append gap text));
      within = omega (arith, ap length joined, length-append (gap ++ text) rest, length-append gap text);
    }

token_fits : (bytes gap text rest : List ℕ) (k : TokenKind) → Cuts bytes gap text rest → IsSpelling k text
    → IsFirstToken bytes (record { kind = k; start = length gap; end = length gap + length text })
token_fits bytes gap text rest k c spells =
    let l = lies bytes gap text rest c.parts in
    record {
      ordered = omega arith;
      within = l.within;
      cuts = rw (l.before, l.is_text, l.behind) c;
      spells = rw l.is_text spells;
    }

stray_fits : (bytes gap : List ℕ) (b : ℕ) (rest : List ℕ) → IsStray bytes gap b rest → IsStrayByte bytes (length gap)
stray_fits bytes gap b rest s =
    let at : drop (length gap) bytes ≡ b ∷ rest = rw s.parts (drop_at gap (b ∷ rest) (length gap) refl) in
    let is_b : get_or bytes (length gap) 0 ≡ b = rw s.parts (get_or_middle gap b rest) in
    record {
      within = omega (arith, ap length s.parts, length-append gap (b ∷ rest));
      blank = rw s.parts (rw (take_at gap (b ∷ rest) (length gap) refl) s.blank);
      not_white = rw is_b s.is_solid.not_white;
      not_hash = rw is_b (eqb-false b hash s.is_solid.not_hash);
      none = λ text after e. s.none text after (sym at ∙ e);
    }
  where
    get_or_middle : (front : List ℕ) (x : ℕ) (back : List ℕ) → get_or (front ++ x ∷ back) (length front) 0 ≡ x
    get_or_middle [] x back = refl
    get_or_middle (y ∷ front) x back = get_or_middle front x back

great_fits : (bytes gap text rest : List ℕ) → Cuts bytes gap text rest → IsTooGreat text → IsGreatNumber bytes (length gap)
great_fits bytes gap [] rest c great = absurd great.numeral
great_fits bytes gap (b ∷ bs) rest c great =
    let l = lies bytes gap (b ∷ bs) rest c.parts in
    record {
      within = omega (arith, l.within);
      text = b ∷ bs;
      rest = rest;
      cuts = rw l.before c;
      numeral = great.numeral;
      above = great.above;
    }

-- what an answer of the scanner says of the text
abbrev pub Tells : List ℕ → Result (Option Token) LexFault → Type 0
Tells bytes (Ok None) = IsBlank bytes
Tells bytes (Ok (Some t)) = IsFirstToken bytes t
Tells bytes (Err fault) = IsLexFault bytes fault

cut_tells : (bytes gap text rest : List ℕ) → Cuts bytes gap text rest → (o : Option TokenKind) → kind_of text ≡ o → Tells bytes (token_of (length gap) (length text) o)
cut_tells bytes gap text rest c (Some k) e = token_fits bytes gap text rest k c (kind_spells text k c.lexeme e)
cut_tells bytes gap text rest c None e = great_fits bytes gap text rest c (too_great text c.lexeme e)

pub scan_tells : (bytes : List ℕ) → Tells bytes (scan bytes)
scan_tells bytes =
    elim (scans bytes) [
      | nothing blank e ↦ rw e blank
      | cuts gap text rest c ↦ rw (scan_cut bytes gap text rest c) (cut_tells bytes gap text rest c (kind_of text) refl)
      | stray gap b rest s e ↦ rw e (stray_fits bytes gap b rest s)
    ]

tells : (bytes : List ℕ) (r : Result (Option Token) LexFault) → r ≡ scan bytes → Tells bytes r
tells bytes r e = rw e (scan_tells bytes)

token_by : (bytes : List ℕ) (r : Result (Option Token) LexFault) → Tells bytes r → IfOk r (λ found. IfSome found (IsFirstToken bytes))
token_by bytes (Ok None) t = tt
token_by bytes (Ok (Some token)) t = t
token_by bytes (Err fault) t = tt

fault_by : (bytes : List ℕ) (r : Result (Option Token) LexFault) → Tells bytes r → IfErr r (IsLexFault bytes)
fault_by bytes (Ok found) t = tt
fault_by bytes (Err fault) t = t

none_by : (bytes : List ℕ) (r : Result (Option Token) LexFault) → Tells bytes r → r ≡ Ok None → IsBlank bytes
none_by bytes (Ok None) t e = t
none_by bytes (Ok (Some token)) t e = absurd (cc)
none_by bytes (Err fault) t e = absurd (cc)

pub tells_token : (bytes : List ℕ) (r : Result (Option Token) LexFault) → r ≡ scan bytes → IfOk r (λ found. IfSome found (IsFirstToken bytes))
tells_token bytes r e = token_by bytes r (tells bytes r e)

pub tells_fault : (bytes : List ℕ) (r : Result (Option Token) LexFault) → r ≡ scan bytes → IfErr r (IsLexFault bytes)
tells_fault bytes r e = fault_by bytes r (tells bytes r e)

pub tells_none : (bytes : List ℕ) (r : Result (Option Token) LexFault) → r ≡ scan bytes → (r ≡ Ok None) ↔ IsBlank bytes
tells_none bytes r e = (none_by bytes r (tells bytes r e), λ blank. e ∙ scan_blank bytes blank)

-- ---- one cut for each text

-- where the scanner comes to is where the parts of a cut lie
pub cut_len : (bytes gap text rest : List ℕ) → Cuts bytes gap text rest → (blank_len false bytes ≡ length gap) × (lexeme_len (drop (length gap) bytes) ≡ length text)
cut_len bytes gap [] rest c = absurd (no_empty_lexeme c.lexeme)
cut_len bytes gap (b ∷ bs) rest c =
    let solid = lexeme_solid b bs c.lexeme in
    let l = lies bytes gap (b ∷ bs) rest c.parts in
    (rw c.parts (gap_before_solid c.blank b (bs ++ rest) solid), rw l.at (lexeme_len_is (b ∷ bs) rest c.lexeme (longest_of bytes gap (b ∷ bs) rest c)))

pub record AreSame (gap text rest gap2 text2 rest2 : List ℕ) : Type 0 where
  pub gap_len : length gap2 ≡ length gap
  pub same_text : text2 ≡ text
  pub same_rest : rest2 ≡ rest

pub one_cut : (bytes gap text rest gap2 text2 rest2 : List ℕ) → Cuts bytes gap text rest → Cuts bytes gap2 text2 rest2 → AreSame gap text rest gap2 text2 rest2
one_cut bytes gap text rest gap2 text2 rest2 c d =
    let m = cut_len bytes gap text rest c in
    let n = cut_len bytes gap2 text2 rest2 d in
    let same_gap : length gap2 ≡ length gap = sym n.0 ∙ m.0 in
    let same_len : length text2 ≡ length text = sym n.1 ∙ rw same_gap m.1 in
    let l = lies bytes gap text rest c.parts in
    let k = lies bytes gap2 text2 rest2 d.parts in
    record {
      gap_len = same_gap;
      same_text = sym k.is_text ∙ rw (same_gap, same_len) l.is_text;
      same_rest = sym k.behind ∙ rw (same_gap, same_len) l.behind;
    }
