-- Lexemes: `lexeme_len` finds the longest one at the front, and it finds none only where none is.
use Rattle.std.proofs.Common.{◌≡◌, ◌≢◌, ℕ, suc, ◌≤◌, Bool, true, false, not, eqb, leb, List, [], ◌∷◌, ◌++◌, length, get_or, refl, sym, ap, subst, ◌∙◌, inl, inr, arith}
use Rattle.std.specs.Prelude.{◌&&◌}
use Rattle.std.specs.List.{list_any, list_all, prefix_len}
use Rattle.std.specs.Str.{bytes_eq}
use Rattle.std.proofs.lemmas.Bool.{eqb-true, ne_eqb, leb-true, lt-leb, cases_Bool, and_parts, and_from, and_left, or_cases, or_from, not-true, both_ways, false≢true}
use Rattle.std.proofs.lemmas.Slice.Eq.{bytes_eq-Decides}
use Rattle.pts_lex.specs.Lexical.{hash, is_white, is_letter, is_digit, is_letter_or_digit, is_among, singles, doubles, IsIdentifier, IsNumeral, IsSymbol, IsLexeme}
use Rattle.pts_lex.specs.Scanning.{is_single, is_double, symbol_len, lexeme_len}
use Rattle.pts_lex.proofs.Gaps.{IsSolid}

-- ---- how the bytes stand apart

abbrev is_sign : ℕ → Bool
is_sign b = not (is_letter b) && (not (is_digit b) && (not (is_white b) && not (eqb b hash)))

single_sign : (a : ℕ) (xs : List ℕ) → list_any (λ s. eqb s a) xs ≡ true → list_all is_sign xs ≡ true → is_sign a ≡ true
single_sign a [] h all = absurd (false≢true h)
single_sign a (x ∷ xs) h all =
    let parts = and_parts (is_sign x) (list_all is_sign xs) all in
    elim (or_cases (eqb x a) (list_any (λ s. eqb s a) xs) h) [
      | inl e ↦ subst (λ (n : ℕ). is_sign n ≡ true) (eqb-true x a e) parts.0
      | inr rest ↦ single_sign a xs rest parts.1
    ]

double_sign : (a b : ℕ) (ts : List (List ℕ)) → is_among ts (a ∷ b ∷ []) ≡ true → list_all (λ t. is_sign (get_or t 0 0)) ts ≡ true → is_sign a ≡ true
double_sign a b [] h all = absurd (false≢true h)
double_sign a b (t ∷ ts) h all =
    let parts = and_parts (is_sign (get_or t 0 0)) (list_all (λ u. is_sign (get_or u 0 0)) ts) all in
    elim (or_cases (bytes_eq t (a ∷ b ∷ [])) (is_among ts (a ∷ b ∷ [])) h) [
      | inl e ↦ subst (λ (u : List ℕ). is_sign (get_or u 0 0) ≡ true) ((bytes_eq-Decides t (a ∷ b ∷ [])).0 e) parts.0
      | inr rest ↦ double_sign a b ts rest parts.1
    ]

pub record IsSign (b : ℕ) : Type 0 where
  pub not_letter : is_letter b ≡ false
  pub not_digit : is_digit b ≡ false
  pub is_solid : IsSolid b

sign_is : (b : ℕ) → is_sign b ≡ true → IsSign b
sign_is b h =
    let p = and_parts (not (is_letter b)) (not (is_digit b) && (not (is_white b) && not (eqb b hash))) h in
    let q = and_parts (not (is_digit b)) (not (is_white b) && not (eqb b hash)) p.1 in
    let r = and_parts (not (is_white b)) (not (eqb b hash)) q.1 in
    record { not_letter = not-true _ p.0; not_digit = not-true _ q.0; is_solid = record { not_white = not-true _ r.0; not_hash = not-true _ r.1 } }

pub symbol_sign : (b : ℕ) (bs : List ℕ) → IsSymbol (b ∷ bs) → IsSign b
symbol_sign b [] h = sign_is b (single_sign b singles h refl)
symbol_sign b (c ∷ []) h = sign_is b (double_sign b c doubles h refl)
symbol_sign b (c ∷ d ∷ bs) h = absurd h

pub digit_not_letter : (b : ℕ) → is_digit b ≡ true → is_letter b ≡ false
digit_not_letter b h =
    let p = and_parts (leb 48 b) (leb b 57) h in
    let high : b ≤ 57 = leb-true b 57 p.1 in
    or_from _ _ (or_from _ _ (and_left _ _ (lt-leb 97 b (omega arith))) (and_left _ _ (lt-leb 65 b (omega arith)))) (ne_eqb b 95 (λ e. omega arith))

-- numbers that a test tells apart differ
apart : (p : ℕ → Bool) (b v : ℕ) → p b ≡ true → p v ≡ false → eqb b v ≡ false
apart p b v holds fails = ne_eqb b v (λ e. false≢true (sym fails ∙ subst (λ (n : ℕ). p n ≡ true) e holds))

pub solid_by : (p : ℕ → Bool) (b : ℕ) → p b ≡ true → p 32 ≡ false → p 9 ≡ false → p 10 ≡ false → p 13 ≡ false → p 35 ≡ false → IsSolid b
solid_by p b holds space tab feed return sharp = record {
  not_white = or_from _ _ (or_from _ _ (or_from _ _ (apart p b 32 holds space) (apart p b 9 holds tab)) (apart p b 10 holds feed)) (apart p b 13 holds return);
  not_hash = apart p b 35 holds sharp;
}

-- the first byte of a lexeme is no gap
pub lexeme_solid : (b : ℕ) (bs : List ℕ) → IsLexeme (b ∷ bs) → IsSolid b
lexeme_solid b bs (inl identifier) = solid_by is_letter b identifier.0 refl refl refl refl refl
lexeme_solid b bs (inr (inl numeral)) = solid_by is_digit b numeral.0 refl refl refl refl refl
lexeme_solid b bs (inr (inr symbol)) = (symbol_sign b bs symbol).is_solid

pub no_empty_lexeme : IsLexeme [] → ⊥
no_empty_lexeme (inl identifier) = identifier
no_empty_lexeme (inr (inl numeral)) = numeral
no_empty_lexeme (inr (inr symbol)) = symbol

-- ---- the longest front that passes a test

pub record Span (p : ℕ → Bool) (xs : List ℕ) : Type 0 where
  pub front : List ℕ
  pub back : List ℕ
  pub parts : xs ≡ front ++ back
  pub pass : list_all p front ≡ true
  pub len : prefix_len p xs ≡ length front
  pub stops : (c : ℕ) (cs : List ℕ) → back ≡ c ∷ cs → p c ≡ false

nil≢cons : (c : ℕ) (cs : List ℕ) → [] ≡ c ∷ cs → ⊥
nil≢cons c cs e = cc

span_more : (p : ℕ → Bool) (x : ℕ) (xs : List ℕ) → p x ≡ true → Span p xs → Span p (x ∷ xs)
span_more p x xs holds s = record {
  front = x ∷ s.front;
  back = s.back;
  parts = ap (λ (t : List ℕ). x ∷ t) s.parts;
  pass = and_from (p x) (list_all p s.front) holds s.pass;
  len = rw holds (omega (arith, s.len));
  stops = s.stops;
}

pub span : (p : ℕ → Bool) (xs : List ℕ) → Span p xs
span p [] = record { front = []; back = []; parts = refl; pass = refl; len = refl; stops = λ c cs e. absurd (nil≢cons c cs e) }
span p (x ∷ xs) =
    elim (cases_Bool (p x)) [
      | inl holds ↦ span_more p x xs holds (span p xs)
      | inr fails ↦ record {
        front = [];
        back = x ∷ xs;
        parts = refl;
        pass = refl;
        len = rw fails refl;
        stops = λ c cs e. let head : x ≡ c = cc in subst (λ (n : ℕ). p n ≡ false) head fails;
      }
    ]

-- what passes as far as it goes
pass_through : (p : ℕ → Bool) (xs ys : List ℕ) → list_all p xs ≡ true → prefix_len p ys ≡ 0 → prefix_len p (xs ++ ys) ≡ length xs
pass_through p [] ys all none = none
pass_through p (x ∷ xs) ys all none =
    let parts = and_parts (p x) (list_all p xs) all in
    rw parts.0 (omega (arith, pass_through p xs ys parts.1 none))

pub list_all_middle : (p : ℕ → Bool) (xs : List ℕ) (c : ℕ) (cs : List ℕ) → list_all p (xs ++ c ∷ cs) ≡ true → p c ≡ true
list_all_middle p [] c cs all = (and_parts (p c) (list_all p cs) all).0
list_all_middle p (x ∷ xs) c cs all = list_all_middle p xs c cs (and_parts (p x) (list_all p (xs ++ c ∷ cs)) all).1

list_all_more : (p : ℕ → Bool) (xs : List ℕ) (c : ℕ) → list_all p xs ≡ true → p c ≡ true → list_all p (xs ++ c ∷ []) ≡ true
list_all_more p [] c all holds = and_from (p c) true holds refl
list_all_more p (x ∷ xs) c all holds =
    let parts = and_parts (p x) (list_all p xs) all in
    and_from (p x) (list_all p (xs ++ c ∷ [])) parts.0 (list_all_more p xs c parts.1 holds)

-- ---- as long as possible

-- no longer front of the text is a lexeme
pub record IsLongest (text rest : List ℕ) : Type 0 where
  pub no_longer : (more after : List ℕ) → rest ≡ more ++ after → more ≢ [] → IsLexeme (text ++ more) → ⊥

cons≢nil : (c : ℕ) (cs : List ℕ) → c ∷ cs ≢ []
cons≢nil c cs e = cc

-- by the first byte that would be added
longest_by : (text rest : List ℕ) → ((c : ℕ) (cs after : List ℕ) → rest ≡ c ∷ (cs ++ after) → IsLexeme (text ++ c ∷ cs) → ⊥) → IsLongest text rest
longest_by text rest h = record { no_longer = by_head }
  where
    by_head : (more after : List ℕ) → rest ≡ more ++ after → more ≢ [] → IsLexeme (text ++ more) → ⊥
    by_head [] after e some lexeme = some refl
    by_head (c ∷ cs) after e some lexeme = h c cs after e lexeme

-- no byte that could go on stands behind a text that is as long as possible
stops_at : (p : ℕ → Bool) (text rest : List ℕ) → IsLongest text rest → ((c : ℕ) → p c ≡ true → IsLexeme (text ++ c ∷ [])) → prefix_len p rest ≡ 0
stops_at p text [] l h = refl
stops_at p text (c ∷ cs) l h =
    elim (cases_Bool (p c)) [
      | inl holds ↦ absurd (l.no_longer (c ∷ []) cs refl (cons≢nil c []) (h c holds))
      | inr fails ↦ rw fails refl
    ]

-- ---- the longest lexeme is found

identifier_len : (b : ℕ) (bs rest : List ℕ) → IsIdentifier (b ∷ bs) → IsLongest (b ∷ bs) rest → lexeme_len (b ∷ bs ++ rest) ≡ suc (length bs)
identifier_len b bs rest i l =
    let none = stops_at is_letter_or_digit (b ∷ bs) rest l (λ c holds. inl (i.0, list_all_more is_letter_or_digit bs c i.1 holds)) in
    rw i.0 (ap suc (pass_through is_letter_or_digit bs rest i.1 none))

numeral_len : (b : ℕ) (bs rest : List ℕ) → IsNumeral (b ∷ bs) → IsLongest (b ∷ bs) rest → lexeme_len (b ∷ bs ++ rest) ≡ suc (length bs)
numeral_len b bs rest i l =
    let none = stops_at is_digit (b ∷ bs) rest l (λ c holds. inr (inl (i.0, list_all_more is_digit bs c i.1 holds))) in
    rw (digit_not_letter b i.0, i.0) (ap suc (pass_through is_digit bs rest i.1 none))

symbol_len_is : (b : ℕ) (bs rest : List ℕ) → IsSymbol (b ∷ bs) → IsLongest (b ∷ bs) rest → symbol_len (b ∷ bs ++ rest) ≡ suc (length bs)
symbol_len_is b [] [] i l = rw i refl
symbol_len_is b [] (c ∷ rest) i l =
    elim (cases_Bool (is_double b c)) [
      | inl holds ↦ absurd (l.no_longer (c ∷ []) rest refl (cons≢nil c []) (inr (inr holds)))
      | inr fails ↦ rw (fails, i) refl
    ]
symbol_len_is b (c ∷ []) rest i l = rw i refl
symbol_len_is b (c ∷ d ∷ bs) rest i l = absurd i

pub lexeme_len_is : (text rest : List ℕ) → IsLexeme text → IsLongest text rest → lexeme_len (text ++ rest) ≡ length text
lexeme_len_is [] rest i l = absurd (no_empty_lexeme i)
lexeme_len_is (b ∷ bs) rest (inl identifier) l = identifier_len b bs rest identifier l
lexeme_len_is (b ∷ bs) rest (inr (inl numeral)) l = numeral_len b bs rest numeral l
lexeme_len_is (b ∷ bs) rest (inr (inr symbol)) l =
    let s = symbol_sign b bs symbol in
    rw (s.not_letter, s.not_digit) (symbol_len_is b bs rest symbol l)

-- ---- what is found is a longest lexeme

pub record Found (bytes : List ℕ) : Type 0 where
  pub text : List ℕ
  pub rest : List ℕ
  pub parts : bytes ≡ text ++ rest
  pub len : lexeme_len bytes ≡ length text
  pub lexeme : IsLexeme text
  pub longest : IsLongest text rest

found_identifier : (b : ℕ) (bs : List ℕ) → is_letter b ≡ true → Found (b ∷ bs)
found_identifier b bs letter =
    let s = span is_letter_or_digit bs in
    record {
      text = b ∷ s.front;
      rest = s.back;
      parts = ap (λ (t : List ℕ). b ∷ t) s.parts;
      len = rw letter (ap suc s.len);
      lexeme = inl (letter, s.pass);
      longest = longest_by (b ∷ s.front) s.back (λ c cs after e lexeme. goes_no_further c cs (s.stops c (cs ++ after) e) lexeme);
    }
  where
    goes_no_further : (c : ℕ) (cs : List ℕ) → is_letter_or_digit c ≡ false → IsLexeme (b ∷ (span is_letter_or_digit bs).front ++ c ∷ cs) → ⊥
    goes_no_further c cs stop (inl i) = both_ways (is_letter_or_digit c) stop (list_all_middle is_letter_or_digit (span is_letter_or_digit bs).front c cs i.1)
    goes_no_further c cs stop (inr (inl i)) = both_ways (is_letter b) (digit_not_letter b i.0) letter
    goes_no_further c cs stop (inr (inr i)) = both_ways (is_letter b) (symbol_sign b ((span is_letter_or_digit bs).front ++ c ∷ cs) i).not_letter letter

found_numeral : (b : ℕ) (bs : List ℕ) → is_letter b ≡ false → is_digit b ≡ true → Found (b ∷ bs)
found_numeral b bs other digit =
    let s = span is_digit bs in
    record {
      text = b ∷ s.front;
      rest = s.back;
      parts = ap (λ (t : List ℕ). b ∷ t) s.parts;
      len = rw (other, digit) (ap suc s.len);
      lexeme = inr (inl (digit, s.pass));
      longest = longest_by (b ∷ s.front) s.back (λ c cs after e lexeme. goes_no_further c cs (s.stops c (cs ++ after) e) lexeme);
    }
  where
    goes_no_further : (c : ℕ) (cs : List ℕ) → is_digit c ≡ false → IsLexeme (b ∷ (span is_digit bs).front ++ c ∷ cs) → ⊥
    goes_no_further c cs stop (inl i) = both_ways (is_letter b) other i.0
    goes_no_further c cs stop (inr (inl i)) = both_ways (is_digit c) stop (list_all_middle is_digit (span is_digit bs).front c cs i.1)
    goes_no_further c cs stop (inr (inr i)) = both_ways (is_digit b) (symbol_sign b ((span is_digit bs).front ++ c ∷ cs) i).not_digit digit

-- a longer lexeme behind a sign is a symbol
longer_symbol : (b c : ℕ) (bs : List ℕ) → IsSign b → IsLexeme (b ∷ c ∷ bs) → (bs ≡ []) × (is_double b c ≡ true)
longer_symbol b c bs s (inl i) = absurd (both_ways (is_letter b) s.not_letter i.0)
longer_symbol b c bs s (inr (inl i)) = absurd (both_ways (is_digit b) s.not_digit i.0)
longer_symbol b c [] s (inr (inr i)) = (refl, i)
longer_symbol b c (d ∷ bs) s (inr (inr i)) = absurd i

found_double : (b c : ℕ) (rest : List ℕ) → is_double b c ≡ true → Found (b ∷ c ∷ rest)
found_double b c rest double =
    let s = symbol_sign b (c ∷ []) double in
    record {
      text = b ∷ c ∷ [];
      rest = rest;
      parts = refl;
      len = rw (s.not_letter, s.not_digit, double) refl;
      lexeme = inr (inr double);
      longest = longest_by (b ∷ c ∷ []) rest (λ d ds after e lexeme. nil≢cons d ds (sym (longer_symbol b c (d ∷ ds) s lexeme).0));
    }

found_single : (b : ℕ) (rest : List ℕ) → is_single b ≡ true → ((c : ℕ) (cs : List ℕ) → rest ≡ c ∷ cs → is_double b c ≡ false) → symbol_len (b ∷ rest) ≡ 1 → Found (b ∷ rest)
found_single b rest single no_double len =
    let s = symbol_sign b [] single in
    record {
      text = b ∷ [];
      rest = rest;
      parts = refl;
      len = rw (s.not_letter, s.not_digit) len;
      lexeme = inr (inr single);
      longest = longest_by (b ∷ []) rest (λ c cs after e lexeme.
          both_ways (is_double b c) (no_double c (cs ++ after) e) (longer_symbol b c cs s lexeme).1);
    }

-- what lexeme_len finds: the longest lexeme, or that none begins the text
pub data First (bytes : List ℕ) : Type 0 where
  found : Found bytes → First bytes
  none : lexeme_len bytes ≡ 0 → ((text rest : List ℕ) → bytes ≡ text ++ rest → IsLexeme text → ⊥) → First bytes

no_symbol : (b : ℕ) (bs : List ℕ) → is_letter b ≡ false → is_digit b ≡ false → is_single b ≡ false → ((c : ℕ) (cs : List ℕ) → bs ≡ c ∷ cs → is_double b c ≡ false)
    → (text rest : List ℕ) → b ∷ bs ≡ text ++ rest → IsLexeme text → ⊥
no_symbol b bs letter digit single double [] rest e lexeme = no_empty_lexeme lexeme
no_symbol b bs letter digit single double (x ∷ xs) rest e lexeme =
    let head : x ≡ b = cc in
    let tail : bs ≡ xs ++ rest = cc in
    by_case xs tail (subst (λ (n : ℕ). IsLexeme (n ∷ xs)) head lexeme)
  where
    by_case : (xs : List ℕ) → bs ≡ xs ++ rest → IsLexeme (b ∷ xs) → ⊥
    by_case xs tail (inl i) = both_ways (is_letter b) letter i.0
    by_case xs tail (inr (inl i)) = both_ways (is_digit b) digit i.0
    by_case [] tail (inr (inr i)) = both_ways (is_single b) single i
    by_case (c ∷ []) tail (inr (inr i)) = both_ways (is_double b c) (double c rest tail) i
    by_case (c ∷ d ∷ xs) tail (inr (inr i)) = i

first_symbol : (b : ℕ) (bs : List ℕ) → is_letter b ≡ false → is_digit b ≡ false → First (b ∷ bs)
first_symbol b [] letter digit =
    elim (cases_Bool (is_single b)) [
      | inl single ↦ found (found_single b [] single (λ c cs e. absurd (nil≢cons c cs e)) (rw single refl))
      | inr single ↦ none (rw (letter, digit, single) refl) (no_symbol b [] letter digit single (λ c cs e. absurd (nil≢cons c cs e)))
    ]
first_symbol b (c ∷ cs) letter digit =
    elim (cases_Bool (is_double b c)) [
      | inl double ↦ found (found_double b c cs double)
      | inr double ↦
          let no_double : (d : ℕ) (ds : List ℕ) → c ∷ cs ≡ d ∷ ds → is_double b d ≡ false = λ d ds e. let head : c ≡ d = cc in subst (λ (n : ℕ). is_double b n ≡ false) head double in
          elim (cases_Bool (is_single b)) [
            | inl single ↦ found (found_single b (c ∷ cs) single no_double (rw (double, single) refl))
            | inr single ↦ none (rw (letter, digit, double, single) refl) (no_symbol b (c ∷ cs) letter digit single no_double)
          ]
    ]

pub first : (b : ℕ) (bs : List ℕ) → First (b ∷ bs)
first b bs =
    elim (cases_Bool (is_letter b)) [
      | inl letter ↦ found (found_identifier b bs letter)
      | inr letter ↦ elim (cases_Bool (is_digit b)) [
        | inl digit ↦ found (found_numeral b bs letter digit)
        | inr digit ↦ first_symbol b bs letter digit
      ]
    ]
