-- A lexeme holds no white byte, so the next white byte ends it.
use Rattle.std.proofs.Common.{◌≡◌, ◌≢◌, ℕ, Bool, true, false, not, List, [], ◌∷◌, ◌++◌, refl, sym, subst, inl, inr}
use Rattle.std.specs.List.{list_all}
use Rattle.std.specs.Str.{bytes_eq}
use Rattle.std.proofs.lemmas.Bool.{and_parts, and_from, or_cases, not-true, both_ways, false≢true}
use Rattle.std.proofs.lemmas.Slice.Eq.{bytes_eq-Decides}
use Rattle.pts_lex.specs.Lexical.{is_white, is_letter, is_digit, is_letter_or_digit, is_among, doubles, IsSymbol, IsLexeme}
use Rattle.pts_lex.proofs.Lexemes.{solid_by, symbol_sign, list_all_middle}

-- no white space
abbrev is_dark : ℕ → Bool
is_dark b = not (is_white b)

dark : (b : ℕ) → is_white b ≡ false → is_dark b ≡ true
dark b h = rw h refl

letter_dark : (b : ℕ) → is_letter b ≡ true → is_dark b ≡ true
letter_dark b h = dark b (solid_by is_letter b h refl refl refl refl refl).not_white

digit_dark : (b : ℕ) → is_digit b ≡ true → is_dark b ≡ true
digit_dark b h = dark b (solid_by is_digit b h refl refl refl refl refl).not_white

letter_or_digit_dark : (b : ℕ) → is_letter_or_digit b ≡ true → is_dark b ≡ true
letter_or_digit_dark b h = dark b (solid_by is_letter_or_digit b h refl refl refl refl refl).not_white

all_dark : (p : ℕ → Bool) → ((b : ℕ) → p b ≡ true → is_dark b ≡ true) → (bs : List ℕ) → list_all p bs ≡ true → list_all is_dark bs ≡ true
all_dark p h [] all = refl
all_dark p h (b ∷ bs) all =
    let both = and_parts (p b) (list_all p bs) all in
    and_from (is_dark b) (list_all is_dark bs) (h b both.0) (all_dark p h bs both.1)

among_dark : (text : List ℕ) (texts : List (List ℕ)) → is_among texts text ≡ true → list_all (λ t. list_all is_dark t) texts ≡ true → list_all is_dark text ≡ true
among_dark text [] h all = absurd (false≢true h)
among_dark text (t ∷ ts) h all =
    let both = and_parts (list_all is_dark t) (list_all (λ u. list_all is_dark u) ts) all in
    elim (or_cases (bytes_eq t text) (is_among ts text) h) [
      | inl e ↦ subst (λ (u : List ℕ). list_all is_dark u ≡ true) ((bytes_eq-Decides t text).0 e) both.0
      | inr others ↦ among_dark text ts others both.1
    ]

symbol_dark : (text : List ℕ) → IsSymbol text → list_all is_dark text ≡ true
symbol_dark [] h = absurd h
symbol_dark (a ∷ []) h = and_from (is_dark a) true (dark a (symbol_sign a [] h).is_solid.not_white) refl
symbol_dark (a ∷ b ∷ []) h = among_dark (a ∷ b ∷ []) doubles h refl
symbol_dark (a ∷ b ∷ c ∷ rest) h = absurd h

-- no byte of a lexeme is white
pub lexeme_dark : (text : List ℕ) → IsLexeme text → list_all is_dark text ≡ true
lexeme_dark [] lexeme = refl
lexeme_dark (b ∷ bs) (inl i) = and_from (is_dark b) (list_all is_dark bs) (letter_dark b i.0) (all_dark is_letter_or_digit letter_or_digit_dark bs i.1)
lexeme_dark (b ∷ bs) (inr (inl i)) = and_from (is_dark b) (list_all is_dark bs) (digit_dark b i.0) (all_dark is_digit digit_dark bs i.1)
lexeme_dark (b ∷ bs) (inr (inr i)) = symbol_dark (b ∷ bs) i

-- before a white byte a text is as long as possible
pub white_ends : (text : List ℕ) (b : ℕ) (rest more after : List ℕ) → is_white b ≡ true → b ∷ rest ≡ more ++ after → more ≢ [] → IsLexeme (text ++ more) → ⊥
white_ends text b rest [] after w e some lexeme = some refl
white_ends text b rest (c ∷ cs) after w e some lexeme =
    let head : c ≡ b = cc in
    let is_dark_c = list_all_middle is_dark text c cs (lexeme_dark (text ++ c ∷ cs) lexeme) in
    both_ways (is_white c) (not-true (is_white c) is_dark_c) (subst (λ (n : ℕ). is_white n ≡ true) (sym head) w)
