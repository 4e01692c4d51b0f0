-- The kind that the scanner gives a lexeme is the one that its text spells.
use Rattle.std.proofs.Common.{◌≡◌, ℕ, ◌^◌, true, cond, ltb, List, [], ◌∷◌, Some, None, Option, refl, sym, ap, subst, ◌∙◌, inl, inr}
use Rattle.std.proofs.lemmas.Bool.{cases_Bool, ltb-true, ltb-false, lt-ltb}
use Rattle.std.proofs.Common.{◌≤◌}
use Rattle.pts_lex.specs.declared.token.TokenKind.{TokenKind}
use Rattle.pts_lex.specs.declared.token.TokenKind.TheVariants as kinds
use Rattle.pts_lex.specs.Lexical.{is_among, words, number_of, IsIdentifier, IsNumeral, IsSymbol, IsLexeme, IsSpelling}
use Rattle.pts_lex.specs.Scanning.{kind_of}
use Rattle.pts_lex.proofs.Lexemes.{digit_not_letter, symbol_sign}

abbrev some : TokenKind → Option TokenKind
some k = Some k

-- ---- by the three classes of lexemes

identifier_kind : (b : ℕ) (bs : List ℕ) → IsIdentifier (b ∷ bs) → kind_of (b ∷ bs) ≡ Some (cond (is_among words (b ∷ bs)) kinds.Word kinds.Name)
unfolding kind_of
identifier_kind b bs i = rw i.0 refl

pub numeral_kind : (b : ℕ) (bs : List ℕ) → IsNumeral (b ∷ bs)
    → kind_of (b ∷ bs) ≡ cond (ltb (number_of (b ∷ bs)) (2 ^ 64)) (some (kinds.Number (number_of (b ∷ bs)))) None
unfolding kind_of
numeral_kind b bs i = rw (digit_not_letter b i.0, i.0) refl

symbol_kind : (b : ℕ) (bs : List ℕ) → IsSymbol (b ∷ bs) → kind_of (b ∷ bs) ≡ Some kinds.Symbol
unfolding kind_of
symbol_kind b bs i = let s = symbol_sign b bs i in rw (s.not_letter, s.not_digit) refl

-- ---- the kind fits the text

same_kind : (text : List ℕ) (j k : TokenKind) → IsSpelling j text → some j ≡ some k → IsSpelling k text
same_kind text j k spells e = let same : j ≡ k = cc in subst (λ (kind : TokenKind). IsSpelling kind text) same spells

identifier_spells : (text : List ℕ) (k : TokenKind) → IsIdentifier text → some (cond (is_among words text) kinds.Word kinds.Name) ≡ some k → IsSpelling k text
identifier_spells text k i e =
    elim (cases_Bool (is_among words text)) [
      | inl among ↦ same_kind text kinds.Word k (i, among) (rw among at e)
      | inr among ↦ same_kind text kinds.Name k (i, among) (rw among at e)
    ]

numeral_spells : (text : List ℕ) (k : TokenKind) → IsNumeral text → cond (ltb (number_of text) (2 ^ 64)) (some (kinds.Number (number_of text))) None ≡ some k → IsSpelling k text
numeral_spells text k i e =
    elim (cases_Bool (ltb (number_of text) (2 ^ 64))) [
      | inl below ↦ same_kind text (kinds.Number (number_of text)) k (i, refl, ltb-true _ _ below) (rw below at e)
      | inr above ↦ let none : None ≡ some k = rw above at e in absurd (cc)
    ]

pub kind_spells : (text : List ℕ) (k : TokenKind) → IsLexeme text → kind_of text ≡ some k → IsSpelling k text
kind_spells [] k (inl i) e = absurd i
kind_spells [] k (inr (inl i)) e = absurd i
kind_spells [] k (inr (inr i)) e = absurd i
kind_spells (b ∷ bs) k (inl i) e = identifier_spells (b ∷ bs) k i (sym (identifier_kind b bs i) ∙ e)
kind_spells (b ∷ bs) k (inr (inl i)) e = numeral_spells (b ∷ bs) k i (sym (numeral_kind b bs i) ∙ e)
kind_spells (b ∷ bs) k (inr (inr i)) e = same_kind (b ∷ bs) kinds.Symbol k i (sym (symbol_kind b bs i) ∙ e)

-- a lexeme without a kind is a number that is too great
pub record IsTooGreat (text : List ℕ) : Type 0 where
  pub numeral : IsNumeral text
  pub above : 2 ^ 64 ≤ number_of text

none_numeral : (text : List ℕ) → IsNumeral text → cond (ltb (number_of text) (2 ^ 64)) (some (kinds.Number (number_of text))) None ≡ None → IsTooGreat text
none_numeral text i e =
    elim (cases_Bool (ltb (number_of text) (2 ^ 64))) [
      | inl below ↦ let none : some (kinds.Number (number_of text)) ≡ None = rw below at e in absurd (cc)
      | inr above ↦ record { numeral = i; above = ltb-false _ _ above }
    ]

not_none : (k : TokenKind) → some k ≡ None → ⊥
not_none k e = cc

pub too_great : (text : List ℕ) → IsLexeme text → kind_of text ≡ None → IsTooGreat text
too_great [] (inl i) e = absurd i
too_great [] (inr (inl i)) e = absurd i
too_great [] (inr (inr i)) e = absurd i
too_great (b ∷ bs) (inl i) e = absurd (not_none _ (sym (identifier_kind b bs i) ∙ e))
too_great (b ∷ bs) (inr (inl i)) e = none_numeral (b ∷ bs) i (sym (numeral_kind b bs i) ∙ e)
too_great (b ∷ bs) (inr (inr i)) e = absurd (not_none _ (sym (symbol_kind b bs i) ∙ e))

-- ---- the text has this kind and no other

pub spelled_kind : (k : TokenKind) (text : List ℕ) → IsSpelling k text → kind_of text ≡ some k
spelled_kind kinds.Word [] s = absurd s.0
spelled_kind kinds.Name [] s = absurd s.0
spelled_kind (kinds.Number n) [] s = absurd s.0
spelled_kind kinds.Symbol [] s = absurd s
spelled_kind kinds.Word (b ∷ bs) s = identifier_kind b bs s.0 ∙ rw s.1 refl
spelled_kind kinds.Name (b ∷ bs) s = identifier_kind b bs s.0 ∙ rw s.1 refl
spelled_kind (kinds.Number n) (b ∷ bs) s =
    let below : ltb (number_of (b ∷ bs)) (2 ^ 64) ≡ true = lt-ltb _ _ (rw s.1 s.2) in
    numeral_kind b bs s.0 ∙ rw below (ap (λ (m : ℕ). some (kinds.Number m)) s.1)
spelled_kind kinds.Symbol (b ∷ bs) s = symbol_kind b bs s

pub spelling_lexeme : (k : TokenKind) (text : List ℕ) → IsSpelling k text → IsLexeme text
spelling_lexeme kinds.Word text s = inl s.0
spelling_lexeme kinds.Name text s = inl s.0
spelling_lexeme (kinds.Number n) text s = inr (inl s.0)
spelling_lexeme kinds.Symbol text s = inr (inr s)
