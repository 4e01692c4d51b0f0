-- A name is ASCII text.
use Rattle.std.proofs.Common.{◌≡◌, ℕ, ◌<◌, ◌≤◌, true, leb, eqb, List, [], ◌∷◌, zero, suc, get_or, subst, inl, inr, arith}
use Rattle.std.specs.Prelude.{◌&&◌}
use Rattle.std.specs.List.{list_all}
use Rattle.std.specs.Str.{IsAscii, IsUtf8}
use Rattle.std.proofs.lemmas.Bool.{eqb-true, leb-true, and_parts, or_cases}
use Rattle.std.proofs.lemmas.Str.{IsUtf8-from_ascii}
use Rattle.std.specs.List.{slice_range}
use Rattle.pts_lex.specs.declared.token.Token.{Token}
use Rattle.pts_lex.specs.declared.token.TokenKind.{TokenKind}
use Rattle.pts_lex.specs.declared.token.TokenKind.TheVariants as kinds
use Rattle.pts_syntax.specs.TokenTexts.{IsTokenOf}
use Rattle.pts_lex.specs.Lexical.{IsSpelling, is_letter, is_digit, is_letter_or_digit, IsIdentifier}

letter_below : (b : ℕ) → is_letter b ≡ true → b < 128
letter_below b h =
    elim (or_cases _ (eqb b 95) h) [
      | inl either ↦ elim (or_cases (leb 97 b && leb b 122) (leb 65 b && leb b 90) either) [
        | inl small ↦ let top : b ≤ 122 = leb-true b 122 (and_parts (leb 97 b) (leb b 122) small).1 in omega arith
        | inr large ↦ let top : b ≤ 90 = leb-true b 90 (and_parts (leb 65 b) (leb b 90) large).1 in omega arith
      ]
      | inr bar ↦ let e : b ≡ 95 = eqb-true b 95 bar in omega arith
    ]

letter_or_digit_below : (b : ℕ) → is_letter_or_digit b ≡ true → b < 128
letter_or_digit_below b h =
    elim (or_cases (is_letter b) (is_digit b) h) [
      | inl letter ↦ letter_below b letter
      | inr digit ↦ let top : b ≤ 57 = leb-true b 57 (and_parts (leb 48 b) (leb b 57) digit).1 in omega arith
    ]

all_ascii : (bs : List ℕ) → list_all is_letter_or_digit bs ≡ true → (i : ℕ) → get_or bs i 0 < 128
all_ascii [] h i = omega arith
all_ascii (b ∷ bs) h zero = letter_or_digit_below b (and_parts (is_letter_or_digit b) (list_all is_letter_or_digit bs) h).0
all_ascii (b ∷ bs) h (suc i) = all_ascii bs (and_parts (is_letter_or_digit b) (list_all is_letter_or_digit bs) h).1 i

identifier_ascii : (text : List ℕ) → IsIdentifier text → IsAscii text
identifier_ascii [] i k = absurd i
identifier_ascii (b ∷ bs) i zero = letter_below b i.0
identifier_ascii (b ∷ bs) i (suc k) = all_ascii bs i.1 k

pub identifier_is_text : (text : List ℕ) → IsIdentifier text → IsUtf8 text
identifier_is_text text i = IsUtf8-from_ascii text (identifier_ascii text i)

-- the text of a name is UTF-8
pub name_text : (bytes : List ℕ) (t : Token) → IsTokenOf bytes t → t.kind ≡ kinds.Name → IsUtf8 (slice_range bytes t.start t.end)
name_text bytes t i e =
    let spells : IsSpelling kinds.Name (slice_range bytes t.start t.end) = subst (λ (k : TokenKind). IsSpelling k (slice_range bytes t.start t.end)) e i.spells in
    identifier_is_text (slice_range bytes t.start t.end) spells.0
