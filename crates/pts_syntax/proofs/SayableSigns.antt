-- The canonical bytes of a sign are those of a token that says it.
use Rattle.std.proofs.Common.{◌≡◌, ℕ, zero, suc, ◌+◌, ◌-◌, ◌*◌, ◌/◌, ◌%◌, ◌^◌, ◌<◌, ◌≤◌, Bool, true, false, leb, eqb, List, [], ◌∷◌, ◌++◌, get_or, refl, subst, inl, inr, arith}
use Rattle.std.specs.Prelude.{◌&&◌, ◌||◌, decimal}
use Rattle.std.specs.List.{list_any, list_all, slice_range}
use Rattle.std.proofs.lemmas.Bool.{and_parts, and_from, or_cases, false≢true, le-leb}
use Rattle.std.proofs.lemmas.List.Sums.{fold-append}
use Rattle.std.proofs.lemmas.Fmt.{decimal_by_steps}
use Rattle.pts_lex.specs.declared.token.Token.{Token}
use Rattle.pts_lex.specs.declared.token.TokenKind.{TokenKind}
use Rattle.pts_lex.specs.declared.token.TokenKind.TheVariants as kinds
use Rattle.pts_lex.specs.Lexical.{is_letter, is_digit, is_letter_or_digit, is_among, words, singles, doubles, IsIdentifier, IsNumeral, IsSymbol, IsSpelling, number_of}
use Rattle.pts_tree.specs.declared.mark.Mark as mark
use Rattle.pts_tree.specs.declared.mark.Mark.TheVariants as m
use Rattle.pts_tree.specs.Marks.{text_of, place}
use Rattle.pts_tree.specs.Signs.{Sign, Mark, Name, Number}
use Rattle.pts_tree.proofs.Texts.{marks, placed}
use Rattle.pts_print.specs.Canonical.{sign_bytes}
use Rattle.pts_syntax.specs.Syntax.{Says, IsSayable}

-- a kind of token that is spelled by the bytes of the sign and says it
pub record IsSpoken (s : Sign) : Type 0 where
  pub kind : TokenKind
  pub spells : IsSpelling kind (sign_bytes s)
  pub says : (bytes : List ℕ) (t : Token) → t.kind ≡ kind → slice_range bytes t.start t.end ≡ sign_bytes s → Says bytes t s

-- ---- words and symbols

abbrev is_identifier : List ℕ → Bool
is_identifier [] = false
is_identifier (b ∷ bs) = is_letter b && list_all is_letter_or_digit bs

abbrev is_symbol : List ℕ → Bool
is_symbol [] = false
is_symbol (a ∷ []) = list_any (λ s. eqb s a) singles
is_symbol (a ∷ b ∷ []) = is_among doubles (a ∷ b ∷ [])
is_symbol (a ∷ b ∷ c ∷ rest) = false

abbrev is_mark_text : List ℕ → Bool
is_mark_text text = (is_identifier text && is_among words text) || is_symbol text

identifier_from : (text : List ℕ) → is_identifier text ≡ true → IsIdentifier text
identifier_from [] h = absurd (false≢true h)
identifier_from (b ∷ bs) h = and_parts (is_letter b) (list_all is_letter_or_digit bs) h

symbol_from : (text : List ℕ) → is_symbol text ≡ true → IsSymbol text
symbol_from [] h = absurd (false≢true h)
symbol_from (a ∷ []) h = h
symbol_from (a ∷ b ∷ []) h = h
symbol_from (a ∷ b ∷ c ∷ rest) h = absurd (false≢true h)

all_are : list_all (λ n. is_mark_text (text_of n)) marks ≡ true
unfolding words text_of
all_are = refl

first_is : is_mark_text (text_of m.Pts) ≡ true
unfolding words text_of
first_is = refl

at_each : (p : mark.Mark → Bool) (ns : List mark.Mark) (i : ℕ) → list_all p ns ≡ true → p m.Pts ≡ true → p (get_or ns i m.Pts) ≡ true
at_each p [] i all default = default
at_each p (n ∷ ns) zero all default = (and_parts (p n) (list_all p ns) all).0
at_each p (n ∷ ns) (suc i) all default = at_each p ns i (and_parts (p n) (list_all p ns) all).1 default

mark_text : (n : mark.Mark) → is_mark_text (text_of n) ≡ true
mark_text n = subst (λ x. is_mark_text (text_of x) ≡ true) (placed n) (at_each (λ x. is_mark_text (text_of x)) marks (place n) all_are first_is)

mark_spoken : (n : mark.Mark) → IsSpoken (Mark n)
mark_spoken n =
    elim (or_cases (is_identifier (text_of n) && is_among words (text_of n)) (is_symbol (text_of n)) (mark_text n)) [
      | inl word ↦
          let both = and_parts (is_identifier (text_of n)) (is_among words (text_of n)) word in
          record { kind = kinds.Word; spells = (identifier_from (text_of n) both.0, both.1); says = λ bytes t k e. (inl k, e) }
      | inr symbol ↦ record { kind = kinds.Symbol; spells = symbol_from (text_of n) symbol; says = λ bytes t k e. (inr k, e) }
    ]

-- ---- numbers

digit_is : (d : ℕ) → d < 10 → is_digit (48 + d) ≡ true
digit_is d h = and_from (leb 48 (48 + d)) (leb (48 + d) 57) (le-leb 48 (48 + d) (omega arith)) (le-leb (48 + d) 57 (omega arith))

all_digits : (bs : List ℕ) (d : ℕ) → list_all is_digit bs ≡ true → d < 10 → list_all is_digit (bs ++ (48 + d) ∷ []) ≡ true
all_digits [] d all h = and_from (is_digit (48 + d)) true (digit_is d h) refl
all_digits (b ∷ bs) d all h =
    let both = and_parts (is_digit b) (list_all is_digit bs) all in
    and_from (is_digit b) (list_all is_digit (bs ++ (48 + d) ∷ [])) both.0 (all_digits bs d both.1 h)

-- the digits of a number
record Writes (n : ℕ) (digits : List ℕ) : Type 0 where
  numeral : IsNumeral digits
  value : number_of digits ≡ n

one_digit : (n : ℕ) → n < 10 → Writes n ((48 + n) ∷ [])
one_digit n h = record { numeral = (digit_is n h, refl); value = omega arith }

numeral_more : (ds : List ℕ) (d : ℕ) → IsNumeral ds → d < 10 → IsNumeral (ds ++ (48 + d) ∷ [])
numeral_more [] d i h = absurd i
numeral_more (b ∷ bs) d i h = (i.0, all_digits bs d i.1 h)

more_digits : (n : ℕ) (ds : List ℕ) → 10 ≤ n → Writes (n / 10) ds → Writes n (ds ++ (48 + n % 10) ∷ [])
more_digits n ds h w =
    let split : number_of (ds ++ (48 + n % 10) ∷ []) ≡ number_of ds * 10 + ((48 + n % 10) - 48) = fold-append (λ k digit. k * 10 + (digit - 48)) 0 ds ((48 + n % 10) ∷ []) in
    record { numeral = numeral_more ds (n % 10) w.numeral (omega arith); value = omega (arith, split, w.value) }

decimal_writes : (n : ℕ) → n < 2 ^ 64 → Writes n (decimal n)
decimal_writes = decimal_by_steps Writes one_digit more_digits

number_spoken : (n : ℕ) → n < 2 ^ 64 → IsSpoken (Number n)
number_spoken n small =
    let w = decimal_writes n small in
    record { kind = kinds.Number n; spells = (w.numeral, w.value, small); says = λ bytes t k e. k }

-- ---- all signs

pub spoken : (s : Sign) → IsSayable s → IsSpoken s
spoken (Mark n) h = mark_spoken n
spoken (Name text) h = record { kind = kinds.Name; spells = h; says = λ bytes t k e. (k, e) }
spoken (Number n) h = number_spoken n h
