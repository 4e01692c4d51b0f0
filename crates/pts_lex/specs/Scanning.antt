-- Where the first token of a text begins and how long it is.
use Rattle.std.specs.Prelude.{ℕ, suc, ◌+◌, ◌^◌, Bool, true, false, not, ◌==◌, nat_lt, if◌then◌else◌, List, [], ◌∷◌, take, drop, Option, Some, None, Result, Ok, Err}
use Rattle.std.specs.List.{list_any, prefix_len}
use Rattle.pts_lex.specs.Lexical.{line_feed, hash, is_white, is_letter, is_digit, is_letter_or_digit, is_among, words, singles, doubles, number_of}
use Rattle.pts_lex.specs.declared.token.LexFault.{LexFault}
use Rattle.pts_lex.specs.declared.token.LexFault.TheVariants as faults
use Rattle.pts_lex.specs.declared.token.Token.{Token}
use Rattle.pts_lex.specs.declared.token.TokenKind.{TokenKind}
use Rattle.pts_lex.specs.declared.token.TokenKind.TheVariants.{Word, Name, Number, Symbol}

-- how many bytes of white space and comments stand at the front; the flag says that a comment is open
abbrev pub blank_len : Bool → List ℕ → ℕ
blank_len _ [] = 0
blank_len true (b ∷ bs) = suc (blank_len (not (b == line_feed)) bs)
blank_len false (b ∷ bs) = if b == hash then suc (blank_len true bs) else (if is_white b then suc (blank_len false bs) else 0)

abbrev pub is_single : ℕ → Bool
is_single b = list_any (λ s. s == b) singles

abbrev pub is_double : ℕ → ℕ → Bool
is_double a b = is_among doubles (a ∷ b ∷ [])

-- the length of the symbol at the front, or 0
abbrev pub symbol_len : List ℕ → ℕ
symbol_len [] = 0
symbol_len (a ∷ []) = if is_single a then 1 else 0
symbol_len (a ∷ b ∷ rest) = if is_double a b then 2 else (if is_single a then 1 else 0)

-- the length of the lexeme at the front, or 0 where none begins
abbrev pub lexeme_len : List ℕ → ℕ
lexeme_len [] = 0
lexeme_len (b ∷ bs) =
    if is_letter b then suc (prefix_len is_letter_or_digit bs) else (if is_digit b then suc (prefix_len is_digit bs) else symbol_len (b ∷ bs))

-- what a lexeme is as a token; a number above the greatest u64 is none
unfoldable pub kind_of : List ℕ → Option TokenKind
kind_of [] = None
kind_of (b ∷ bs) =
    if is_letter b then Some (if is_among words (b ∷ bs) then Word else Name)
    else (if is_digit b then (if nat_lt (number_of (b ∷ bs)) (2 ^ 64) then Some (Number (number_of (b ∷ bs))) else None) else Some Symbol)

abbrev pub token_of : ℕ → ℕ → Option TokenKind → Result (Option Token) LexFault
token_of start len (Some kind) = Ok (Some (record { kind = kind; start = start; end = start + len }))
token_of start len None = Err (faults.Number start)

abbrev pub scan_at : ℕ → List ℕ → Result (Option Token) LexFault
scan_at start [] = Ok None
scan_at start (b ∷ bs) =
    let len = lexeme_len (b ∷ bs) in
    if len == 0 then Err (faults.Byte start) else token_of start len (kind_of (take len (b ∷ bs)))

-- the first token of a text
unfoldable pub scan : List ℕ → Result (Option Token) LexFault
scan bytes = scan_at (blank_len false bytes) (drop (blank_len false bytes) bytes)
