-- Which bytes are a script, and where bytes that are none fail.
use Rattle.std.specs.Prelude.{◌≡◌, ◌⊎◌, ℕ, ◌-◌, ◌^◌, ◌<◌, true, List, [], ◌∷◌, ◌++◌, length, map, slice_range, slice_index, None}
use Rattle.pts_lex.specs.declared.token.Token.{Token}
use Rattle.pts_lex.specs.declared.token.TokenKind.TheVariants as kinds
use Rattle.pts_lex.specs.declared.token.LexFault.TheVariants as lex_faults
use Rattle.pts_lex.specs.Lexical as lexical
use Rattle.pts_tree.specs.declared.script.Script.{Script}
use Rattle.pts_tree.specs.Marks.{text_of}
use Rattle.pts_tree.specs.Signs.{Sign, Mark, Name, Number}
use Rattle.pts_tree.specs.Scripts.{script, script_allowed}
use Rattle.pts_parse.specs.Brackets.{beyond, bracket_limit}
use Rattle.pts_parse.specs.Promise.{IsRead, IsUnexpected, IsNesting}
use Rattle.pts_syntax.specs.declared.reading.SyntaxFault.{SyntaxFault}
use Rattle.pts_syntax.specs.declared.reading.SyntaxKind.{SyntaxKind}
use Rattle.pts_syntax.specs.declared.reading.SyntaxKind.TheVariants as fault_kinds

-- what a token of these bytes says: a word or symbol by its text, a name by its text, a number by its value
abbrev pub Says : List ℕ → Token → Sign → Type 0
Says bytes t (Mark n) = ((t.kind ≡ kinds.Word) ⊎ (t.kind ≡ kinds.Symbol)) × (slice_range bytes t.start t.end ≡ text_of n)
Says bytes t (Name text) = (t.kind ≡ kinds.Name) × (slice_range bytes t.start t.end ≡ text)
Says bytes t (Number n) = t.kind ≡ kinds.Number n

-- each token says the sign at its place
abbrev pub AllSay : List ℕ → List Token → List Sign → Type 0
AllSay bytes [] [] = Unit {0}
AllSay bytes (t ∷ ts) (s ∷ ss) = Says bytes t s × AllSay bytes ts ss
AllSay bytes [] (s ∷ ss) = ⊥
AllSay bytes (t ∷ ts) [] = ⊥

-- the bytes are these tokens, which say these signs
pub record IsText (bytes : List ℕ) (tokens : List Token) (signs : List Sign) : Type 0 where
  pub lexes : lexical.Lexes bytes tokens
  pub says : AllSay bytes tokens signs

-- the bytes spell this script, with no bracket too many
pub record IsParsed (bytes : List ℕ) (x : Script) : Type 0 where
  pub tokens : List Token
  pub signs : List Sign
  pub text : IsText bytes tokens signs
  pub read : IsRead signs x

-- where the first of the last `left` tokens begins; the length of the bytes where none is left
abbrev pub place_of : List ℕ → List Token → ℕ → ℕ
place_of bytes tokens left = slice_index (map (λ t. t.start) tokens ++ length bytes ∷ []) (length tokens - left)

-- the bytes are tokens, and with the one that begins at this byte they begin no script, or they end there and spell none
pub record IsUnexpectedAt (bytes : List ℕ) (at : ℕ) : Type 0 where
  pub tokens : List Token
  pub signs : List Sign
  pub text : IsText bytes tokens signs
  pub left : ℕ
  pub fault : IsUnexpected signs left
  pub place : at ≡ place_of bytes tokens left

-- the bytes are tokens, and the one that begins at this byte opens a bracket too many
pub record IsNestingAt (bytes : List ℕ) (at : ℕ) : Type 0 where
  pub tokens : List Token
  pub signs : List Sign
  pub text : IsText bytes tokens signs
  pub left : ℕ
  pub fault : IsNesting signs left
  pub place : at ≡ place_of bytes tokens left

-- why the bytes are no script, by the kind of the fault; of want of memory nothing is said
abbrev pub ExplainsKind : List ℕ → ℕ → SyntaxKind → Type 0
ExplainsKind bytes at fault_kinds.Byte = lexical.IsFirstFault bytes (lex_faults.Byte at)
ExplainsKind bytes at fault_kinds.Number = lexical.IsFirstFault bytes (lex_faults.Number at)
ExplainsKind bytes at fault_kinds.Unexpected = IsUnexpectedAt bytes at
ExplainsKind bytes at fault_kinds.Nesting = IsNestingAt bytes at
ExplainsKind bytes at fault_kinds.NoMemory = at ≡ 0

-- why the bytes are no script
abbrev pub Explains : List ℕ → SyntaxFault → Type 0
Explains bytes fault = ExplainsKind bytes fault.at fault.kind

-- ---- what prints and is read back

-- a sign that some token says: any word or symbol, a name that is none, a number below 2 ^ 64
abbrev pub IsSayable : Sign → Type 0
IsSayable (Mark n) = Unit {0}
IsSayable (Name text) = lexical.IsSpelling kinds.Name text
IsSayable (Number n) = n < 2 ^ 64

-- each is a sign that some token says
abbrev pub AreSayable : List Sign → Type 0
AreSayable [] = Unit {0}
AreSayable (s ∷ ss) = IsSayable s × AreSayable ss

-- the grammar has this script, its names and numbers are those of tokens, and no bracket of it is one too many
pub record IsWritable (x : Script) : Type 0 where
  pub allowed : script_allowed x ≡ true
  pub sayable : AreSayable (script x [])
  pub brackets : beyond bracket_limit (script x []) ≡ None

-- the grammar spells this script in fewer than 2^32 tokens
pub record IsSpelled (x : Script) : Type 0 where
  pub writable : IsWritable x
  pub few : length (script x []) < 2 ^ 32
