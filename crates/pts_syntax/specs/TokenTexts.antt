-- A token's text lies within the bytes.
use Rattle.std.specs.Prelude.{ℕ, ◌≤◌, List, length, slice_range}
use Rattle.pts_lex.specs.declared.token.Token.{Token}
use Rattle.pts_lex.specs.Lexical.{IsSpelling}

-- the bytes from the token's start on and before its end are a text of its kind
pub record IsTokenOf (bytes : List ℕ) (t : Token) : Type 0 where
  pub ordered : t.start ≤ t.end
  pub within : t.end ≤ length bytes
  pub spells : IsSpelling t.kind (slice_range bytes t.start t.end)
