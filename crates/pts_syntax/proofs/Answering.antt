-- What is answered for the tokens of a text.
use Rattle.std.proofs.Common.{◌≡◌, ℕ, ◌≤◌, List, length, arith}
use Rattle.pts_lex.specs.declared.token.Token.{Token}
use Rattle.pts_lex.specs.Lexical.{Lexes}
use Rattle.pts_tree.specs.declared.script.Script.{Script}
use Rattle.pts_tree.specs.Signs.{Sign}
use Rattle.pts_parse.specs.Promise.{IsRead, IsUnexpected, IsNesting}
use Rattle.pts_syntax.specs.Syntax.{AllSay, IsParsed, IsUnexpectedAt, IsNestingAt, place_of}
use Rattle.pts_syntax.proofs.TokenPlaces.{same_length}

pub unexpected_within : (bytes : List ℕ) (ts : List Token) (ss : List Sign) (left : ℕ) → AllSay bytes ts ss → IsUnexpected ss left → left ≤ length ts
unexpected_within bytes ts ss left said u = omega (arith, same_length bytes ts ss said, u.within)

pub nesting_within : (bytes : List ℕ) (ts : List Token) (ss : List Sign) (left : ℕ) → AllSay bytes ts ss → IsNesting ss left → left ≤ length ts
nesting_within bytes ts ss left said n = omega (arith, same_length bytes ts ss said, n.within)

pub parsed : (bytes : List ℕ) (ts : List Token) (ss : List Sign) (x : Script) → Lexes bytes ts → AllSay bytes ts ss → IsRead ss x → IsParsed bytes x
parsed bytes ts ss x lexes said r = record { tokens = ts; signs = ss; text = record { lexes = lexes; says = said }; read = r }

pub unexpected_at : (bytes : List ℕ) (ts : List Token) (ss : List Sign) (left at : ℕ) → Lexes bytes ts → AllSay bytes ts ss → IsUnexpected ss left → at ≡ place_of bytes ts left → IsUnexpectedAt bytes at
unexpected_at bytes ts ss left at lexes said u e = record { tokens = ts; signs = ss; text = record { lexes = lexes; says = said }; left = left; fault = u; place = e }

pub nesting_at : (bytes : List ℕ) (ts : List Token) (ss : List Sign) (left at : ℕ) → Lexes bytes ts → AllSay bytes ts ss → IsNesting ss left → at ≡ place_of bytes ts left → IsNestingAt bytes at
nesting_at bytes ts ss left at lexes said n e = record { tokens = ts; signs = ss; text = record { lexes = lexes; says = said }; left = left; fault = n; place = e }

pub ruleset answering = (unexpected_within, nesting_within, parsed, unexpected_at, nesting_at)
