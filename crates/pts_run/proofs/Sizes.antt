-- A script within the limit has few tokens.
use Rattle.std.proofs.Common.{inl, inr, ◌≡◌, ℕ, ◌+◌, ◌≤◌, List, [], ◌∷◌, ◌++◌, length, ap, ◌∙◌, length-append, arith}
use Rattle.pts_lex.specs.declared.token.Token.{Token}
use Rattle.pts_lex.specs.Lexical.{Cuts, IsLexeme, LeadTo}
use Rattle.pts_tree.specs.declared.script.Script.{Script}
use Rattle.pts_tree.specs.Scripts.{script}
use Rattle.pts_syntax.specs.Syntax.{IsParsed, IsSpelled}
use Rattle.pts_syntax.proofs.TokenPlaces.{same_length}
use Rattle.pts_syntax.proofs.Writable.{writable}
use Rattle.pts_run.specs.Output.{script_limit}

-- ---- tokens and bytes

-- a lexeme is not empty
filled : (text : List ℕ) → IsLexeme text → 1 ≤ length text
filled [] h = absurd (none h)
  where
    none : IsLexeme [] → ⊥
    none (inl x) = x
    none (inr (inl x)) = x
    none (inr (inr x)) = x
filled (b ∷ bs) h = omega arith

few_tokens : (at : ℕ) (bytes : List ℕ) (ts : List Token) (end : ℕ) (rest : List ℕ) → LeadTo at bytes ts end rest → length ts ≤ length bytes
few_tokens at bytes [] end rest h = omega arith
few_tokens at bytes (t ∷ ts) end rest h =
    let gap = h.0 in
    let text = h.1 in
    let after = h.2 in
    let cuts : Cuts bytes gap text after = h.3 in
    let more : length ts ≤ length after = few_tokens t.end after ts end rest h.7 in
    let some = filled text cuts.lexeme in
    let size : length bytes ≡ length gap + (length text + length after) = ap length cuts.parts ∙ length-append gap (text ++ after) ∙ ap (λ n. length gap + n) (length-append text after) in
    omega (arith, more, some, size)

-- a script within the limit is spelled in fewer than 2^32 tokens
pub spelled : (bytes : List ℕ) (x : Script) → length bytes ≤ script_limit → IsParsed bytes x → IsSpelled x
spelled bytes x short parsed =
    let lexes = parsed.text.lexes in
    let tokens : length parsed.tokens ≤ length bytes = few_tokens 0 bytes parsed.tokens lexes.0 lexes.1 lexes.2 in
    let signs : length parsed.signs ≡ length parsed.tokens = same_length bytes parsed.tokens parsed.signs parsed.text.says in
    let text : length parsed.signs ≡ length (script x []) = ap length parsed.read.spells.text in
    record { writable = writable bytes x parsed; few = omega (arith, short, tokens, signs, text) }
