-- The bytes of a text say one list of signs, and they have no first fault beside it.
use Rattle.std.proofs.Common.{◌≡◌, ◌⊎◌, ℕ, List, [], ◌∷◌, refl, sym, ap, subst, ◌∙◌, inl, inr}
use Rattle.pts_lex.specs.declared.token.LexFault.{LexFault}
use Rattle.pts_lex.specs.declared.token.Token.{Token}
use Rattle.pts_lex.specs.declared.token.TokenKind.{TokenKind}
use Rattle.pts_lex.specs.declared.token.TokenKind.TheVariants as kinds
use Rattle.pts_lex.specs.Lexical.{IsFirstFault}
use Rattle.pts_lex.proofs.OneFault.{no_fault}
use Rattle.pts_lex.proofs.TokenLists.{at_most_one}
use Rattle.pts_tree.specs.Signs.{Sign, Mark, Name, Number}
use Rattle.pts_tree.proofs.Texts.{one_text}
use Rattle.pts_syntax.specs.Syntax.{Says, AllSay, IsText}

-- the kinds of words and symbols
abbrev IsMarkKind : TokenKind → Type 0
IsMarkKind k = (k ≡ kinds.Word) ⊎ (k ≡ kinds.Symbol)

mark_or_name : (k : TokenKind) → IsMarkKind k → k ≡ kinds.Name → ⊥
mark_or_name k (inl a) b = cc
mark_or_name k (inr a) b = cc

mark_or_number : (k : TokenKind) (n : ℕ) → IsMarkKind k → k ≡ kinds.Number n → ⊥
mark_or_number k n (inl a) b = cc
mark_or_number k n (inr a) b = cc

name_or_number : (k : TokenKind) (n : ℕ) → k ≡ kinds.Name → k ≡ kinds.Number n → ⊥
name_or_number k n a b = cc

one_number : (k : TokenKind) (m n : ℕ) → k ≡ kinds.Number m → k ≡ kinds.Number n → m ≡ n
one_number k m n a b = cc

-- a token says at most one sign
pub one_sign : (bytes : List ℕ) (t : Token) (s r : Sign) → Says bytes t s → Says bytes t r → s ≡ r
one_sign bytes t (Mark m) (Mark n) a b = ap Mark (one_text m n (sym a.1 ∙ b.1))
one_sign bytes t (Mark m) (Name text) a b = absurd (mark_or_name t.kind a.0 b.0)
one_sign bytes t (Mark m) (Number n) a b = absurd (mark_or_number t.kind n a.0 b)
one_sign bytes t (Name text) (Mark n) a b = absurd (mark_or_name t.kind b.0 a.0)
one_sign bytes t (Name text) (Name other) a b = ap Name (sym a.1 ∙ b.1)
one_sign bytes t (Name text) (Number n) a b = absurd (name_or_number t.kind n a.0 b)
one_sign bytes t (Number m) (Mark n) a b = absurd (mark_or_number t.kind m b.0 a)
one_sign bytes t (Number m) (Name text) a b = absurd (name_or_number t.kind m b.0 a)
one_sign bytes t (Number m) (Number n) a b = ap Number (one_number t.kind m n a b)

-- tokens say at most one list of signs
pub same_signs : (bytes : List ℕ) (ts : List Token) (ss rs : List Sign) → AllSay bytes ts ss → AllSay bytes ts rs → ss ≡ rs
same_signs bytes [] [] [] a b = refl
same_signs bytes (t ∷ ts) (s ∷ ss) (r ∷ rs) a b =
    rw (one_sign bytes t s r a.0 b.0, same_signs bytes ts ss rs a.1 b.1) refl
same_signs bytes [] [] (r ∷ rs) a b = absurd b
same_signs bytes [] (s ∷ ss) rs a b = absurd a
same_signs bytes (t ∷ ts) [] rs a b = absurd a
same_signs bytes (t ∷ ts) (s ∷ ss) [] a b = absurd b

-- the same tokens and the same signs
pub record AreOneText (tokens others : List Token) (ss rs : List Sign) : Type 0 where
  pub tokens_agree : tokens ≡ others
  pub signs_agree : ss ≡ rs

-- bytes are one list of tokens and say one list of signs
pub one_answer : (bytes : List ℕ) (tokens others : List Token) (ss rs : List Sign) → IsText bytes tokens ss → IsText bytes others rs → AreOneText tokens others ss rs
one_answer bytes tokens others ss rs a b =
    let same : others ≡ tokens = at_most_one bytes others tokens b.lexes a.lexes in
    record { tokens_agree = sym same; signs_agree = same_signs bytes tokens ss rs a.says (subst (λ ts. AllSay bytes ts rs) same b.says) }

-- bytes that are tokens have no first fault
pub no_fault_in_text : (bytes : List ℕ) (tokens : List Token) (ss : List Sign) (fault : LexFault) → IsText bytes tokens ss → IsFirstFault bytes fault → ⊥
no_fault_in_text bytes tokens ss fault a f = no_fault bytes tokens fault a.lexes f
