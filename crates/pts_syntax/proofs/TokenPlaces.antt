-- The tokens of a text lie within it, and what they say is said at their places.
use Rattle.std.proofs.Common.{◌≡◌, ℕ, ◌+◌, ◌<◌, ◌≤◌, List, [], ◌∷◌, ◌++◌, length, take, get_or, All, refl, sym, ap, subst, ◌∙◌, append_assoc, length-append, arith}
use Rattle.std.specs.List.{slice_range}
use Rattle.std.proofs.lemmas.List.{take_more, take_all}
use Rattle.std.proofs.lemmas.List.Elements.{All-nil, All-cons}
use Rattle.pts_lex.specs.declared.token.Token.{Token}
use Rattle.pts_lex.specs.Lexical.{LeadTo, Lexes}
use Rattle.pts_lex.proofs.Scans.{lies}
use Rattle.pts_tree.specs.Signs.{Sign}
use Rattle.pts_syntax.specs.Syntax.{Says, AllSay}
use Rattle.pts_syntax.specs.TokenTexts.{IsTokenOf}

lead_tokens : (whole front : List ℕ) (at : ℕ) (bytes : List ℕ) (ts : List Token) (end : ℕ) (rest : List ℕ) → whole ≡ front ++ bytes → length front ≡ at → LeadTo at bytes ts end rest → All (IsTokenOf whole) ts
lead_tokens whole front at bytes [] end rest e l h = All-nil (IsTokenOf whole)
lead_tokens whole front at bytes (t ∷ ts) end rest e l (gap, text, after, cuts, spells, start, stop, more) =
    let parts : whole ≡ (front ++ gap) ++ (text ++ after) = e ∙ ap (λ (q : List ℕ). front ++ q) cuts.parts ∙ sym (append_assoc front gap (text ++ after)) in
    let place = lies whole (front ++ gap) text after parts in
    let start_is : length (front ++ gap) ≡ t.start = omega (arith, length-append front gap, l, start) in
    let stop_is : length (front ++ gap) + length text ≡ t.end = omega (arith, start_is, stop) in
    let text_is : slice_range whole t.start t.end ≡ text = rw (← start_is, ← stop_is) place.is_text in
    let joined : whole ≡ ((front ++ gap) ++ text) ++ after = parts ∙ sym (append_assoc (front ++ gap) text after) in
    let behind : length ((front ++ gap) ++ text) ≡ t.end = omega (arith, length-append (front ++ gap) text, stop_is) in
    All-cons (IsTokenOf whole) t ts (record { ordered = omega (arith, start_is, stop_is); within = omega (arith, stop_is, place.within); spells = rw text_is spells })
    (lead_tokens whole ((front ++ gap) ++ text) t.end after ts end rest joined behind more)

pub tokens_lie : (bytes : List ℕ) (ts : List Token) → Lexes bytes ts → All (IsTokenOf bytes) ts
tokens_lie bytes ts (end, rest, leads, blank) = lead_tokens bytes [] 0 bytes ts end rest refl refl leads

-- ---- what was said so far

-- the first tokens, so many, say these signs
pub record SaidTo (bytes : List ℕ) (ts : List Token) (at : ℕ) (ss : List Sign) : Type 0 where
  pub said : AllSay bytes (take at ts) ss

pub said_none : (bytes : List ℕ) (ts : List Token) → SaidTo bytes ts 0 []
said_none bytes ts = record { said = tt }

say_more : (bytes : List ℕ) (ts : List Token) (ss : List Sign) (t : Token) (s : Sign) → AllSay bytes ts ss → Says bytes t s → AllSay bytes (ts ++ t ∷ []) (ss ++ s ∷ [])
say_more bytes [] [] t s h said = (said, tt)
say_more bytes (u ∷ ts) (r ∷ ss) t s h said = (h.0, say_more bytes ts ss t s h.1 said)
say_more bytes [] (r ∷ ss) t s h said = absurd h
say_more bytes (u ∷ ts) [] t s h said = absurd h

pub said_one : (bytes : List ℕ) (ts : List Token) (at : ℕ) (ss : List Sign) (d : Token) (s : Sign) → SaidTo bytes ts at ss → at < length ts → Says bytes (get_or ts at d) s
    → SaidTo bytes ts (at + 1) (ss ++ s ∷ [])
said_one bytes ts at ss d s h within said =
    record { said = rw (take_more ts at d within) (say_more bytes (take at ts) ss (get_or ts at d) s h.said said) }

pub said_all : (bytes : List ℕ) (ts : List Token) (at : ℕ) (ss : List Sign) → SaidTo bytes ts at ss → length ts ≤ at → AllSay bytes ts ss
said_all bytes ts at ss h all = subst (λ us. AllSay bytes us ss) (take_all at ts all) h.said

pub ruleset saying = (said_none, said_one, said_all)

pub same_length : (bytes : List ℕ) (ts : List Token) (ss : List Sign) → AllSay bytes ts ss → length ss ≡ length ts
same_length bytes [] [] h = refl
same_length bytes (t ∷ ts) (s ∷ ss) h = omega (arith, same_length bytes ts ss h.1)
same_length bytes [] (s ∷ ss) h = absurd h
same_length bytes (t ∷ ts) [] h = absurd h
