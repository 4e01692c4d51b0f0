-- The canonical bytes of a script are read as its signs.
use Rattle.std.proofs.Common.{◌≡◌, ℕ, ◌+◌, true, List, [], ◌∷◌, ◌++◌, length, refl, sym, ap, subst, ◌∙◌, append_assoc, length-append, arith}
use Rattle.std.specs.List.{slice_range}
use Rattle.std.proofs.lemmas.List.{append-nil}
use Rattle.pts_lex.specs.declared.token.Token.{Token}
use Rattle.pts_lex.specs.Lexical.{is_white, IsGap, nothing, white, IsBlank, Cuts, LeadTo}
use Rattle.pts_lex.proofs.LexemeEnds.{white_ends}
use Rattle.pts_lex.proofs.Scans.{lies}
use Rattle.pts_lex.proofs.Spellings.{spelling_lexeme}
use Rattle.pts_tree.specs.declared.script.Script.{Script}
use Rattle.pts_tree.specs.Signs.{Sign}
use Rattle.pts_tree.specs.Scripts.{script}
use Rattle.pts_print.specs.Canonical.{sign_bytes, canonical}
use Rattle.pts_syntax.specs.Syntax.{AllSay, IsText, AreSayable}
use Rattle.pts_syntax.proofs.SayableSigns.{spoken}
use Rattle.pts_syntax.proofs.WrittenSigns.{IsWritten, canonical_written}

-- what stands before a token: white space that ends a text as well
record IsShort (gap : List ℕ) : Type 0 where
  is_gap : IsGap gap
  is_blank : IsBlank gap

no_gap : IsShort []
no_gap = record { is_gap = nothing; is_blank = white refl nothing }

one_white : (b : ℕ) → is_white b ≡ true → IsShort (b ∷ [])
one_white b w = record { is_gap = white w nothing; is_blank = white w (white refl nothing) }

-- tokens lead from these bytes to a blank rest and say these signs
record AreRead (whole : List ℕ) (at : ℕ) (bytes : List ℕ) (ss : List Sign) : Type 0 where
  tokens : List Token
  end : ℕ
  rest : List ℕ
  leads : LeadTo at bytes tokens end rest
  blank : IsBlank rest
  says : AllSay whole tokens ss

-- the whole text is the front, a gap and what is written for the signs
written_read : (ss : List Sign) (whole front gap : List ℕ) (at : ℕ) (bytes : List ℕ) → whole ≡ front ++ (gap ++ bytes) → length front ≡ at → IsShort gap
    → IsWritten ss bytes → AreSayable ss → AreRead whole at (gap ++ bytes) ss
written_read [] whole front gap at bytes e l short w sayable =
    let same : gap ++ bytes ≡ gap = ap (λ bs. gap ++ bs) w ∙ append-nil gap in
    record { tokens = []; end = at; rest = gap ++ bytes; leads = (refl, refl); blank = subst IsBlank (sym same) short.is_blank; says = tt }
written_read (s ∷ ss) whole front gap at bytes e l short (b, rest, w, split, others) (sayable, more) =
    let text = sign_bytes s in
    let how = spoken s sayable in
    let start = at + length gap in
    let end = start + length text in
    let t : Token = record { kind = how.kind; start = start; end = end } in
    let parts : whole ≡ (front ++ gap) ++ (text ++ b ∷ rest) =
    e ∙ ap (λ bs. front ++ (gap ++ bs)) split ∙ sym (append_assoc front gap (text ++ b ∷ rest)) in
    let start_is : length (front ++ gap) ≡ start = omega (arith, length-append front gap, l) in
    let end_is : length (front ++ gap) + length text ≡ end = omega (arith, start_is) in
    let joined : whole ≡ ((front ++ gap) ++ text) ++ b ∷ rest = parts ∙ sym (append_assoc (front ++ gap) text (b ∷ rest)) in
    let behind : length ((front ++ gap) ++ text) ≡ end = omega (arith, length-append (front ++ gap) text, end_is) in
    let text_is : slice_range whole start end ≡ text = rw (← start_is) (lies whole (front ++ gap) text (b ∷ rest) parts).is_text in
    let cuts : Cuts (gap ++ bytes) gap text (b ∷ rest) = record {
      parts = ap (λ bs. gap ++ bs) split;
      blank = short.is_gap;
      lexeme = spelling_lexeme how.kind text how.spells;
      longest = λ further after. white_ends text b rest further after w;
    } in
    let next = written_read ss whole ((front ++ gap) ++ text) (b ∷ []) end rest joined behind (one_white b w) others more in
    record {
      tokens = t ∷ next.tokens;
      end = next.end;
      rest = next.rest;
      leads = (gap, text, b ∷ rest, cuts, how.spells, refl, refl, next.leads);
      blank = next.blank;
      says = (how.says whole t refl text_is, next.says);
    }

-- the canonical bytes of a script are tokens that say its signs
pub canonical_text : (x : Script) → AreSayable (script x []) → (tokens : List Token) × IsText (canonical x) tokens (script x [])
canonical_text x sayable =
    let read = written_read (script x []) (canonical x) [] [] 0 (canonical x) refl refl no_gap (canonical_written x) sayable in
    (read.tokens, record { lexes = (read.end, read.rest, read.leads, read.blank); says = read.says })
