-- Each word and symbol of the language has the text of one mark.
use Rattle.std.proofs.Common.{◌≡◌, ◌≢◌, ◌⊎◌, subst, ℕ, true, eqb, List, [], ◌∷◌, refl, sym, ap, ◌∙◌, inl, inr}
use Rattle.std.specs.List.{list_any}
use Rattle.std.specs.Str.{bytes_eq}
use Rattle.std.proofs.lemmas.Bool.{eqb-true, or_cases}
use Rattle.std.proofs.lemmas.Slice.Eq.{bytes_eq-Decides}
use Rattle.std.specs.List.{slice_range}
use Rattle.pts_lex.specs.declared.token.Token.{Token}
use Rattle.pts_lex.specs.declared.token.TokenKind.{TokenKind}
use Rattle.pts_lex.specs.declared.token.TokenKind.TheVariants as kinds
use Rattle.pts_syntax.specs.TokenTexts.{IsTokenOf}
use Rattle.pts_lex.specs.Lexical.{IsSpelling, is_among, words, singles, doubles, IsSymbol}
use Rattle.pts_tree.specs.declared.mark.Mark.{Mark}
use Rattle.pts_tree.specs.declared.mark.Mark.TheVariants as m
use Rattle.pts_tree.specs.Marks.{text_of}

-- some mark has this text
abbrev pub IsMark : List ℕ → Type 0
IsMark text = (n : Mark) × (text ≡ text_of n)

-- each of these texts is that of a mark
data AreMarks : List (List ℕ) → Type 0 where
  none : AreMarks []
  one : {t : List ℕ} {ts : List (List ℕ)} → IsMark t → AreMarks ts → AreMarks (t ∷ ts)

among_mark : (texts : List (List ℕ)) (text : List ℕ) → AreMarks texts → is_among texts text ≡ true → IsMark text
among_mark [] text none h = absurd (cc)
among_mark (t ∷ ts) text (one i more) h = elim (or_cases (bytes_eq t text) (list_any (λ u. bytes_eq u text) ts) h) [
  | inl same ↦ (i.0, sym ((bytes_eq-Decides t text).0 same) ∙ i.1)
  | inr others ↦ among_mark ts text more others
]

-- the texts of one byte
data AreMarkBytes : List ℕ → Type 0 where
  no_byte : AreMarkBytes []
  one_byte : {b : ℕ} {bs : List ℕ} → IsMark (b ∷ []) → AreMarkBytes bs → AreMarkBytes (b ∷ bs)

byte_mark : (bytes : List ℕ) (b : ℕ) → AreMarkBytes bytes → list_any (λ s. eqb s b) bytes ≡ true → IsMark (b ∷ [])
byte_mark [] b no_byte h = absurd (cc)
byte_mark (s ∷ ss) b (one_byte i more) h = elim (or_cases (eqb s b) (list_any (λ t. eqb t b) ss) h) [
  | inl same ↦ (i.0, ap (λ c. c ∷ []) (sym (eqb-true s b same)) ∙ i.1)
  | inr others ↦ byte_mark ss b more others
]

words_are_marks : AreMarks words
unfolding words text_of
words_are_marks =
    one (m.Pts, refl) (one (m.Const, refl) (one (m.Array, refl) (one (m.Function, refl) (one (m.List, refl) (one (m.Fill, refl) (one (m.Iota, refl) (one (m.Step, refl) (one (m.Mix, refl) (one (m.I64, refl) (one (m.U64, refl) (one (m.Bool, refl) (one (m.True, refl) (one (m.False, refl) (one (m.If, refl) (one (m.Then, refl) (one (m.Else, refl) (one (m.Throw, refl) (one (m.Seq, refl) (one (m.Par, refl) (one (m.ParUnseq, refl) (one (m.Unseq, refl) (one (m.Vector, refl) (one (m.ForEach, refl) (one (m.Transform, refl) (one (m.FindIf, refl) (one (m.CountIf, refl) (one (m.Reduce, refl) (one (m.TransformReduce, refl) (one (m.InclusiveScan, refl) (one (m.ExclusiveScan, refl) (one (m.TransformInclusiveScan, refl) (one (m.TransformExclusiveScan, refl) (one (m.ForLoop, refl) (one (m.TaskBlock, refl) (one (m.Print, refl) (one (m.Init, refl) (one (m.Into, refl) (one (m.To, refl) (one (m.As, refl) (one (m.Induct, refl) (one (m.Identity, refl) (one (m.Let, refl) (one (m.VecOff, refl) (one (m.Ordered, refl) (one (m.Run, refl) (one (m.Wait, refl) (one (m.Plus, refl) (one (m.Multiplies, refl) (one (m.BitAnd, refl) (one (m.BitOr, refl) (one (m.BitXor, refl) (one (m.Min, refl) (one (m.Max, refl) (none))))))))))))))))))))))))))))))))))))))))))))))))))))))

doubles_are_marks : AreMarks doubles
unfolding text_of
doubles_are_marks =
    one (m.Arrow, refl) (one (m.Range, refl) (one (m.TildeEqual, refl) (one (m.PlusEqual, refl) (one (m.MinusEqual, refl) (one (m.StarEqual, refl) (one (m.AmpersandEqual, refl) (one (m.BarEqual, refl) (one (m.CaretEqual, refl) (one (m.EqualEqual, refl) (one (m.ExclamationEqual, refl) (one (m.LessEqual, refl) (one (m.GreaterEqual, refl) (one (m.AmpersandAmpersand, refl) (one (m.BarBar, refl) (none)))))))))))))))

singles_are_marks : AreMarkBytes singles
unfolding text_of
singles_are_marks =
    one_byte (m.Semicolon, refl) (one_byte (m.Colon, refl) (one_byte (m.Comma, refl) (one_byte (m.Equal, refl) (one_byte (m.OpenParen, refl) (one_byte (m.CloseParen, refl) (one_byte (m.OpenBracket, refl) (one_byte (m.CloseBracket, refl) (one_byte (m.OpenBrace, refl) (one_byte (m.CloseBrace, refl) (one_byte (m.PlusSign, refl) (one_byte (m.MinusSign, refl) (one_byte (m.Star, refl) (one_byte (m.Slash, refl) (one_byte (m.Percent, refl) (one_byte (m.Ampersand, refl) (one_byte (m.Bar, refl) (one_byte (m.Caret, refl) (one_byte (m.Exclamation, refl) (one_byte (m.Less, refl) (one_byte (m.Greater, refl) (no_byte)))))))))))))))))))))

pub word_mark : (text : List ℕ) → is_among words text ≡ true → IsMark text
word_mark text h = among_mark words text words_are_marks h

pub symbol_mark : (text : List ℕ) → IsSymbol text → IsMark text
symbol_mark [] h = absurd h
symbol_mark (a ∷ []) h = byte_mark singles a singles_are_marks h
symbol_mark (a ∷ b ∷ []) h = among_mark doubles (a ∷ b ∷ []) doubles_are_marks h
symbol_mark (a ∷ b ∷ c ∷ rest) h = absurd h

of_kind : (bytes : List ℕ) (t : Token) (k : TokenKind) → IsTokenOf bytes t → t.kind ≡ k → IsSpelling k (slice_range bytes t.start t.end)
of_kind bytes t k i e = subst (λ (j : TokenKind). IsSpelling j (slice_range bytes t.start t.end)) e i.spells

token_mark : (bytes : List ℕ) (t : Token) → IsTokenOf bytes t → (t.kind ≡ kinds.Word) ⊎ (t.kind ≡ kinds.Symbol) → IsMark (slice_range bytes t.start t.end)
token_mark bytes t i (inl e) = word_mark (slice_range bytes t.start t.end) (of_kind bytes t kinds.Word i e).1
token_mark bytes t i (inr e) = symbol_mark (slice_range bytes t.start t.end) (of_kind bytes t kinds.Symbol i e)

-- a word or symbol has the text of some mark
pub no_mark : (bytes : List ℕ) (t : Token) → IsTokenOf bytes t → (t.kind ≡ kinds.Word) ⊎ (t.kind ≡ kinds.Symbol)
    → ((n : Mark) → slice_range bytes t.start t.end ≢ text_of n) → ⊥
no_mark bytes t i k differs = let found = token_mark bytes t i k in differs found.0 found.1
