-- Reading from the signs that are left, with the first fault that is met: the steps that every part takes.
use Rattle.std.specs.Prelude.{◌≡◌, ℕ, zero, suc, Bool, if◌then◌else◌, List, [], ◌∷◌, length, Option, Some, None, Result, Ok, Err}
use Rattle.pts_tree.specs.declared.mark.Mark as mark
use Rattle.pts_tree.specs.declared.sign.SignKind.{SignKind}
use Rattle.pts_tree.specs.declared.sign.SignKind.TheVariants as k
use Rattle.pts_tree.specs.Grammar.{same}
use Rattle.pts_tree.specs.Signs.{Sign, Mark, Name, Number, kind_of}
use Rattle.pts_parse.specs.declared.reader.Stop.{Stop}
use Rattle.pts_parse.specs.declared.reader.Stop.TheVariants as stops

-- what is read and the signs behind it, or the fault and the number of signs from it on
abbrev pub Read : Type 0 → Type 0
Read A = Result (A × List Sign) Stop

abbrev pub Parser : Type 0 → Type 0
Parser A = List Sign → Read A

unfoldable pub and_then : {A B : Type 0} → Result A Stop → (A → Result B Stop) → Result B Stop
and_then (Ok x) f = f x
and_then (Err e) f = Err e

infixl 10 ◌>>=◌
abbrev pub ◌>>=◌ : {A B : Type 0} → Result A Stop → (A → Result B Stop) → Result B Stop
o >>= f = and_then o f

-- what a function returned, seen by view, is what was read, unless memory ran out
abbrev pub Gives : {X Y : Type 0} → (X → Y) → Result X Stop → Result Y Stop → Type 0
Gives view (Ok x) read = read ≡ Ok (view x)
Gives view (Err (stops.Unexpected left)) read = read ≡ Err (stops.Unexpected left)
Gives view (Err (stops.Nesting left)) read = read ≡ Err (stops.Nesting left)
Gives view (Err stops.NoMemory) read = Unit {0}

-- the kind of the first sign
abbrev pub ahead : List Sign → SignKind
ahead [] = k.End
ahead (t ∷ ts) = kind_of t

-- the signs behind the first
abbrev pub past : List Sign → List Sign
past [] = []
past (t ∷ ts) = ts

-- the first sign does not go on
abbrev pub unexpected : {A : Type 0} → List Sign → Result A Stop
unexpected ts = Err (stops.Unexpected (length ts))

-- this word or symbol
unfoldable pub expect : mark.Mark → List Sign → Result (List Sign) Stop
expect n ts = if same (k.Mark n) (ahead ts) then Ok (past ts) else unexpected ts

-- a bracket opens, where so many more may be open
unfoldable pub open_bracket : ℕ → mark.Mark → List Sign → Result (List Sign) Stop
open_bracket zero n ts = expect n ts >>= λ rest. Err (stops.Nesting (length ts))
open_bracket (suc room) n ts = expect n ts

-- NAME
unfoldable pub name : Parser (List ℕ)
name (Name text ∷ ts) = Ok (text, ts)
name (Mark n ∷ ts) = unexpected (Mark n ∷ ts)
name (Number n ∷ ts) = unexpected (Number n ∷ ts)
name [] = unexpected []

-- NUMBER
unfoldable pub number : Parser ℕ
number (Number n ∷ ts) = Ok (n, ts)
number (Mark n ∷ ts) = unexpected (Mark n ∷ ts)
number (Name text ∷ ts) = unexpected (Name text ∷ ts)
number [] = unexpected []

-- a part as often as the first sign says that one follows
unfoldable pub many : {A : Type 0} → (SignKind → Bool) → Parser A → ℕ → Parser (List A)
many sees part zero ts = Ok ([], ts)
many sees part (suc n) ts = if sees (ahead ts) then (part ts >>= λ x. many sees part n x.1 >>= λ xs. Ok (x.0 ∷ xs.0, xs.1)) else Ok ([], ts)

abbrev pub each_of : {A : Type 0} → (SignKind → Bool) → Parser A → Parser (List A)
each_of sees part ts = many sees part (length ts) ts

-- a part where the first sign says that it follows
unfoldable pub optional : {A : Type 0} → (SignKind → Bool) → Parser A → Parser (Option A)
optional sees part ts = if sees (ahead ts) then (part ts >>= λ x. Ok (Some x.0, x.1)) else Ok (None, ts)
