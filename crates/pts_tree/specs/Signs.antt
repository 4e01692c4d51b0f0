-- Tokens by what they say, and what the grammar asks of them.
use Rattle.std.specs.Prelude.{ℕ, zero, suc, List, Option, Some, None}
use Rattle.pts_tree.specs.declared.mark.Mark as mark
use Rattle.pts_tree.specs.declared.sign.SignKind.{SignKind}
use Rattle.pts_tree.specs.declared.sign.SignKind.TheVariants as k

-- a word or symbol of the language, a name by its text, or a number by its value
pub data Sign : Type 0 where
  Mark : mark.Mark → Sign
  Name : List ℕ → Sign
  Number : ℕ → Sign

-- 1 has a kind of its own, for the version in the header
abbrev pub number_kind : ℕ → SignKind
number_kind zero = k.Number
number_kind (suc zero) = k.One
number_kind (suc (suc n)) = k.Number

-- what the grammar asks of a token
abbrev pub kind_of : Sign → SignKind
kind_of (Mark m) = k.Mark m
kind_of (Name text) = k.Name
kind_of (Number n) = number_kind n

-- the text of a name
abbrev pub name_of : Sign → Option (List ℕ)
name_of (Name text) = Some text
name_of _ = None

-- the value of a number
abbrev pub number_of : Sign → Option ℕ
number_of (Number n) = Some n
number_of _ = None
