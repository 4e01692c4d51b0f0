-- Reading sums and what they measure.
use Rattle.std.specs.Prelude.{ℕ, Bool, true, false, if◌then◌else◌, List, Ok}
use Rattle.pts_types.specs.declared.value.Kind.{Kind}
use Rattle.pts_types.specs.declared.value.Kind.TheVariants as kinds
use Rattle.pts_tree.specs.declared.mark.Mark.TheVariants as m
use Rattle.pts_tree.specs.declared.sign.SignKind.{SignKind}
use Rattle.pts_tree.specs.declared.sign.SignKind.TheVariants as k
use Rattle.pts_tree.specs.Grammar.{same}
use Rattle.pts_tree.specs.declared.sum.Atom.{Atom}
use Rattle.pts_tree.specs.declared.sum.Atom.TheVariants as atoms
use Rattle.pts_tree.specs.declared.sum.SumPart.{SumPart}
use Rattle.pts_tree.specs.declared.sum.Sum.{Sum}
use Rattle.pts_tree.specs.declared.sum.Val.{Val}
use Rattle.pts_tree.specs.declared.sum.Val.TheVariants as vals
use Rattle.pts_tree.specs.declared.sum.Range.{Range}
use Rattle.pts_tree.specs.declared.sum.Cell.{Cell}
use Rattle.pts_parse.specs.Reading.{Parser, ◌>>=◌, ahead, past, unexpected, expect, open_bracket, name, number, each_of}

-- NUMBER | NAME
abbrev pub atom_by : SignKind → Parser Atom
atom_by k.Number ts = number ts >>= λ n. Ok (atoms.Number n.0, n.1)
atom_by k.One ts = number ts >>= λ n. Ok (atoms.Number n.0, n.1)
atom_by k.Name ts = name ts >>= λ n. Ok (atoms.Name n.0, n.1)
atom_by _ ts = unexpected ts

unfoldable pub atom : Parser Atom
atom ts = atom_by (ahead ts) ts

-- ("+" | "-") atom
abbrev pub sum_part_by : SignKind → Parser SumPart
sum_part_by (k.Mark m.PlusSign) ts = atom (past ts) >>= λ x. Ok (record { minus = false; atom = x.0 }, x.1)
sum_part_by (k.Mark m.MinusSign) ts = atom (past ts) >>= λ x. Ok (record { minus = true; atom = x.0 }, x.1)
sum_part_by _ ts = unexpected ts

unfoldable pub sum_part : Parser SumPart
sum_part ts = sum_part_by (ahead ts) ts

-- a sum goes on
unfoldable pub goes_on : SignKind → Bool
goes_on (k.Mark m.PlusSign) = true
goes_on (k.Mark m.MinusSign) = true
goes_on _ = false

unfoldable pub sum_parts : Parser (List SumPart)
sum_parts ts = each_of goes_on sum_part ts

-- what follows the first atom of a sum
unfoldable pub sum_behind : Bool → Atom → Parser Sum
sum_behind negative first ts = sum_parts ts >>= λ xs. Ok (record { negative = negative; first = first; rest = xs.0 }, xs.1)

-- what follows the sign of a sum
unfoldable pub sum_from : Bool → Parser Sum
sum_from negative ts = atom ts >>= λ x. sum_behind negative x.0 x.1

unfoldable pub sum : Parser Sum
sum ts = if same (k.Mark m.MinusSign) (ahead ts) then sum_from true (past ts) else sum_from false ts

-- sum | "true" | "false"
abbrev pub val_by : SignKind → Parser Val
val_by (k.Mark m.True) ts = Ok (vals.True, past ts)
val_by (k.Mark m.False) ts = Ok (vals.False, past ts)
val_by _ ts = sum ts >>= λ x. Ok (vals.Sum x.0, x.1)

unfoldable pub val : Parser Val
val ts = val_by (ahead ts) ts

-- NAME "[" sum ".." sum "]"
unfoldable pub range : ℕ → Parser Range
range room ts =
    name ts >>= λ n. open_bracket room m.OpenBracket n.1 >>= λ r. sum r >>= λ low. expect m.Range low.1 >>= λ s. sum s >>= λ high. expect m.CloseBracket high.1 >>= λ t.
    Ok (record { array = n.0; low = low.0; high = high.0 }, t)

-- "[" sum "]"
unfoldable pub index : ℕ → Parser Sum
index room ts = open_bracket room m.OpenBracket ts >>= λ r. sum r >>= λ x. expect m.CloseBracket x.1 >>= λ s. Ok (x.0, s)

-- NAME "[" sum "]"
unfoldable pub cell : ℕ → Parser Cell
cell room ts = name ts >>= λ n. index room n.1 >>= λ x. Ok (record { array = n.0; index = x.0 }, x.1)

-- "i64" | "u64" | "bool"
abbrev pub kind_by : SignKind → Parser Kind
kind_by (k.Mark m.I64) ts = Ok (kinds.I64, past ts)
kind_by (k.Mark m.U64) ts = Ok (kinds.U64, past ts)
kind_by (k.Mark m.Bool) ts = Ok (kinds.Bool, past ts)
kind_by _ ts = unexpected ts

unfoldable pub kind : Parser Kind
kind ts = kind_by (ahead ts) ts

-- NAME ":" kind
unfoldable pub typed : Parser (List ℕ × Kind)
typed ts = name ts >>= λ n. expect m.Colon n.1 >>= λ r. kind r >>= λ q. Ok ((n.0, q.0), q.1)
