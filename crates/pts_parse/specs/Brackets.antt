-- How many brackets are open at once.
use Rattle.std.specs.Prelude.{ℕ, zero, suc, List, [], ◌∷◌, length, Option, Some, None}
use Rattle.pts_tree.specs.declared.mark.Mark.TheVariants as m
use Rattle.pts_tree.specs.declared.sign.SignKind.{SignKind}
use Rattle.pts_tree.specs.declared.sign.SignKind.TheVariants as k
use Rattle.pts_tree.specs.Signs.{Sign, kind_of}

-- the most brackets that may be open at once
abbrev pub bracket_limit : ℕ
bracket_limit = 64

-- room for one bracket less; None where there was room for none
abbrev pub less : ℕ → Option ℕ
less zero = None
less (suc room) = Some room

-- behind a sign of this kind: for how many more open brackets there is room; None where it opens one too many
abbrev pub room_behind : SignKind → ℕ → Option ℕ
room_behind (k.Mark m.OpenParen) room = less room
room_behind (k.Mark m.OpenBracket) room = less room
room_behind (k.Mark m.OpenBrace) room = less room
room_behind (k.Mark m.CloseParen) room = Some (suc room)
room_behind (k.Mark m.CloseBracket) room = Some (suc room)
room_behind (k.Mark m.CloseBrace) room = Some (suc room)
room_behind _ room = Some room

-- the number of signs from the first one on that opens a bracket too many, where there is room for so many
abbrev pub beyond : ℕ → List Sign → Option ℕ
beyond room [] = None
beyond room (t ∷ ts) = elim (room_behind (kind_of t) room) [
  | None ↦ Some (suc (length ts))
  | Some left ↦ beyond left ts
]
