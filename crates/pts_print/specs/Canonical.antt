-- The canonical bytes of a script.
use Rattle.std.specs.Prelude.{ℕ, List, [], ◌∷◌, ◌++◌, flat_map, decimal}
use Rattle.pts_tree.specs.declared.script.Item.{Item}
use Rattle.pts_tree.specs.declared.script.Script.{Script}
use Rattle.pts_tree.specs.Marks.{text_of}
use Rattle.pts_tree.specs.Signs.{Sign, Mark, Name, Number}
use Rattle.pts_tree.specs.Scripts.{header, item}

-- the byte between two signs
abbrev pub space : ℕ
space = 32

-- the byte that ends a line
abbrev pub line_feed : ℕ
line_feed = 10

-- the bytes of a sign; a number has no leading zeros
abbrev pub sign_bytes : Sign → List ℕ
sign_bytes (Mark n) = text_of n
sign_bytes (Name text) = text
sign_bytes (Number n) = decimal n

-- the signs joined by one space
abbrev pub spaced : List Sign → List ℕ
spaced [] = []
spaced (t ∷ []) = sign_bytes t
spaced (t ∷ u ∷ ts) = sign_bytes t ++ space ∷ spaced (u ∷ ts)

-- the signs joined by one space, and a line feed
abbrev pub line : List Sign → List ℕ
line ts = spaced ts ++ line_feed ∷ []

-- the line of an item
abbrev pub item_line : Item → List ℕ
item_line x = line (item x [])

-- a line for the header and one for each item
abbrev pub canonical : Script → List ℕ
canonical x = line (header x.version []) ++ flat_map item_line x.items
