-- Lists of evaluations: grids, strips and chunks.
use Rattle.std.specs.Prelude.{◌≡◌, ◌≤◌, ℕ, zero, suc, ◌+◌, ◌-◌, Bool, List, [], ◌∷◌, ◌++◌, nat_le, nat_lt, ◌&&◌, if◌then◌else◌}
use Rattle.pts_orders.specs.Evaluations.{Evaluation, at, one_if}

-- so many points at a position, from the first one on
abbrev pub points_at : ℕ → ℕ → ℕ → List Evaluation
points_at position first zero = []
points_at position first (suc count) = at position first ∷ points_at position (suc first) count

-- so many positions from a start on, one after the other, each with the same points
abbrev pub grid : ℕ → ℕ → ℕ → ℕ → List Evaluation
grid start zero first count = []
grid start (suc height) first count = points_at start first count ++ grid (suc start) height first count

-- index order: all positions, from 0 on
abbrev pub index_order : ℕ → ℕ → ℕ → List Evaluation
index_order positions first count = grid 0 positions first count

-- the points from the first one on, in parts that end before these numbers; each part at all the positions, before the next part
abbrev pub strip : ℕ → ℕ → ℕ → List ℕ → List Evaluation
strip start height first [] = []
strip start height first (end ∷ ends) = grid start height first (end - first) ++ strip start height end ends

-- the positions from a start on, in strips that end before these numbers, one strip after the other
abbrev pub strips : ℕ → List ℕ → ℕ → List ℕ → List Evaluation
strips start [] first ends = []
strips start (row ∷ rows) first ends = strip start (row - start) first ends ++ strips row rows first ends

-- the ends of strips of one position each
abbrev pub singles : ℕ → ℕ → List ℕ
singles start zero = []
singles start (suc height) = suc start ∷ singles (suc start) height

-- the ends of parts of the points from the first one on, where a point that is joined to the next one is in one part with it
abbrev pub part_ends : (ℕ → Bool) → ℕ → ℕ → List ℕ
part_ends joined first zero = []
part_ends joined first (suc zero) = suc first ∷ []
part_ends joined first (suc (suc count)) =
    if joined first then part_ends joined (suc first) (suc count) else suc first ∷ part_ends joined (suc first) (suc count)

-- numbers that do not fall, from the first on up to the last
abbrev pub Rises : ℕ → List ℕ → ℕ → Type 0
Rises first [] last = first ≡ last
Rises first (number ∷ numbers) last = (first ≤ number) × Rises number numbers last

-- positions that follow one another
pub record Chunk : Type 0 where
  pub start : ℕ
  pub height : ℕ

-- a position is one of the chunk
abbrev pub is_in : Chunk → ℕ → Bool
is_in chunk position = nat_le chunk.start position && nat_lt position (chunk.start + chunk.height)

-- in how many chunks a position is
abbrev pub chunks_with : ℕ → List Chunk → ℕ
chunks_with position [] = 0
chunks_with position (chunk ∷ rest) = one_if (is_in chunk position) + chunks_with position rest

-- the chunks one after the other, each in index order
abbrev pub chunks : ℕ → ℕ → List Chunk → List Evaluation
chunks first count [] = []
chunks first count (chunk ∷ rest) = grid chunk.start chunk.height first count ++ chunks first count rest
