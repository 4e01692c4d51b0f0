-- Lines of cells, and the least positions at which two of them meet.
use Rattle.std.specs.Prelude.{◌≡◌, ℕ, ◌^◌, ◌<◌, ◌≤◌, ◌⊎◌, ℤ, pos, ◌+ℤ◌, ◌*ℤ◌, ◌≤ℤ◌, ◌<ℤ◌}
use Rattle.pts_affine.specs.declared.line.Line.{Line}

-- the cell at a position
abbrev pub cell : Line → ℕ → ℤ
cell line p = line.c *ℤ pos p +ℤ line.d

-- one of the first 2^20 cells
abbrev pub IsCell : ℤ → Type 0
IsCell z = (pos 0 ≤ℤ z) × (z <ℤ pos (2 ^ 20))

-- at most 2^20 positions, each at one of the first 2^20 cells, and no slope where there is no second position
pub record IsBounded (line : Line) : Type 0 where
  pub cells : (p : ℕ) → p < line.n → IsCell (cell line p)
  pub positions : line.n ≤ 2 ^ 20
  pub level : line.n ≤ 1 → line.c ≡ pos 0

-- position p of x and position q of y are at the same cell
pub record Meets (x y : Line) (p q : ℕ) : Type 0 where
  pub first : p < x.n
  pub second : q < y.n
  pub same : cell x p ≡ cell y q

-- the same, with p before q
abbrev pub MeetsAfter : Line → Line → ℕ → ℕ → Type 0
MeetsAfter x y p q = Meets x y p q × (p < q)

-- (p, q) is the least pair of which P holds, by p and then by q
pub record IsLeast (P : ℕ → ℕ → Type 0) (p q : ℕ) : Type 0 where
  pub holds : P p q
  pub least : (p' q' : ℕ) → P p' q' → (p < p') ⊎ ((p ≡ p') × (q ≤ q'))
