-- The arrays of a program before its first statement.
use Rattle.std.proofs.Common.{◌≡◌, ℕ, zero, suc, List, [], ◌∷◌, length, refl}
use Rattle.pts_program.specs.declared.info.ArrayInfo.{ArrayInfo}
use Rattle.pts_program.specs.Ranges.{length_at}
use Rattle.pts_store.specs.Stores.{cells_in}
use Rattle.pts_eval.specs.Cells.{start_cells}

pub start_length : (arrays : List ArrayInfo) (n : ℕ) → length (cells_in (start_cells arrays) n) ≡ length_at arrays n
start_length [] n = refl
start_length (a ∷ rest) zero = refl
start_length (a ∷ rest) (suc n) = start_length rest n
