-- The cells that the clauses of a loop name are cells of their arrays.
use Rattle.std.proofs.Common.{ℕ, ◌+◌, ◌<◌, List, [], ◌∷◌, map, ℤ, pos, negsuc, arith}
use Rattle.std.specs.Prelude.{◌≤ℤ◌, ◌<ℤ◌, ◌+ℤ◌, ◌*ℤ◌}
use Rattle.std.proofs.lemmas.Int.{ints}
use Rattle.pts_types.specs.declared.value.Kind.{Kind}
use Rattle.pts_tree.specs.declared.sum.Cell.{Cell}
use Rattle.pts_tree.specs.declared.loops.Clause.{Clause}
use Rattle.pts_tree.specs.declared.loops.Clause.TheVariants as clauses
use Rattle.pts_tree.specs.declared.loops.Initial.{Initial}
use Rattle.pts_tree.specs.declared.loops.Initial.TheVariants as initials
use Rattle.pts_tree.specs.declared.loops.Loop as loops
use Rattle.pts_rules.specs.Known.{Scope, natural, number}
use Rattle.pts_points.specs.Lines.{array_at, line_of_cell}
use Rattle.pts_points.specs.Pieces.{Context, LivesOut, Point, seeing, sequence}
use Rattle.pts_points.specs.Points.{clause_piece, info, initial_piece, loop_piece}
use Rattle.pts_points.proofs.Each.{Each, back, front}
use Rattle.pts_lowering.specs.Forms.{cell_of, initial_value, loop_clause}
use Rattle.pts_program.specs.declared.info.ArrayInfo.{ArrayInfo}
use Rattle.pts_program.specs.Ranges.{IsInRange, length_at}
use Rattle.pts_loop_points.specs.LoopPoints.{HasClauseCell, HasInitialCell, HasItsCell}

-- the number of a cell
place_of : (z : ℤ) (n : ℕ) → pos 0 ≤ℤ ((pos 0 *ℤ pos 0) +ℤ z) → ((pos 0 *ℤ pos 0) +ℤ z) <ℤ pos n → natural z < n
place_of (pos m) n low high = omega (arith, ints, low, high)
place_of (negsuc m) n low high = absurd (omega (arith, ints, low))

module _ (scope : Scope) (arrays : List ArrayInfo) (item : ℕ) where
  abbrev pub Stands : Point → Type 0
  Stands x = IsInRange arrays (info item x)

  cell_there : (x : Cell) (context : Context) (n : ℕ) → Stands (record { number = n; context = context; deed = LivesOut (array_at scope x.array) (line_of_cell scope x) }) → HasItsCell arrays (cell_of scope x)
  cell_there x context n h = let c = h.cells 0 (omega arith) in place_of (number scope x.index) (length_at arrays (array_at scope x.array)) c.0 c.1

  initial_there : (kind : Kind) (x : Initial) (context : Context) (n m : ℕ) → Each Stands ((initial_piece scope x).points context n m) → HasInitialCell arrays (initial_value scope kind x)
  initial_there kind (initials.Val x) context n m h = tt
  initial_there kind (initials.Cell x) context n m h = cell_there x context (n + 0) h.0

  clause_there : (x : Clause) (context : Context) (n m : ℕ) → Each Stands ((clause_piece scope x).points context n m) → HasClauseCell arrays (loop_clause scope x)
  clause_there (clauses.Reduce x) context n m h = cell_there x.cell context (n + 0) h.0
  clause_there (clauses.Induct x) context n m h = initial_there x.kind x.initial context n m h

  clauses_there : (xs : List Clause) (context : Context) (n m : ℕ) → Each Stands ((sequence (map (clause_piece scope) xs)).points context n m) → Each (HasClauseCell arrays) (map (loop_clause scope) xs)
  clauses_there [] context n m h = tt
  clauses_there (x ∷ xs) context n m h = (
    clause_there x context n m (front Stands ((clause_piece scope x).points context n m) _ h),
    clauses_there xs (seeing ((clause_piece scope x).lets context n) context) _ _ (back Stands ((clause_piece scope x).points context n m) _ h),
  )

  -- where each point of a loop is in range
  pub clause_cells : (x : loops.Loop) (context : Context) (n m : ℕ) → Each Stands ((loop_piece scope x).points context n m) → Each (HasClauseCell arrays) (map (loop_clause scope) x.clauses)
  clause_cells x context n m h = clauses_there x.clauses context n m (front Stands ((sequence (map (clause_piece scope) x.clauses)).points context n m) _ h)
