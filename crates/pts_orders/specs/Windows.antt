-- Runs that keep the locals of a few positions at a time.
use Rattle.std.specs.Prelude.{◌≡◌, ℕ, ◌+◌, ◌-◌, Option, Some, List, [], ◌∷◌, ◌++◌, replicate}
use Rattle.std.specs.Option.{option_and_then, option_map}
use Rattle.pts_orders.specs.Effects.{Cells, Locals, Effect, State, step_of}
use Rattle.pts_orders.specs.Evaluations.{Evaluation, at}
use Rattle.pts_orders.specs.Grids.{strip, strips, Rises}
use Rattle.pts_orders.specs.Runs.{run}

-- the same point, that many positions on
abbrev pub ahead : ℕ → Evaluation → Evaluation
ahead base x = at (base + x.position) x.point

-- what evaluations do whose positions are counted from a base on
abbrev pub counted_from : {M C V L N : Type 0} → ℕ → (Evaluation → L → M → Effect C V N) → Evaluation → L → M → Effect C V N
counted_from base effect x = effect (ahead base x)

-- positions at which nothing is noted yet
abbrev pub fresh : {M L N : Type 0} → Locals L N → ℕ → M → State M L
fresh notes height memory = record { memory = memory; locals = replicate height notes.nothing }

-- the locals of other positions, in front
abbrev pub behind : {M L : Type 0} → List L → State M L → State M L
behind front s = record s { locals = front ++ s.locals }

-- strip after strip, each on a window of its own positions, over the memory that the one before it has left
abbrev pub in_windows : {M C V L N : Type 0} → Cells M C V → Locals L N → (Evaluation → L → M → Effect C V N) → ℕ → List ℕ → ℕ → List ℕ → M
    → Option (State M L)
in_windows cells notes effect start [] first ends memory = Some (record { memory = memory; locals = [] })
in_windows cells notes effect start (row ∷ rows) first ends memory =
    option_and_then (λ s. option_map (behind s.locals) (in_windows cells notes effect row rows first ends s.memory))
    (run (step_of cells notes (counted_from start effect)) (strip 0 (row - start) first ends) (fresh notes (row - start) memory))

-- strips have the same outcome in windows
abbrev pub StripsInWindows : (M C V L N : Type 0) → Type 0
StripsInWindows M C V L N =
    (cells : Cells M C V) (notes : Locals L N) (effect : Evaluation → L → M → Effect C V N)
    (positions : ℕ) (rows : List ℕ) (first : ℕ) (ends : List ℕ) → Rises 0 rows positions → (memory : M)
    → run (step_of cells notes effect) (strips 0 rows first ends) (fresh notes positions memory) ≡ in_windows cells notes effect 0 rows first ends memory
