-- Evaluations that each do at most one thing, told by the locals of their position and by the cells that they touch. The types of
-- memories (M), cells (C), values (V), locals (L) and notes (N) are the caller's.
use Rattle.std.specs.Prelude.{◌≡◌, ◌≢◌, ℕ, Bool, true, false, Option, Some, None, List, get_or, set}
use Rattle.pts_orders.specs.Evaluations.{Evaluation}

-- cells of a memory: a write leaves all others as they are, and writes to two cells may be swapped
pub record Cells (M C V : Type 0) : Type 0 where
  pub held : M → C → Option V
  pub put : M → C → V → M
  pub others : (m : M) (c d : C) (v : V) → c ≢ d → held (put m c v) d ≡ held m d
  pub swaps : (m : M) (c d : C) (v w : V) → c ≢ d → put (put m c v) d w ≡ put (put m d w) c v

-- what the evaluations at one position have noted: nothing at first, then one note for each point
pub record Locals (L N : Type 0) : Type 0 where
  pub nothing : L
  pub noted : L → ℕ → N → L

-- what an evaluation does
pub data Effect (C V N : Type 0) : Type 0 where
  Skips Throws : Effect C V N
  Notes : N → Effect C V N
  Puts : C → V → Effect C V N

-- the memory, and the locals of each position
pub record State (M L : Type 0) : Type 0 where
  pub memory : M
  pub locals : List L

-- the locals of a position
abbrev pub locals_at : {M L N : Type 0} → Locals L N → State M L → ℕ → L
locals_at notes s position = get_or s.locals position notes.nothing

-- the state after an effect that is no throw
abbrev pub made : {M C V L N : Type 0} → Cells M C V → Locals L N → Evaluation → Effect C V N → State M L → State M L
made cells notes x Skips s = s
made cells notes x Throws s = s
made cells notes x (Notes note) s = record s { locals = set s.locals x.position (notes.noted (locals_at notes s x.position) x.point note) }
made cells notes x (Puts cell value) s = record s { memory = cells.put s.memory cell value }

-- what an evaluation has done
pub record Change (C V N : Type 0) : Type 0 where
  pub maker : Evaluation
  pub effect : Effect C V N

-- the state after a change
abbrev pub with_change : {M C V L N : Type 0} → Cells M C V → Locals L N → Change C V N → State M L → State M L
with_change cells notes change s = made cells notes change.maker change.effect s

-- the state after an effect. None is a throw
abbrev pub applied : {M C V L N : Type 0} → Cells M C V → Locals L N → Evaluation → Effect C V N → State M L → Option (State M L)
applied cells notes x Skips s = Some (made cells notes x Skips s)
applied cells notes x Throws s = None
applied cells notes x (Notes note) s = Some (made cells notes x (Notes note) s)
applied cells notes x (Puts cell value) s = Some (made cells notes x (Puts cell value) s)

-- an evaluation sees the locals of its own position and the memory
abbrev pub effect_at : {M C V L N : Type 0} → Locals L N → (Evaluation → L → M → Effect C V N) → Evaluation → State M L → Effect C V N
effect_at notes effect x s = effect x (locals_at notes s x.position) s.memory

-- the state after an evaluation
abbrev pub step_of : {M C V L N : Type 0} → Cells M C V → Locals L N → (Evaluation → L → M → Effect C V N) → Evaluation → State M L → Option (State M L)
step_of cells notes effect x s = applied cells notes x (effect_at notes effect x s) s

-- what evaluations touch: the effect of each is told by its locals and by those cells, and it writes no other cell
pub record TouchLaw {M C V L N : Type 0} (cells : Cells M C V) (effect : Evaluation → L → M → Effect C V N)
    (Touches : Evaluation → C → Type 0) (writes : Evaluation → Bool) : Type 0 where
  pub reads : (x : Evaluation) (l : L) (m other : M) → ((c : C) → Touches x c → cells.held other c ≡ cells.held m c) → effect x l other ≡ effect x l m
  pub puts : (x : Evaluation) (l : L) (m : M) (c : C) (v : V) → effect x l m ≡ Puts c v → Touches x c × (writes x ≡ true)

-- two evaluations at different positions; a cell that both touch is written by neither
pub record AreApart {C : Type 0} (Touches : Evaluation → C → Type 0) (writes : Evaluation → Bool) (x y : Evaluation) : Type 0 where
  pub positions : x.position ≢ y.position
  pub first : (c : C) → Touches x c → Touches y c → writes x ≡ false
  pub second : (c : C) → Touches x c → Touches y c → writes y ≡ false
