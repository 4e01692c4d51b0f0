-- The effect of an evaluation is told by the cells that it may touch, and it writes no other cell.
use Rattle.std.proofs.Common.{◌≡◌, ℕ, Bool, true, false, if◌then◌else◌, nat_lt, Option, Some, None, Result, Ok, Err, length, ℤ, pos, negsuc, refl, ap, ◌∙◌, subst, arith}
use Rattle.std.specs.Prelude.{slice_get}
use Rattle.std.specs.Option.{option_map}
use Rattle.std.proofs.lemmas.Bool.Decides.{nat_tests}
use Rattle.pts_types.specs.declared.value.Thrown.{Thrown}
use Rattle.pts_types.specs.declared.value.Thrown.TheVariants.{Overflow}
use Rattle.pts_types.specs.declared.value.Value.{Value}
use Rattle.pts_affine.specs.Lines.{cell}
use Rattle.pts_code.specs.Outcomes.{Outcome, and_then, operate}
use Rattle.pts_store.specs.Stores.{Store, cells_in, shown}
use Rattle.pts_orders.specs.Effects as effects
use Rattle.pts_orders.specs.Effects.{TouchLaw}
use Rattle.pts_cells.specs.WrittenCells.{Cell, WrittenCells, seen, written_at}
use Rattle.pts_outcomes.specs.Acts.{Notes, Index, Along, Computed, Place, Act, Reads, Writes, Updates, Computes, Point}
use Rattle.pts_outcomes.specs.Calls.{Call, cells, effect}
use Rattle.pts_outcomes.specs.Effects.{act_effect, beside, cell_with, given, index_at, is_reached, notes_value, place_at, point_effect, puts}
use Rattle.pts_outcomes.specs.Touching.{MayBe, Touches, TouchesAct, TouchesPlace, TouchesPoint, is_writing, is_writing_point, writes}

-- ---- places

-- the index at a position is one that the index may be
index_may_be : (index : Index) (p n : ℕ) (notes : Notes) → index_at index p notes ≡ Ok (pos n) → MayBe index p n
index_may_be (Computed x) p n notes e = tt
index_may_be (Along line) p n notes e = by (nat_lt p line.n) refl e
  where
    by : (b : Bool) → nat_lt p line.n ≡ b → (if b then Ok (cell line p) else Err Overflow) ≡ Ok (pos n) → MayBe (Along line) p n
    by true below e = (grind (arith, nat_tests, below), (let same : cell line p ≡ pos n = cc in same))
    by false below e = absurd cc

-- a cell that is found is one that the place touches
cell_touches : (store : Store) (place : Place) (p : ℕ) (z : ℤ) (c : Cell) → ((n : ℕ) → z ≡ pos n → MayBe place.index p n)
    → cell_with store place.array z ≡ Ok c → TouchesPlace store place p c
cell_touches store place p (negsuc n) c may e = absurd cc
cell_touches store place p (pos n) c may e = by (nat_lt n (length (cells_in store place.array))) refl e
  where
    by : (b : Bool) → nat_lt n (length (cells_in store place.array)) ≡ b
        → (if b then Ok (record { array = place.array; index = n }) else Err Overflow) ≡ Ok c → TouchesPlace store place p c
    by false within e = absurd cc
    by true within e =
        let same : record { array = place.array; index = n } ≡ c = cc in
        subst (TouchesPlace store place p) same (record { array = refl; exists = grind (arith, nat_tests, within); index = may n refl })

place_touches : (store : Store) (place : Place) (p : ℕ) (notes : Notes) (c : Cell) → place_at store place p notes ≡ Ok c → TouchesPlace store place p c
place_touches store place p notes c e = by (index_at place.index p notes) refl e
  where
    by : (r : Result ℤ Thrown) → index_at place.index p notes ≡ r → and_then r (cell_with store place.array) ≡ Ok c → TouchesPlace store place p c
    by (Ok z) is e = cell_touches store place p z c (λ n same. index_may_be place.index p n notes (is ∙ ap Ok same)) e
    by (Err thrown) is e = absurd cc

-- ---- what is read

then_same : {A B : Type 0} (r : Result A Thrown) (f g : A → Result B Thrown) → ((a : A) → r ≡ Ok a → f a ≡ g a) → and_then r f ≡ and_then r g
then_same (Ok a) f g h = h a refl
then_same (Err thrown) f g h = refl

module _ (store : Store) (p : ℕ) (notes : Notes) (m other : WrittenCells) where
  abbrev AreSame : (Cell → Type 0) → Type 0
  AreSame Touched = (c : Cell) → Touched c → written_at other c ≡ written_at m c

  given_same : (place : Place) → AreSame (TouchesPlace store place p) → (c : Cell) → place_at store place p notes ≡ Ok c
      → given (seen store other c) ≡ given (seen store m c)
  given_same place same c at =
      ap (λ w. given (option_map (shown w) (slice_get (cells_in store c.array) c.index))) (same c (place_touches store place p notes c at))

  act_reads : (act : Act) → AreSame (TouchesAct store act p) → act_effect store act p notes other ≡ act_effect store act p notes m
  act_reads (Reads place) same =
      ap effects.Notes
      (then_same (place_at store place p notes) (λ c. given (seen store other c)) (λ c. given (seen store m c)) (given_same place same))
  act_reads (Writes place x) same = refl
  act_reads (Updates place op x) same =
      ap puts
      (then_same (place_at store place p notes) (λ c. beside c (operate (given (seen store other c)) (op, x p notes)))
      (λ c. beside c (operate (given (seen store m c)) (op, x p notes)))
      (λ c at. ap (λ o. beside c (operate o (op, x p notes))) (given_same place same c at)))
  act_reads (Computes x) same = refl

  point_reads : (o : Option Point) → AreSame (TouchesPoint store o p) → point_effect store o p notes other ≡ point_effect store o p notes m
  point_reads None same = refl
  point_reads (Some point) same = ap (λ e. if is_reached notes point.branches then e else effects.Skips) (act_reads point.act same)

-- ---- what is written

puts_at : (r : Result Cell Thrown) (f : Cell → Outcome) (c : Cell) (v : Value) → puts (and_then r (λ d. beside d (f d))) ≡ effects.Puts c v → r ≡ Ok c
puts_at (Err thrown) f c v e = absurd cc
puts_at (Ok d) f c v e = ap Ok (by (f d) e)
  where
    by : (o : Outcome) → puts (beside d o) ≡ effects.Puts c v → d ≡ c
    by (Ok w) e = cc
    by (Err thrown) e = absurd cc

notes_no_cell : (o : Outcome) (c : Cell) (v : Value) → notes_value o ≡ effects.Puts c v → ⊥
notes_no_cell (Ok w) c v e = absurd cc
notes_no_cell (Err thrown) c v e = absurd cc

module _ (store : Store) (p : ℕ) (notes : Notes) (m : WrittenCells) (c : Cell) (v : Value) where
  act_puts : (act : Act) → act_effect store act p notes m ≡ effects.Puts c v → TouchesAct store act p c × (is_writing act ≡ true)
  act_puts (Reads place) e = absurd cc
  act_puts (Writes place x) e = (place_touches store place p notes c (puts_at (place_at store place p notes) (λ d. x p notes) c v e), refl)
  act_puts (Updates place op x) e =
      (place_touches store place p notes c (puts_at (place_at store place p notes) (λ d. operate (given (seen store m d)) (op, x p notes)) c v e), refl)
  act_puts (Computes x) e = absurd (notes_no_cell (x p notes) c v e)

  point_puts : (o : Option Point) → point_effect store o p notes m ≡ effects.Puts c v → TouchesPoint store o p c × (is_writing_point o ≡ true)
  point_puts None e = absurd cc
  point_puts (Some point) e = by (is_reached notes point.branches) e
    where
      by : (b : Bool) → (if b then act_effect store point.act p notes m else effects.Skips) ≡ effects.Puts c v → TouchesAct store point.act p c × (is_writing point.act ≡ true)
      by true e = act_puts point.act e
      by false e = absurd cc

-- ---- a call

pub touch_law : (store : Store) (call : Call) → TouchLaw cells (effect store call) (Touches store call) (writes call)
touch_law store call = record {
  reads = λ x notes m other same. point_reads store x.position notes m other (slice_get call.points x.point) same;
  puts = λ x notes m c v e. point_puts store x.position notes m c v (slice_get call.points x.point) e;
}
