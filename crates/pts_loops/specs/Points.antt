-- What code does at a point of a loop at one position, by the step of the point and by what lists show of it.
use Rattle.std.specs.Prelude.{◌≡◌, ℕ, ◌-◌, Bool, true, false, if◌then◌else◌, Ok, Err, List, length, slice_get}
use Rattle.std.specs.List.{list_all}
use Rattle.std.specs.Prelude.{Result}
use Rattle.pts_types.specs.declared.value.Thrown.{Thrown}
use Rattle.pts_code.specs.Codes.{Sight, gives}
use Rattle.pts_code.specs.Outcomes.{Outcome, and_then, never, operate}
use Rattle.pts_code.specs.Values.{note}
use Rattle.pts_points.specs.declared.point.Branch.{Branch}
use Rattle.pts_points.specs.declared.point.PointInfo.{PointInfo}
use Rattle.pts_lowering.specs.declared.forms.CellIndex.{CellIndex}
use Rattle.pts_program.specs.declared.info.ArrayInfo.{ArrayInfo}
use Rattle.pts_program.specs.Ranges.{length_at}
use Rattle.pts_steps.specs.declared.step.Step.{Step}
use Rattle.pts_steps.specs.declared.step.Step.TheVariants as steps
use Rattle.pts_store.specs.Stores.{Store, cells_in}
use Rattle.pts_orders.specs.Effects as effects
use Rattle.pts_cells.specs.WrittenCells.{Cell}
use Rattle.pts_outcomes.specs.Acts.{Along, Notes, Place}
use Rattle.pts_outcomes.specs.Effects.{beside, given, is_side, notes_value, place_at, puts}
use Rattle.pts_outcomes.specs.Effects as outcomes
use Rattle.pts_loops.specs.declared.effect.Effect.{Effect}
use Rattle.pts_loops.specs.declared.effect.Effect.TheVariants as own

-- ---- effects

abbrev pub cell_of : CellIndex → Cell
cell_of c = record { array = c.array; index = c.index }

abbrev pub shown_place : Result CellIndex Thrown → Result Cell Thrown
shown_place (Ok c) = Ok (cell_of c)
shown_place (Err thrown) = Err thrown

abbrev pub shown : Effect → outcomes.Effect
shown own.Skips = effects.Skips
shown own.Throws = effects.Throws
shown (own.Notes outcome) = effects.Notes outcome
shown (own.Puts c value) = effects.Puts (cell_of c) value

-- the write of a value to a cell, if there are both
abbrev pub put_at : Result CellIndex Thrown → Outcome → outcomes.Effect
put_at place value = puts (and_then (shown_place place) (λ c. beside c value))

-- ---- cells

abbrev pub place_of : PointInfo → Place
place_of point = record { array = point.array; index = Along point.line }

-- what a cell holds
abbrev pub held : Store → Cell → Outcome
held store c = given (slice_get (cells_in store c.array) c.index)

-- ---- branches

-- the tests of these branches, which have so many points before them in lists, have come to their sides
abbrev pub is_reached_behind : ℕ → Notes → List Branch → Bool
is_reached_behind first notes branches = list_all (λ b. is_side b.taken (note notes (b.test - first))) branches

-- ---- points

-- what is done at a point that is reached, in a store
abbrev pub act_of : Store → Sight → ℕ → PointInfo → Step → outcomes.Effect
act_of store sight p point steps.Read = effects.Notes (and_then (place_at store (place_of point) p sight.notes) (held store))
act_of store sight p point (steps.Write code) = puts (and_then (place_at store (place_of point) p sight.notes) (λ c. beside c (gives sight code)))
act_of store sight p point (steps.Update op code) =
    puts (and_then (place_at store (place_of point) p sight.notes) (λ c. beside c (operate (held store c) (op, gives sight code))))
act_of store sight p point (steps.Note code) = notes_value (gives sight code)
act_of store sight p point (steps.Test code) = notes_value (gives sight code)
act_of store sight p point (steps.Give clause code) = notes_value (gives sight code)
act_of store sight p point steps.LiveOut = notes_value never

-- what is done at a point
abbrev pub effect_of : ℕ → Store → Sight → ℕ → PointInfo → Step → outcomes.Effect
effect_of first store sight p point step =
    if is_reached_behind first sight.notes point.branches then act_of store sight p point step else effects.Skips

abbrev pub is_live_out : Step → Bool
is_live_out steps.LiveOut = true
is_live_out step = false
