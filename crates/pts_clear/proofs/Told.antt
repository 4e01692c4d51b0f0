-- What the lists have of a cell that is touched at a point which they show.
use Rattle.std.proofs.Common.{◌≡◌, ℕ, ◌<◌, Bool, false, pos, ap, sym, ◌∙◌, subst, arith}
use Rattle.pts_affine.specs.Lines.{cell}
use Rattle.pts_points.specs.declared.point.CallInfo.{CallInfo}
use Rattle.pts_points.specs.declared.point.PointInfo.{PointInfo}
use Rattle.pts_program.specs.declared.lists.Lists.{Lists}
use Rattle.pts_program.specs.Ranges.{length_at}
use Rattle.pts_store.specs.Stores.{Store}
use Rattle.pts_conflict.specs.Touches as touches
use Rattle.pts_conflict.specs.Touches.{is_live_out, positions_in_call}
use Rattle.pts_cells.specs.WrittenCells.{Cell}
use Rattle.pts_outcomes.specs.Acts.{Act, Along, Computed, Computes, Index, Place, Reads, Updates, Writes}
use Rattle.pts_outcomes.specs.Touching.{MayBe, TouchesAct, TouchesPlace, is_writing}
use Rattle.pts_clear.specs.Showing.{HasArrays, ShowsAct, ShowsIndex, ShowsPlace}

-- what a point of the lists has of a cell that is touched
pub record Told (lists : Lists) (call : CallInfo) (info : PointInfo) (act : Act) (p : ℕ) (c : Cell) : Type 0 where
  pub writes : touches.is_writing info.form ≡ is_writing act
  pub live : is_live_out info.form ≡ false
  pub array : info.array ≡ c.array
  pub touches : touches.Touches lists.arrays info (positions_in_call call info.form info.line.n) p c.index

module _ (lists : Lists) (store : Store) (has : HasArrays lists store) (call : CallInfo) (info : PointInfo) (p : ℕ) (c : Cell) where
  on_line : (index : Index) → ShowsIndex info index → MayBe index p c.index → (p < info.line.n) × (cell info.line p ≡ pos c.index)
  on_line (Computed x) shows may = absurd shows
  on_line (Along line) shows may =
      (subst (λ l. p < l.n) (sym shows) may.0, ap (λ l. cell l p) shows ∙ may.1)

  place_told : (place : Place) → ShowsPlace info place → TouchesPlace store place p c → (info.array ≡ c.array) × touches.Touches lists.arrays info info.line.n p c.index
  place_told place shows at =
      let on = on_line place.index shows.index at.index in
      let size = has.cells place.array in
      let exists = at.exists in
      let within : c.index < length_at lists.arrays place.array = omega (arith, exists, size) in (
        shows.array ∙ sym at.array,
        record {
          position = on.0;
          exists = subst (λ a. c.index < length_at lists.arrays a) (sym shows.array) within;
          indexed = λ _. on.1;
        },
      )

  pub told : (act : Act) → ShowsAct info act → TouchesAct store act p c → Told lists call info act p c
  told (Computes x) shows at = absurd at
  told (Reads place) shows at =
      let own = place_told place shows.1 at in
      record {
        writes = ap touches.is_writing shows.0;
        live = ap is_live_out shows.0;
        array = own.0;
        touches = subst (λ f. touches.Touches lists.arrays info (positions_in_call call f info.line.n) p c.index) (sym shows.0) own.1;
      }
  told (Writes place x) shows at =
      let own = place_told place shows.1 at in
      record {
        writes = ap touches.is_writing shows.0;
        live = ap is_live_out shows.0;
        array = own.0;
        touches = subst (λ f. touches.Touches lists.arrays info (positions_in_call call f info.line.n) p c.index) (sym shows.0) own.1;
      }
  told (Updates place op x) shows at =
      let own = place_told place shows.1 at in
      record {
        writes = ap touches.is_writing shows.0;
        live = ap is_live_out shows.0;
        array = own.0;
        touches = subst (λ f. touches.Touches lists.arrays info (positions_in_call call f info.line.n) p c.index) (sym shows.0) own.1;
      }
