-- A conflict of two evaluations of a call is one of the program.
use Rattle.std.proofs.Common.{◌≡◌, ◌≢◌, ℕ, ◌<◌, Bool, true, false, ◌||◌, ◌&&◌, not, Option, Some, None, pos, refl, ap, sym, ◌∙◌, subst, arith}
use Rattle.std.specs.Prelude.{slice_get}
use Rattle.std.proofs.lemmas.Bool.Decides.{nat_tests}
use Rattle.pts_types.specs.declared.operation.Policy.{Policy}
use Rattle.pts_types.specs.declared.operation.Policy.TheVariants as policies
use Rattle.pts_affine.specs.Lines.{cell}
use Rattle.pts_points.specs.declared.point.CallInfo.{CallInfo}
use Rattle.pts_points.specs.declared.point.PointInfo.{PointInfo}
use Rattle.pts_program.specs.declared.lists.Lists.{Lists}
use Rattle.pts_program.specs.Ranges.{length_at}
use Rattle.pts_store.specs.Stores.{Store}
use Rattle.pts_conflict.specs.Conflicts as conflicts
use Rattle.pts_conflict.specs.Conflicts.{CallConflict, are_ordered, is_loop}
use Rattle.pts_conflict.specs.Order.{is_before_across}
use Rattle.pts_conflict.specs.Touches as touches
use Rattle.pts_conflict.specs.Touches.{is_live_out, positions_in_call}
use Rattle.pts_orders.specs.Evaluations.{Evaluation}
use Rattle.pts_cells.specs.WrittenCells.{Cell}
use Rattle.pts_outcomes.specs.Acts.{Act, Along, Computed, Computes, Index, Place, Point, Reads, Updates, Writes}
use Rattle.pts_outcomes.specs.Calls.{Call, keeps_order}
use Rattle.pts_outcomes.specs.Laws.{IsClear}
use Rattle.pts_outcomes.specs.Touching.{MayBe, TouchesAct, TouchesPlace, TouchesPoint, is_writing, is_writing_point}
use Rattle.pts_outcomes.proofs.Orders.{in_order_is_clear}
use Rattle.pts_clear.specs.Showing.{CallsAreClear, HasArrays, IsCallAt, IsShown}
use Rattle.pts_clear.proofs.Told.{told}

-- ---- orders

no_order : (policy : Policy) (a b : PointInfo) → policy ≢ policies.Seq → is_before_across policy false a b ≡ false
no_order policies.Seq a b other = absurd (other refl)
no_order policies.Par a b other = refl
no_order policies.ParUnseq a b other = refl
no_order policies.Unseq a b other = refl
no_order policies.Vector a b other = refl

and_false : (a b : Bool) → b ≡ false → (a && b) ≡ false
and_false true b e = e
and_false false b e = refl

module _ (lists : Lists) (store : Store) (c : ℕ) (policy : Policy) (call : Call) (clear : conflicts.IsClear lists) (has : HasArrays lists store) (at : IsCallAt lists c policy call) (other : policy ≢ policies.Seq) where
  clash : (p q : ℕ) (w : Cell) (a b : Point) → p < q → IsShown lists c a → IsShown lists c b → TouchesAct store a.act p w → TouchesAct store b.act q w
      → (is_writing a.act || is_writing b.act) ≡ true → ⊥
  clash p q w a b lower sa sb ta tb one =
      let x = told lists store has at.info sa.info p w a.act sa.act ta in
      let y = told lists store has at.info sb.info q w b.act sb.act tb in
      let own : at.info.policy ≢ policies.Seq = λ e. other (sym at.same_policy ∙ e) in
      clear (Some c) (record { item = sa.info.item; array = sa.info.array; cell = w.index; p = p; k = sa.info.number; q = q; m = sb.info.number }) (record {
        call = at.info;
        a = sa.info;
        b = sb.info;
        there = at.there;
        policy = own;
        first = sa.there;
        second = sb.there;
        first_call = sa.call;
        second_call = sb.call;
        meet = record {
          names = record { item = refl; array = refl; k = refl; m = refl };
          array = x.array ∙ sym y.array;
          writes = (λ i. x.writes i || y.writes i) ∙ one;
          first = x.touches;
          second = y.touches;
        };
        later = lower;
        single = ap (λ l. l && is_live_out sb.info.form) x.live;
        unordered =
            and_false (not (is_live_out sa.info.form || is_live_out sb.info.form)) (is_before_across at.info.policy (is_loop lists c) sa.info sb.info)
            (ap (λ l. is_before_across at.info.policy l sa.info sb.info) at.no_loop ∙ no_order at.info.policy sa.info sb.info own);
      })

  by_points : (x y : Evaluation) (w : Cell) (o o' : Option Point) → 0 < call.positions → x.position < y.position → slice_get call.points x.point ≡ o → slice_get call.points y.point ≡ o'
      → TouchesPoint store o x.position w → TouchesPoint store o' y.position w → (is_writing_point o || is_writing_point o') ≡ true → ⊥
  by_points x y w None o' some lower e e' tx ty one = absurd tx
  by_points x y w (Some a) None some lower e e' tx ty one = absurd ty
  by_points x y w (Some a) (Some b) some lower e e' tx ty one =
      clash x.position y.position w a b lower (at.points some x.point a e) (at.points some y.point b e') tx ty one

  no_conflict : IsClear store (keeps_order policy) call
  no_conflict x y within _ conflict =
      by_points x y conflict.cell (slice_get call.points x.point) (slice_get call.points y.point) (grind (arith, nat_tests)) conflict.positions refl refl conflict.first conflict.second conflict.one_writes

pub calls_are_clear : CallsAreClear
calls_are_clear lists store c policies.Seq call clear has at = in_order_is_clear store call
calls_are_clear lists store c policies.Par call clear has at = no_conflict lists store c policies.Par call clear has at (λ e. absurd cc)
calls_are_clear lists store c policies.ParUnseq call clear has at = no_conflict lists store c policies.ParUnseq call clear has at (λ e. absurd cc)
calls_are_clear lists store c policies.Unseq call clear has at = no_conflict lists store c policies.Unseq call clear has at (λ e. absurd cc)
calls_are_clear lists store c policies.Vector call clear has at = no_conflict lists store c policies.Vector call clear has at (λ e. absurd cc)
