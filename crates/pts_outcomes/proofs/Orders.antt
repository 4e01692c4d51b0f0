-- Orders of the evaluations of a call.
use Rattle.std.proofs.Common.{ℕ, Bool, arith}
use Rattle.std.proofs.lemmas.Bool.Decides.{nat_tests}
use Rattle.pts_orders.specs.Conflicts.{OrdersPoints}
use Rattle.pts_orders.specs.Evaluations.{Evaluation}
use Rattle.pts_orders.specs.Extensions.{GoesForward}
use Rattle.pts_orders.proofs.Apart.{commute}
use Rattle.pts_orders.proofs.Clear.{clear_orders_agree}
use Rattle.pts_orders.proofs.IndexOrder.{index_order_extends}
use Rattle.pts_outcomes.specs.Calls.{cells, effect, is_before, is_evaluation, locals, start}
use Rattle.pts_outcomes.specs.Laws.{ApartCommute, InOrderIsClear, IndexOrderIsAllowed, OrdersAgree}
use Rattle.pts_outcomes.specs.Touching.{Touches, writes}
use Rattle.pts_outcomes.proofs.Touched.{touch_law}

points_in_order : (across : ℕ → ℕ → Bool) → OrdersPoints (is_before across)
points_in_order across x y same lower = grind (arith, nat_tests)

goes_forward : (across : ℕ → ℕ → Bool) (is_evaluation : Evaluation → Bool) → GoesForward is_evaluation (is_before across)
goes_forward across is_evaluation x y _ _ earlier = grind (arith, nat_tests)

pub index_order_is_allowed : IndexOrderIsAllowed
index_order_is_allowed across call =
    index_order_extends (is_before across) call.positions call.first call.count (goes_forward across (is_evaluation call))

pub apart_commute : ApartCommute
apart_commute store call x y apart = commute cells (locals call) (effect store call) (Touches store call) (writes call) (touch_law store call) x y apart

pub orders_agree : OrdersAgree
orders_agree store across call clear order extends =
    clear_orders_agree (Touches store call) cells (locals call) (effect store call) (writes call) (touch_law store call) (is_before across) call.positions call.first call.count
    (points_in_order across) clear order extends (start store call)

pub in_order_is_clear : InOrderIsClear
in_order_is_clear store call x y _ _ conflict =
    let lower = conflict.positions in
    let free = conflict.free in
    grind (arith, nat_tests)
