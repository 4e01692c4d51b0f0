-- Orders of the evaluations of a loop.
use Rattle.std.proofs.Common.{◌≡◌, ℕ, true, if◌then◌else◌, zero, suc, Option, Some, None, List, [], ◌∷◌, map, refl, ap, sym, subst, ◌∙◌, arith}
use Rattle.std.specs.Prelude.{IsSome, slice_get}
use Rattle.std.proofs.lemmas.Bool.Decides.{nat_tests}
use Rattle.pts_types.specs.declared.operation.Policy.{Policy}
use Rattle.pts_types.specs.declared.operation.Policy.TheVariants.{Seq}
use Rattle.pts_tree.specs.declared.script.Item.TheVariants as items
use Rattle.pts_points.specs.Pieces as texts
use Rattle.pts_points.specs.Standings.{AreTogether}
use Rattle.pts_points.proofs.PointLists.{offs_together}
use Rattle.pts_steps.specs.Steps.{loop_points}
use Rattle.pts_points.proofs.Builds.{append_nothing}
use Rattle.pts_store.specs.Stores.{Store}
use Rattle.pts_cells.specs.WrittenCells.{Cell}
use Rattle.pts_outcomes.specs.Touching.{TouchesPoint}
use Rattle.pts_outcomes.proofs.Orders as orders
use Rattle.pts_passes.specs.Ends.{EndsWith}
use Rattle.pts_passes.specs.Inductions.{all_stay}
use Rattle.pts_passes.specs.Laws as laws
use Rattle.pts_passes.specs.Passes.{Pass, across, call_of, comes_before, point_of, text_points}

pub index_order_is_allowed : laws.IndexOrderIsAllowed
index_order_is_allowed pass store = orders.index_order_is_allowed (across pass) (call_of pass store)

pub orders_agree : laws.OrdersAgree
orders_agree pass store free order allowed =
    ap (λ o. if all_stay store pass.head then o else None) (orders.orders_agree store (across pass) (call_of pass store) free order allowed)

pub ends_agree : laws.EndsAgree
ends_agree pool pass store end writes free order allowed ends other also =
    subst (λ o. EndsWith pool pass store o end writes) (orders_agree pass store free order allowed ∙ sym (orders_agree pass store free other also)) ends

pub offs_stand_together : laws.OffsStandTogether
offs_stand_together names x = subst AreTogether (append_nothing (loop_points names x)) (offs_together names 0 (items.Loop x))

-- ---- loops that run in order

-- the points of a call are those of the text
point_at : (pass : Pass) (store : Store) (points : List texts.Point) (k : ℕ) (p : ℕ) (c : Cell) → TouchesPoint store (slice_get (map (point_of pass store) points) k) p c
    → IsSome (slice_get points k)
point_at pass store [] k p c h = absurd h
point_at pass store (x ∷ xs) zero p c h = refl
point_at pass store (x ∷ xs) (suc k) p c h = point_at pass store xs k p c h

all_before : (policy : Policy) (a b : Option texts.Point) → policy ≡ Seq → IsSome a → IsSome b → comes_before policy a b ≡ true
all_before policy None b e h k = absurd cc
all_before policy (Some a) None e h k = absurd cc
all_before policy (Some a) (Some b) e h k = ap (λ q. comes_before q (Some a) (Some b)) e

pub in_order_is_free : laws.InOrderIsFree
in_order_is_free pass store seq x y _ _ conflict =
    let lower = conflict.positions in
    let free = conflict.free in
    let before = all_before pass.head.policy (slice_get (text_points pass) x.point) (slice_get (text_points pass) y.point) seq
    (point_at pass store (text_points pass) x.point x.position conflict.cell conflict.first)
    (point_at pass store (text_points pass) y.point y.position conflict.cell conflict.second) in
    grind (arith, nat_tests)
