use Rattle.pts_eval.specs.Sums.{combining, order_of, scan_items}
use Rattle.pts_sums.proofs.laws.places_are_those_of_the_standard.Goals as goal

pub returns-clause-written : goal.returns-clause-written
returns-clause-written c =
    λ functions store size call places some begun e.
    c.places_are_sums_of_their_items.ensures.written (combining functions call.operation) call.policy (order_of call.order) size call.initial (scan_items functions store call) places some begun e

pub returns-clause-thrown : goal.returns-clause-thrown
returns-clause-thrown c =
    λ functions store size call some begun e.
    c.places_are_sums_of_their_items.ensures.thrown (combining functions call.operation) call.policy (order_of call.order) size call.initial (scan_items functions store call) some begun e

pub returns-clause-items : goal.returns-clause-items
returns-clause-items c =
    λ functions store size call p some begun l e.
    c.places_are_sums_of_their_items.ensures.transforms (combining functions call.operation) call.policy (order_of call.order) size call.initial (scan_items functions store call) p some begun l e
