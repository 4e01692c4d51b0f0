use Rattle.std.proofs.Common.{◌+◌, ◌-◌, Bool, take, drop}
use Rattle.pts_store.specs.Writes.{Writes}
use Rattle.pts_groupings.specs.Sums.{all_given}
use Rattle.pts_sums.specs.Places.{outcomes_after, Puts}
use Rattle.pts_sums.proofs.places.Scanner.write_outcomes.Given as goal

-- however the places that are left end, so do all
abbrev pub invariant-loop-at : goal.invariant-loop-at
invariant-loop-at g l =
    let items = g.T.Terms.items l.self.terms.now in
    let op = g.T.Combining.op l.self.terms.now in
    (all : Bool) (new : Writes)
    → Puts all (all_given (outcomes_after op l.so_far (take (l.end - l.at) (drop l.at items)))) l.self.array (l.self.first + l.fn.place + (l.at - l.fn.start)) l.writes new
    → Puts all (all_given (outcomes_after op l.fn.so_far (take (l.fn.end - l.fn.start) (drop l.fn.start items)))) l.self.array (l.self.first + l.fn.place) l.initial.writes new
