use Rattle.std.proofs.Common.{◌≡◌, ◌+◌, ◌*◌, ◌<◌, Bool, length, map, drop}
use Rattle.std.specs.List.{range_with_len}
use Rattle.pts_types.specs.declared.operation.Policy.TheVariants.{Par}
use Rattle.pts_store.specs.Writes.{Writes}
use Rattle.pts_groupings.specs.Scans.{place}
use Rattle.pts_groupings.specs.Sums.{all_given}
use Rattle.pts_sums.specs.Places.{start_of, Puts}
use Rattle.pts_eval.specs.Sums.{order_of}
use Rattle.pts_sums.proofs.places.Scanner.write_chunks.Given as goal

-- the fold has come to the next chunk; and however the places that are left end, so do all
abbrev pub invariant-loop-number : goal.invariant-loop-number
invariant-loop-number g l =
    let items = g.T.Terms.items l.self.terms.now in
    let op = g.T.Combining.op l.self.terms.now in
    let places = map (place Par (order_of l.self.order) l.size op l.fn.init items) (range_with_len 0 (length items)) in
    (l.number < l.chunks → l.start ≡ start_of op l.size l.fn.init items l.number)
    × ((all : Bool) (new : Writes) → Puts all (all_given (drop (l.number * l.size) places)) l.self.array (l.self.first + l.number * l.size) l.writes new
    → Puts all (all_given places) l.self.array l.self.first l.initial.writes new)
