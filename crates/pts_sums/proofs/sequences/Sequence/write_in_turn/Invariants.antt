use Rattle.std.proofs.Common.{◌≡◌, ◌<◌, true, [], length}
use Rattle.pts_store.specs.Stores.{cells_in}
use Rattle.pts_groupings.specs.Sums.{all_given}
use Rattle.pts_sums.specs.Places.{Puts}
use Rattle.pts_eval.specs.Sums.{order_of, with_places}
use Rattle.pts_sums.proofs.InTurn.{elements, first_places, fold_of}
use Rattle.pts_sums.proofs.sequences.Sequence.write_in_turn.Given as goal

-- the elements up to here are read, and the places that they make are written
abbrev pub invariant-loop-at : goal.invariant-loop-at
invariant-loop-at g l =
    let op = g.T.Combining.op l.self.operations.now in
    let item = g.T.Transforming.item l.self.operations.now in
    let store = g.V.View.stands l.run.view.now in
    let read = elements (order_of l.self.order) op item l.fn.init store l.self.source l.self.target in
    let places = first_places (order_of l.self.order) op item l.fn.init store l.self.source l.self.target in
    record {
      stands : l.layer.stands ≡ with_places store l.self.target.array l.self.target.low (places l.at);
      shape : length (cells_in l.layer.stands l.self.source.array) ≡ length (cells_in store l.self.source.array);
      count : length (read l.at) ≡ l.at;
      fold : l.at < l.self.count → l.so_far ≡ fold_of (order_of l.self.order) op item l.fn.init (read l.at);
      written : Puts true (all_given (places l.at)) l.self.target.array l.self.target.low [] l.layer.writes;
    }
