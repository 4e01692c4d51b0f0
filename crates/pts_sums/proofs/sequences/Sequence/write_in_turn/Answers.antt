use Rattle.std.proofs.Common.{◌≡◌, ◌+◌, ap, refl, sym, subst, ◌∙◌, true, [], length, arith}
use Rattle.pts_store.specs.Stores.{cells_in}
use Rattle.pts_groupings.specs.Sums.{all_given}
use Rattle.pts_sums.specs.Folds.{with_item}
use Rattle.pts_sums.specs.Places.{next_place, Puts}
use Rattle.pts_eval.specs.Sums.{order_of}
use Rattle.pts_sums.proofs.InTurn.{all_written, first_places, length-put, next_count, next_fold, next_stands, next_written, none_written, thrown}
use Rattle.pts_sums.proofs.PutPlaces.{put_none}
use Rattle.pts_sums.proofs.sequences.Sequence.write_in_turn.Goals as goal

pub loop-at-init : goal.loop-at-init
loop-at-init g c =
    record {
      stands = c.layer-layer.ensures.stands;
      shape = ap (λ s. length (cells_in s c.args.self.now.source.array)) c.layer-layer.ensures.stands;
      count = refl;
      fold = λ l. c.begin-so_far.ensures;
      written =
          subst (λ w. Puts true (all_given []) c.args.self.now.target.array c.args.self.now.target.low [] w) (sym c.layer-layer.ensures.writes)
          (put_none c.args.self.now.target.array c.args.self.now.target.low []);
    }

pub cell-element-requires : goal.cell-element-requires
cell-element-requires g c =
    let within = c.requires.within c.loop-at.at c.loop-at-test.true in
    let shape = c.loop-at.invariant.shape in
    omega (arith, within, shape)

pub loop-at-preserved : goal.loop-at-preserved
loop-at-preserved g c =
    let op = g.T.Combining.op c.args.self.now.operations.now in
    let item = g.T.Transforming.item c.args.self.now.operations.now in
    let order = order_of c.args.self.now.order in
    let store = g.V.View.stands c.args.run.now.view.now in
    let i = c.loop-at.invariant in
    let before = i.fold c.loop-at-test.true in
    let own = c.turn-turn.ensures.place ∙ ap (λ s. next_place order op s (item c.cell-element.result)) before in
    record {
      stands = next_stands order op item c.args.init store c.args.self.now.source c.args.self.now.target c.loop-at.at c.cell-element.result c.in-Some.value c.turn-turn.result.place
          c.loop-at.layer.stands c.set.new.self.stands c.loop-at.layer.writes c.set.new.self.writes i.stands i.count c.cell-element.ensures own c.in-Some.is c.in_ok-set.ensures.stands;
      shape = ap (λ s. length (cells_in s c.args.self.now.source.array)) c.in_ok-set.ensures.stands
          ∙ length-put c.loop-at.layer.stands c.args.self.now.target.array (c.args.self.now.target.low + c.loop-at.at) c.in-Some.value c.args.self.now.source.array _ i.shape;
      count = next_count order op item c.args.init store c.args.self.now.source c.args.self.now.target c.loop-at.at c.cell-element.result c.in-Some.value c.turn-turn.result.place
          c.loop-at.layer.stands c.set.new.self.stands c.loop-at.layer.writes c.set.new.self.writes i.stands i.count c.cell-element.ensures own;
      fold = λ l. c.turn-turn.ensures.fold l ∙ ap (λ s. with_item op s (item c.cell-element.result)) before
          ∙ sym (next_fold order op item c.args.init store c.args.self.now.source c.args.self.now.target c.loop-at.at c.cell-element.result c.in-Some.value c.turn-turn.result.place
          c.loop-at.layer.stands c.set.new.self.stands c.loop-at.layer.writes c.set.new.self.writes i.stands i.count c.cell-element.ensures own);
      written = next_written order op item c.args.init store c.args.self.now.source c.args.self.now.target c.loop-at.at c.cell-element.result c.in-Some.value c.turn-turn.result.place
          c.loop-at.layer.stands c.set.new.self.stands c.loop-at.layer.writes c.set.new.self.writes i.stands i.count c.cell-element.ensures own c.in-Some.is c.in_ok-set.ensures.writes i.written;
    }

pub returns-in_default : goal.returns-in_default
returns-in_default g c =
    let op = g.T.Combining.op c.args.self.now.operations.now in
    let item = g.T.Transforming.item c.args.self.now.operations.now in
    let order = order_of c.args.self.now.order in
    let store = g.V.View.stands c.args.run.now.view.now in
    let i = c.loop-at.invariant in
    let before = i.fold c.loop-at-test.true in
    let own = c.turn-turn.ensures.place ∙ ap (λ s. next_place order op s (item c.cell-element.result)) before in
    none_written (all_given (first_places order op item c.args.init store c.args.self.now.source c.args.self.now.target c.args.self.now.count)) c.args.self.now.target.array c.args.self.now.target.low
    (thrown order op item c.args.init store c.args.self.now.source c.args.self.now.target c.loop-at.at c.cell-element.result c.cell-element.result c.turn-turn.result.place
    c.loop-at.layer.stands c.loop-at.layer.stands c.loop-at.layer.writes c.loop-at.layer.writes i.stands i.count c.cell-element.ensures own c.args.self.now.count c.loop-at-test.true c.in_default.is)

pub returns : goal.returns
returns g c =
    let op = g.T.Combining.op c.args.self.now.operations.now in
    let item = g.T.Transforming.item c.args.self.now.operations.now in
    let order = order_of c.args.self.now.order in
    let store = g.V.View.stands c.args.run.now.view.now in
    let places = first_places order op item c.args.init store c.args.self.now.source c.args.self.now.target in
    let last : c.loop-at.at ≡ c.args.self.now.count = omega arith in
    let w = subst (λ n. Puts true (all_given (places n)) c.args.self.now.target.array c.args.self.now.target.low [] c.loop-at.layer.writes) last c.loop-at.invariant.written in
    all_written (all_given (places c.args.self.now.count)) true c.args.self.now.target.array c.args.self.now.target.low [] c.into_writes.result refl refl
    (subst (λ v. Puts true (all_given (places c.args.self.now.count)) c.args.self.now.target.array c.args.self.now.target.low [] v) (sym c.into_writes.ensures.writes) w)
