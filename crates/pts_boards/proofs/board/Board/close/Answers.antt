use Rattle.std.proofs.Common.{sym, ap, ◌∙◌, subst}
use Rattle.pts_boards.specs.declared.board.Terms.{Terms}
use Rattle.pts_boards.specs.Seats.{ChairState}
use Rattle.pts_boards.specs.Rule.{Ends}
use Rattle.pts_boards.proofs.Rule.{closes}
use Rattle.pts_boards.proofs.board.Board.close.Goals as goal

pub returns : goal.returns
returns g c =
    let sort = g.K.Knowledge.sort in
    let seat = c.seat.inside.seat in
    let word = c.word-word.result in
    let whole = ap (λ (v : ChairState g.row.K.Denot). v.weight) c.seat.view_is ∙ c.requires.whole ∙ ap (λ (t : Terms). t.shares) (sym c.args.self.same_terms) in
    let ends = closes sort g.K.Knowledge.lawful c.args.self.table.shared.key seat.id seat.me.0 _ _ word whole c.close_with-closed.ensures.values.2 c.word-word.ensures in
    let there = subst (λ (t : Terms). Ends sort t seat.me.0.known word) c.args.self.same_terms ends in
    subst (λ (v : ChairState g.row.K.Denot). Ends sort c.args.self.terms v.known word) c.seat.view_is there
