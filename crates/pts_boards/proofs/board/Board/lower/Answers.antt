use Rattle.std.proofs.Common.{min, sym, ap, ◌∙◌, subst, arith}
use Rattle.pts_boards.specs.declared.board.Terms.{Terms}
use Rattle.pts_boards.specs.Seats.{ChairState}
use Rattle.pts_boards.specs.Rule.{Moves}
use Rattle.pts_boards.proofs.Rule.{moves}
use Rattle.pts_boards.proofs.board.Board.lower.Goals as goal

pub fetch_min-requires : goal.fetch_min-requires
fetch_min-requires g c =
    let sort = g.K.Knowledge.sort in
    let seat = c.seat.inside.seat in
    let shared = c.args.self.now.table.shared in
    let there = subst (λ (v : ChairState g.row.K.Denot). Moves sort c.args.self.now.terms v.weight v.known (λ n. min n c.args.x) g.T.Telling.then) (sym c.seat.view_is) c.requires.moves in
    let moving = subst (λ (t : Terms). Moves sort t seat.me.0.weight seat.me.0.known (λ n. min n c.args.x) g.T.Telling.then) (sym c.args.self.now.same_terms) there in
    let board = ap (λ (v : ChairState g.row.K.Denot). v.board) c.seat.view_is ∙ c.requires.board in
    (board, omega arith, moves sort g.K.Knowledge.lawful shared.key shared.table_id.slots seat.id seat.me.0 seat.me.1 (λ n. min n c.args.x) g.T.Telling.then c.seat.invariant.1 moving)
