use Rattle.std.proofs.Common.{◌+◌, ap, rules}
use Rattle.pts_program.proofs.Declared.{standing_more}
use Rattle.pts_program.proofs.standing.Standing.declare.Goals as goal

pub returns-clause-standing : goal.returns-clause-standing
returns-clause-standing c = λ before s.
    standing_more before c.args.item.now c.args.self.now _ s c.in_ok-enter_item.ensures (search rules) (ap (λ n. c.args.self.now.cells + n) c.cells_of.ensures)
