use Rattle.std.proofs.lemmas.Result.{on_ok_weaker}
use Rattle.pts_points.proofs.StatementTurns.{assign_done}
use Rattle.pts_points.proofs.builder.Builder.add_assign.Goals as goal

pub returns : goal.returns
returns c =
    on_ok_weaker c.push_cell.result (assign_done c.args.scope.now c.args.self.now c.reads.new.self c.push_cell.new.self c.args.cell.now c.args.value.now c.requires c.in_ok-reads.ensures) c.push_cell.ensures
