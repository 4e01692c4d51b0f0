use Rattle.pts_rules.specs.Parts.{Call}
use Rattle.pts_lowering.proofs.Cells.{call_cells, call_form}
use Rattle.pts_lowering.proofs.ItemForms.{first_sound}
use Rattle.pts_lowering.proofs.items.add_call.Goals as goal

pub lower_call-requires-clause-cells : goal.lower_call-requires-clause-cells
lower_call-requires-clause-cells c = call_cells c.args.scope.now c.requires.numbered.room c.args.call.now (first_sound c.args.scope.now (Call c.args.call.now) c.requires)

pub lower_call-requires-clause-right : goal.lower_call-requires-clause-right
lower_call-requires-clause-right c = call_form c.args.scope.now c.requires.numbered.room c.args.call.now (first_sound c.args.scope.now (Call c.args.call.now) c.requires)
