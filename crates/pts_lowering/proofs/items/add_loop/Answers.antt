use Rattle.pts_rules.specs.Parts.{Loop}
use Rattle.pts_lowering.proofs.Heads.{loop_heads, loop_first, loop_step, loop_count}
use Rattle.pts_lowering.proofs.ItemForms.{first_sound}
use Rattle.pts_lowering.proofs.items.add_loop.Goals as goal

pub lower_loop-requires-clause-clauses : goal.lower_loop-requires-clause-clauses
lower_loop-requires-clause-clauses c = loop_heads c.args.scope.now c.requires.numbered.room c.args.x.now (first_sound c.args.scope.now (Loop c.args.x.now) c.requires)

pub lower_loop-requires-clause-first : goal.lower_loop-requires-clause-first
lower_loop-requires-clause-first c = loop_first c.args.scope.now c.requires.numbered.room c.args.x.now (first_sound c.args.scope.now (Loop c.args.x.now) c.requires)

pub lower_loop-requires-clause-step : goal.lower_loop-requires-clause-step
lower_loop-requires-clause-step c = loop_step c.args.scope.now c.requires.numbered.room c.args.x.now (first_sound c.args.scope.now (Loop c.args.x.now) c.requires)

pub lower_loop-requires-clause-positions : goal.lower_loop-requires-clause-positions
lower_loop-requires-clause-positions c = loop_count c.args.scope.now c.requires.numbered.room c.args.x.now (first_sound c.args.scope.now (Loop c.args.x.now) c.requires)
