use Rattle.std.proofs.Common.{drop, ap, ◌∙◌}
use Rattle.std.proofs.lemmas.List.{drop-drop}
use Rattle.pts_rules.proofs.scope.Scope.leave.Goals as goal

pub loop-turn-preserved : goal.loop-turn-preserved
loop-turn-preserved c = c.leave_last.ensures ∙ ap (drop 1) c.loop-turn.invariant ∙ drop-drop 1 c.loop-turn._turn _
