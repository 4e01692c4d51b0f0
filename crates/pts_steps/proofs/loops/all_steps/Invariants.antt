use Rattle.std.specs.Prelude.{◌≡◌, take}
use Rattle.pts_steps.specs.Texts.{AreAllSteps}
use Rattle.pts_steps.proofs.loops.all_steps.Given as goal

abbrev pub invariant-loop-text : goal.invariant-loop-text
invariant-loop-text l = (l.builder ≡ l.initial.builder) × AreAllSteps l.initial.builder.globals (take l.text-index l.texts) l.all
