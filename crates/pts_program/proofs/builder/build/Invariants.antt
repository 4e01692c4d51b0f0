use Rattle.pts_program.specs.Building.{IsUnderWay}
use Rattle.pts_program.proofs.builder.build.Given as goal

abbrev pub invariant-loop-item : goal.invariant-loop-item
invariant-loop-item l = IsUnderWay l.script l.item-index l.builder
