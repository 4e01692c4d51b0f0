use Rattle.std.specs.Prelude.{◌≡◌}
use Rattle.pts_steps.specs.Building.{with_reads}
use Rattle.pts_steps.proofs.builder.Builder.push_reads.Given as goal

abbrev pub invariant-loop-read : goal.invariant-loop-read
invariant-loop-read l = l.self ≡ with_reads l.initial.self l._read
