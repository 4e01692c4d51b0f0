-- The answers of loops.
use Rattle.std.specs.Prelude.{option_map, []}
use Rattle.pts_store.specs.Writes.{Writes}
use Rattle.pts_passes.specs.Ends as ends
use Rattle.pts_passes.specs.Ends.{LoopEnd}
use Rattle.pts_loops.specs.declared.answers.LoopAnswer.{LoopAnswer}
use Rattle.pts_loops.specs.declared.answers.LoopAnswer.TheVariants as answers

abbrev pub end_of : LoopAnswer → LoopEnd
end_of (answers.Written writes live_outs grouping) = ends.Written live_outs grouping.groups
end_of (answers.Terminated grouping) = ends.Terminated (option_map (λ g. g.groups) grouping)

-- what it writes; nothing where it has terminated
abbrev pub writes_of : LoopAnswer → Writes
writes_of (answers.Written writes live_outs grouping) = writes
writes_of (answers.Terminated grouping) = []
