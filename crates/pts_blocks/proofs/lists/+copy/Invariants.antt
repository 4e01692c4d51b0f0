use Rattle.std.proofs.Common.{◌≡◌, take}
use Rattle.pts_blocks.proofs.lists.«+copy».Given as goal

abbrev pub invariant-copy_exceptions-loop-exception : goal.invariant-copy_exceptions-loop-exception
invariant-copy_exceptions-loop-exception l = l.copy ≡ take l.exception-index l.list
