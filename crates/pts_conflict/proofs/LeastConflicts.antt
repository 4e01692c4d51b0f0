-- From the first conflict of a search to the least one of the program, or to none.
use Rattle.std.proofs.Common.{Some, None}
use Rattle.pts_program.specs.declared.lists.Lists.{Lists}
use Rattle.pts_conflict.specs.declared.found.Found.{Found}
use Rattle.pts_conflict.specs.Conflicts.{IsClear, IsLeastConflict}
use Rattle.pts_conflict.specs.Search.{FindsFirst, IsConflict, rank_of}

pub clear_none : (lists : Lists) → FindsFirst (IsConflict lists) rank_of None → IsClear lists
clear_none lists f = λ call x h. f (record { call = call; pair = x }) h

pub least_some : (lists : Lists) (x : Found) → FindsFirst (IsConflict lists) rank_of (Some x) → IsLeastConflict lists x.pair
least_some lists x f = record { call = x.call; conflicts = f.holds; least = λ other y h. f.least (record { call = other; pair = y }) h }
