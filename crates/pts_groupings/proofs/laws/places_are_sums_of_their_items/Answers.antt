use Rattle.pts_groupings.proofs.Scans.{item_throws, length-written, throw_is_sum, written_is_sum}
use Rattle.pts_groupings.proofs.laws.places_are_sums_of_their_items.Goals as goal

pub returns-clause-written : goal.returns-clause-written
returns-clause-written c = λ op policy scan size init items written some begun e.
    (length-written op policy scan size init items some begun written e, written_is_sum op policy scan size init items some begun written e)

pub returns-clause-thrown : goal.returns-clause-thrown
returns-clause-thrown c = throw_is_sum

pub returns-clause-transforms : goal.returns-clause-transforms
returns-clause-transforms c = λ op policy scan size init items p some begun. item_throws op policy scan size init items some begun p
