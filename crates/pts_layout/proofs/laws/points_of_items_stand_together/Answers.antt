use Rattle.pts_layout.proofs.Items.{all_placed}
use Rattle.pts_layout.proofs.laws.points_of_items_stand_together.Goals as goal

pub returns-clause-lower : goal.returns-clause-lower
returns-clause-lower c lists item j x h = (all_placed lists h).lower item j x

pub returns-clause-places : goal.returns-clause-places
returns-clause-places c lists j x h = (all_placed lists h).places j x
