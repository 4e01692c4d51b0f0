use Rattle.pts_orders.proofs.Places.{places_tell}
use Rattle.pts_orders.proofs.laws.places_tell_what_is_allowed.Goals as goal

pub returns : goal.returns
returns c = places_tell
