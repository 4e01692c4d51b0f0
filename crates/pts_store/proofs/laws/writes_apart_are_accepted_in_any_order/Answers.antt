use Rattle.pts_store.proofs.Together.{accepted_in_any_order}
use Rattle.pts_store.proofs.laws.writes_apart_are_accepted_in_any_order.Goals as goal

pub returns : goal.returns
returns c = accepted_in_any_order
