use Rattle.pts_store.proofs.Together.{in_any_order}
use Rattle.pts_store.proofs.laws.writes_apart_merge_in_any_order.Goals as goal

pub returns : goal.returns
returns c = in_any_order
