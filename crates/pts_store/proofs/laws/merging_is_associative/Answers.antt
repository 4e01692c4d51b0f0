use Rattle.pts_store.proofs.Together.{associative}
use Rattle.pts_store.proofs.laws.merging_is_associative.Goals as goal

pub returns : goal.returns
returns c = associative
