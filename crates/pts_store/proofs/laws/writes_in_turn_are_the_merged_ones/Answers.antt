use Rattle.pts_store.proofs.Together.{in_turn}
use Rattle.pts_store.proofs.laws.writes_in_turn_are_the_merged_ones.Goals as goal

pub returns : goal.returns
returns c = in_turn
