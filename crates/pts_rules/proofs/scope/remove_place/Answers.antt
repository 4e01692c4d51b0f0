use Rattle.std.proofs.lemmas.Map.Text.{btree_map_updates_text}
use Rattle.pts_rules.proofs.scope.remove_place.Goals as goal

pub returns : goal.returns
returns c = btree_map_updates_text c.args.name.now c.args.places.now c.remove.new.self _ c.remove.ensures.updates
