use Rattle.std.proofs.Common.{rules}
use Rattle.std.proofs.lemmas.Map.Text.{btree_map_updates_text}
use Rattle.pts_rules.proofs.scope.move_place.Goals as goal

pub returns-in-Some : goal.returns-in-Some
returns-in-Some c = btree_map_updates_text c.args.name.now c.args.places.now (c.get_mut.follows.lender c.args.place) _ ((c.get_mut.follows.holds c.args.place).3 (search rules))
