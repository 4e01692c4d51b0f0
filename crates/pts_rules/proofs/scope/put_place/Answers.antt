use Rattle.std.specs.Prelude.{string_bytes}
use Rattle.std.proofs.lemmas.Map.Text.{btree_map_updates_text}
use Rattle.pts_rules.proofs.scope.put_place.Goals as goal

pub returns-clause-ok : goal.returns-clause-ok
returns-clause-ok c = btree_map_updates_text (string_bytes c.args.name) c.args.places.now c.insert.new.self _ c.in_ok-insert.ensures.updates
