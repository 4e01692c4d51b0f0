use Rattle.pts_clear.proofs.MapsShown.{for_each_is_shown, transform_is_shown}
use Rattle.pts_clear.proofs.laws.map_calls_are_shown.Goals as goal

pub returns-clause-for_each : goal.returns-clause-for_each
returns-clause-for_each g = for_each_is_shown

pub returns-clause-transform : goal.returns-clause-transform
returns-clause-transform g = transform_is_shown
