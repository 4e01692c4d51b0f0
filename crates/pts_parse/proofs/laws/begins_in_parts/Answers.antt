use Rattle.pts_parse.proofs.BeginningParts.{beginning_in_parts}
use Rattle.pts_parse.proofs.laws.begins_in_parts.Goals as goal

pub returns : goal.returns
returns c = beginning_in_parts
