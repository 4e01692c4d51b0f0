use Rattle.pts_parse.proofs.WholeScripts.{phrases_are_spelled}
use Rattle.pts_parse.proofs.laws.rules_match_what_is_spelled.Goals as goal

pub returns : goal.returns
returns c = phrases_are_spelled
