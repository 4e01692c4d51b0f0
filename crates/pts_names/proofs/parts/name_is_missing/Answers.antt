use Rattle.pts_names.proofs.Missing.{not_found}
use Rattle.pts_names.proofs.parts.name_is_missing.Goals as goal

pub returns : goal.returns
returns c = not_found c.args.scope.now c.args.name.now c.is_none.result c.meaning.result c.is_none.ensures c.meaning.ensures
