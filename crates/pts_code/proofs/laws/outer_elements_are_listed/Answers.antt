use Rattle.pts_code.specs.Values.{listed}
use Rattle.pts_code.proofs.Counted.{counted}
use Rattle.pts_code.proofs.laws.outer_elements_are_listed.Goals as goal

pub returns : goal.returns
returns c = λ env outcomes x. counted env (listed outcomes) x
