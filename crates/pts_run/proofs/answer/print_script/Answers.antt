use Rattle.pts_run.proofs.Endings.{print_ends}
use Rattle.pts_run.proofs.answer.print_script.Goals as goal

pub returns-clause-ends : goal.returns-clause-ends
returns-clause-ends g c = λ bytes reads.
    rw c.finished.ensures (print_ends bytes c.args.script.now c.write_canonical.result _ _ reads c.write_canonical.ensures.writes)
