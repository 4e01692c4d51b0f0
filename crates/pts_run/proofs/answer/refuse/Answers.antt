use Rattle.pts_run.proofs.Endings.{refusal_ends}
use Rattle.pts_run.proofs.answer.refuse.Goals as goal

pub returns-clause-ends : goal.returns-clause-ends
returns-clause-ends g c = λ command bytes refuses.
    rw c.finished.ensures (refusal_ends command bytes c.args.refusal c.write_refusal.result _ _ refuses c.write_refusal.ensures.writes)
