use Rattle.pts_run.proofs.answer.reject.Goals as goal

pub returns-in-Refused-clause-ends : goal.returns-in-Refused-clause-ends
returns-in-Refused-clause-ends g c = λ command bytes h. c.refuse.ensures.ends command bytes (h c.in-Refused.refusal c.in-Refused.is)
