use Rattle.pts_run.proofs.answer.answer.Goals as goal

pub returns-in-Run-clause-ends : goal.returns-in-Run-clause-ends
returns-in-Run-clause-ends g c = λ bytes reads. rw c.in-Run.is (c.run_script.ensures.ends bytes reads)

pub returns-in-Check-clause-ends : goal.returns-in-Check-clause-ends
returns-in-Check-clause-ends g c = λ bytes reads. rw c.in-Check.is (c.check_script.ensures.ends bytes reads)

pub returns-in-Print-clause-ends : goal.returns-in-Print-clause-ends
returns-in-Print-clause-ends g c = λ bytes reads. rw c.in-Print.is (c.print_script.ensures.ends bytes reads)
