use Rattle.pts_workers.proofs.runner.+fn-leave_all-join+arg2+fn-leave_all-join+arg3+leave_all.Given as goal

abbrev pub decreases-join+arg2 : goal.decreases-join+arg2
decreases-join+arg2 g l = l.few

abbrev pub decreases-join+arg3 : goal.decreases-join+arg3
decreases-join+arg3 g l = l.rest

abbrev pub decreases-leave_all : goal.decreases-leave_all
decreases-leave_all g l = l.workers
