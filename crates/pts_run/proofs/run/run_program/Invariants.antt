use Rattle.std.proofs.Common.{◌≤◌}
use Rattle.pts_store.specs.Laws.{SameShape}
use Rattle.pts_eval.specs.Cells.{start_store}
use Rattle.pts_run.proofs.Runs.{Written}
use Rattle.pts_run.proofs.run.run_program.Given as goal

abbrev pub invariant-loop-place : goal.invariant-loop-place
invariant-loop-place g l = record {
  ran : Written l.fn.pool l.cleared l.place l.store (g.K.Sink.written l.fn.sink) (g.K.Sink.written l.sink);
  arrays : SameShape (start_store l.cleared) l.store;
  counts : g.K.Sink.faults l.fn.sink ≤ g.K.Sink.faults l.sink;
}
