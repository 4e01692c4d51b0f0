use Rattle.std.proofs.Common.{◌↔◌, length, map, None, string_bytes}
use Rattle.pts_boards.specs.declared.pool.Pool.{Pool}
use Rattle.pts_run.specs.Settings.{LeadsTo}
use Rattle.pts_run.proofs.words.read_settings.Given as goal

abbrev pub invariant-loop-rest : goal.invariant-loop-rest
invariant-loop-rest l = (pool : Pool) → LeadsTo l.settings (map string_bytes l.rest) pool ↔ LeadsTo (record { workers = None; chunk = None }) (map string_bytes l.words) pool

abbrev pub decreases-loop-rest : goal.decreases-loop-rest
decreases-loop-rest l = length l.rest
