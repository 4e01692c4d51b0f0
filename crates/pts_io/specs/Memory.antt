-- What a clause sees of a source and a sink over memory, and what each call makes of them.
use Rattle.std.specs.Prelude.{ℕ, ◌-◌, List, [], ◌++◌, drop, length}
use Rattle.pts_io.specs.Streams.{raised}

-- the bytes that are left, the numbers of the calls that fail, how many calls came, and how many of them failed
pub record SourceState : Type 0 where
  pub left : List ℕ
  pub fails : List ℕ
  pub calls : ℕ
  pub faults : ℕ

-- no call came yet
abbrev pub new_source : List ℕ → List ℕ → SourceState
new_source bytes fails = record { left = bytes; fails = fails; calls = 0; faults = 0 }

-- a call gave n bytes
abbrev pub source_without : ℕ → SourceState → SourceState
source_without n s = record s { left = drop n s.left; calls = raised s.calls }

-- a call failed
abbrev pub failed_source : SourceState → SourceState
failed_source s = record s { calls = raised s.calls; faults = raised s.faults }

-- what was written, how many bytes there is room for, and the rest as for a source
pub record SinkState : Type 0 where
  pub written : List ℕ
  pub room : ℕ
  pub fails : List ℕ
  pub calls : ℕ
  pub faults : ℕ

-- no call came yet
abbrev pub new_sink : ℕ → List ℕ → SinkState
new_sink room fails = record { written = []; room = room; fails = fails; calls = 0; faults = 0 }

-- a call took these bytes
abbrev pub sink_with : List ℕ → SinkState → SinkState
sink_with bytes s = record s { written = s.written ++ bytes; room = s.room - length bytes; calls = raised s.calls }

-- a call failed
abbrev pub failed_sink : SinkState → SinkState
failed_sink s = record s { calls = raised s.calls; faults = raised s.faults }
