-- What a clause sees of a source and a sink over std.
use Rattle.std.specs.Prelude.{ℕ, List, Option}

-- the bytes that the reader has left, where it tells them, and how often a call failed
pub record ReaderState : Type 0 where
  pub left : Option (List ℕ)
  pub faults : ℕ

-- the bytes that the writer holds, where it tells them, and how often a call failed
pub record WriterState : Type 0 where
  pub written : Option (List ℕ)
  pub faults : ℕ
