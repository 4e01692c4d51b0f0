-- Overlays: writes over a store, or over what another overlay stands for.
use Rattle.std.specs.Prelude.{ℕ}
use Rattle.pts_store.specs.Stores.{Store}
use Rattle.pts_store.specs.Writes.{Writes}

-- the store that an overlay stands for, which is the one below it with its own writes, and how many overlays lie below it
pub record Layer : Type 0 where
  pub stands : Store
  pub below : Store
  pub writes : Writes
  pub depth : ℕ
