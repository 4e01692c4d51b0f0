-- Parts of runs as changes of a store, and what may stand in either order.
use Rattle.std.specs.Prelude.{◌≡◌, ◌⊎◌, Bool, Option, None, IsSome, List}
use Rattle.pts_lowering.specs.declared.tasks.LoweredTask.{LoweredTask}
use Rattle.pts_store.specs.Stores.{Store}
use Rattle.pts_blocks.specs.Changes.{AgreeIn, Cells, Changes, IsInside, with_changes}
use Rattle.pts_blocks.specs.Meanings.{Meaning}
use Rattle.pts_blocks.specs.Parts.{Ended, Part, followed}
use Rattle.pts_blocks.specs.Runs.{Point, Runs}

-- What leads from one store to the other by changes in W, and by the same changes from each store that holds the same in R. `Leads` says
-- between which stores it leads.
pub record IsFramed (R W : Cells) (Leads : Store → Store → Type 0) (before after : Store) : Type 0 where
  pub changes : Changes
  pub inside : IsInside W changes
  pub after_is : after ≡ with_changes changes before
  pub again : (store : Store) → AgreeIn R before store → Leads store (with_changes changes store)

-- the second leads to a store, and the first from there
pub record Exchanged (First Second : Store → Store → Type 0) (before after : Store) : Type 0 where
  pub between : Store
  pub second : Second before between
  pub first : First between after

-- a run of statements and of those behind them, cut between the two
pub record IsCut (m : Meaning) (alone : Bool) (xs ys : List LoweredTask) (a : Point) (end : Option Ended) (part : Part) (c : Point) : Type 0 where
  pub at : Point
  pub first : Part
  pub second : Part
  pub part_is : part ≡ followed first second
  pub before : Runs m alone xs a None first at
  pub behind : Runs m alone ys at end second c

-- it ends in the first ones, or it is cut behind them
abbrev pub IsSplit : Meaning → Bool → List LoweredTask → List LoweredTask → Point → Option Ended → Part → Point → Type 0
IsSplit m alone xs ys a end part c = (Runs m alone xs a end part c × IsSome end) ⊎ IsCut m alone xs ys a end part c
