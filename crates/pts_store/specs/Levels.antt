-- The lists that writes lie in: how a call changes one, and which have the places of others.
use Rattle.std.specs.Prelude.{◌≡◌, ℕ, ◌<◌, ◌≤◌, ◌/◌, ◌%◌, ◌==◌, ◌&&◌, if◌then◌else◌, Option, Some, [], length, get_or}
use Rattle.pts_types.specs.declared.value.Value.{Value}
use Rattle.pts_store.specs.Writes.{Page, Block, Row, Band, Writes, in_band, over}

-- ---- changes of a list of places

-- every place is as before
pub record Same (old new : ℕ → Option Value) : Type 0 where
  pub place : (k : ℕ) → new k ≡ old k

-- one place has this value, and every other is as before
pub record Puts (old new : ℕ → Option Value) (at : ℕ) (value : Value) : Type 0 where
  pub place : (k : ℕ) → new k ≡ (if k == at then Some value else old k)

-- every place has the later value, where there is one
pub record Covers (old later new : ℕ → Option Value) : Type 0 where
  pub place : (k : ℕ) → new k ≡ over (old k) (later k)

-- ---- changes of a band

-- every cell is as before
pub record SameBand (old new : Band) : Type 0 where
  pub cell : (k index : ℕ) → in_band new k index ≡ in_band old k index

-- one cell has this value, and every other is as before
pub record PutsInBand (old new : Band) (at place : ℕ) (value : Value) : Type 0 where
  pub cell : (k index : ℕ) → in_band new k index ≡ (if k == at && index == place then Some value else in_band old k index)

-- every cell has the later value, where there is one
pub record CoversBand (old later new : Band) : Type 0 where
  pub cell : (k index : ℕ) → in_band new k index ≡ over (in_band old k index) (in_band later k index)

-- ---- the slots that there are, whether or not something is written in them

abbrev pub HasSlot : Page → ℕ → Type 0
HasSlot page at = at < length page

abbrev pub HasSlotInBlock : Block → ℕ → Type 0
HasSlotInBlock block at = HasSlot (get_or block (at / 128) []) (at % 128)

abbrev pub HasSlotInRow : Row → ℕ → Type 0
HasSlotInRow row index = HasSlotInBlock (get_or row (index / 8192) []) (index % 8192)

abbrev pub HasSlotInBand : Band → ℕ → ℕ → Type 0
HasSlotInBand band at index = HasSlotInRow (get_or band at []) index

abbrev pub HasSlotInWrites : Writes → ℕ → ℕ → Type 0
HasSlotInWrites writes array index = HasSlotInBand (get_or writes (array / 64) []) (array % 64) index

-- ---- the places of others

abbrev pub FitsPage : Page → Page → Type 0
FitsPage small big = length small ≤ length big

pub record FitsBlock (small big : Block) : Type 0 where
  pub few : length small ≤ length big
  pub each : (k : ℕ) → FitsPage (get_or small k []) (get_or big k [])

pub record FitsRow (small big : Row) : Type 0 where
  pub few : length small ≤ length big
  pub each : (k : ℕ) → FitsBlock (get_or small k []) (get_or big k [])

pub record FitsBand (small big : Band) : Type 0 where
  pub few : length small ≤ length big
  pub each : (k : ℕ) → FitsRow (get_or small k []) (get_or big k [])

pub record FitsWrites (small big : Writes) : Type 0 where
  pub few : length small ≤ length big
  pub each : (k : ℕ) → FitsBand (get_or small k []) (get_or big k [])
