-- How a scope is kept: its rows, the latest first, and a map from each name to the place of its latest row.
use Rattle.std.specs.Prelude.{◌≡◌, IsTrue, ℕ, ◌+◌, ⊤, if◌then◌else◌, Option, Some, None, List, [], ◌∷◌, length, map, string_bytes, String}
use Rattle.std.specs.BTreeMap.{BTreeMap, get_by_text}
use Rattle.std.specs.Str.{bytes_eq}
use Rattle.pts_rules.specs.declared.meaning.Meaning.{Meaning}
use Rattle.pts_rules.specs.declared.meaning.Meaning.TheVariants.{Array, Function, Value}
use Rattle.pts_rules.specs.declared.scope.Counts.{Counts}
use Rattle.pts_rules.specs.declared.scope.Row.{Row}
use Rattle.pts_rules.specs.Known.{Entry, Scope, is_in_bounds}
use Rattle.pts_rules.specs.Parts.{Name}

abbrev pub entry : Row → Entry
entry row = (string_bytes row.name, row.meaning)

-- what contracts see of rows
abbrev pub entries : List Row → Scope
entries rows = map entry rows

-- one name more
abbrev pub counted : Counts → Meaning → Counts
counted counts (Array kind length) = record counts { arrays = counts.arrays + 1 }
counted counts (Function signature) = record counts { functions = counts.functions + 1 }
counted counts (Value kind) = record counts { values = counts.values + 1 }
counted counts meaning = counts

-- how many names of each sort there are
abbrev pub counts : List Row → Counts
counts [] = record { arrays = 0; functions = 0; values = 0 }
counts (row ∷ rows) = counted (counts rows) row.meaning

-- the place of the latest row of a name, from 0 at the oldest
abbrev pub place_of : List Row → Name → Option ℕ
place_of [] name = None
place_of (row ∷ rows) name = if bytes_eq name (string_bytes row.name) then Some (length rows) else place_of rows name

-- the latest row of a name
abbrev pub row_of : List Row → Name → Option Row
row_of [] name = None
row_of (row ∷ rows) name = if bytes_eq name (string_bytes row.name) then Some row else row_of rows name

-- each row knows how many names are older, and which row of its name it hides
abbrev pub AreLinked : List Row → Type 0
AreLinked [] = ⊤
AreLinked (row ∷ rows) = (row.older ≡ counts rows) × (row.hidden ≡ place_of rows (string_bytes row.name)) × AreLinked rows

-- the map has the place of each name
abbrev pub HasPlaces : {A : Type 0} → List Row → BTreeMap (String A) ℕ → Type 0
HasPlaces rows places = (name : Name) → get_by_text places name ≡ place_of rows name

-- no constant is too great or too small
abbrev pub AreBounded : List Row → Type 0
AreBounded [] = ⊤
AreBounded (row ∷ rows) = IsTrue (is_in_bounds row.meaning) × AreBounded rows

pub record IsTracked {A : Type 0} (rows : List Row) (places : BTreeMap (String A) ℕ) : Type 0 where
  pub linked : AreLinked rows
  pub placed : HasPlaces rows places
  pub bounded : AreBounded rows

-- the map has this place, or none, for the name, and for all others what it had
abbrev pub IsPut : {A : Type 0} → BTreeMap (String A) ℕ → BTreeMap (String A) ℕ → Name → Option ℕ → Type 0
IsPut old new name place = (other : Name) → get_by_text new other ≡ (if bytes_eq name other then place else get_by_text old other)

abbrev pub IsUnchanged : {A : Type 0} → BTreeMap (String A) ℕ → BTreeMap (String A) ℕ → Type 0
IsUnchanged old new = (name : Name) → get_by_text new name ≡ get_by_text old name
