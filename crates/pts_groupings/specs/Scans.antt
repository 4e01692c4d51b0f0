-- The places of a scan. With or without a transform is the same here, since items stand behind it.
use Rattle.std.specs.Prelude.{◌≡◌, ℕ, ◌+◌, ◌/◌, ◌%◌, ◌<◌, ◌++◌, Option, Some, None, List, map, length, take}
use Rattle.std.specs.List.{cons_option, range_with_len}
use Rattle.std.specs.Option.{option_map, MatchOption}
use Rattle.pts_types.specs.declared.operation.Policy.{Policy}
use Rattle.pts_types.specs.declared.operation.Policy.TheVariants.{Seq}
use Rattle.pts_groupings.specs.Brackets.{NoncommutativeSum}
use Rattle.pts_groupings.specs.Chunks.{chunk}
use Rattle.pts_groupings.specs.Sums.{folded, all_given}

-- whether a place takes in its own item ([inclusive.scan]) or ends before it ([exclusive.scan])
pub data Scan : Type 0 where
  Inclusive : Scan
  Exclusive : Scan

-- how many items, counted from a first one, belong to the place that is so far behind the first
abbrev pub reach : Scan → ℕ → ℕ
reach Inclusive distance = distance + 1
reach Exclusive distance = distance

-- whether the scan has what its first place needs: an exclusive scan an init
abbrev pub HasStart : {V : Type 0} → Scan → Option V → Type 0
HasStart Inclusive init = Unit {0}
HasStart Exclusive None = ⊥
HasStart Exclusive (Some v) = Unit {0}

-- the place at p: under seq the left fold of init and the items that belong to it; else that of init, the left folds of the chunks before
-- p's, and the items of its own chunk that belong to it
abbrev pub place : {V : Type 0} → Policy → Scan → ℕ → (V → V → Option V) → Option V → List (Option V) → ℕ → Option V
place Seq scan size op init items p = folded op (cons_option (option_map Some init) (take (reach scan p) items))
place policy scan size op init items p =
    folded op (cons_option (option_map Some init)
    (map (λ c. folded op (chunk size items c)) (range_with_len 0 (p / size)) ++ take (reach scan (p % size)) (chunk size items (p / size))))

-- the places of a scan ([inclusive.scan], [exclusive.scan]), or None where one of them throws; the last item of an exclusive scan is in no place
abbrev pub places_of : {V : Type 0} → Policy → Scan → ℕ → (V → V → Option V) → Option V → List (Option V) → Option (List V)
places_of policy scan size op init items = all_given (map (place policy scan size op init items) (range_with_len 0 (length items)))

-- the items that the standard names for the place at p: those up to p, or those before it
abbrev pub belonging : {A : Type 0} → Scan → List A → ℕ → List A
belonging Inclusive items p = take (p + 1) items
belonging Exclusive items p = take p items

-- the sum that the standard names for the place at p, of init and the items that belong to it, or a throw where one of these is one
abbrev pub IsPlaceSum : {V : Type 0} → Scan → (V → V → Option V) → Option V → List (Option V) → ℕ → Option V → Type 0
IsPlaceSum scan op init items p result =
    MatchOption (all_given (belonging scan items p)) (result ≡ None) (λ values. NoncommutativeSum op (cons_option init values) result)

-- a place in whose sum a throw lies
abbrev pub HasThrow : {V : Type 0} → Scan → (V → V → Option V) → Option V → List (Option V) → Type 0
HasThrow scan op init items = (p : ℕ) × (p < length items) × IsPlaceSum scan op init items p None
