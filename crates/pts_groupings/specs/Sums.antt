-- Sums over groupings. An item is what an element brings after the transform, where there is one: a value, or None where that throws.
use Rattle.std.specs.Prelude.{◌≡◌, ℕ, Option, Some, None, List, [], ◌∷◌, map}
use Rattle.std.specs.List.{flat_map, fold}
use Rattle.std.specs.Option.{option_map, MatchOption}
use Rattle.pts_types.specs.declared.operation.Policy.{Policy}
use Rattle.pts_types.specs.declared.operation.Policy.TheVariants.{Seq}
use Rattle.pts_groupings.specs.Brackets.{combined, GeneralizedSum}
use Rattle.pts_groupings.specs.Chunks.{chunk}

-- the left fold of one or more items
abbrev pub folded : {V : Type 0} → (V → V → Option V) → List (Option V) → Option V
folded op [] = None
folded op (x ∷ xs) = fold (combined op) x xs

-- the outcome, and the values before it
abbrev pub with_values : {V : Type 0} → Option V → Option (List V) → Option (List V)
with_values (Some v) rest = option_map (λ vs. v ∷ vs) rest
with_values None rest = None

-- the values of the items, where none is a throw
abbrev pub all_given : {V : Type 0} → List (Option V) → Option (List V)
all_given [] = Some []
all_given (x ∷ xs) = with_values x (all_given xs)

-- a sum ([reduce], [transform.reduce]): under seq the left fold of init and the items; else each group is the left fold of its items, and the
-- sum the left fold of init and the groups
abbrev pub sum_of : {V : Type 0} → Policy → ℕ → List (List ℕ) → (V → V → Option V) → V → List (Option V) → Option V
sum_of Seq size groups op init items = fold (combined op) (Some init) items
sum_of policy size groups op init items = fold (combined op) (Some init) (map (λ group. folded op (flat_map (chunk size items) group)) groups)

-- the sum that the standard names: of init and the items, or a throw where an item is one
abbrev pub IsSum : {V : Type 0} → (V → V → Option V) → V → List (Option V) → Option V → Type 0
IsSum op init items result = MatchOption (all_given items) (result ≡ None) (λ values. GeneralizedSum op (init ∷ values) result)
