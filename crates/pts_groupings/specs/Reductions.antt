-- The reduction of a loop ([parallel.alg.reductions]): accumulators that groups of positions contribute to.
use Rattle.std.specs.Prelude.{◌≡◌, ℕ, Option, Some, None, List, [], ◌∷◌, map}
use Rattle.std.specs.List.{flat_map, fold}
use Rattle.std.specs.Option.{MatchOption}
use Rattle.pts_groupings.specs.Brackets.{combined, NoncommutativeSum}
use Rattle.pts_groupings.specs.Chunks.{chunk}
use Rattle.pts_groupings.specs.Sums.{folded, all_given}

-- what a group contributes, chunk by chunk, position by position, each position's in the order of its list
abbrev pub contributed : {V : Type 0} → ℕ → List (List V) → List ℕ → List V
contributed size contributions group = flat_map (λ own. own) (flat_map (chunk size contributions) group)

-- an accumulator that began with a value, when its group is done
abbrev pub accumulator : {V : Type 0} → ℕ → (V → V → Option V) → List (List V) → V → List ℕ → Option V
accumulator size op contributions start group = fold (combined op) (Some start) (map Some (contributed size contributions group))

-- the accumulators by groups: the first begins with the variable's live value, each other with the identity
abbrev pub accumulators : {V : Type 0} → ℕ → (V → V → Option V) → List (List V) → V → V → List (List ℕ) → List (Option V)
accumulators size op contributions live identity [] = []
accumulators size op contributions live identity (first ∷ others) =
    accumulator size op contributions live first ∷ map (accumulator size op contributions identity) others

-- the left fold of the accumulators, or the live value where there is no group
abbrev pub reduction_of : {V : Type 0} → ℕ → List (List ℕ) → (V → V → Option V) → V → V → List (List V) → Option V
reduction_of size [] op live identity contributions = Some live
reduction_of size (first ∷ others) op live identity contributions =
    folded op (accumulators size op contributions live identity (first ∷ others))

-- the outcomes combined in their order by some brackets, or a throw where one of them is one
abbrev pub IsCombined : {V : Type 0} → (V → V → Option V) → List (Option V) → Option V → Type 0
IsCombined op outcomes result = MatchOption (all_given outcomes) (result ≡ None) (λ values. NoncommutativeSum op values result)
