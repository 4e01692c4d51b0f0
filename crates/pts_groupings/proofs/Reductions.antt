-- A loop's reduction combines its accumulators.
use Rattle.std.proofs.Common.{◌≡◌, ℕ, ◌≤◌, Option, Some, None, List, [], ◌∷◌, length, sym, ap, subst, ◌∙◌, arith}
use Rattle.std.specs.Option.{MatchOption}
use Rattle.std.proofs.lemmas.List.{length-map}
use Rattle.pts_groupings.specs.Brackets.{NoncommutativeSum}
use Rattle.pts_groupings.specs.Sums.{folded}
use Rattle.pts_groupings.specs.Reductions.{contributed, accumulator, accumulators, reduction_of, IsCombined}
use Rattle.pts_groupings.proofs.Trees.{list_sum}
use Rattle.pts_groupings.proofs.Throws.{Items, Values, Throws, items_of, folded_throws}

either_fold : {V : Type 0} (op : V → V → Option V) (outcomes : List (Option V)) → 1 ≤ length outcomes → Items outcomes
    → IsCombined op outcomes (folded op outcomes)
either_fold op outcomes some (Values vs e given) =
    let count : length outcomes ≡ length vs = ap length e ∙ length-map vs Some in
    subst (λ o. MatchOption o (folded op outcomes ≡ None) (λ values. NoncommutativeSum op values (folded op outcomes))) (sym given)
    (subst (λ l. NoncommutativeSum op vs (folded op l)) (sym e) (list_sum op vs (omega (arith, count, some))))
either_fold op outcomes some (Throws h given) =
    subst (λ o. MatchOption o (folded op outcomes ≡ None) (λ values. NoncommutativeSum op values (folded op outcomes))) (sym given)
    (folded_throws op outcomes h)

-- where there is a group, the reduction combines the accumulators in their order
pub reduction_combines : {V : Type 0} (size : ℕ) (groups : List (List ℕ)) (op : V → V → Option V) (live identity : V) (contributions : List (List V))
    → 1 ≤ length groups
    → IsCombined op (accumulators size op contributions live identity groups) (reduction_of size groups op live identity contributions)
reduction_combines size [] op live identity contributions some = absurd (omega (arith, some))
reduction_combines size (first ∷ others) op live identity contributions some =
    either_fold op (accumulators size op contributions live identity (first ∷ others)) (omega arith)
    (items_of (accumulators size op contributions live identity (first ∷ others)))

-- an accumulator combines what it began with and what its group contributes
pub accumulator_is_sum : {V : Type 0} (size : ℕ) (op : V → V → Option V) (contributions : List (List V)) (start : V) (group : List ℕ)
    → NoncommutativeSum op (start ∷ contributed size contributions group) (accumulator size op contributions start group)
accumulator_is_sum size op contributions start group = list_sum op (start ∷ contributed size contributions group) (omega arith)
