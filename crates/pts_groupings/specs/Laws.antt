-- What the laws of this crate say. An operation takes two values and gives one, or throws.
use Rattle.std.specs.Prelude.{◌≡◌, ℕ, ◌<◌, ◌≤◌, Option, Some, None, List, ◌∷◌, ◌++◌, length, map, All}
use Rattle.std.specs.List.{flat_map, fold, slice_get}
use Rattle.std.specs.Option.{IfSome}
use Rattle.std.specs.Result.{result_ok}
use Rattle.pts_types.specs.Arithmetic.{value_under, identity_of, IsValueOf}
use Rattle.pts_types.specs.declared.value.Kind.{Kind}
use Rattle.pts_types.specs.declared.operation.Policy.TheVariants.{Seq}
use Rattle.pts_types.specs.declared.operation.Policy.{Policy}
use Rattle.pts_types.specs.declared.operation.ScalarOp.{ScalarOp}
use Rattle.pts_types.specs.declared.value.Value.{Value}
use Rattle.pts_groupings.specs.Brackets.{combined, GeneralizedSum, NoncommutativeSum}
use Rattle.pts_groupings.specs.Chunks.{chunk_count, sharing, single_group, IsGrouping}
use Rattle.pts_groupings.specs.Sums.{all_given, folded, sum_of, IsSum}
use Rattle.pts_groupings.specs.Scans.{Scan, belonging, HasStart, places_of, IsPlaceSum, HasThrow}
use Rattle.pts_groupings.specs.Reductions.{contributed, accumulator, accumulators, reduction_of, IsCombined}

-- an operation of the scripts, where None stands for what it throws
abbrev pub given : ScalarOp → Value → Value → Option Value
given op x y = result_ok (value_under op x y)

-- where one worker has all chunks, by its policy or by itself, a grouping is the one group of all chunks in order
abbrev pub OneWorkerHasOneGrouping : Type 0
OneWorkerHasOneGrouping =
    (policy : Policy) (workers chunks : ℕ) (groups : List (List ℕ)) → sharing policy workers ≡ 1 → IsGrouping (sharing policy workers) chunks groups
    → groups ≡ single_group chunks

-- that is a grouping, among however many workers
abbrev pub OneGroupIsAGrouping : Type 0
OneGroupIsAGrouping = (workers chunks : ℕ) → 1 ≤ workers → IsGrouping workers chunks (single_group chunks)

-- the sum of any grouping lies in the generalized sum of init and the items, and throws where an item does
abbrev pub SumsAreGeneralized : Type 0
SumsAreGeneralized =
    (op : Value → Value → Option Value) (policy : Policy) (workers size : ℕ) (groups : List (List ℕ)) (init : Value) (items : List (Option Value))
    → 0 < size → IsGrouping workers (chunk_count (length items) size) groups → IsSum op init items (sum_of policy size groups op init items)

-- a scan that does not throw writes as many places as there are items, each of them the sum that the standard names
abbrev pub WrittenPlacesAreSums : Type 0
WrittenPlacesAreSums =
    (op : Value → Value → Option Value) (policy : Policy) (scan : Scan) (size : ℕ) (init : Option Value) (items : List (Option Value)) (written : List Value)
    → 0 < size → HasStart scan init → places_of policy scan size op init items ≡ Some written
    → (length written ≡ length items) × ((p : ℕ) → p < length items → IsPlaceSum scan op init items p (slice_get written p))

-- where a scan throws, a throw lies in the sum of one of its places
abbrev pub ThrowsAreSums : Type 0
ThrowsAreSums =
    (op : Value → Value → Option Value) (policy : Policy) (scan : Scan) (size : ℕ) (init : Option Value) (items : List (Option Value))
    → 0 < size → HasStart scan init → places_of policy scan size op init items ≡ None → HasThrow scan op init items

-- where an item that belongs to a place throws, so does the scan
abbrev pub ItemsThrow : Type 0
ItemsThrow =
    (op : Value → Value → Option Value) (policy : Policy) (scan : Scan) (size : ℕ) (init : Option Value) (items : List (Option Value)) (p : ℕ)
    → 0 < size → HasStart scan init → p < length items → all_given (belonging scan items p) ≡ None → places_of policy scan size op init items ≡ None

-- a reduction over groups combines their accumulators in their order, and throws where one of them does
abbrev pub ReductionsCombine : Type 0
ReductionsCombine =
    (size : ℕ) (groups : List (List ℕ)) (op : Value → Value → Option Value) (live identity : Value) (contributions : List (List Value))
    → 1 ≤ length groups → IsCombined op (accumulators size op contributions live identity groups) (reduction_of size groups op live identity contributions)

-- an accumulator is a sum of what it began with and what its group contributes, in their order
abbrev pub AccumulatorsAreSums : Type 0
AccumulatorsAreSums =
    (size : ℕ) (op : Value → Value → Option Value) (contributions : List (List Value)) (start : Value) (group : List ℕ)
    → NoncommutativeSum op (start ∷ contributed size contributions group) (accumulator size op contributions start group)

-- a reduction is a sum of the live value and what the first group contributes, and for each other group of the identity and what it contributes
abbrev pub ReductionsAreSums : Type 0
ReductionsAreSums =
    (size : ℕ) (first : List ℕ) (others : List (List ℕ)) (op : Value → Value → Option Value) (live identity : Value) (contributions : List (List Value))
    → NoncommutativeSum op (live ∷ (contributed size contributions first ++ flat_map (λ group. identity ∷ contributed size contributions group) others))
    (reduction_of size (first ∷ others) op live identity contributions)

-- ---- operations whose answer no grouping changes: those that apply, on the values of a kind

-- a generalized sum, whatever its brackets and its order, is the left fold
abbrev pub OneOutcome : (ScalarOp → Type 0) → (Value → Type 0) → Type 0
OneOutcome Applies Has =
    (op : ScalarOp) (items : List Value) (result : Option Value)
    → Applies op → All Has items → GeneralizedSum (given op) items result → result ≡ folded (given op) (map Some items)

-- the sum of any grouping, under any policy, is the left fold of init and the items
abbrev pub SumsAreLeftFolds : (ScalarOp → Type 0) → (Value → Type 0) → Type 0
SumsAreLeftFolds Applies Has =
    (op : ScalarOp) (policy : Policy) (workers size : ℕ) (groups : List (List ℕ)) (init : Value) (items : List (Option Value))
    → Applies op → 0 < size → IsGrouping workers (chunk_count (length items) size) groups → Has init → All (λ item. IfSome item Has) items
    → sum_of policy size groups (given op) init items ≡ fold (combined (given op)) (Some init) items

-- the places of a scan are those of the left folds, whatever the policy and the chunk length
abbrev pub PlacesAreLeftFolds : (ScalarOp → Type 0) → (Value → Type 0) → Type 0
PlacesAreLeftFolds Applies Has =
    (op : ScalarOp) (policy : Policy) (scan : Scan) (size : ℕ) (init : Option Value) (items : List (Option Value))
    → Applies op → 0 < size → HasStart scan init → IfSome init Has → All (λ item. IfSome item Has) items
    → places_of policy scan size (given op) init items ≡ places_of Seq scan size (given op) init items

-- a reduction with the operation's own identity is, over any grouping, the left fold of the live value and all contributions
abbrev pub ReductionsAreLeftFolds : (ScalarOp → Type 0) → (Value → Type 0) → Kind → Type 0
ReductionsAreLeftFolds Applies Has kind =
    (op : ScalarOp) (workers size : ℕ) (groups : List (List ℕ)) (live : Value) (contributions : List (List Value))
    → Applies op → 0 < size → IsGrouping workers (chunk_count (length contributions) size) groups → IsValueOf kind live → All (All Has) contributions
    → reduction_of size groups (given op) live (identity_of op live) contributions
    ≡ fold (combined (given op)) (Some live) (map Some (flat_map (λ own. own) contributions))
