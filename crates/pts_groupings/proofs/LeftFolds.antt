-- Free operations on the values of a kind give the left fold, in sums, in scans and in reductions.
use Rattle.std.proofs.Common.{◌≡◌, ℕ, ◌+◌, Option, Some, None, List, [], ◌∷◌, map, refl, subst}
use Rattle.std.specs.Prelude.{Result, Ok, Err}
use Rattle.std.specs.List.{flat_map, cons_option, All}
use Rattle.std.specs.Option.{IfSome}
use Rattle.std.specs.Result.{result_ok}
use Rattle.std.proofs.lemmas.List.Elements.{All-nil, All-cons, All-head, All-tail, All-append, All-take}
use Rattle.pts_types.specs.Arithmetic.{IsValueOf, identity_of, value_under}
use Rattle.pts_types.specs.Laws.{and_then}
use Rattle.pts_types.specs.declared.operation.ScalarOp.{ScalarOp}
use Rattle.pts_types.specs.declared.value.Kind.{Kind}
use Rattle.pts_types.specs.declared.value.Thrown.{Thrown}
use Rattle.pts_types.specs.declared.value.Value.{Value}
use Rattle.pts_groupings.specs.Brackets.{combined}
use Rattle.pts_groupings.specs.Sums.{all_given}
use Rattle.pts_groupings.specs.Scans.{Scan, Inclusive, Exclusive, belonging}
use Rattle.pts_groupings.specs.Laws.{given, OneOutcome, SumsAreLeftFolds, PlacesAreLeftFolds, ReductionsAreLeftFolds}
use Rattle.pts_groupings.proofs.Accumulators.{every_reduction}
use Rattle.pts_groupings.proofs.Free.{IsFree, free_totals, left_fold}
use Rattle.pts_groupings.proofs.Scans.{given_values}
use Rattle.pts_groupings.proofs.Throws.{items_of}
use Rattle.pts_groupings.proofs.Totals.{HasTotals, generalized_total, every_grouping, every_place}

-- ---- outcomes of two operations

pub then_first : (op : ScalarOp) (r : Result Value Thrown) (z : Value)
    → combined (given op) (result_ok r) (Some z) ≡ result_ok (and_then r (λ v. value_under op v z))
then_first op (Ok v) z = refl
then_first op (Err t) z = refl

pub then_second : (op : ScalarOp) (r : Result Value Thrown) (x : Value)
    → combined (given op) (Some x) (result_ok r) ≡ result_ok (and_then r (λ v. value_under op x v))
then_second op (Ok v) x = refl
then_second op (Err t) x = refl

-- ---- lists of values

module _ (Has : Value → Type 0) where
  values_in : (vs : List Value) → All (λ item. IfSome item Has) (map Some vs) → All Has vs
  values_in [] all = All-nil Has
  values_in (v ∷ vs) all =
      All-cons Has v vs (All-head (λ item. IfSome item Has) (Some v) (map Some vs) all)
      (values_in vs (All-tail (λ item. IfSome item Has) (Some v) (map Some vs) all))

  given_in : (items : List (Option Value)) (vs : List Value) → all_given items ≡ Some vs → All (λ item. IfSome item Has) items → All Has vs
  given_in items vs e all = values_in vs (subst (All (λ item. IfSome item Has)) (given_values items vs e (items_of items)) all)

  own_in : (scan : Scan) (items : List (Option Value)) (p : ℕ) → All (λ item. IfSome item Has) items → All (λ item. IfSome item Has) (belonging scan items p)
  own_in Inclusive items p all = All-take (λ item. IfSome item Has) (p + 1) items all
  own_in Exclusive items p all = All-take (λ item. IfSome item Has) p items all

  begun_in : (init : Option Value) (vs : List Value) → IfSome init Has → All Has vs → All Has (cons_option init vs)
  begun_in None vs h all = all
  begun_in (Some v) vs h all = All-cons Has v vs h all

  contributions_in : (contributions : List (List Value)) → All (All Has) contributions → All Has (flat_map (λ own. own) contributions)
  contributions_in [] all = All-nil Has
  contributions_in (own ∷ contributions) all =
      All-append Has own (flat_map (λ l. l) contributions) (All-head (All Has) own contributions all)
      (contributions_in contributions (All-tail (All Has) own contributions all))

-- ---- laws

module _ (Applies : ScalarOp → Type 0) (Has : Value → Type 0) (free : (op : ScalarOp) → Applies op → IsFree Has (given op)) where
  totals : (op : ScalarOp) → Applies op → HasTotals (given op) (All Has) (left_fold (given op))
  totals op h = free_totals Has (given op) (free op h)

  pub one_outcome : OneOutcome Applies Has
  one_outcome op items result h all s = generalized_total (given op) (All Has) (left_fold (given op)) (totals op h) items result s all

  pub sums_are_left_folds : SumsAreLeftFolds Applies Has
  sums_are_left_folds op policy workers size groups init items h some g init_in all =
      every_grouping (given op) (All Has) (left_fold (given op)) (totals op h) policy workers size groups init items some g
      (λ vs e. All-cons Has init vs init_in (given_in Has items vs e all))

  pub places_are_left_folds : PlacesAreLeftFolds Applies Has
  places_are_left_folds op policy scan size init items h some begun init_in all =
      every_place (given op) (All Has) (left_fold (given op)) (totals op h) policy scan size init items some begun
      (λ p vs l e. begun_in Has init vs init_in (given_in Has (belonging scan items p) vs e (own_in Has scan items p all)))

  pub reductions_are_left_folds : (kind : Kind) → ((live : Value) → IsValueOf kind live → Has live)
      → ((op : ScalarOp) → Applies op → (live : Value) → IsValueOf kind live → given op live (identity_of op live) ≡ Some live)
      → ((op : ScalarOp) → Applies op → (live : Value) → IsValueOf kind live → Has (identity_of op live))
      → ReductionsAreLeftFolds Applies Has kind
  reductions_are_left_folds kind has neutral identity_in op workers size groups live contributions h some g live_in all =
      every_reduction (given op) (All Has) (left_fold (given op)) (totals op h) live (identity_of op live) (neutral op h live live_in)
      (λ l all'. All-cons Has live (identity_of op live ∷ l) (All-head Has live l all')
      (All-cons Has (identity_of op live) l (identity_in op h live live_in) (All-tail Has live l all')))
      workers size groups contributions some g (All-cons Has live (flat_map (λ own. own) contributions) (has live live_in)
      (contributions_in Has contributions all))
