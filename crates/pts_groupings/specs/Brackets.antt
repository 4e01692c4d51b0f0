-- Sums of the standard: what a list of values may be combined to. A throw is None.
use Rattle.std.specs.Prelude.{◌≡◌, Option, Some, None, List, [], ◌∷◌, ◌++◌}
use Rattle.std.specs.List.Sorted.{IsPermutation}

-- an operation on two outcomes, which throws where either throws or it does itself
abbrev pub combined : {V : Type 0} → (V → V → Option V) → Option V → Option V → Option V
combined op (Some x) (Some y) = op x y
combined op (Some x) None = None
combined op None y = None

-- a way to put a list of values into brackets: one value, or two lists that are combined when each has been
pub data Bracketing (V : Type 0) : Type 0 where
  Leaf : V → Bracketing V
  Node : Bracketing V → Bracketing V → Bracketing V

-- the values between the brackets, from left to right
abbrev pub leaves : {V : Type 0} → Bracketing V → List V
leaves (Leaf v) = v ∷ []
leaves (Node a b) = leaves a ++ leaves b

-- what a list in brackets is combined to
abbrev pub outcome_of : {V : Type 0} → (V → V → Option V) → Bracketing V → Option V
outcome_of op (Leaf v) = Some v
outcome_of op (Node a b) = combined op (outcome_of op a) (outcome_of op b)

-- GENERALIZED_NONCOMMUTATIVE_SUM: what some brackets round the items, in their order, give ([numerics.defns])
pub record NoncommutativeSum {V : Type 0} (op : V → V → Option V) (items : List V) (result : Option V) : Type 0 where
  pub brackets : Bracketing V
  pub in_order : leaves brackets ≡ items
  pub gives : outcome_of op brackets ≡ result

-- GENERALIZED_SUM: what some brackets round some permutation of the items give ([numerics.defns])
pub record GeneralizedSum {V : Type 0} (op : V → V → Option V) (items : List V) (result : Option V) : Type 0 where
  pub order : List V
  pub permuted : IsPermutation items order
  pub bracketed : NoncommutativeSum op order result
