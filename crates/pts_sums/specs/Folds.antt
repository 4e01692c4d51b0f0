-- Left folds that may have begun before, item by item.
use Rattle.std.specs.Prelude.{Option, Some, None, List}
use Rattle.std.specs.List.{fold}
use Rattle.pts_groupings.specs.Brackets.{combined}

-- one item more: the first item is what a fold begins with
abbrev pub with_item : {V : Type 0} → (V → V → Option V) → Option (Option V) → Option V → Option (Option V)
with_item op None item = Some item
with_item op (Some so_far) item = Some (combined op so_far item)

-- these items more
abbrev pub with_items : {V : Type 0} → (V → V → Option V) → Option (Option V) → List (Option V) → Option (Option V)
with_items op so_far items = fold (with_item op) so_far items

-- the outcome of a fold that has begun
abbrev pub outcome_in : {V : Type 0} → Option (Option V) → Option V
outcome_in None = None
outcome_in (Some outcome) = outcome
