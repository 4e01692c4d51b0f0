-- The sums of a statement, and what it is to keep the value of one.
use Rattle.std.specs.Prelude.{◌≡◌, Option, Some, None, List, [], ◌∷◌, ◌++◌, flat_map}
use Rattle.pts_tree.specs.declared.sum.Sum.{Sum}
use Rattle.pts_tree.specs.declared.sum.Val.{Val}
use Rattle.pts_tree.specs.declared.sum.Val.TheVariants as vals
use Rattle.pts_tree.specs.declared.sum.Range.{Range}
use Rattle.pts_tree.specs.declared.call.Call as call
use Rattle.pts_tree.specs.declared.loops.Loop as loops
use Rattle.pts_tree.specs.declared.loops.Clause.{Clause}
use Rattle.pts_tree.specs.declared.loops.Clause.TheVariants as clauses
use Rattle.pts_tree.specs.declared.loops.Initial.{Initial}
use Rattle.pts_tree.specs.declared.loops.Initial.TheVariants as initials
use Rattle.pts_rules.specs.Known.{Scope, number}
use Rattle.pts_rules.specs.Parts.{Simple, Throw, Assign, Call, Loop}
use Rattle.pts_constants.specs.Resolved.{resolved_sum}

-- the number that is left of a sum is its value
abbrev pub IsExact : Scope → Sum → Type 0
IsExact scope x = number [] (resolved_sum scope x) ≡ number scope x

abbrev pub val_sums : Val → List Sum
val_sums (vals.Sum x) = x ∷ []
val_sums _ = []

abbrev pub range_sums : Range → List Sum
range_sums x = x.low ∷ x.high ∷ []

-- of a part, where it is there
abbrev pub sums_in : {A : Type 0} → (A → List Sum) → Option A → List Sum
sums_in f None = []
sums_in f (Some x) = f x

abbrev pub initial_sums : Initial → List Sum
initial_sums (initials.Val x) = val_sums x
initial_sums (initials.Cell x) = x.index ∷ []

abbrev pub clause_sums : Clause → List Sum
clause_sums (clauses.Reduce x) = (x.cell.index ∷ []) ++ sums_in val_sums x.identity
clause_sums (clauses.Induct x) = initial_sums x.initial ++ sums_in (λ y. y ∷ []) x.step

abbrev pub call_sums : call.Call → List Sum
call_sums x =
    range_sums x.first ++ sums_in range_sums x.second ++ sums_in range_sums x.target ++ sums_in val_sums x.init ++ sums_in (λ y. y.index ∷ []) x.store

abbrev pub loop_sums : loops.Loop → List Sum
loop_sums x = (x.low ∷ x.high ∷ []) ++ sums_in (λ y. y ∷ []) x.step ++ flat_map clause_sums x.clauses

-- every sum of a statement
abbrev pub sums_of : Simple → List Sum
sums_of (Throw n) = []
sums_of (Assign at x) = at.index ∷ []
sums_of (Call x) = call_sums x
sums_of (Loop x) = loop_sums x
