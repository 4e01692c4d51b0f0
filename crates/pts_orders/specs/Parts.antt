-- Parts of a run that touch nothing of one another: what one does is the same with the changes of the other and without them.
use Rattle.std.specs.Prelude.{◌≡◌, Option, Some, List, [], ◌∷◌}
use Rattle.std.specs.Option.{option_map}
use Rattle.pts_orders.specs.Evaluations.{Evaluation, Each}

-- an evaluation that does the same with a change and without it
abbrev pub IsUnmoved : {S : Type 0} → (Evaluation → S → Option S) → (S → S) → Evaluation → Type 0
IsUnmoved {S} step change x = (s : S) → step x (change s) ≡ option_map change (step x s)

-- changes, one after the other
abbrev pub changed : {S C : Type 0} → (C → S → S) → List C → S → S
changed change [] s = s
changed change (c ∷ cs) s = changed change cs (change c s)

-- whatever an evaluation does is a change that moves none of the others
abbrev pub IsBeside : {S C : Type 0} → (Evaluation → S → Option S) → (C → S → S) → List Evaluation → Evaluation → Type 0
IsBeside {S} {C} step change others x =
    (s t : S) → step x s ≡ Some t → (c : C) × (t ≡ change c s) × Each (IsUnmoved step (change c)) others
