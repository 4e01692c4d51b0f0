-- Parts of a run that touch nothing of one another.
use Rattle.std.proofs.Common.{◌≡◌, Option, Some, None, List, [], ◌∷◌, ◌++◌, refl, ap, ◌∙◌}
use Rattle.std.specs.Option.{option_and_then, option_map}
use Rattle.pts_orders.specs.Evaluations.{Evaluation, Each}
use Rattle.pts_orders.specs.Parts.{IsUnmoved, IsBeside, changed}
use Rattle.pts_orders.specs.Runs.{run}

-- a change that moves no evaluation may be made after them
pub may_wait : {S : Type 0} (step : Evaluation → S → Option S) (change : S → S) (l : List Evaluation) → Each (IsUnmoved step change) l
    → (s : S) → run step l (change s) ≡ option_map change (run step l s)
may_wait step change [] h s = refl
may_wait {S} step change (x ∷ xs) h s = ap (option_and_then (run step xs)) (h.0 s) ∙ by (step x s) (may_wait step change xs h.1)
  where
    by : (o : Option S) → ((t : S) → run step xs (change t) ≡ option_map change (run step xs t))
        → option_and_then (run step xs) (option_map change o) ≡ option_map change (option_and_then (run step xs) o)
    by None rest = refl
    by (Some t) rest = rest t

twice_mapped : {S : Type 0} (f g : S → S) (o : Option S) → option_map g (option_map f o) ≡ option_map (λ s. g (f s)) o
twice_mapped f g None = refl
twice_mapped f g (Some s) = refl

unchanged : {S : Type 0} (o : Option S) → o ≡ option_map (λ s. s) o
unchanged None = refl
unchanged (Some s) = refl

-- a second part may be run from the state before the first
pub run_apart : {S C : Type 0} (step : Evaluation → S → Option S) (change : C → S → S) (xs ys : List Evaluation) → Each (IsBeside step change ys) xs
    → (s t : S) → run step xs s ≡ Some t
    → (made : List C) × (t ≡ changed change made s) × (run step (xs ++ ys) s ≡ option_map (changed change made) (run step ys s))
run_apart step change [] ys h s t e = ([], (let same : t ≡ s = cc in same), unchanged (run step ys s))
run_apart {S} {C} step change (x ∷ xs) ys h s t e = by (step x s) refl e (run_apart step change xs ys h.1)
  where
    by : (o : Option S) → step x s ≡ o → option_and_then (run step xs) o ≡ Some t
        → ((u v : S) → run step xs u ≡ Some v
        → (made : List C) × (v ≡ changed change made u) × (run step (xs ++ ys) u ≡ option_map (changed change made) (run step ys u)))
        → (made : List C) × (t ≡ changed change made s)
        × (option_and_then (run step (xs ++ ys)) (step x s) ≡ option_map (changed change made) (run step ys s))
    by None p q rest = absurd cc
    by (Some u) p q rest =
        let (c, same, unmoved) = h.0 s u p in
        let (made, result, runs) = rest u t q in (
          c ∷ made,
          result ∙ ap (changed change made) same,
          ap (option_and_then (run step (xs ++ ys))) p ∙ runs
              ∙ ap (λ w. option_map (changed change made) (run step ys w)) same
              ∙ ap (option_map (changed change made)) (may_wait step (change c) ys unmoved s)
              ∙ twice_mapped (change c) (changed change made) (run step ys s),
        )
