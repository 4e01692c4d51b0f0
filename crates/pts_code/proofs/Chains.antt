-- Chains in which something is thrown, and chains behind chains.
use Rattle.std.proofs.Common.{◌≡◌, Err, List, [], ◌∷◌, ◌++◌, map, refl, sym, ap, ◌∙◌}
use Rattle.std.proofs.lemmas.List.{map-append}
use Rattle.pts_types.specs.declared.value.Thrown.{Thrown}
use Rattle.pts_code.specs.declared.code.Code.{Code}
use Rattle.pts_code.specs.declared.code.Code.TheVariants as c
use Rattle.pts_code.specs.declared.code.Step.{Step}
use Rattle.pts_code.specs.Codes.{Sight, gives}
use Rattle.pts_code.specs.Compiling.{step_at}
use Rattle.pts_code.specs.Outcomes.{Outcome, Operation, operate, from_left}
use Rattle.pts_code.proofs.Given.{gives-Chain}

-- what is thrown stays
pub from_left_threw : (e : Thrown) (xs : List Operation) → from_left (Err e) xs ≡ Err e
from_left_threw e [] = refl
from_left_threw e (x ∷ xs) = from_left_threw e xs

-- some operations, and then others
from_left_append : (first : Outcome) (xs ys : List Operation) → from_left first (xs ++ ys) ≡ from_left (from_left first xs) ys
from_left_append first [] ys = refl
from_left_append first (x ∷ xs) ys = from_left_append (operate first x) xs ys

-- code that gives what this code and these steps behind it give
abbrev pub IsChained : Code → List Step → Code → Type 0
IsChained code steps whole = (sight : Sight) → gives sight whole ≡ from_left (gives sight code) (map (step_at sight) steps)

-- the steps of a chain, and more behind them
pub longer_chain : (sight : Sight) (first : Code) (before steps : List Step) → gives sight (c.Chain first (before ++ steps)) ≡ from_left (gives sight (c.Chain first before)) (map (step_at sight) steps)
longer_chain sight first before steps =
    gives-Chain sight first (before ++ steps)
    ∙ ap (from_left (gives sight first)) (map-append (step_at sight) before steps)
    ∙ from_left_append (gives sight first) (map (step_at sight) before) (map (step_at sight) steps)
    ∙ ap (λ o. from_left o (map (step_at sight) steps)) (sym (gives-Chain sight first before))
