-- The rules in three groups, against what the items before an item leave to it, and what is found out about an item.
use Rattle.std.specs.Option.{option_or}
use Rattle.std.specs.Prelude.{◌≡◌, ◌⊎◌, ℕ, Bool, Option, Result, IfOk, IfErr, List, [], ◌∷◌}
use Rattle.pts_tree.specs.declared.script.Item.{Item}
use Rattle.pts_rules.specs.Indices.{is_not_affine}
use Rattle.pts_rules.specs.Known.{Scope}
use Rattle.pts_rules.specs.Limits.{is_too_deep, is_too_many}
use Rattle.pts_rules.specs.Mistyped.{is_mistyped}
use Rattle.pts_rules.specs.Names.{is_twice, is_unknown}
use Rattle.pts_rules.specs.Steps.{is_bad_identity, is_bad_step, is_backward_range, lengths_differ}
use Rattle.pts_program.specs.declared.fault.BuildFault.{BuildFault}
use Rattle.pts_program.specs.declared.fault.BuildFault.TheVariants.{Unknown, Twice, Mistyped, TooDeep, TooMany, BadStep, BackwardRange, LengthsDiffer, BadIdentity, NotAffine, NoMemory}
use Rattle.pts_program.specs.declared.standing.Standing.{Standing}
use Rattle.pts_program.specs.Faults.{Rule, first_fault, IsClean, IsFaultOf}

abbrev pub name_rules : Scope → Item → List (Rule × Bool)
name_rules scope x = (Unknown, is_unknown scope x) ∷ (Twice, is_twice scope x) ∷ (Mistyped, is_mistyped scope x) ∷ []

abbrev pub limit_rules : Standing → Item → List (Rule × Bool)
limit_rules s x = (TooDeep, is_too_deep s.scope x) ∷ (TooMany, is_too_many s.scope s.statements s.cells x) ∷ []

abbrev pub step_rules : Scope → Item → List (Rule × Bool)
step_rules scope x =
    (BadStep, is_bad_step scope x) ∷ (BackwardRange, is_backward_range scope x) ∷ (LengthsDiffer, lengths_differ scope x)
    ∷ (BadIdentity, is_bad_identity scope x) ∷ (NotAffine, is_not_affine scope x) ∷ []

-- the fault of item n by all of them
abbrev pub tested_fault : Standing → ℕ → Item → Option BuildFault
tested_fault s n x = option_or (first_fault n (name_rules s.scope x)) (option_or (first_fault n (limit_rules s x)) (first_fault n (step_rules s.scope x)))

-- the fault of item n in each version of the language, since so far no rule asks for the version
pub record IsItemFault (before : List Item) (x : Item) (n : ℕ) (fault : BuildFault) : Type 0 where
  pub in_each : (version : ℕ) → IsFaultOf version before x n fault

-- an answer about item n: it breaks no rule, or has this fault, or there was no memory
pub record IsVerdict (before : List Item) (x : Item) (n : ℕ) {A : Type 0} (answer : Result A BuildFault) : Type 0 where
  pub clean : IfOk answer (λ u. (version : ℕ) → IsClean version before x)
  pub fault : IfErr answer (λ f. (f ≡ NoMemory) ⊎ IsItemFault before x n f)
