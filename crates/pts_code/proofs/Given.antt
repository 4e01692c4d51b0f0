-- What code gives, form by form.
use Rattle.std.proofs.Common.{◌≡◌, ℕ, List, map}
use Rattle.pts_types.specs.declared.value.Kind.{Kind}
use Rattle.pts_types.specs.declared.value.Value.{Value}
use Rattle.pts_code.specs.declared.code.Code.{Code}
use Rattle.pts_code.specs.declared.code.Code.TheOpen.{Code-F}
use Rattle.pts_code.specs.declared.code.Code.TheVariants as c
use Rattle.pts_code.specs.declared.code.Step.{Step}
use Rattle.pts_code.specs.Codes.{Sight, gives, gives_step}
use Rattle.pts_code.specs.Outcomes.{Outcome, Operation}
use Rattle.pts_code.proofs.CodeFolds.{at-Value, at-Local, at-Note, at-Throw, at-Call, at-Convert, at-Negate, at-Not, at-steps, at-All, at-Any, at-If}

-- an operation of a chain and what its operand gives
abbrev pub operation : Sight → Step → Operation
operation sight x = (x.op, gives sight x.operand)

pub gives-Value : (sight : Sight) (value : Value) → gives sight (c.Value value) ≡ gives_step sight (Code-F.Value value)
unfolding gives
gives-Value sight value = at-Value Outcome Operation (gives_step sight) (λ step. (step.op, step.operand)) value

pub gives-Local : (sight : Sight) (place : ℕ) → gives sight (c.Local place) ≡ gives_step sight (Code-F.Local place)
unfolding gives
gives-Local sight place = at-Local Outcome Operation (gives_step sight) (λ step. (step.op, step.operand)) place

pub gives-Note : (sight : Sight) (place : ℕ) → gives sight (c.Note place) ≡ gives_step sight (Code-F.Note place)
unfolding gives
gives-Note sight place = at-Note Outcome Operation (gives_step sight) (λ step. (step.op, step.operand)) place

pub gives-Throw : (sight : Sight) (number : ℕ) → gives sight (c.Throw number) ≡ gives_step sight (Code-F.Throw number)
unfolding gives
gives-Throw sight number = at-Throw Outcome Operation (gives_step sight) (λ step. (step.op, step.operand)) number

pub gives-Call : (sight : Sight) (number : ℕ) (xs : List Code) → gives sight (c.Call number xs) ≡ gives_step sight (Code-F.Call number (map (gives sight) xs))
unfolding gives
gives-Call sight number xs = at-Call Outcome Operation (gives_step sight) (λ step. (step.op, step.operand)) number xs

pub gives-Convert : (sight : Sight) (to : Kind) (x : Code) → gives sight (c.Convert to x) ≡ gives_step sight (Code-F.Convert to (gives sight x))
unfolding gives
gives-Convert sight to x = at-Convert Outcome Operation (gives_step sight) (λ step. (step.op, step.operand)) to x

pub gives-Negate : (sight : Sight) (x : Code) → gives sight (c.Negate x) ≡ gives_step sight (Code-F.Negate (gives sight x))
unfolding gives
gives-Negate sight x = at-Negate Outcome Operation (gives_step sight) (λ step. (step.op, step.operand)) x

pub gives-Not : (sight : Sight) (x : Code) → gives sight (c.Not x) ≡ gives_step sight (Code-F.Not (gives sight x))
unfolding gives
gives-Not sight x = at-Not Outcome Operation (gives_step sight) (λ step. (step.op, step.operand)) x

pub gives-Chain : (sight : Sight) (x : Code) (xs : List Step) → gives sight (c.Chain x xs) ≡ gives_step sight (Code-F.Chain (gives sight x) (map (operation sight) xs))
unfolding gives
gives-Chain sight x xs = at-steps Outcome Operation (gives_step sight) (λ step. (step.op, step.operand)) x xs

pub gives-All : (sight : Sight) (xs : List Code) → gives sight (c.All xs) ≡ gives_step sight (Code-F.All (map (gives sight) xs))
unfolding gives
gives-All sight xs = at-All Outcome Operation (gives_step sight) (λ step. (step.op, step.operand)) xs

pub gives-Any : (sight : Sight) (xs : List Code) → gives sight (c.Any xs) ≡ gives_step sight (Code-F.Any (map (gives sight) xs))
unfolding gives
gives-Any sight xs = at-Any Outcome Operation (gives_step sight) (λ step. (step.op, step.operand)) xs

pub gives-If : (sight : Sight) (x : Code) (y : Code) (z : Code) → gives sight (c.If x y z) ≡ gives_step sight (Code-F.If (gives sight x) (gives sight y) (gives sight z))
unfolding gives
gives-If sight x y z = at-If Outcome Operation (gives_step sight) (λ step. (step.op, step.operand)) x y z

pub ruleset gives_by_form = (gives-Value, gives-Local, gives-Note, gives-Throw, gives-Call, gives-Convert, gives-Negate, gives-Not, gives-Chain, gives-All, gives-Any, gives-If)
