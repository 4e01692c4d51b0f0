-- What code gives.
use Rattle.std.specs.Prelude.{ℕ, nat_le, if◌then◌else◌, Option, Some, None, Ok, Err, List, [], ◌∷◌, ◌++◌, length, fold, slice_get}
use Rattle.pts_types.specs.Arithmetic.{converted, negated}
use Rattle.pts_types.specs.declared.value.Thrown.TheVariants as throws
use Rattle.pts_types.specs.declared.value.Value.{Value}
use Rattle.pts_code.specs.declared.code.Code.{Code}
use Rattle.pts_code.specs.declared.code.Code.TheOpen.{Code-F}
use Rattle.pts_code.specs.declared.code.Step.{Step}
use Rattle.pts_code.specs.declared.evaluation.Frame.{Frame}
use Rattle.pts_code.specs.declared.code.Code.TheFolds.{fold-Code}
use Rattle.pts_code.specs.Outcomes.{Outcome, Gives, Operation, and_then, never, inverted, in_order, from_left, all_of, any_of, choice}
use Rattle.pts_code.specs.Values.{note}

-- the value at a place of a frame
abbrev pub local : List Value → ℕ → Outcome
local frame place = elim (slice_get frame place) [ None ↦ never | Some value ↦ Ok value ]

-- a function with at most eight arguments: first they, in order, then the function
abbrev pub call_of : List Outcome → Option Gives → Outcome
call_of xs None = never
call_of xs (Some function) = if nat_le (length xs) 8 then and_then (in_order xs) function else never

-- a call of one of these functions
abbrev pub call : List Gives → ℕ → List Outcome → Outcome
call functions number xs = call_of xs (slice_get functions number)

-- what code sees: the functions that it may call, the values of its frame, and the notes, by their places
pub record Sight : Type 0 where
  pub functions : List Gives
  pub values : List Value
  pub notes : List (Option Outcome)

-- one case for each form of code
abbrev pub gives_step : Sight → Code-F Outcome Operation → Outcome
gives_step sight (Code-F.Value value) = Ok value
gives_step sight (Code-F.Local place) = local sight.values place
gives_step sight (Code-F.Note place) = note sight.notes place
gives_step sight (Code-F.Throw number) = Err (throws.Code number)
gives_step sight (Code-F.Call number xs) = call sight.functions number xs
gives_step sight (Code-F.Convert to x) = and_then x (converted to)
gives_step sight (Code-F.Negate x) = and_then x negated
gives_step sight (Code-F.Not x) = and_then x (λ value. Ok (inverted value))
gives_step sight (Code-F.Chain x xs) = from_left x xs
gives_step sight (Code-F.All xs) = all_of xs
gives_step sight (Code-F.Any xs) = any_of xs
gives_step sight (Code-F.If x y z) = choice x y z

-- what code gives where it sees this
unfoldable pub gives : Sight → Code → Outcome
gives sight = fold-Code Outcome Operation (gives_step sight) (λ step. (step.op, step.operand))

-- what the code of a function sees: the functions before it and its arguments
abbrev pub body_sight : List Gives → List Value → Sight
body_sight functions values = record { functions = functions; values = values; notes = [] }

-- a function more, which may call those before it
abbrev pub with_code : List Gives → Code → List Gives
with_code functions code = functions ++ (λ values. gives (body_sight functions values) code) ∷ []

-- what the functions of these codes give
abbrev pub functions_of : List Code → List Gives
functions_of codes = fold with_code [] codes

-- what is seen in a frame
abbrev pub sight_of : Frame → Sight
sight_of frame = record { functions = functions_of frame.codes.now; values = frame.values.now; notes = frame.notes.now }

-- what code gives in a frame
abbrev pub given : Frame → Code → Outcome
given frame code = gives (sight_of frame) code

-- an operation of a chain
abbrev pub operation : Frame → Step → Operation
operation frame step = (step.op, given frame step.operand)
