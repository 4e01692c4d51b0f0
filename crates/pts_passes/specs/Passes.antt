-- A pass of a loop as a call: its evaluations are the points of its body at its positions ([parallel.alg.for.loop]).
use Rattle.std.specs.Option.{option_and_then}
use Rattle.std.specs.Prelude.{ℕ, ◌-◌, Bool, true, false, count_by, Option, Some, None, List, [], ◌∷◌, length, map, fold, slice_get}
use Rattle.pts_types.specs.declared.operation.Policy.{Policy}
use Rattle.pts_tree.specs.declared.loops.Loop as loops
use Rattle.pts_rules.specs.Known.{Scope}
use Rattle.pts_constants.specs.declared.texts.CallText.{CallText}
use Rattle.pts_constants.specs.declared.texts.CallText.TheVariants as call_texts
use Rattle.pts_code.specs.declared.function.FunctionInfo.{FunctionInfo}
use Rattle.pts_code.specs.Codes.{Sight}
use Rattle.pts_code.specs.Compiling.{scope_of_names}
use Rattle.pts_code.specs.Functions.{environment_of}
use Rattle.pts_code.specs.Outcomes.{never}
use Rattle.pts_code.specs.Values.{Array, Environment}
use Rattle.pts_points.specs.Pieces as texts
use Rattle.pts_points.specs.Pieces.{Deed, LetPoint}
use Rattle.pts_points.specs.Points.{info}
use Rattle.pts_lowering.specs.declared.forms.LoweredCall.{LoweredCall}
use Rattle.pts_lowering.specs.declared.forms.LoweredCall.TheVariants as lowered
use Rattle.pts_lowering.specs.declared.forms.LoweredLoop.{LoweredLoop}
use Rattle.pts_program.specs.declared.info.ArrayInfo.{ArrayInfo}
use Rattle.pts_program.specs.declared.lists.Lists.{Lists}
use Rattle.pts_steps.specs.Steps.{loop_points, value_at}
use Rattle.pts_store.specs.Stores.{Store}
use Rattle.pts_orders.specs.Evaluations.{Evaluation}
use Rattle.pts_conflict.specs.Order.{is_before_across}
use Rattle.pts_outcomes.specs.Acts as acts
use Rattle.pts_outcomes.specs.Acts.{Act, Computation, Notes, Place}
use Rattle.pts_outcomes.specs.Calls.{Call, IsOrder}
use Rattle.pts_passes.specs.Inductions.{head_values}

-- ---- loops

-- a loop where it is run: its text without constants, the arrays and functions of the script, and its head in numbers
pub record Pass : Type 0 where
  pub text : loops.Loop
  pub arrays : List ArrayInfo
  pub functions : List FunctionInfo
  pub head : LoweredLoop

-- the text of a loop, and its head in numbers
abbrev pub text_in : CallText → Option loops.Loop
text_in (call_texts.Loop x) = Some x
text_in (call_texts.Call x) = None

abbrev pub head_in : LoweredCall → Option LoweredLoop
head_in (lowered.Loop x) = Some x
head_in call = None

-- those of the call of this number, if it is a loop
abbrev pub text_at : Lists → ℕ → Option loops.Loop
text_at lists number = option_and_then text_in (slice_get lists.texts number)

abbrev pub head_at : Lists → ℕ → Option LoweredLoop
head_at lists number = option_and_then head_in (slice_get lists.lowered_calls number)

abbrev pub pass_with : Lists → Option loops.Loop → Option LoweredLoop → Option Pass
pass_with lists None head = None
pass_with lists (Some text) None = None
pass_with lists (Some text) (Some head) = Some (record { text = text; arrays = lists.arrays; functions = lists.functions; head = head })

-- the loop of this number, if the call is one
abbrev pub pass_at : Lists → ℕ → Option Pass
pass_at lists number = pass_with lists (text_at lists number) (head_at lists number)

-- ---- names

abbrev pub with_array : Environment → ArrayInfo → Environment
with_array env a = (a.name, Array a.kind) ∷ env

-- what the names of functions and arrays stand for: functions for what they give, and arrays for the kind of their elements
abbrev pub globals_of : List ArrayInfo → List FunctionInfo → Environment
globals_of arrays functions = fold with_array (environment_of functions) arrays

abbrev pub globals : Pass → Environment
globals pass = globals_of pass.arrays pass.functions

-- these names, as the rules see them
abbrev pub names : Pass → Scope
names pass = scope_of_names (globals pass)

-- the points of its text by their numbers: the cells of its clauses in front, and those of its body
abbrev pub text_points : Pass → List texts.Point
text_points pass = loop_points (names pass) pass.text

-- ---- points

-- what is seen at a position: the index and the inductions, and the notes; names stand for the functions
abbrev pub sight_at : Pass → Store → ℕ → Notes → Sight
sight_at pass store p notes = record { functions = []; values = head_values store pass.head p; notes = notes }

-- the value of a computation where these `let`s are in scope
abbrev pub computed : Pass → Store → List LetPoint → texts.Computation → Computation
computed pass store lets x p notes = value_at pass.text lets (globals pass) (sight_at pass store p notes) x

abbrev pub index_of : (texts.Computation → Computation) → texts.Index → acts.Index
index_of value (texts.Along line) = acts.Along line
index_of value (texts.Computed x) = acts.Computed (value x)

abbrev pub place_of : (texts.Computation → Computation) → ℕ → texts.Index → Place
place_of value array index = record { array = array; index = index_of value index }

-- what no evaluation of a loop does
abbrev pub nothing : Act
nothing = acts.Computes (λ p notes. never)

-- what is done at a point; the cells of clauses are written behind the loop
abbrev pub act_of : (texts.Computation → Computation) → Deed → Act
act_of value (texts.Reads array index) = acts.Reads (place_of value array index)
act_of value (texts.Assigns array index x) = acts.Writes (place_of value array index) (value x)
act_of value (texts.Updates array index op x) = acts.Updates (place_of value array index) op (value x)
act_of value (texts.Notes x) = acts.Computes (value x)
act_of value (texts.Tests x) = acts.Computes (value x)
act_of value (texts.Gives view x) = acts.Computes (value x)
act_of value (texts.LivesOut array line) = nothing
act_of value (texts.Fills array line) = nothing
act_of value (texts.Answers array line) = nothing

abbrev pub point_of : Pass → Store → texts.Point → acts.Point
point_of pass store x = record { branches = x.context.branches; act = act_of (computed pass store x.context.lets) x.deed }

-- ---- calls

abbrev pub is_live_out : Deed → Bool
is_live_out (texts.LivesOut array line) = true
is_live_out deed = false

-- how many cells its clauses name
abbrev pub cells_named : List texts.Point → ℕ
cells_named points = count_by (λ x. is_live_out x.deed) points

-- the loop as a call in this store, whose evaluations are those of the points of its body
abbrev pub call_of : Pass → Store → Call
call_of pass store =
    record {
      positions = pass.head.positions;
      first = cells_named (text_points pass);
      count = length (text_points pass) - cells_named (text_points pass);
      points = map (point_of pass store) (text_points pass);
    }

-- ---- orders

abbrev pub comes_before : Policy → Option texts.Point → Option texts.Point → Bool
comes_before policy (Some a) (Some b) = is_before_across policy true (info 0 a) (info 0 b)
comes_before policy _ _ = false

-- which point of an earlier position is before which one of a later position, by their numbers, under the policy of the loop
abbrev pub across : Pass → ℕ → ℕ → Bool
across pass k m = comes_before pass.head.policy (slice_get (text_points pass) k) (slice_get (text_points pass) m)

-- the policy of the loop allows this order of its evaluations
abbrev pub Allows : Pass → Store → List Evaluation → Type 0
Allows pass store order = IsOrder (across pass) (call_of pass store) order
