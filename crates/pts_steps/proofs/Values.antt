-- A step computes what is computed at its point.
use Rattle.std.proofs.Common.{◌≡◌, Option, Some, None, [], refl, ap, ◌∙◌}
use Rattle.std.specs.Prelude.{option_map}
use Rattle.pts_tree.specs.declared.loops.Loop as loops
use Rattle.pts_rules.specs.Known.{Scope}
use Rattle.pts_code.specs.declared.code.Code.{Code}
use Rattle.pts_code.specs.Codes.{Sight, gives}
use Rattle.pts_code.specs.Compiling.{Holds, scope_of_names}
use Rattle.pts_code.specs.Outcomes.{Outcome}
use Rattle.pts_code.specs.Values.{Environment}
use Rattle.pts_points.specs.Pieces.{Deed, Reads, Assigns, Updates, Notes, Tests, Gives, LivesOut, Point}
use Rattle.pts_steps.specs.declared.step.Step.{Step}
use Rattle.pts_steps.specs.declared.step.Step.TheVariants as steps
use Rattle.pts_steps.specs.Steps.{Does, Fits, computation_of, value_at}

-- the code of a step
abbrev pub code_of : Step → Option Code
code_of steps.Read = None
code_of (steps.Write code) = Some code
code_of (steps.Update op code) = Some code
code_of (steps.Note code) = Some code
code_of (steps.Test code) = Some code
code_of (steps.Give clause code) = Some code
code_of steps.LiveOut = None

module _ (names : Scope) (x : loops.Loop) (globals : Environment) (sight : Sight) (is : names ≡ scope_of_names globals) (holds : Holds sight [] globals) where
  by_deed : (point : Point) (deed : Deed) (step : Step) → Does names x point.context.lets deed step
      → option_map (gives sight) (code_of step) ≡ option_map (value_at x point.context.lets globals sight) (computation_of deed)
  by_deed point (Reads array index) steps.Read h = refl
  by_deed point (Assigns array index wanted) (steps.Write code) h = ap Some (h.gives globals sight is holds)
  by_deed point (Updates array index op wanted) (steps.Update applied code) h = ap Some (h.1.gives globals sight is holds)
  by_deed point (Notes wanted) (steps.Note code) h = ap Some (h.gives globals sight is holds)
  by_deed point (Tests wanted) (steps.Test code) h = ap Some (h.gives globals sight is holds)
  by_deed point (Gives view wanted) (steps.Give clause code) h = ap Some (h.1.gives globals sight is holds)
  by_deed point (LivesOut array line) steps.LiveOut h = refl
  by_deed point deed step h = absurd h

-- what a step gives is the value of what is computed at its point
pub value_given : (names : Scope) (x : loops.Loop) (point : Point) (globals : Environment) (sight : Sight) (step : Step) (result : Option Outcome)
    → result ≡ option_map (gives sight) (code_of step) → Fits names x point step → names ≡ scope_of_names globals → Holds sight [] globals
    → result ≡ option_map (value_at x point.context.lets globals sight) (computation_of point.deed)
value_given names x point globals sight step result is fits named holds = is ∙ by_deed names x globals sight named holds point point.deed step fits
