-- What each point of a loop computes, and when a step does so.
use Rattle.std.specs.Prelude.{◌≡◌, ℕ, ◌+◌, Bool, false, ⊤, Option, Some, None, List, [], ◌∷◌, if◌then◌else◌}
use Rattle.std.specs.Str.{bytes_eq}
use Rattle.pts_tree.specs.declared.loops.Loop as loops
use Rattle.pts_tree.specs.declared.loops.Clause.{Clause}
use Rattle.pts_tree.specs.declared.loops.Clause.TheVariants as clauses
use Rattle.pts_rules.specs.Parts.{Name, Loop}
use Rattle.pts_rules.specs.Known.{Scope}
use Rattle.pts_constants.specs.declared.texts.CallText.{CallText}
use Rattle.pts_constants.specs.declared.texts.CallText.TheVariants as texts
use Rattle.pts_code.specs.declared.code.Code.{Code}
use Rattle.pts_code.specs.Codes.{Sight}
use Rattle.pts_code.specs.Codes as codes
use Rattle.pts_code.specs.Compiling.{Holds, scope_of_names}
use Rattle.pts_code.specs.Outcomes.{Outcome}
use Rattle.pts_code.specs.Values.{Environment, noted, value_of}
use Rattle.pts_points.specs.Pieces.{LetPoint, Computation, Deed, Reads, Assigns, Updates, Notes, Tests, Gives, LivesOut, Point}
use Rattle.pts_points.specs.declared.point.PointForm.{PointForm}
use Rattle.pts_points.specs.declared.point.PointForm.TheVariants as forms
use Rattle.pts_points.specs.Points.{context_of, loop_piece}
use Rattle.pts_steps.specs.declared.step.Step.{Step}
use Rattle.pts_steps.specs.declared.step.Step.TheVariants as steps
use Rattle.pts_steps.specs.Positions.{at_position}

-- the points of a loop, numbered from 0 in it as if nothing stood before it, where these are the names of the arrays and functions
abbrev pub loop_points : Scope → loops.Loop → List Point
loop_points names x = (loop_piece names x).points (context_of names 0 (Loop x)) 0 0

-- what is computed at a point, where something is
abbrev pub computation_of : Deed → Option Computation
computation_of (Assigns array index x) = Some x
computation_of (Updates array index op x) = Some x
computation_of (Notes x) = Some x
computation_of (Tests x) = Some x
computation_of (Gives view x) = Some x
computation_of _ = None

abbrev pub declares : Clause → Name → Bool
declares (clauses.Reduce x) name = bytes_eq name x.view
declares (clauses.Induct x) name = false

-- the number of the first clause with this view
abbrev pub view_number : List Clause → Name → ℕ
view_number [] name = 0
view_number (c ∷ cs) name = if declares c name then 0 else 1 + view_number cs name

-- the value of a computation at a position, where these `let`s are in scope
abbrev pub value_at : loops.Loop → List LetPoint → Environment → Sight → Computation → Outcome
value_at x lets globals sight wanted = value_of (at_position x lets globals sight) (noted sight.notes) wanted.kind wanted.first wanted.expr

-- Code for what is computed where these `let`s are in scope: at every position it gives the value of the expression, whatever
-- the arrays and functions of these names, the frame and the notes are. A function stands at its number.
pub record Computes (names : Scope) (x : loops.Loop) (lets : List LetPoint) (wanted : Computation) (code : Code) : Type 0 where
  pub gives : (globals : Environment) (sight : Sight) → names ≡ scope_of_names globals → Holds sight [] globals
      → codes.gives sight code ≡ value_at x lets globals sight wanted

-- the step does what is done at a point where these `let`s are in scope
abbrev pub Does : Scope → loops.Loop → List LetPoint → Deed → Step → Type 0
Does names x lets (Reads array index) steps.Read = ⊤
Does names x lets (Assigns array index wanted) (steps.Write code) = Computes names x lets wanted code
Does names x lets (Updates array index op wanted) (steps.Update applied code) = (applied ≡ op) × Computes names x lets wanted code
Does names x lets (Notes wanted) (steps.Note code) = Computes names x lets wanted code
Does names x lets (Tests wanted) (steps.Test code) = Computes names x lets wanted code
Does names x lets (Gives view wanted) (steps.Give clause code) = (clause ≡ view_number x.clauses view) × Computes names x lets wanted code
Does names x lets (LivesOut array line) steps.LiveOut = ⊤
Does names x lets deed step = ⊥

abbrev pub Fits : Scope → loops.Loop → Point → Step → Type 0
Fits names x point step = Does names x point.context.lets point.deed step

-- one step for each point
abbrev pub AreSteps : Scope → loops.Loop → List Point → List Step → Type 0
AreSteps names x [] [] = ⊤
AreSteps names x (point ∷ points) (step ∷ steps) = Fits names x point step × AreSteps names x points steps
AreSteps names x _ _ = ⊥

-- the steps of a text; a call has none
abbrev pub AreStepsOf : Scope → CallText → List Step → Type 0
AreStepsOf names (texts.Call x) steps = steps ≡ []
AreStepsOf names (texts.Loop x) steps = AreSteps names x (loop_points names x) steps

-- how the point of a step is shown in lists
abbrev pub form_shown : Step → PointForm
form_shown steps.Read = forms.Read
form_shown (steps.Write code) = forms.Write
form_shown (steps.Update op code) = forms.Update
form_shown (steps.Note code) = forms.Plain
form_shown (steps.Test code) = forms.Plain
form_shown (steps.Give clause code) = forms.Plain
form_shown steps.LiveOut = forms.LiveOut
