-- The steps of the calls and loops of a program.
use Rattle.std.specs.Prelude.{⊤, List, [], ◌∷◌}
use Rattle.pts_rules.specs.Known.{Scope}
use Rattle.pts_constants.specs.declared.texts.CallText.{CallText}
use Rattle.pts_steps.specs.declared.step.Step.{Step}
use Rattle.pts_steps.specs.Steps.{AreStepsOf}

-- the steps of each text, where these are the names of the arrays and functions
abbrev pub AreAllSteps : Scope → List CallText → List (List Step) → Type 0
AreAllSteps names [] [] = ⊤
AreAllSteps names (text ∷ texts) (steps ∷ rest) = AreStepsOf names text steps × AreAllSteps names texts rest
AreAllSteps names _ _ = ⊥
