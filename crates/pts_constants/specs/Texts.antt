-- The calls and loops of an item without constants, in text order.
use Rattle.std.specs.Prelude.{List, [], ◌∷◌, flat_map}
use Rattle.pts_tree.specs.declared.block.TaskStmt.{TaskStmt}
use Rattle.pts_tree.specs.declared.block.TaskStmt.TheFolds.{fold-TaskStmt}
use Rattle.pts_tree.specs.declared.script.Item.{Item}
use Rattle.pts_rules.specs.Parts.{Simple, Call, Loop, simple_step, statements}
use Rattle.pts_rules.specs.Known.{Scope}
use Rattle.pts_constants.specs.declared.texts.CallText.{CallText}
use Rattle.pts_constants.specs.declared.texts.CallText.TheVariants as texts
use Rattle.pts_constants.specs.Resolved.{resolved_call, resolved_loop}

-- a statement, if it is a call or a loop
abbrev pub text_of : Scope → Simple → List CallText
text_of scope (Call x) = texts.Call (resolved_call scope x) ∷ []
text_of scope (Loop x) = texts.Loop (resolved_loop scope x) ∷ []
text_of scope _ = []

-- the calls and loops of an item
abbrev pub texts_of : Scope → Item → List CallText
texts_of scope x = flat_map (text_of scope) (statements x)

-- the statements of one statement of a block
unfoldable pub task_statements : TaskStmt → List Simple
task_statements = fold-TaskStmt (List Simple) (List Simple) simple_step (λ x. flat_map (λ y. y) x.body)

-- the calls and loops of one statement of a block
unfoldable pub task_texts : Scope → TaskStmt → List CallText
task_texts scope x = flat_map (text_of scope) (task_statements x)
