-- The calls and loops of a statement of a block, form by form.
use Rattle.std.proofs.Common.{◌≡◌, ℕ, List, [], ◌∷◌, ap, ◌∙◌}
use Rattle.std.specs.Prelude.{flat_map}
use Rattle.pts_tree.specs.declared.sum.Cell.{Cell}
use Rattle.pts_tree.specs.declared.call.Call.{Call}
use Rattle.pts_tree.specs.declared.expr.Expr.{Expr}
use Rattle.pts_tree.specs.declared.loops.Loop.{Loop}
use Rattle.pts_tree.specs.declared.block.Block.{Block}
use Rattle.pts_tree.specs.declared.block.TaskStmt.{TaskStmt}
use Rattle.pts_tree.specs.declared.block.TaskStmt.TheVariants as t
use Rattle.pts_rules.specs.Known.{Scope}
use Rattle.pts_rules.specs.Parts.{block_statements}
use Rattle.pts_rules.proofs.Tasks as tasks
use Rattle.pts_rules.proofs.Tasks.{statements-Run, statements-Wait, statements-Throw, statements-Assign, statements-Call, statements-Loop, statements-Block, statements-body}
use Rattle.pts_constants.specs.declared.texts.CallText.TheVariants as texts
use Rattle.pts_constants.specs.Resolved.{resolved_call, resolved_loop}
use Rattle.pts_constants.specs.Texts.{text_of, task_statements, task_texts}
use Rattle.pts_constants.proofs.Additions.{flat_map_flat}

all_of : (scope : Scope) (xs : List TaskStmt) → flat_map (text_of scope) (flat_map tasks.task_statements xs) ≡ flat_map (task_texts scope) xs
unfolding task_texts task_statements tasks.task_statements
all_of scope xs = flat_map_flat (text_of scope) task_statements xs

pub item-Block : (scope : Scope) (x : Block) → flat_map (text_of scope) (block_statements x) ≡ flat_map (task_texts scope) x.body
item-Block scope x = ap (flat_map (text_of scope)) (statements-body x) ∙ all_of scope x.body

pub ruleset item_texts_by_form = (item-Block)

pub texts-Run : (scope : Scope) (xs : List TaskStmt) → task_texts scope (t.Run xs) ≡ flat_map (task_texts scope) xs
unfolding task_texts task_statements tasks.task_statements
texts-Run scope xs = ap (flat_map (text_of scope)) (statements-Run xs) ∙ all_of scope xs

pub texts-Wait : (scope : Scope) → task_texts scope t.Wait ≡ []
unfolding task_texts task_statements tasks.task_statements
texts-Wait scope = ap (flat_map (text_of scope)) statements-Wait

pub texts-Throw : (scope : Scope) (n : ℕ) → task_texts scope (t.Throw n) ≡ []
unfolding task_texts task_statements tasks.task_statements
texts-Throw scope n = ap (flat_map (text_of scope)) (statements-Throw n)

pub texts-Assign : (scope : Scope) (at : Cell) (x : Expr) → task_texts scope (t.Assign at x) ≡ []
unfolding task_texts task_statements tasks.task_statements
texts-Assign scope at x = ap (flat_map (text_of scope)) (statements-Assign at x)

pub texts-Call : (scope : Scope) (x : Call) → task_texts scope (t.Call x) ≡ texts.Call (resolved_call scope x) ∷ []
unfolding task_texts task_statements tasks.task_statements
texts-Call scope x = ap (flat_map (text_of scope)) (statements-Call x)

pub texts-Loop : (scope : Scope) (x : Loop) → task_texts scope (t.Loop x) ≡ texts.Loop (resolved_loop scope x) ∷ []
unfolding task_texts task_statements tasks.task_statements
texts-Loop scope x = ap (flat_map (text_of scope)) (statements-Loop x)

pub texts-Block : (scope : Scope) (x : Block) → task_texts scope (t.Block x) ≡ flat_map (task_texts scope) x.body
unfolding task_texts task_statements tasks.task_statements
texts-Block scope x = ap (flat_map (text_of scope)) (statements-Block x) ∙ item-Block scope x

pub ruleset texts_by_form = (texts-Run, texts-Wait, texts-Throw, texts-Assign, texts-Call, texts-Loop, texts-Block)
