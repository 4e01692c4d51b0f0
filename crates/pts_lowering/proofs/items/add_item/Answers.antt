use Rattle.std.proofs.Common.{◌∷◌, [], ap, sym, refl, ◌∙◌}
use Rattle.std.specs.Prelude.{flat_map}
use Rattle.pts_tree.specs.declared.script.Item.TheVariants as items
use Rattle.pts_rules.specs.Parts.{Call, Loop}
use Rattle.pts_rules.proofs.Tasks.{task_statements, statements-body}
use Rattle.pts_lowering.proofs.ItemForms.{item_lowered}
use Rattle.pts_lowering.proofs.items.add_item.Goals as goal

pub add_call-requires : goal.add_call-requires
add_call-requires c = item_lowered c.args.scope.now c.args.item.now (items.Call c.in-Call.call) (Call c.in-Call.call ∷ []) c.in-Call.is refl c.requires

pub add_loop-requires : goal.add_loop-requires
add_loop-requires c = item_lowered c.args.scope.now c.args.item.now (items.Loop c.in-Loop.x) (Loop c.in-Loop.x ∷ []) c.in-Loop.is refl c.requires

pub add_tasks-requires : goal.add_tasks-requires
add_tasks-requires c =
    item_lowered c.args.scope.now c.args.item.now (items.Block c.in-Block.block) (flat_map task_statements c.as_slice.result.now) c.in-Block.is
    (statements-body c.in-Block.block ∙ ap (flat_map task_statements) (sym c.as_slice.ensures)) c.requires
