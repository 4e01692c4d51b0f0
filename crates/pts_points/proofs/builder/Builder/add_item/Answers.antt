use Rattle.std.proofs.Common.{ap, sym, ◌∙◌}
use Rattle.std.specs.Prelude.{flat_map}
use Rattle.std.proofs.lemmas.Result.{on_ok_weaker}
use Rattle.pts_tree.specs.declared.script.Item.TheVariants as items
use Rattle.pts_points.specs.Building.{task_statements}
use Rattle.pts_points.proofs.TaskTurns.{block_body, item_by_form, item_room}
use Rattle.pts_points.proofs.builder.Builder.add_item.Goals as goal

pub add_tasks-requires : goal.add_tasks-requires
add_tasks-requires c =
    item_room c.args.scope.now c.args.self.now c.args.self.now c.args.item.now (items.Block c.in-Block.block) (flat_map task_statements c.as_slice.result.now) c.in-Block.is
    (block_body c.in-Block.block ∙ ap (flat_map task_statements) (sym c.as_slice.ensures)) c.requires

pub returns-in-Block : goal.returns-in-Block
returns-in-Block c =
    on_ok_weaker c.add_tasks.result
    (item_by_form c.args.scope.now c.args.self.now c.add_tasks.new.self c.args.item.now (items.Block c.in-Block.block) (flat_map task_statements c.as_slice.result.now) c.in-Block.is
    (block_body c.in-Block.block ∙ ap (flat_map task_statements) (sym c.as_slice.ensures))) c.add_tasks.ensures
