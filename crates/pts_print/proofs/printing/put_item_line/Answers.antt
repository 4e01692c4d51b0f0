use Rattle.std.proofs.Common.{◌∙◌, append_assoc, [], ◌∷◌}
use Rattle.pts_print.specs.Canonical.{spaced, line_feed}
use Rattle.pts_tree.specs.Scripts.{item}
use Rattle.pts_print.proofs.Lines.{ends_with_space, is_longer, item_filled}
use Rattle.pts_print.proofs.printing.put_item_line.Goals as goal

pub end_line-requires : goal.end_line-requires
end_line-requires c = is_longer _ _ (ends_with_space c.in_ok-put_item.ensures (item_filled c.args.item.now))

pub returns : goal.returns
returns c =
    c.end_line.ensures _ (ends_with_space c.in_ok-put_item.ensures (item_filled c.args.item.now))
    ∙ append_assoc c.args.out.now.items (spaced (item c.args.item.now [])) (line_feed ∷ [])
