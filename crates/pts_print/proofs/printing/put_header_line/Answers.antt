use Rattle.std.proofs.Common.{◌∙◌, refl, append_assoc, [], ◌∷◌}
use Rattle.pts_print.specs.Canonical.{spaced, line_feed}
use Rattle.pts_tree.specs.Scripts.{header}
use Rattle.pts_print.proofs.Lines.{ends_with_space, is_longer}
use Rattle.pts_print.proofs.printing.put_header_line.Goals as goal

pub end_line-requires : goal.end_line-requires
end_line-requires c = is_longer _ _ (ends_with_space c.in_ok-put_header.ensures refl)

pub returns : goal.returns
returns c =
    c.end_line.ensures _ (ends_with_space c.in_ok-put_header.ensures refl)
    ∙ append_assoc c.args.out.now.items (spaced (header c.args.version [])) (line_feed ∷ [])
