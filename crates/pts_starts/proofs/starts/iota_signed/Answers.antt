use Rattle.std.proofs.Common.{rules, ◌∙◌, w64}
use Rattle.std.proofs.lemmas.Int.{to_z-of_z}
use Rattle.pts_starts.proofs.Cells.{iota_kept}
use Rattle.pts_starts.proofs.starts.iota_signed.Goals as goal

pub iota_i64-requires : goal.iota_i64-requires
iota_i64-requires c =
    iota_kept c.args.scope.now c.args.length c.args.first.now c.args.step.now _ _ c.requires
    (to_z-of_z w64 c.i64_number-x.result (search (rules, c.i64_number-x.type_inv)) ∙ c.i64_number-x.ensures) (to_z-of_z w64 c.i64_number-y.result (search (rules, c.i64_number-y.type_inv)) ∙ c.i64_number-y.ensures)
