use Rattle.std.proofs.Common.{◌≡◌, rules, sym, subst, ◌∙◌, w64, to_z, of_z}
use Rattle.std.specs.Prelude.{IsTrue}
use Rattle.std.specs.List.{list_all, range_with_len}
use Rattle.std.proofs.lemmas.Int.{to_z-of_z, wraps}
use Rattle.pts_types.specs.declared.value.Kind.TheVariants as kinds
use Rattle.pts_rules.specs.Known.{holds}
use Rattle.pts_rules.specs.Mistyped.{iota_cell}
use Rattle.pts_starts.proofs.Cells.{cells_more, next_wrapped}
use Rattle.pts_starts.proofs.starts.iota_i64.Goals as goal

pub loop-cell-preserved : goal.loop-cell-preserved
loop-cell-preserved c =
    let x = to_z w64 (of_z w64 c.args.first) in
    let y = to_z w64 (of_z w64 c.args.step) in
    let same_x : c.args.first ≡ x = sym (to_z-of_z w64 c.args.first c.ranges.first) in
    let same_y : c.args.step ≡ y = sym (to_z-of_z w64 c.args.step c.ranges.step) in
    let all : IsTrue (list_all (λ j. holds kinds.I64 (iota_cell x y j)) (range_with_len 0 c.args.length)) =
    subst (λ z. IsTrue (list_all (λ j. holds kinds.I64 (iota_cell z y j)) (range_with_len 0 c.args.length))) same_x
    (subst (λ z. IsTrue (list_all (λ j. holds kinds.I64 (iota_cell c.args.first z j)) (range_with_len 0 c.args.length))) same_y c.requires) in
    record {
      filled = c.in_ok-push.ensures.ok ∙ cells_more x y _ c.loop-cell._cell c.args.length c.loop-cell.cells c.loop-cell.invariant.filled c.loop-cell.invariant.next all c.loop-cell-test.true;
      next = next_wrapped x y _ _ c.loop-cell._cell c.loop-cell.invariant.next (search (rules, wraps));
    }
