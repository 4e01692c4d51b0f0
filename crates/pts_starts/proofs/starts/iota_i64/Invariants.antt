use Rattle.std.proofs.Common.{◌≡◌, map, w64}
use Rattle.std.specs.Int.{int_wrap}
use Rattle.std.specs.List.{range_with_len}
use Rattle.pts_types.specs.declared.value.Kind.TheVariants as kinds
use Rattle.pts_rules.specs.Mistyped.{iota_cell}
use Rattle.pts_starts.specs.Starts as spec
use Rattle.pts_starts.proofs.starts.iota_i64.Given as goal

abbrev pub invariant-loop-cell : goal.invariant-loop-cell
invariant-loop-cell l = record {
  filled : l.cells ≡ map (spec.iota_value kinds.I64 l.first l.step) (range_with_len 0 l._cell);
  next : l.value ≡ int_wrap w64 (iota_cell l.first l.step l._cell);
}
