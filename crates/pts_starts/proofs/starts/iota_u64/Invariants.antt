use Rattle.std.proofs.Common.{◌≡◌, ◌+◌, ◌*◌, ◌%◌, ◌^◌, map}
use Rattle.std.specs.List.{range_with_len}
use Rattle.pts_types.specs.declared.value.Value.TheVariants as values
use Rattle.pts_starts.proofs.starts.iota_u64.Given as goal

abbrev pub invariant-loop-cell : goal.invariant-loop-cell
invariant-loop-cell l = record {
  filled : l.cells ≡ map (λ j. values.U64 ((l.first + j * l.step) % 2 ^ 64)) (range_with_len 0 l._cell);
  next : l.value ≡ (l.first + l._cell * l.step) % 2 ^ 64;
}
