use Rattle.std.proofs.Common.{◌≡◌, ◌+◌, ◌*◌, ◌<◌, ◌^◌, fold, nat_abs, Some, drop}
use Rattle.pts_rules.specs.Known as spec
use Rattle.pts_rules.proofs.sums.add_parts.Given as goal

abbrev pub invariant-loop-part : goal.invariant-loop-part
invariant-loop-part l = record {
  so_far : fold (spec.plus_part l.scope) (Some l.total) (drop l.part-index l.parts) ≡ fold (spec.plus_part l.scope) (Some l.first) l.parts;
  small : nat_abs l.total < (l.part-index + 1) * 2 ^ 64;
}
