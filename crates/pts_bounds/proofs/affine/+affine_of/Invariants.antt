use Rattle.std.proofs.Common.{◌≡◌, map, take}
use Rattle.std.specs.Prelude.{fold}
use Rattle.std.specs.Option.{option_copied}
use Rattle.pts_rules.specs.Indices.{next_affine}
use Rattle.pts_rules.proofs.Readings.{link}
use Rattle.pts_bounds.specs.Affines.{affine}
use Rattle.pts_bounds.proofs.affine.+affine_of.Given as goal

abbrev pub invariant-chain_affine-loop-part : goal.invariant-chain_affine-loop-part
invariant-chain_affine-loop-part l = affine l.so_far ≡ fold next_affine (affine l.fn.first) (map (link l.scope (option_copied l.index)) (take l.part-index l.parts))
