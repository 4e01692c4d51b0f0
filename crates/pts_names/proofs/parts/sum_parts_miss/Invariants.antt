use Rattle.pts_rules.specs.Parts.{atom_names}
use Rattle.pts_names.proofs.Missing.{Looked}
use Rattle.pts_names.proofs.parts.sum_parts_miss.Given as goal

abbrev pub invariant-loop-part : goal.invariant-loop-part
invariant-loop-part l = Looked (λ part. atom_names part.atom) l.scope l.parts l.part-index
