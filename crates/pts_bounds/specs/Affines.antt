-- Affine expressions as the code has them.
use Rattle.std.specs.Prelude.{Option, option_map}
use Rattle.pts_rules.specs.Indices as rules
use Rattle.pts_bounds.specs.declared.affine.Affine.{Affine}

-- the same factor and offset
abbrev pub line_of_index : Affine → rules.Affine
line_of_index x = record { factor = x.factor; offset = x.offset }

-- the same of an expression that may have none
abbrev pub affine : Option Affine → Option rules.Affine
affine x = option_map line_of_index x
