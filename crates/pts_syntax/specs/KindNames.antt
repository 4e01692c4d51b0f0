-- The names of the faults of a text, as the line of a refusal has them.
use Rattle.std.specs.Prelude.{ℕ, List, codes}
use Rattle.pts_syntax.specs.declared.reading.SyntaxKind.{SyntaxKind}
use Rattle.pts_syntax.specs.declared.reading.SyntaxKind.TheVariants as kinds

-- want of memory is no fault of a text, and no line names it
abbrev pub kind_name : SyntaxKind → List ℕ
kind_name kinds.Byte = codes "byte"
kind_name kinds.Number = codes "number"
kind_name kinds.Unexpected = codes "syntax"
kind_name kinds.Nesting = codes "nesting"
kind_name kinds.NoMemory = codes "no_memory"
