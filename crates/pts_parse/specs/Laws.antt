-- How signs begin a row of the grammar, part by part.
use Rattle.std.specs.Prelude.{◌≡◌, true, List, ◌∷◌, ◌++◌}
use Rattle.pts_tree.specs.Signs.{Sign}
use Rattle.pts_tree.specs.Grammar.{Part, Row, rows, Matches, Begins}

-- the signs are whole spellings of the first parts of the row and then begin the next part, or they are whole spellings of all its parts
pub data BeginsInParts (row : Row) (signs : List Sign) : Type 0 where
  in_part : (before after : Row) (part : Part) (front back : List Sign) → row ≡ before ++ part ∷ after → signs ≡ front ++ back
      → Matches rows true before front → Begins part back → BeginsInParts row signs
  all_parts : Matches rows true row signs → BeginsInParts row signs
