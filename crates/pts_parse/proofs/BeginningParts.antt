-- Signs begin a row where they are whole spellings of its first parts and then begin the next one.
use Rattle.std.proofs.Common.{◌≡◌, ◌↔◌, true, false, List, [], ◌∷◌, ◌++◌, refl, sym, ap, subst, ◌∙◌, append_assoc}
use Rattle.pts_tree.specs.Signs.{Sign}
use Rattle.pts_tree.specs.Grammar.{Part, Row, rows, Matches, whole, ends}
use Rattle.pts_parse.specs.Laws.{BeginsInParts, in_part, all_parts}
use Rattle.pts_parse.proofs.Fronts.{Split, in_two, in_first, split, join, whole_begins}

-- one part more in front, which is spelled whole
behind_part : (part : Part) (row : Row) (signs front back : List Sign) → signs ≡ front ++ back → Matches rows true (part ∷ []) front → BeginsInParts row back → BeginsInParts (part ∷ row) signs
behind_part part row signs front back e m (all_parts n) =
    all_parts (join rows true (part ∷ []) row signs (in_two front back e m n))
behind_part part row signs front back e m (in_part before after next first last r s n b) =
    in_part (part ∷ before) after next (front ++ first) last (ap (λ z. part ∷ z) r) (e ∙ ap (λ us. front ++ us) s ∙ sym (append_assoc front first last))
    (join rows true (part ∷ []) before (front ++ first) (in_two front first refl m n)) b

in_parts : (row : Row) (signs : List Sign) → Matches rows false row signs → BeginsInParts row signs
in_parts [] signs m = by signs m refl
  where
    by : (ts : List Sign) → Matches rows false [] ts → ts ≡ signs → BeginsInParts [] signs
    by _ ends e = all_parts (subst (λ us. Matches rows true [] us) e whole)
in_parts (part ∷ row) signs m = by (λ back q. in_parts row back q) (split rows false (part ∷ []) row signs m)
  where
    by : ((back : List Sign) → Matches rows false row back → BeginsInParts row back) → Split rows (part ∷ []) row false signs → BeginsInParts (part ∷ row) signs
    by go (in_two front back e p q) = behind_part part row signs front back e p (go back q)
    by go (in_first b q) = in_part [] row part [] signs refl refl whole q

from_parts : (row : Row) (signs : List Sign) → BeginsInParts row signs → Matches rows false row signs
from_parts row signs (all_parts m) = whole_begins rows row signs m
from_parts row signs (in_part before after part front back r s m b) =
    let q : Matches rows false (part ∷ after) back = join rows false (part ∷ []) after back (in_first refl b) in
    subst (λ z. Matches rows false z signs) (sym r) (join rows false before (part ∷ after) signs (in_two front back s m q))

pub beginning_in_parts : (row : Row) (signs : List Sign) → Matches rows false row signs ↔ BeginsInParts row signs
beginning_in_parts row signs = (in_parts row signs, from_parts row signs)
