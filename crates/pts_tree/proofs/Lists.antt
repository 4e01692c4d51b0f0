-- Spelling the elements of a list through a function.
use Rattle.std.proofs.Common.{◌≡◌, List, [], ◌∷◌, refl, ap, map}
use Rattle.pts_tree.specs.declared.mark.Mark as mark
use Rattle.pts_tree.specs.Signs.{Sign, Mark}
use Rattle.pts_tree.specs.Spelling.{Text, each, separated}

pub each_map : {A B : Type 0} (spell : B → Text) (f : A → B) (xs : List A) (tail : List Sign) → each spell (map f xs) tail ≡ each (λ x. spell (f x)) xs tail
each_map spell f [] tail = refl
each_map spell f (x ∷ xs) tail = ap (spell (f x)) (each_map spell f xs tail)

pub separated_map : {A B : Type 0} (between : mark.Mark) (spell : B → Text) (f : A → B) (xs : List A) (tail : List Sign)
    → separated between spell (map f xs) tail ≡ separated between (λ x. spell (f x)) xs tail
separated_map between spell f [] tail = refl
separated_map between spell f (x ∷ xs) tail = ap (spell (f x)) (each_map (λ y rest. Mark between ∷ spell y rest) f xs tail)
