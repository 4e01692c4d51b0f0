-- A list with its default behind it reads as before.
use Rattle.std.proofs.Common.{◌≡◌, ℕ, suc, zero, List, [], ◌∷◌, ◌++◌, get_or, refl}

pub get_or-append_default : {A : Type 0} (xs : List A) (empty : A) (k : ℕ) → get_or (xs ++ empty ∷ []) k empty ≡ get_or xs k empty
get_or-append_default [] empty zero = refl
get_or-append_default [] empty (suc k) = refl
get_or-append_default (x ∷ xs) empty zero = refl
get_or-append_default (x ∷ xs) empty (suc k) = get_or-append_default xs empty k

pub ruleset padded = (get_or-append_default)
