-- What writing a part of a script puts behind the bytes that were there.
use Rattle.std.specs.Prelude.{◌≡◌, ℕ, List, [], ◌∷◌, ◌++◌}
use Rattle.pts_tree.specs.Signs.{Sign}
use Rattle.pts_tree.specs.Spelling.{Text}
use Rattle.pts_print.specs.Canonical.{sign_bytes, space}

-- each sign and a space behind it
abbrev pub ended : List Sign → List ℕ
ended [] = []
ended (t ∷ ts) = sign_bytes t ++ space ∷ ended ts

-- the new bytes are the old ones and then the signs of this part
pub record Puts (text : Text) (before after : List ℕ) : Type 0 where
  pub puts : (tail : List Sign) → after ++ ended tail ≡ before ++ ended (text tail)
