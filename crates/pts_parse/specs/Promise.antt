-- What the parser answers for a list of signs: the script that they spell, or the first sign that does not go on.
use Rattle.std.specs.Prelude.{◌≡◌, ℕ, suc, ◌-◌, ◌<◌, ◌≤◌, List, length, take, Some, None, IfSome}
use Rattle.pts_tree.specs.declared.script.Script.{Script}
use Rattle.pts_tree.specs.Signs.{Sign}
use Rattle.pts_tree.specs.Grammar.{IsViable}
use Rattle.pts_tree.specs.Scripts.{Spells}
use Rattle.pts_parse.specs.Brackets.{beyond, bracket_limit}

-- these signs spell this script, and no bracket among them is one too many
pub record IsRead (signs : List Sign) (x : Script) : Type 0 where
  pub spells : Spells signs x
  pub brackets : beyond bracket_limit signs ≡ None

-- the signs before the last `left` begin a script, and open no bracket too many; with the next one they begin none, or there is none and they spell no script
pub record IsUnexpected (signs : List Sign) (left : ℕ) : Type 0 where
  pub within : left ≤ length signs
  pub before : IsViable (take (length signs - left) signs)
  pub brackets : IfSome (beyond bracket_limit signs) (λ l. l ≤ left)
  pub wrong : 0 < left → IsViable (take (suc (length signs - left)) signs) → ⊥
  pub no_script : (x : Script) → Spells signs x → ⊥

-- the first of the last `left` signs opens a bracket too many, and the signs up to it begin a script
pub record IsNesting (signs : List Sign) (left : ℕ) : Type 0 where
  pub beyond_is : beyond bracket_limit signs ≡ Some left
  pub within : left ≤ length signs
  pub viable : IsViable (take (suc (length signs - left)) signs)
