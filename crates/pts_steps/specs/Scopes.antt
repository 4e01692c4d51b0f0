-- Names of arrays and functions.
use Rattle.std.specs.Prelude.{◌≡◌, count_by}
use Rattle.pts_rules.specs.Known.{Scope, is_value}

-- no local value is among the names
abbrev pub HasNoLocals : Scope → Type 0
HasNoLocals names = count_by (λ e. is_value e.1) names ≡ 0

-- the same names three times, and no local value among them
pub record AreGlobals (globals kinds names : Scope) : Type 0 where
  pub free : HasNoLocals globals
  pub same_kinds : kinds ≡ globals
  pub same_names : names ≡ globals
