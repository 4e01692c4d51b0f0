-- How far the builder has come.
use Rattle.std.specs.Prelude.{◌≡◌, ℕ, ◌-◌, ◌<◌, ◌≤◌, ◌^◌, drop, take}
use Rattle.pts_tree.specs.declared.script.Script.{Script}
use Rattle.pts_lowering.specs.Fitting.{HasNumbers}
use Rattle.pts_program.specs.declared.builder.Builder.{Builder}
use Rattle.pts_program.specs.Faults.{IsCleanAt}
use Rattle.pts_program.specs.Lists.{lists_of, with_items}
use Rattle.pts_program.specs.Standings.{IsStanding}

-- one item more can be counted, and has room in the scope
pub record CanAdd (builder : Builder) : Type 0 where
  pub scope : HasNumbers builder.standing.scope
  pub items : builder.items < 2 ^ 32 - 1
  pub statements : builder.standing.statements ≤ builder.items

-- the first n items of the script break no rule, and the builder has what they leave
pub record IsUnderWay (script : Script) (n : ℕ) (builder : Builder) : Type 0 where
  pub standing : IsStanding (take n script.items) builder.standing
  pub lists : with_items (take n script.items) builder.lists (drop n script.items) ≡ lists_of script
  pub items : builder.items ≡ n
  pub statements : builder.standing.statements ≤ builder.items
  pub sound : (m : ℕ) → m ≤ n → IsCleanAt script m
