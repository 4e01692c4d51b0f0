-- Lists of a program that go together by their numbers.
use Rattle.std.specs.Prelude.{◌≡◌, ◌<◌, [], length, ◌-ℤ◌}
use Rattle.pts_rules.specs.Counts.{loop_positions}
use Rattle.pts_rules.specs.Known.{natural, number}
use Rattle.pts_constants.specs.declared.texts.CallText.{CallText}
use Rattle.pts_constants.specs.declared.texts.CallText.TheVariants as texts
use Rattle.pts_points.specs.declared.point.CallInfo.{CallInfo}
use Rattle.pts_program.specs.declared.info.StatementInfo.{StatementInfo}
use Rattle.pts_program.specs.declared.info.StatementInfo.TheVariants as statements
use Rattle.pts_program.specs.declared.lists.Lists.{Lists}

-- a call and its text: the policy, and as many positions as its first range has cells or the loop has turns
abbrev pub IsCallOf : CallText → CallInfo → Type 0
IsCallOf (texts.Call x) call = (call.policy ≡ x.policy) × (call.positions ≡ natural (number [] x.first.high -ℤ number [] x.first.low))
IsCallOf (texts.Loop x) call = (call.policy ≡ x.policy) × (call.positions ≡ loop_positions [] x)

-- the call, the block or the array of a statement is in its list
abbrev pub IsNumbered : Lists → StatementInfo → Type 0
IsNumbered lists (statements.Call n) = n < length lists.calls
IsNumbered lists (statements.Block n) = n < length lists.blocks
IsNumbered lists (statements.Print n) = n < length lists.arrays
