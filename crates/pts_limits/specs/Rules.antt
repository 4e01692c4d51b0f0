-- The rules that a call or a loop breaks by itself.
use Rattle.std.specs.Prelude.{Bool}
use Rattle.std.specs.List.{list_any}
use Rattle.pts_tree.specs.declared.script.Item.{Item}
use Rattle.pts_rules.specs.Parts.{Simple, statements}
use Rattle.pts_rules.specs.Known.{Scope}
use Rattle.pts_rules.specs.Limits.{is_long}
use Rattle.pts_rules.specs.Steps.{steps_badly, goes_backward, differs_in_length, has_wrong_identity}
use Rattle.pts_limits.specs.declared.statements.StatementRule.{StatementRule}
use Rattle.pts_limits.specs.declared.statements.StatementRule.TheVariants as rules

-- a statement breaks a rule by itself
abbrev pub breaks : StatementRule → Scope → Simple → Bool
breaks rules.Length = is_long
breaks rules.BadStep = steps_badly
breaks rules.BackwardRange = goes_backward
breaks rules.LengthsDiffer = differs_in_length
breaks rules.BadIdentity = λ scope. has_wrong_identity

-- a statement of an item breaks it
abbrev pub some_breaks : StatementRule → Scope → Item → Bool
some_breaks rule scope x = list_any (breaks rule scope) (statements x)
