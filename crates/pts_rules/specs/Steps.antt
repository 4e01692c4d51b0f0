-- BadStep, BackwardRange, LengthsDiffer and BadIdentity.
use Rattle.std.specs.Prelude.{Bool, false, not, ◌&&◌, ◌||◌, is_some, is_none, length, ℤ, pos, ◌-ℤ◌, int_lt}
use Rattle.std.specs.List.{list_any}
use Rattle.std.specs.Ordering.{int_eq}
use Rattle.pts_tree.specs.declared.sum.Range.{Range}
use Rattle.pts_tree.specs.declared.call.Op.TheVariants as op_variants
use Rattle.pts_tree.specs.declared.loops.Clause.{Clause}
use Rattle.pts_tree.specs.declared.loops.Clause.TheVariants as clauses
use Rattle.pts_tree.specs.declared.script.ArrayDecl.{ArrayDecl}
use Rattle.pts_tree.specs.declared.script.Start.{Start}
use Rattle.pts_tree.specs.declared.script.Start.TheVariants as starts
use Rattle.pts_tree.specs.declared.script.Item.{Item}
use Rattle.pts_tree.specs.declared.script.Item.TheVariants as items
use Rattle.pts_rules.specs.Parts.{Simple, Call, Loop, statements}
use Rattle.pts_rules.specs.Known.{Scope, has, number}

-- the step of a loop from a to b is 0 or leads away from b
abbrev pub is_wrong_step : ℤ → ℤ → ℤ → Bool
is_wrong_step a b step = int_eq step (pos 0) || (int_lt a b && int_lt step (pos 0)) || (int_lt b a && int_lt (pos 0) step)

abbrev pub steps_badly : Scope → Simple → Bool
steps_badly scope (Loop x) = has (λ step. is_wrong_step (number scope x.low) (number scope x.high) (number scope step)) x.step
steps_badly scope _ = false

-- BadStep: a loop's written step is 0 or leads away from its end
abbrev pub is_bad_step : Scope → Item → Bool
is_bad_step scope x = list_any (steps_badly scope) (statements x)

-- a range that ends before its start
abbrev pub is_backward : Scope → Range → Bool
is_backward scope x = int_lt (number scope x.high) (number scope x.low)

abbrev pub goes_backward : Scope → Simple → Bool
goes_backward scope (Call x) = is_backward scope x.first || has (is_backward scope) x.second || has (is_backward scope) x.target
goes_backward scope (Loop x) = is_none x.step && int_lt (number scope x.high) (number scope x.low)
goes_backward scope _ = false

-- BackwardRange: a range, or a loop without a step, ends before its start
abbrev pub is_backward_range : Scope → Item → Bool
is_backward_range scope x = list_any (goes_backward scope) (statements x)

-- how many elements a range has
abbrev pub extent : Scope → Range → ℤ
extent scope x = number scope x.high -ℤ number scope x.low

-- two ranges of different lengths
abbrev pub differs : Scope → Range → Range → Bool
differs scope x y = not (int_eq (extent scope x) (extent scope y))

abbrev pub differs_in_length : Scope → Simple → Bool
differs_in_length scope (Call x) = has (differs scope x.first) x.second || has (differs scope x.first) x.target
differs_in_length scope _ = false

-- a list of another number of values than the array's length
abbrev pub list_differs : Scope → ArrayDecl → Start → Bool
list_differs scope x (starts.List xs) = not (int_eq (pos (length xs)) (number scope x.length))
list_differs scope x _ = false

-- LengthsDiffer: a list is not as long as its array, or the ranges of a call are not of one length
abbrev pub lengths_differ : Scope → Item → Bool
lengths_differ scope (items.Array x) = list_differs scope x x.start
lengths_differ scope x = list_any (differs_in_length scope) (statements x)

-- an operation of the table has no identity, and a function has one
abbrev pub identity_wrong : Clause → Bool
identity_wrong (clauses.Reduce x) = elim x.op [ op_variants.Table op ↦ is_some x.identity | op_variants.Name name ↦ is_none x.identity ]
identity_wrong (clauses.Induct x) = false

abbrev pub has_wrong_identity : Simple → Bool
has_wrong_identity (Loop x) = list_any identity_wrong x.clauses
has_wrong_identity _ = false

-- BadIdentity: a clause with one of the seven operations has an identity, or one with a function has none
abbrev pub is_bad_identity : Scope → Item → Bool
is_bad_identity scope x = list_any has_wrong_identity (statements x)
