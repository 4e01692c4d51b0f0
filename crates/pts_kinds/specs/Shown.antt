-- What the kinds of an expression are in the words of the rules.
use Rattle.std.specs.Prelude.{ℕ, Bool, ◌&&◌, if◌then◌else◌, option_to_list, unwrap_or, Option, Some, None, List, [], ◌∷◌, ◌++◌, ℤ, pos, ◌^◌, ◌-◌}
use Rattle.std.specs.Option.{option_or}
use Rattle.pts_types.specs.declared.value.Kind.{Kind}
use Rattle.pts_types.specs.declared.value.Kind.TheVariants as kinds
use Rattle.pts_types.specs.declared.operation.ScalarOp.{ScalarOp}
use Rattle.pts_types.specs.Arithmetic.{least_i64}
use Rattle.pts_tree.specs.declared.script.ArrayDecl.{ArrayDecl}
use Rattle.pts_tree.specs.declared.script.ConstDecl.{ConstDecl}
use Rattle.pts_rules.specs.Known.{Scope, sum_is, is_place, lies_in, natural, number}
use Rattle.pts_rules.specs.Kinds as spec
use Rattle.pts_rules.specs.Mistyped.{start_right}
use Rattle.pts_kinds.specs.declared.kinds.Kinds.{Kinds}
use Rattle.pts_kinds.specs.declared.kinds.Typing.{Typing}

-- whether the kind is among these
abbrev pub has_kind : Kinds → Kind → Bool
has_kind x kinds.I64 = x.i64
has_kind x kinds.U64 = x.u64
has_kind x kinds.Bool = x.bool

-- the kinds of an expression, with the kinds that its place may ask as a test
unfoldable pub typing_of : Typing → spec.Typing
typing_of x = record { literal = x.literal; own = x.own; fits = has_kind x.fits }

-- ---- what the forms make of their operands

abbrev pub converted : Kind → spec.Typing → spec.Typing
converted to x = spec.typed to (x.fits (unwrap_or x.own to))

abbrev pub in_parentheses : spec.Typing → spec.Typing
in_parentheses x = record x { literal = None }

abbrev pub compared : ScalarOp → spec.Typing → spec.Typing → spec.Typing
compared op x y = spec.typed kinds.Bool (spec.sides_right op x y (spec.sides_kind x y))

abbrev pub chosen : spec.Typing → spec.Typing → spec.Typing → spec.Typing
chosen x y z = record { literal = None; own = spec.first_kind (y ∷ z ∷ []); fits = λ asked. x.fits kinds.Bool && y.fits asked && z.fits asked }

-- two operands of a chain as one
abbrev pub both : spec.Typing → spec.Typing → spec.Typing
both x y = record { literal = None; own = option_or x.own y.own; fits = λ asked. x.fits asked && y.fits asked }

-- ---- calls

-- the kinds of the values that a function is given, of which there are two at most
abbrev pub sources : Option Kind → Option Kind → List Kind
sources first second = option_to_list first ++ option_to_list second

-- ---- constants and arrays

-- a constant lies in one of `i64` and `u64`
abbrev pub const_right : Scope → ConstDecl → Bool
const_right scope x = sum_is scope (lies_in least_i64 (pos (2 ^ 64 - 1))) x.value

-- a length, where it is from 0 to the greatest i64
abbrev pub place_of : Option ℤ → Option ℕ
place_of None = None
place_of (Some z) = if is_place z then Some (natural z) else None

-- a length and what the array may start with
abbrev pub array_right : Scope → ArrayDecl → Bool
array_right scope x = sum_is scope is_place x.length && start_right scope x.kind (natural (number scope x.length)) x.start
