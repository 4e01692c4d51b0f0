-- What names stand for, and the exact values of sums.
use Rattle.std.specs.Prelude.{ℕ, ◌^◌, ◌-◌, Bool, true, false, ◌&&◌, if◌then◌else◌, option_map, option_and_then, is_some, count_by, Option, Some, None, List, [], ◌∷◌, fold, ℤ, pos, ◌+ℤ◌, neg_ℤ, int_le}
use Rattle.std.specs.Str.{bytes_eq}
use Rattle.pts_types.specs.declared.value.Kind.{Kind}
use Rattle.pts_types.specs.declared.value.Kind.TheVariants as kinds
use Rattle.pts_types.specs.Arithmetic.{least_i64, greatest_i64}
use Rattle.pts_tree.specs.declared.sum.Atom.{Atom}
use Rattle.pts_tree.specs.declared.sum.Atom.TheVariants as atoms
use Rattle.pts_tree.specs.declared.sum.Sum.{Sum}
use Rattle.pts_tree.specs.declared.sum.SumPart.{SumPart}
use Rattle.pts_tree.specs.declared.sum.Val.{Val}
use Rattle.pts_tree.specs.declared.sum.Val.TheVariants as vals
use Rattle.pts_rules.specs.declared.meaning.Meaning.{Meaning}
use Rattle.pts_rules.specs.declared.meaning.Meaning.TheVariants.{Constant, Array, Function, Value, View}
use Rattle.pts_rules.specs.declared.meaning.Signature.{Signature}
use Rattle.pts_rules.specs.Parts.{Name}

-- ---- what names stand for

-- a name and what it stands for
abbrev pub Entry : Type 0
Entry = Name × Meaning

-- the names that may be used at a place
abbrev pub Scope : Type 0
Scope = List Entry

-- what a name stands for; no rule but the first two is asked of a script in which a name has two entries
abbrev pub meaning_of : Scope → Name → Option Meaning
meaning_of [] name = None
meaning_of (entry ∷ scope) name = if bytes_eq name entry.0 then Some entry.1 else meaning_of scope name

-- the value of a constant
abbrev pub as_constant : Meaning → Option ℤ
as_constant (Constant z) = Some z
as_constant _ = None

abbrev pub constant_of : Scope → Name → Option ℤ
constant_of scope name = option_and_then as_constant (meaning_of scope name)

-- the kind of an array's elements, and its length
abbrev pub as_array : Meaning → Option (Kind × ℤ)
as_array (Array kind length) = Some (kind, length)
as_array _ = None

abbrev pub array_of : Scope → Name → Option (Kind × ℤ)
array_of scope name = option_and_then as_array (meaning_of scope name)

abbrev pub kind_of_array : Scope → Name → Option Kind
kind_of_array scope name = option_map (λ x. x.0) (array_of scope name)

-- the signature of a function
abbrev pub as_function : Meaning → Option Signature
as_function (Function x) = Some x
as_function _ = None

abbrev pub function_of : Scope → Name → Option Signature
function_of scope name = option_and_then as_function (meaning_of scope name)

-- the kind of a local value
abbrev pub as_value : Meaning → Option Kind
as_value (Value kind) = Some kind
as_value _ = None

abbrev pub value_of : Scope → Name → Option Kind
value_of scope name = option_and_then as_value (meaning_of scope name)

-- the kind of a view
abbrev pub as_view : Meaning → Option Kind
as_view (View kind) = Some kind
as_view _ = None

abbrev pub view_of : Scope → Name → Option Kind
view_of scope name = option_and_then as_view (meaning_of scope name)

-- how many names of one sort are older than this one, where it is of this sort itself
abbrev pub number_among : (Meaning → Bool) → Scope → Name → Option ℕ
number_among is_one [] name = None
number_among is_one (entry ∷ scope) name =
    if bytes_eq name entry.0
    then (if is_one entry.1 then Some (count_by (λ e. is_one e.1) scope) else None)
    else number_among is_one scope name

abbrev pub is_array : Meaning → Bool
is_array meaning = is_some (as_array meaning)

abbrev pub is_function : Meaning → Bool
is_function meaning = is_some (as_function meaning)

abbrev pub is_value : Meaning → Bool
is_value meaning = is_some (as_value meaning)

-- the number of an array, from 0 in the order in which they were declared; likewise of a function and of a local value
abbrev pub array_number : Scope → Name → Option ℕ
array_number = number_among is_array

abbrev pub function_number : Scope → Name → Option ℕ
function_number = number_among is_function

abbrev pub value_number : Scope → Name → Option ℕ
value_number = number_among is_value

-- a constant lies in one of `i64` and `u64`
abbrev pub is_in_bounds : Meaning → Bool
is_in_bounds (Constant z) = int_le least_i64 z && int_le z (pos (2 ^ 64 - 1))
is_in_bounds meaning = true

-- ---- numbers

-- it is there, and the test holds of it
abbrev pub has : {A : Type 0} → (A → Bool) → Option A → Bool
has test None = false
has test (Some x) = test x

-- low ≤ z ≤ high
abbrev pub lies_in : ℤ → ℤ → ℤ → Bool
lies_in low high z = int_le low z && int_le z high

-- the numbers of a kind: 0 and 1 are those of `bool`
abbrev pub holds : Kind → ℤ → Bool
holds kinds.I64 z = lies_in least_i64 greatest_i64 z
holds kinds.U64 z = lies_in (pos 0) (pos (2 ^ 64 - 1)) z
holds kinds.Bool z = lies_in (pos 0) (pos 1) z

-- 0 to the greatest i64: lengths, the ends of a range, the index of a cell
abbrev pub is_place : ℤ → Bool
is_place z = lies_in (pos 0) greatest_i64 z

abbrev pub same_kind : Kind → Kind → Bool
same_kind kinds.I64 kinds.I64 = true
same_kind kinds.U64 kinds.U64 = true
same_kind kinds.Bool kinds.Bool = true
same_kind _ _ = false

-- `u64` or `i64`
abbrev pub is_number : Kind → Bool
is_number kinds.Bool = false
is_number _ = true

-- a number, where one below 0 is taken as 0
abbrev pub natural : ℤ → ℕ
natural (pos n) = n
natural _ = 0

-- ---- sums

-- a number, or the value of a constant
abbrev pub atom_value : Scope → Atom → Option ℤ
atom_value scope (atoms.Number n) = Some (pos n)
atom_value scope (atoms.Name name) = constant_of scope name

abbrev pub signed : Bool → ℤ → ℤ
signed minus z = if minus then neg_ℤ z else z

-- a sum so far, and one part more
abbrev pub plus_part : Scope → Option ℤ → SumPart → Option ℤ
plus_part scope so_far part = option_and_then (λ x. option_map (λ y. x +ℤ signed part.minus y) (atom_value scope part.atom)) so_far

-- the exact value of a sum, where each of its names is a constant
abbrev pub sum_value : Scope → Sum → Option ℤ
sum_value scope x = fold (plus_part scope) (option_map (signed x.negative) (atom_value scope x.first)) x.rest

-- the sum has a value, and the test holds of it
abbrev pub sum_is : Scope → (ℤ → Bool) → Sum → Bool
sum_is scope test x = has test (sum_value scope x)

-- the value of a sum that has one; of others only a broken rule is asked
abbrev pub number : Scope → Sum → ℤ
number scope x = elim (sum_value scope x) [ None ↦ pos 0 | Some z ↦ z ]

-- a value that is given for a kind
abbrev pub val_fits : Scope → Kind → Val → Bool
val_fits scope kind (vals.Sum x) = sum_is scope (holds kind) x
val_fits scope kind _ = same_kind kind kinds.Bool
