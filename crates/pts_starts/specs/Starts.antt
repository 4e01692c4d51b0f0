-- What the cells of an array hold at the start.
use Rattle.std.specs.Prelude.{ℕ, ◌+◌, ◌*◌, ◌/◌, ◌%◌, ◌^◌, not, true, false, bit_xor, List, map, replicate, ℤ, pos, ◌+ℤ◌, ◌*ℤ◌}
use Rattle.std.specs.List.{range_with_len}
use Rattle.std.specs.Ordering.{int_eq}
use Rattle.pts_types.specs.declared.value.Kind.{Kind}
use Rattle.pts_types.specs.declared.value.Kind.TheVariants as kinds
use Rattle.pts_types.specs.declared.value.Value.{Value}
use Rattle.pts_types.specs.declared.value.Value.TheVariants as values
use Rattle.pts_tree.specs.declared.sum.Val.{Val}
use Rattle.pts_tree.specs.declared.sum.Val.TheVariants as vals
use Rattle.pts_tree.specs.declared.script.Start.{Start}
use Rattle.pts_tree.specs.declared.script.Start.TheVariants as starts
use Rattle.pts_rules.specs.Known.{Scope, natural, number}

-- the value of a kind with a number that the kind has
abbrev pub value_with : Kind → ℤ → Value
value_with kinds.I64 z = values.I64 z
value_with kinds.U64 z = values.U64 (natural z)
value_with kinds.Bool z = values.Bool (not (int_eq z (pos 0)))

abbrev pub value_of_val : Scope → Kind → Val → Value
value_of_val scope kind (vals.Sum x) = value_with kind (number scope x)
value_of_val scope kind vals.True = values.Bool true
value_of_val scope kind vals.False = values.Bool false

-- cell j of `iota x step y`: modulo 2^64 for `u64`, exact for `i64`
abbrev pub iota_value : Kind → ℤ → ℤ → ℕ → Value
iota_value kinds.I64 x y j = values.I64 (x +ℤ pos j *ℤ y)
iota_value kind x y j = values.U64 ((natural x + j * natural y) % 2 ^ 64)

-- a number that looks drawn at random: its high half is folded onto its low one
abbrev pub folded : ℕ → ℕ
folded y = bit_xor y (y / 2 ^ 32)

-- cell j of `mix s`
abbrev pub mix_value : ℕ → ℕ → Value
mix_value s j = values.U64 (folded ((s + (j + 1) * 11400714819323198485) % 2 ^ 64))

-- the cells of an array of this kind and length
abbrev pub start_cells : Scope → Kind → ℕ → Start → List Value
start_cells scope kind length (starts.List xs) = map (value_of_val scope kind) xs
start_cells scope kind length (starts.Fill x) = replicate length (value_of_val scope kind x)
start_cells scope kind length (starts.Iota x y) = map (iota_value kind (number scope x) (number scope y)) (range_with_len 0 length)
start_cells scope kind length (starts.Mix x) = map (mix_value (natural (number scope x))) (range_with_len 0 length)
