-- The cells of a program's arrays have their arrays' kinds.
use Rattle.std.proofs.Common.{IsTrue, ◌≡◌, ℕ, ◌+◌, ◌*◌, ◌/◌, ◌^◌, ◌<◌, Bool, true, false, ℤ, pos, negsuc, List, [], ◌++◌, get_or, sym, subst, ◌∙◌, arith}
use Rattle.std.specs.Prelude.{All, ◌≤ℤ◌, int_le}
use Rattle.std.specs.List.{range_with_len}
use Rattle.std.proofs.lemmas.Bool.{and_parts, false≢true}
use Rattle.std.proofs.lemmas.List.Elements.{All-nil, All-cons, All-append, All-map, All-replicate}
use Rattle.std.proofs.lemmas.List.Sums.{AllPass-from_list_all}
use Rattle.std.proofs.lemmas.Int.{ints}
use Rattle.std.proofs.Math.Nat.{mod-lt}
use Rattle.std.proofs.lemmas.List.FromFn.{get_or-range_with_len, length-range_with_len}
use Rattle.std.proofs.lemmas.Nat.{xor_lt}
use Rattle.pts_types.specs.Arithmetic.{IsValueOf, least_i64, greatest_i64}
use Rattle.pts_types.specs.declared.value.Kind.{Kind}
use Rattle.pts_types.specs.declared.value.Kind.TheVariants as kinds
use Rattle.pts_types.specs.declared.value.Value.TheVariants as values
use Rattle.pts_tree.specs.declared.sum.Sum.{Sum}
use Rattle.pts_tree.specs.declared.sum.Val.{Val}
use Rattle.pts_tree.specs.declared.sum.Val.TheVariants as vals
use Rattle.pts_tree.specs.declared.script.ArrayDecl.{ArrayDecl}
use Rattle.pts_tree.specs.declared.script.Start.{Start}
use Rattle.pts_tree.specs.declared.script.Start.TheVariants as starts
use Rattle.pts_tree.specs.declared.script.Item.{Item}
use Rattle.pts_tree.specs.declared.script.Item.TheVariants as items
use Rattle.pts_rules.specs.Known.{Scope, holds, natural, number, same_kind, val_fits}
use Rattle.pts_rules.specs.Mistyped.{iota_cell, iota_right, start_right}
use Rattle.pts_rules.specs.Scopes.{known}
use Rattle.pts_starts.specs.Starts.{folded, iota_value, mix_value, start_cells, value_of_val, value_with}
use Rattle.pts_starts.proofs.Cells.{at_place, iota_parts, number_holds}
use Rattle.pts_program.specs.declared.info.ArrayInfo.{ArrayInfo}
use Rattle.pts_program.specs.Lists.{arrays_of}
use Rattle.pts_program.specs.Ranges.{IsOfKind}
use Rattle.pts_program.proofs.Keeping.{Keeps}

with_kind : (kind : Kind) (z : ℤ) → IsTrue (holds kind z) → IsValueOf kind (value_with kind z)
with_kind kinds.I64 z h = let both = and_parts (int_le least_i64 z) (int_le z greatest_i64) h in (low z both.0, high z both.1)
  where
    low : (z : ℤ) → IsTrue (int_le least_i64 z) → least_i64 ≤ℤ z
    low z h = omega (arith, ints, h)

    high : (z : ℤ) → IsTrue (int_le z greatest_i64) → z ≤ℤ greatest_i64
    high z h = omega (arith, ints, h)
with_kind kinds.U64 z h = small z h
  where
    small : (z : ℤ) → IsTrue (holds kinds.U64 z) → natural z < 2 ^ 64
    small (pos n) h = grind (arith, ints, h)
    small (negsuc n) h = omega arith
with_kind kinds.Bool z h = tt

of_bool : (kind : Kind) (truth : Bool) → same_kind kind kinds.Bool ≡ true → IsValueOf kind (values.Bool truth)
of_bool kinds.I64 truth h = absurd (false≢true h)
of_bool kinds.U64 truth h = absurd (false≢true h)
of_bool kinds.Bool truth h = tt

of_u64 : (kind : Kind) (n : ℕ) → same_kind kind kinds.U64 ≡ true → n < 2 ^ 64 → IsValueOf kind (values.U64 n)
of_u64 kinds.I64 n h less = absurd (false≢true h)
of_u64 kinds.U64 n h less = less
of_u64 kinds.Bool n h less = absurd (false≢true h)

val_kind : (scope : Scope) (kind : Kind) (x : Val) → val_fits scope kind x ≡ true → IsValueOf kind (value_of_val scope kind x)
val_kind scope kind (vals.Sum x) h = with_kind kind (number scope x) (number_holds scope (holds kind) x h)
val_kind scope kind vals.True h = of_bool kind true h
val_kind scope kind vals.False h = of_bool kind false h

iota_kind : (scope : Scope) (kind : Kind) (length j : ℕ) (x y : Sum) → j < length → iota_right scope kind length x y ≡ true
    → IsValueOf kind (iota_value kind (number scope x) (number scope y) j)
iota_kind scope kinds.I64 length j x y less h =
    let all = (iota_parts scope length x y h).2 in
    let place : 0 + j ≡ j = omega arith in
    with_kind kinds.I64 (iota_cell (number scope x) (number scope y) j)
    (subst (λ i. IsTrue (holds kinds.I64 (iota_cell (number scope x) (number scope y) i))) place
    (at_place (λ i. holds kinds.I64 (iota_cell (number scope x) (number scope y) i)) 0 length j all less))
iota_kind scope kinds.U64 length j x y less h = mod-lt (natural (number scope x) + j * natural (number scope y)) (omega arith)
iota_kind scope kinds.Bool length j x y less h = absurd (false≢true h)

-- the high half of a number below 2^64, folded onto its low one
folded_small : (y : ℕ) → y < 2 ^ 64 → folded y < 2 ^ 64
folded_small y less = xor_lt 64 y (y / 2 ^ 32) less (omega (arith, less))

start_kinds : (scope : Scope) (kind : Kind) (length : ℕ) (x : Start) → start_right scope kind length x ≡ true → All (IsValueOf kind) (start_cells scope kind length x)
start_kinds scope kind length (starts.List xs) h =
    let fits = AllPass-from_list_all (val_fits scope kind) xs h in
    All-map (IsValueOf kind) (value_of_val scope kind) xs (λ k d within. val_kind scope kind _ (fits k d within))
start_kinds scope kind length (starts.Fill x) h = All-replicate (IsValueOf kind) length (value_of_val scope kind x) (val_kind scope kind x h)
start_kinds scope kind n (starts.Iota x y) h =
    All-map (IsValueOf kind) (iota_value kind (number scope x) (number scope y)) (range_with_len 0 n)
    (λ k d within.
    let less : k < n = omega (arith, within, length-range_with_len 0 n) in
    let place : get_or (range_with_len 0 n) k d ≡ k = get_or-range_with_len 0 n k d less ∙ omega arith in
    subst (λ j. IsValueOf kind (iota_value kind (number scope x) (number scope y) j)) (sym place) (iota_kind scope kind n k x y less h))
start_kinds scope kind length (starts.Mix x) h =
    All-map (IsValueOf kind) (mix_value (natural (number scope x))) (range_with_len 0 length)
    (λ k d within. of_u64 kind _ (and_parts _ _ h).0 (folded_small _ (mod-lt _ (omega arith))))

array_kinds : (before : List Item) (x : ArrayDecl) → Keeps before (items.Array x) → All IsOfKind (arrays_of (known before) (items.Array x))
array_kinds before x keeps =
    All-cons IsOfKind _ [] (start_kinds (known before) x.kind _ x.start (and_parts _ _ (keeps.right)).1) (All-nil IsOfKind)

new_kinds : (before : List Item) (x : Item) → Keeps before x → All IsOfKind (arrays_of (known before) x)
new_kinds before (items.Const x) keeps = All-nil IsOfKind
new_kinds before (items.Array x) keeps = array_kinds before x keeps
new_kinds before (items.Function x) keeps = All-nil IsOfKind
new_kinds before (items.Call x) keeps = All-nil IsOfKind
new_kinds before (items.Loop x) keeps = All-nil IsOfKind
new_kinds before (items.Block x) keeps = All-nil IsOfKind
new_kinds before (items.Print x) keeps = All-nil IsOfKind

-- one item more
pub kinds_more : (before : List Item) (x : Item) (arrays : List ArrayInfo) → Keeps before x → All IsOfKind arrays → All IsOfKind (arrays ++ arrays_of (known before) x)
kinds_more before x arrays keeps h = All-append IsOfKind arrays (arrays_of (known before) x) h (new_kinds before x keeps)
