-- Lines of numbers between two ends that a kind holds.
use Rattle.std.proofs.Common.{◌≡◌, ℕ, zero, suc, ◌+◌, ◌-◌, ◌*◌, ◌^◌, ◌<◌, ◌≤◌, Bool, true, false, ℤ, pos, negsuc, ◌+ℤ◌, ◌*ℤ◌, refl, sym, ap, ◌∙◌, subst, arith, to_z, of_z}
use Rattle.std.specs.Prelude.{◌&&◌, ◌≤ℤ◌, FitsSigned, neg_ℤ, int_le, unsigned_abs}
use Rattle.std.specs.Int.{w128}
use Rattle.std.specs.List.{list_all, range_with_len}
use Rattle.std.proofs.lemmas.Int.{ints, unsigned_abs-mul, fits_signed_mul, fits_signed_from_abs}
use Rattle.std.proofs.Math.IntN.{pos-*ℤ-pos, pos-*ℤ-negsuc}
use Rattle.std.proofs.Math.Facts.{to_z-of_z}
use Rattle.std.proofs.Math.Dec.{lit<}
use Rattle.std.proofs.lemmas.List.Folds.{list_all_at}
use Rattle.std.proofs.lemmas.List.FromFn.{length-range_with_len, get_or-range_with_len}
use Rattle.std.proofs.Math.Nat.{mul-le-mul, mul-le-mul_right}
use Rattle.pts_types.specs.declared.value.Kind.TheVariants as kinds
use Rattle.pts_types.specs.Arithmetic.{least_i64, greatest_i64}
use Rattle.pts_rules.specs.Known.{holds}
use Rattle.pts_rules.specs.Mistyped.{iota_cell}

-- ---- what an i64 is

low : (z : ℤ) → holds kinds.I64 z ≡ true → least_i64 ≤ℤ z
low z h = let a : int_le least_i64 z ≡ true = grind (arith, h) in grind (arith, ints)

high : (z : ℤ) → holds kinds.I64 z ≡ true → z ≤ℤ greatest_i64
high z h = let a : int_le z greatest_i64 ≡ true = grind (arith, h) in grind (arith, ints)

held : (z : ℤ) → least_i64 ≤ℤ z → z ≤ℤ greatest_i64 → holds kinds.I64 z ≡ true
held z l h =
    let a : int_le least_i64 z ≡ true = grind (arith, ints) in
    let b : int_le z greatest_i64 ≡ true = grind (arith, ints) in
    (λ i. a i && b i)

pub abs-small : (z : ℤ) → holds kinds.I64 z ≡ true → unsigned_abs z ≤ 2 ^ 63
abs-small z h = let l = low z h in let k = high z h in omega (arith, ints, l, k)

-- ---- cells between the first one and the last

rising : (x : ℤ) (m j n : ℕ) → j ≤ n → holds kinds.I64 x ≡ true → holds kinds.I64 (x +ℤ pos (n * m)) ≡ true → holds kinds.I64 (x +ℤ pos (j * m)) ≡ true
rising x m j n within first last =
    let less : j * m ≤ n * m = mul-le-mul_right m within in
    let a = low x first in
    let b = high (x +ℤ pos (n * m)) last in
    held (x +ℤ pos (j * m)) (omega (arith, ints, a)) (omega (arith, ints, b, less))

falling : (x : ℤ) (m j n : ℕ) → j ≤ n → holds kinds.I64 x ≡ true → holds kinds.I64 (x +ℤ neg_ℤ (pos (n * m))) ≡ true → holds kinds.I64 (x +ℤ neg_ℤ (pos (j * m))) ≡ true
falling x m j n within first last =
    let less : j * m ≤ n * m = mul-le-mul_right m within in
    let a = high x first in
    let b = low (x +ℤ neg_ℤ (pos (n * m))) last in
    held (x +ℤ neg_ℤ (pos (j * m))) (omega (arith, ints, b, less)) (omega (arith, ints, a))

-- each cell up to the last one
between : (x y : ℤ) (j n : ℕ) → j ≤ n → holds kinds.I64 x ≡ true → holds kinds.I64 (iota_cell x y n) ≡ true → holds kinds.I64 (iota_cell x y j) ≡ true
between x (pos m) j n within first last =
    ap (λ z. holds kinds.I64 (x +ℤ z)) (pos-*ℤ-pos j m) ∙ rising x m j n within first (sym (ap (λ z. holds kinds.I64 (x +ℤ z)) (pos-*ℤ-pos n m)) ∙ last)
between x (negsuc m) j n within first last =
    ap (λ z. holds kinds.I64 (x +ℤ z)) (pos-*ℤ-negsuc j m) ∙ falling x (suc m) j n within first (sym (ap (λ z. holds kinds.I64 (x +ℤ z)) (pos-*ℤ-negsuc n m)) ∙ last)

-- ---- the list of the cells

from_zero : (j : ℕ) → 0 + j ≡ j
from_zero j = omega arith

each : (p : ℕ → Bool) (a n : ℕ) → ((j : ℕ) → j < n → p (a + j) ≡ true) → list_all p (range_with_len a n) ≡ true
each p a zero right = refl
each p a (suc n) right =
    λ i. (ap p (let e : a ≡ a + 0 = omega arith in e) ∙ right 0 (omega arith)) i
    && each p (a + 1) n (λ j within. ap p (let e : a + 1 + j ≡ a + (j + 1) = omega arith in e) ∙ right (j + 1) (omega (arith, within))) i

some : (p : ℕ → Bool) (n : ℕ) → 0 < n → p (n - 1) ≡ false → list_all p (range_with_len 0 n) ≡ false
some p n more wrong =
    list_all_at p (range_with_len 0 n) (n - 1) 0
    (let long = length-range_with_len 0 n in omega (arith, long, more))
    (ap p (get_or-range_with_len 0 n (n - 1) 0 (omega (arith, more)) ∙ from_zero (n - 1)) ∙ wrong)

by_last : (p : ℕ → Bool) (n : ℕ) (b : Bool) → 0 < n → p (n - 1) ≡ b → (p (n - 1) ≡ true → (j : ℕ) → j ≤ n - 1 → p j ≡ true) → b ≡ list_all p (range_with_len 0 n)
by_last p n true more last all = sym (each p 0 n (λ j within. ap p (from_zero j) ∙ all last j (omega (arith, within))))
by_last p n false more last all = sym (some p n more last)

-- the last cell decides
pub line_is : (x y : ℤ) (n : ℕ) → 0 < n → holds kinds.I64 x ≡ true → holds kinds.I64 (iota_cell x y (n - 1)) ≡ list_all (λ j. holds kinds.I64 (iota_cell x y j)) (range_with_len 0 n)
line_is x y n more first =
    by_last (λ j. holds kinds.I64 (iota_cell x y j)) n (holds kinds.I64 (iota_cell x y (n - 1))) more refl (λ last j within. between x y j (n - 1) within first last)

-- ---- the last cell as it is computed

pub is_some : (n : ℕ) → (n ≡ 0 → ⊥) → 0 < n
is_some zero not_zero = absurd (not_zero refl)
is_some (suc n) not_zero = omega arith

pub count_fits : (n : ℕ) → n < 2 ^ 63 → FitsSigned w128 (pos n)
count_fits n less = fits_signed_from_abs w128 (pos n) (omega (arith, ints, less))

pub product_fits : (y : ℤ) (n : ℕ) → holds kinds.I64 y ≡ true → n < 2 ^ 63 → FitsSigned w128 (pos n *ℤ y)
product_fits y n right less = fits_signed_mul w128 (pos n) y (2 ^ 63) (2 ^ 63) (omega (arith, less)) (abs-small y right) (lit< tt)

pub sum_fits : (x y : ℤ) (n : ℕ) → holds kinds.I64 x ≡ true → holds kinds.I64 y ≡ true → n < 2 ^ 63 → FitsSigned w128 (x +ℤ pos n *ℤ y)
sum_fits x y n first right less =
    let a = abs-small x first in
    let product : n * unsigned_abs y ≤ 2 ^ 63 * 2 ^ 63 = mul-le-mul (let e : n ≤ 2 ^ 63 = omega (arith, less) in e) (abs-small y right) in
    let b : unsigned_abs (pos n *ℤ y) ≤ 2 ^ 126 = omega (arith, product, unsigned_abs-mul (pos n) y) in
    fits_signed_from_abs w128 (x +ℤ pos n *ℤ y) (omega (arith, ints, a, b))

-- a number as the code reads it
abbrev read : ℤ → ℤ
read z = to_z w128 (of_z w128 z)

-- the product and the sum as the code reads their parts
module _ (x y count : ℤ) (n : ℕ) (first : holds kinds.I64 x ≡ true) (step : holds kinds.I64 y ≡ true) (less : n < 2 ^ 63) (count_is : count ≡ pos n)
    (x_fits : FitsSigned w128 x) (y_fits : FitsSigned w128 y) where
  product_read : to_z w128 (of_z w128 count) *ℤ to_z w128 (of_z w128 y) ≡ pos n *ℤ y
  product_read = λ i. (ap read count_is ∙ to_z-of_z (count_fits n less)) i *ℤ to_z-of_z y_fits i

  total_read : read x +ℤ read (read count *ℤ read y) ≡ x +ℤ pos n *ℤ y
  total_read = λ i. to_z-of_z x_fits i +ℤ (ap read product_read ∙ to_z-of_z (product_fits y n step less)) i

  pub product_fits_read : FitsSigned w128 (to_z w128 (of_z w128 count) *ℤ to_z w128 (of_z w128 y))
  product_fits_read = subst (FitsSigned w128) (sym product_read) (product_fits y n step less)

  pub total_fits_read : FitsSigned w128 (to_z w128 (of_z w128 x) +ℤ to_z w128 (of_z w128 (to_z w128 (of_z w128 count) *ℤ to_z w128 (of_z w128 y))))
  total_fits_read = subst (FitsSigned w128) (sym total_read) (sum_fits x y n first step less)

  pub last_read : to_z w128 (of_z w128 (to_z w128 (of_z w128 x) +ℤ to_z w128 (of_z w128 (to_z w128 (of_z w128 count) *ℤ to_z w128 (of_z w128 y))))) ≡ iota_cell x y n
  last_read = ap read total_read ∙ to_z-of_z (sum_fits x y n first step less)
