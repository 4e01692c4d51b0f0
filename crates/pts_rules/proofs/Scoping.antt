-- Rows of a scope: what stands at a place, and how many names of each sort are older.
use Rattle.std.proofs.Common.{◌≡◌, ℕ, zero, suc, ◌+◌, ◌-◌, ◌<◌, ◌≤◌, ◌^◌, Bool, true, false, cond, Option, Some, None, List, [], ◌∷◌, ◌++◌, length, reverse, refl, sym, ap, ◌∙◌, subst, arith, length-append, BTreeMap, String, ℤ, to_z, of_z, SFits}
use Rattle.std.specs.Prelude.{slice_get, if◌then◌else◌, string_bytes, count_by, IsTrue, nat_abs}
use Rattle.std.specs.BTreeMap.{get_by_text}
use Rattle.std.specs.Str.{bytes_eq}
use Rattle.std.proofs.lemmas.List.{reverse-append, reverse-reverse, length-reverse}
use Rattle.std.specs.Int.{w128}
use Rattle.std.proofs.lemmas.Int.{ints, to_z-of_z}
use Rattle.std.proofs.lemmas.List.Sums.{sum_by-cons}
use Rattle.std.proofs.lemmas.Slice.Eq.{bytes_eq-Decides}
use Rattle.pts_rules.specs.declared.meaning.Meaning.{Meaning}
use Rattle.pts_rules.specs.declared.meaning.Meaning.TheVariants.{Constant, Array, Function, Value, View}
use Rattle.pts_rules.specs.declared.scope.Counts.{Counts}
use Rattle.pts_rules.specs.declared.scope.Row.{Row}
use Rattle.pts_rules.specs.Known.{Entry, meaning_of, number_among, is_array, is_function, is_value, is_in_bounds}
use Rattle.pts_rules.specs.Rows.{entry, entries, counted, counts, place_of, row_of, AreBounded, AreLinked, IsPut, IsTracked, IsUnchanged}
use Rattle.pts_rules.specs.Parts.{Name}

-- a row at the front of the reversed list
pub one_more : (rows : List Row) (row : Row) → reverse (rows ++ row ∷ []) ≡ row ∷ reverse rows
one_more rows row = reverse-append rows (row ∷ [])

-- what stands behind a list, and in front of one more
at_seam : (rows : List Row) (row : Row) → slice_get (rows ++ row ∷ []) (length rows) ≡ Some row
at_seam [] row = refl
at_seam (r ∷ rows) row = at_seam rows row

before_seam : (rows : List Row) (row : Row) (n : ℕ) → n < length rows → slice_get (rows ++ row ∷ []) n ≡ slice_get rows n
before_seam [] row n within = absurd (omega (arith, within))
before_seam (r ∷ rows) row zero within = refl
before_seam (r ∷ rows) row (suc n) within = before_seam rows row n (omega (arith, within))

within_at : (b : Bool) (rows : List Row) (name : Name) (n : ℕ) → (if b then Some (length rows) else place_of rows name) ≡ Some n
    → ((m : ℕ) → place_of rows name ≡ Some m → m < length rows) → n < suc (length rows)
within_at true rows name n e below = let same : length rows ≡ n = cc in omega (arith, same)
within_at false rows name n e below = let low = below n e in omega (arith, low)

pub place_within : (rows : List Row) (name : Name) (n : ℕ) → place_of rows name ≡ Some n → n < length rows
place_within [] name n e = absurd (cc)
place_within (r ∷ rows) name n e = within_at (bytes_eq name (string_bytes r.name)) rows name n e (place_within rows name)

-- the row at a place
abbrev pub at_place : List Row → Option ℕ → Option Row
at_place rows None = None
at_place rows (Some n) = slice_get rows n

kept_at : (rows : List Row) (row : Row) (place : Option ℕ) → ((n : ℕ) → place ≡ Some n → n < length rows) → at_place (rows ++ row ∷ []) place ≡ at_place rows place
kept_at rows row None within = refl
kept_at rows row (Some n) within = before_seam rows row n (within n refl)

found_at : (b : Bool) (rows : List Row) (row : Row) (name : Name) → at_place (reverse rows) (place_of rows name) ≡ row_of rows name
    → at_place (reverse rows ++ row ∷ []) (if b then Some (length rows) else place_of rows name) ≡ (if b then Some row else row_of rows name)
found_at true rows row name same = ap (λ n. slice_get (reverse rows ++ row ∷ []) n) (sym (length-reverse rows)) ∙ at_seam (reverse rows) row
found_at false rows row name same =
    kept_at (reverse rows) row (place_of rows name) (λ n e. subst (λ (m : ℕ). n < m) (sym (length-reverse rows)) (place_within rows name n e)) ∙ same

found_reversed : (rows : List Row) (name : Name) → at_place (reverse rows) (place_of rows name) ≡ row_of rows name
found_reversed [] name = refl
found_reversed (r ∷ rows) name =
    ap (λ rs. at_place rs (place_of (r ∷ rows) name)) (reverse-append (r ∷ []) rows)
    ∙ found_at (bytes_eq name (string_bytes r.name)) rows r name (found_reversed rows name)

-- the place of a name has its latest row
pub found : (rows : List Row) (name : Name) → at_place rows (place_of (reverse rows) name) ≡ row_of (reverse rows) name
found rows name = ap (λ rs. at_place rs (place_of (reverse rows) name)) (sym (reverse-reverse rows)) ∙ found_reversed (reverse rows) name

module _ {A : Type 0} (rows : List Row) (places : BTreeMap (String A) ℕ) (name : Name) (tracked : IsTracked (reverse rows) places) where
  pub found_some : (n : ℕ) → get_by_text places name ≡ Some n → slice_get rows n ≡ row_of (reverse rows) name
  found_some n e = ap (at_place rows) (sym e ∙ tracked.placed name) ∙ found rows name

  pub found_none : get_by_text places name ≡ None → row_of (reverse rows) name ≡ None
  found_none e = sym (found rows name) ∙ ap (at_place rows) (sym (tracked.placed name) ∙ e)

-- ---- what a row says of its name

abbrev pub meaning_of_row : Option Row → Option Meaning
meaning_of_row None = None
meaning_of_row (Some row) = Some row.meaning

meaning_at : (b : Bool) (row : Row) (rows : List Row) (name : Name) → meaning_of_row (row_of rows name) ≡ meaning_of (entries rows) name
    → meaning_of_row (if b then Some row else row_of rows name) ≡ (if b then Some row.meaning else meaning_of (entries rows) name)
meaning_at true row rows name same = refl
meaning_at false row rows name same = same

pub means : (rows : List Row) (name : Name) → meaning_of_row (row_of rows name) ≡ meaning_of (entries rows) name
means [] name = refl
means (r ∷ rows) name = meaning_at (bytes_eq name (string_bytes r.name)) r rows name (means rows name)

pub means_some : (rows : List Row) (name : Name) (row : Row) → row_of rows name ≡ Some row → meaning_of (entries rows) name ≡ Some row.meaning
means_some rows name row e = sym (means rows name) ∙ ap meaning_of_row e

pub means_none : (rows : List Row) (name : Name) → row_of rows name ≡ None → meaning_of (entries rows) name ≡ None
means_none rows name e = sym (means rows name) ∙ ap meaning_of_row e

-- ---- how many names are older

step_array : (x : Meaning) (c : Counts) → (counted c x).arrays ≡ (if is_array x then suc c.arrays else c.arrays)
step_array (Constant z) c = refl
step_array (Array kind length) c = omega arith
step_array (Function f) c = refl
step_array (Value kind) c = refl
step_array (View kind) c = refl

step_function : (x : Meaning) (c : Counts) → (counted c x).functions ≡ (if is_function x then suc c.functions else c.functions)
step_function (Constant z) c = refl
step_function (Array kind length) c = refl
step_function (Function f) c = omega arith
step_function (Value kind) c = refl
step_function (View kind) c = refl

step_value : (x : Meaning) (c : Counts) → (counted c x).values ≡ (if is_value x then suc c.values else c.values)
step_value (Constant z) c = refl
step_value (Array kind length) c = refl
step_value (Function f) c = refl
step_value (Value kind) c = omega arith
step_value (View kind) c = refl

-- a row that is of a sort has the number of those older ones
abbrev pub older_of : (Meaning → Bool) → (Counts → ℕ) → Option Row → Option ℕ
older_of is_one part None = None
older_of is_one part (Some row) = if is_one row.meaning then Some (part row.older) else None

module _ (is_one : Meaning → Bool) (part : Counts → ℕ) (starts : part (counts []) ≡ 0)
    (step : (x : Meaning) (c : Counts) → part (counted c x) ≡ (if is_one x then suc (part c) else part c)) where
  count_step : (b : Bool) (n m : ℕ) → n ≡ m → (if b then suc n else n) ≡ cond b 1 0 + m
  count_step true n m e = omega (arith, e)
  count_step false n m e = omega (arith, e)

  counted_all : (rows : List Row) → part (counts rows) ≡ count_by (λ (e : Entry). is_one e.1) (entries rows)
  counted_all [] = starts
  counted_all (r ∷ rows) = step r.meaning (counts rows) ∙ count_step (is_one r.meaning) (part (counts rows)) (count_by (λ (e : Entry). is_one e.1) (entries rows)) (counted_all rows)
      ∙ sym (sum_by-cons (λ (e : Entry). cond (is_one e.1) 1 0) (entry r) (entries rows))

  number_here : (b : Bool) (row : Row) (rows : List Row) → row.older ≡ counts rows
      → (if b then Some (count_by (λ (e : Entry). is_one e.1) (entries rows)) else None) ≡ (if b then Some (part row.older) else None)
  number_here true row rows same = ap Some (sym (counted_all rows) ∙ ap part (sym same))
  number_here false row rows same = refl

  number_at : (b : Bool) (row : Row) (rows : List Row) (name : Name) → row.older ≡ counts rows
      → number_among is_one (entries rows) name ≡ older_of is_one part (row_of rows name)
      → (if b then (if is_one row.meaning then Some (count_by (λ (e : Entry). is_one e.1) (entries rows)) else None) else number_among is_one (entries rows) name)
      ≡ older_of is_one part (if b then Some row else row_of rows name)
  number_at true row rows name same below = number_here (is_one row.meaning) row rows same
  number_at false row rows name same below = below

  -- the number of a name is that in its latest row
  numbered : (rows : List Row) (name : Name) → AreLinked rows → number_among is_one (entries rows) name ≡ older_of is_one part (row_of rows name)
  numbered [] name linked = refl
  numbered (r ∷ rows) name linked = number_at (bytes_eq name (string_bytes r.name)) r rows name linked.0 (numbered rows name linked.2)

pub array_numbered : (rows : List Row) (name : Name) → AreLinked rows → number_among is_array (entries rows) name ≡ older_of is_array (λ c. c.arrays) (row_of rows name)
array_numbered = numbered is_array (λ c. c.arrays) refl step_array

pub function_numbered : (rows : List Row) (name : Name) → AreLinked rows → number_among is_function (entries rows) name ≡ older_of is_function (λ c. c.functions) (row_of rows name)
function_numbered = numbered is_function (λ c. c.functions) refl step_function

pub value_numbered : (rows : List Row) (name : Name) → AreLinked rows → number_among is_value (entries rows) name ≡ older_of is_value (λ c. c.values) (row_of rows name)
value_numbered = numbered is_value (λ c. c.values) refl step_value

-- ---- no count passes the number of rows

pub record AreFew (c : Counts) (n : ℕ) : Type 0 where
  pub arrays : c.arrays ≤ n
  pub functions : c.functions ≤ n
  pub values : c.values ≤ n

few_more : (x : Meaning) (c : Counts) (n : ℕ) → AreFew c n → AreFew (counted c x) (suc n)
few_more (Constant z) c n f = record { arrays = omega (arith, f.arrays); functions = omega (arith, f.functions); values = omega (arith, f.values) }
few_more (Array kind length) c n f = record { arrays = omega (arith, f.arrays); functions = omega (arith, f.functions); values = omega (arith, f.values) }
few_more (Function g) c n f = record { arrays = omega (arith, f.arrays); functions = omega (arith, f.functions); values = omega (arith, f.values) }
few_more (Value kind) c n f = record { arrays = omega (arith, f.arrays); functions = omega (arith, f.functions); values = omega (arith, f.values) }
few_more (View kind) c n f = record { arrays = omega (arith, f.arrays); functions = omega (arith, f.functions); values = omega (arith, f.values) }

pub are_few : (rows : List Row) → AreFew (counts rows) (length rows)
are_few [] = record { arrays = omega arith; functions = omega arith; values = omega arith }
are_few (r ∷ rows) = few_more r.meaning (counts rows) (length rows) (are_few rows)

-- ---- constants

bounded_here : (b : Bool) (row other : Row) (rows : List Row) (name : Name) → IsTrue (is_in_bounds row.meaning)
    → (row_of rows name ≡ Some other → IsTrue (is_in_bounds other.meaning))
    → (if b then Some row else row_of rows name) ≡ Some other → IsTrue (is_in_bounds other.meaning)
bounded_here true row other rows name here below e = let same : row ≡ other = cc in subst (λ (r : Row). IsTrue (is_in_bounds r.meaning)) same here
bounded_here false row other rows name here below e = below e

-- each row has numbers in bounds
pub bounded_row : (rows : List Row) (name : Name) (row : Row) → AreBounded rows → row_of rows name ≡ Some row → IsTrue (is_in_bounds row.meaning)
bounded_row [] name row all e = absurd (cc)
bounded_row (r ∷ rows) name row all e = bounded_here (bytes_eq name (string_bytes r.name)) r row rows name all.0 (bounded_row rows name row all.1) e

-- ---- a row more, and one less

agree : (b c : Bool) → (b ≡ true → c ≡ true) → (c ≡ true → b ≡ true) → b ≡ c
agree true true f g = refl
agree false false f g = refl
agree true false f g = sym (f refl)
agree false true f g = g refl

same_test : (x y : Name) → bytes_eq x y ≡ bytes_eq y x
same_test x y = agree (bytes_eq x y) (bytes_eq y x) (λ e. (bytes_eq-Decides y x).1 (sym ((bytes_eq-Decides x y).0 e))) (λ e. (bytes_eq-Decides x y).1 (sym ((bytes_eq-Decides y x).0 e)))

at_other : (b c : Bool) → b ≡ c → (n : ℕ) (x : Option ℕ) → (if b then Some n else x) ≡ (if c then Some n else x)
at_other b c e n x = ap (λ (t : Bool). if t then Some n else x) e

module _ {A : Type 0} (rows : List Row) (old new : BTreeMap (String A) ℕ) (row : Row) where
  pub entered : (name : Name) (place : ℕ) → name ≡ string_bytes row.name → place ≡ length rows → IsTracked (reverse rows) old
      → (row.older ≡ counts (reverse rows)) × (row.hidden ≡ place_of (reverse rows) (string_bytes row.name))
      → IsTrue (is_in_bounds row.meaning) → IsPut old new name (Some place) → IsTracked (reverse (rows ++ row ∷ [])) new
  entered name place e at tracked linked bounded put = subst (λ (rs : List Row). IsTracked rs new) (sym (one_more rows row)) (record {
    linked = (linked.0, linked.1, tracked.linked);
    placed = λ other.
        put other
        ∙ at_other (bytes_eq name other) (bytes_eq other (string_bytes row.name)) (same_test name other ∙ ap (bytes_eq other) e) place (get_by_text old other)
        ∙ ap (λ (x : Option ℕ). if bytes_eq other (string_bytes row.name) then Some place else x) (tracked.placed other)
        ∙ ap (λ (n : ℕ). if bytes_eq other (string_bytes row.name) then Some n else place_of (reverse rows) other) (at ∙ sym (length-reverse rows));
    bounded = (bounded, tracked.bounded);
  })

pub unchanged : {A : Type 0} (rows : List Row) (old new : BTreeMap (String A) ℕ) → IsTracked rows old → IsUnchanged old new → IsTracked rows new
unchanged rows old new tracked same = record { linked = tracked.linked; placed = λ name. same name ∙ tracked.placed name; bounded = tracked.bounded }

-- ---- the last of the rows in their order

pub split_last : (rows : List Row) (row : Row) → slice_get rows (length rows - 1) ≡ Some row → (front : List Row) × (rows ≡ front ++ row ∷ [])
split_last [] row e = absurd (cc)
split_last (r ∷ []) row e = let same : r ≡ row = cc in ([], ap (λ (x : Row). x ∷ []) same)
split_last (r ∷ s ∷ rows) row e =
    let n : length (r ∷ s ∷ rows) - 1 ≡ suc (length (s ∷ rows) - 1) = omega arith in
    let below : slice_get (s ∷ rows) (length (s ∷ rows) - 1) ≡ Some row = ap (slice_get (r ∷ s ∷ rows)) (sym n) ∙ e in
    let f = split_last (s ∷ rows) row below in (r ∷ f.0, ap (λ (xs : List Row). r ∷ xs) f.1)

pub split_none : (rows : List Row) → slice_get rows (length rows - 1) ≡ None → rows ≡ []
split_none [] e = refl
split_none (r ∷ []) e = absurd (cc)
split_none (r ∷ s ∷ rows) e =
    let n : length (r ∷ s ∷ rows) - 1 ≡ suc (length (s ∷ rows) - 1) = omega arith in
    let below : slice_get (s ∷ rows) (length (s ∷ rows) - 1) ≡ None = ap (slice_get (r ∷ s ∷ rows)) (sym n) ∙ e in
    absurd (let no = split_none (s ∷ rows) below in cc)

pub last_row : (rows : List Row) (row : Row) (front : List Row) → rows ≡ front ++ row ∷ [] → AreLinked (reverse rows)
    → (reverse rows ≡ row ∷ reverse front) × (row.older ≡ counts (reverse front)) × AreFew row.older (length front)
last_row rows row front e linked =
    let turned : reverse rows ≡ row ∷ reverse front = ap reverse e ∙ one_more front row in
    let parts = subst AreLinked turned linked in
    (turned, parts.0, subst (λ (n : ℕ). AreFew row.older n) (length-reverse front) (subst (λ (c : Counts). AreFew c (length (reverse front))) (sym parts.0) (are_few (reverse front))))

pub last_few : (rows : List Row) (row : Row) → slice_get rows (length rows - 1) ≡ Some row → AreLinked (reverse rows) → length rows < 2 ^ 64
    → (row.older.arrays < 2 ^ 64 - 1) × (row.older.functions < 2 ^ 64 - 1) × (row.older.values < 2 ^ 64 - 1)
last_few rows row e linked small =
    let f = split_last rows row e in
    let l : length rows ≡ length f.0 + 1 = ap length f.1 ∙ length-append f.0 (row ∷ []) in
    let few = (last_row rows row f.0 f.1 linked).2 in
    (omega (arith, l, few.arrays), omega (arith, l, few.functions), omega (arith, l, few.values))

pub last_counts : (rows : List Row) (row : Row) → slice_get rows (length rows - 1) ≡ Some row → AreLinked (reverse rows) → counted row.older row.meaning ≡ counts (reverse rows)
last_counts rows row e linked =
    let f = split_last rows row e in
    let at = last_row rows row f.0 f.1 linked in
    ap (λ (c : Counts). counted c row.meaning) at.1 ∙ sym (ap counts at.0)

-- ---- without its last row

back_at : (b c : Bool) → b ≡ c → (m : ℕ) (x y : Option ℕ) → (c ≡ true → x ≡ y) → (if b then x else (if c then Some m else y)) ≡ y
back_at true true e m x y same = same refl
back_at false false e m x y same = refl
back_at true false e m x y same = absurd (cc)
back_at false true e m x y same = absurd (cc)

module _ {A : Type 0} (rows : List Row) (old new : BTreeMap (String A) ℕ) (row : Row) where
  left : IsTracked (row ∷ rows) old → IsPut old new (string_bytes row.name) row.hidden → IsTracked rows new
  left tracked put = record {
    linked = tracked.linked.2;
    placed = λ other.
        put other
        ∙ ap (λ (x : Option ℕ). if bytes_eq (string_bytes row.name) other then row.hidden else x) (tracked.placed other)
        ∙ back_at (bytes_eq (string_bytes row.name) other) (bytes_eq other (string_bytes row.name)) (same_test (string_bytes row.name) other) (length rows) row.hidden (place_of rows other)
        (λ same. tracked.linked.1 ∙ ap (place_of rows) (sym ((bytes_eq-Decides other (string_bytes row.name)).0 same)));
    bounded = tracked.bounded.1;
  }

pub left_row : {A : Type 0} (rows front : List Row) (old new : BTreeMap (String A) ℕ) (row : Row) (name : Name) (place : Option ℕ)
    → rows ≡ front ++ row ∷ [] → IsTracked (reverse rows) old → name ≡ string_bytes row.name → row.hidden ≡ place → IsPut old new name place → IsTracked (reverse front) new
left_row rows front old new row name place e tracked named hidden put =
    left (reverse front) old new row
    (subst (λ (rs : List Row). IsTracked rs old) (ap reverse e ∙ one_more front row) tracked)
    (subst (λ (p : Option ℕ). IsPut old new (string_bytes row.name) p) (sym hidden) (subst (λ (n : Name). IsPut old new n place) named put))

pub in_bounds_small : (z : ℤ) → IsTrue (is_in_bounds (Constant z)) → nat_abs z < 2 ^ 64
in_bounds_small z h = grind (arith, ints, h)

pub in_bounds_fits : (z : ℤ) → IsTrue (is_in_bounds (Constant z)) → nat_abs (to_z w128 (of_z w128 z)) < 2 ^ 64
in_bounds_fits z h =
    let small = in_bounds_small z h in
    let fits : SFits w128 z = grind (arith, ints, small) in
    subst (λ (y : ℤ). nat_abs y < 2 ^ 64) (sym (to_z-of_z w128 z fits)) small
