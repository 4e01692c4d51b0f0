-- Lines that stay in their arrays: their numbers are kept as they are.
use Rattle.std.proofs.Common.{◌≡◌, ℕ, zero, suc, ◌+◌, ◌-◌, ◌^◌, ◌<◌, ◌≤◌, true, false, ℤ, pos, neg_ℤ, ◌+ℤ◌, ◌*ℤ◌, Option, Some, None, List, [], ◌∷◌, ◌++◌, length, get_or, refl, sym, ap, subst, ◌∙◌, arith}
use Rattle.std.specs.Prelude.{◌≤ℤ◌, ◌<ℤ◌, count_by, is_some, option_and_then, cond, if◌then◌else◌, All}
use Rattle.std.proofs.lemmas.Int.{ints}
use Rattle.std.proofs.lemmas.List.Elements.{All-get_or}
use Rattle.std.proofs.lemmas.List.Sums.{sum_by-cons}
use Rattle.std.specs.Str.{bytes_eq}
use Rattle.std.proofs.Math.Seq.{get_or-append_seam}
use Rattle.std.proofs.lemmas.List.{get_or_append_left, length-append}
use Rattle.pts_types.specs.declared.value.Kind.{Kind}
use Rattle.pts_types.specs.Arithmetic.{least_i64, greatest_i64}
use Rattle.pts_affine.specs.declared.line.Line.{Line}
use Rattle.pts_affine.specs.Lines.{cell}
use Rattle.pts_rules.specs.Parts.{Name}
use Rattle.pts_rules.specs.Known.{Scope, as_array, is_array, array_number, meaning_of}
use Rattle.pts_rules.specs.Indices.{leaves, Along, length_of}
use Rattle.pts_points.specs.Lines.{array_at}
use Rattle.pts_points.specs.Widths.{clamp, small}
use Rattle.pts_points.specs.Building.{kept_line}
use Rattle.pts_points.specs.Inside.{lengths, length_at, IsWithin, HasRoom}

-- ---- numbers that are kept

pub clamp_same : (z : ℤ) → least_i64 ≤ℤ z → z ≤ℤ greatest_i64 → clamp z ≡ z
clamp_same z low high = grind (arith, low, high)

pub small_same : (n : ℕ) → n ≤ 2 ^ 32 - 1 → small n ≡ n
small_same n h = grind (arith, h)

-- ---- the cells of a line

pub in_array : (line : Line) (size : ℤ) (p : ℕ) → leaves p (Along line size) ≡ false → p < line.n → (pos 0 ≤ℤ cell line p) × (cell line p <ℤ size)
in_array line size p h within = grind (arith, h, within)

first_is : (c d : ℤ) → c *ℤ pos 0 +ℤ d ≡ d
first_is c d = omega (arith, ints)

next_is : (c d : ℤ) → c *ℤ pos 1 +ℤ d ≡ c +ℤ d
next_is c d = omega (arith, ints)

first_low : (c d : ℤ) → pos 0 ≤ℤ (c *ℤ pos 0 +ℤ d) → pos 0 ≤ℤ d
first_low c d h = subst (λ z. pos 0 ≤ℤ z) (first_is c d) h

first_high : (c d size : ℤ) → (c *ℤ pos 0 +ℤ d) <ℤ size → d <ℤ size
first_high c d size h = subst (λ z. z <ℤ size) (first_is c d) h

next_low : (c d : ℤ) → pos 0 ≤ℤ (c *ℤ pos 1 +ℤ d) → pos 0 ≤ℤ (c +ℤ d)
next_low c d h = subst (λ z. pos 0 ≤ℤ z) (next_is c d) h

next_high : (c d size : ℤ) → (c *ℤ pos 1 +ℤ d) <ℤ size → (c +ℤ d) <ℤ size
next_high c d size h = subst (λ z. z <ℤ size) (next_is c d) h

below : (d size : ℤ) → d <ℤ size → size ≤ℤ pos (2 ^ 20) → d <ℤ pos (2 ^ 20)
below d size high short = omega (arith, ints, high, short)

falling : (c d size : ℤ) → d <ℤ size → size ≤ℤ pos (2 ^ 20) → pos 0 ≤ℤ (c +ℤ d) → neg_ℤ (pos (2 ^ 20)) ≤ℤ c
falling c d size high short next = omega (arith, ints, high, short, next)

rising : (c d size : ℤ) → pos 0 ≤ℤ d → size ≤ℤ pos (2 ^ 20) → (c +ℤ d) <ℤ size → c <ℤ pos (2 ^ 20)
rising c d size low short next = omega (arith, ints, low, short, next)

-- what is known of the first two cells of a line with n positions
record Start (line : Line) : Type 0 where
  low : pos 0 ≤ℤ line.d
  high : line.d <ℤ pos (2 ^ 20)
  falls : neg_ℤ (pos (2 ^ 20)) ≤ℤ line.c
  rises : line.c <ℤ pos (2 ^ 20)

starts : (line : Line) (size : ℤ) → size ≤ℤ pos (2 ^ 20) → (line.n ≤ 1 → line.c ≡ pos 0) → (line.n ≡ 0 → line.d ≡ pos 0)
    → ((p : ℕ) → leaves p (Along line size) ≡ false) → (n : ℕ) → line.n ≡ n → Start line
starts line size short level still stays zero is =
    let c : line.c ≡ pos 0 = level (omega (arith, is)) in
    let d : line.d ≡ pos 0 = still is in
    record { low = grind (arith, d); high = grind (arith, d); falls = grind (arith, c); rises = grind (arith, c) }
starts line size short level still stays (suc zero) is =
    let c : line.c ≡ pos 0 = level (omega (arith, is)) in
    let h : (pos 0 ≤ℤ cell line 0) × (cell line 0 <ℤ size) = in_array line size 0 (stays 0) (omega (arith, is)) in
    record { low = first_low line.c line.d h.0; high = below line.d size (first_high line.c line.d size h.1) short; falls = grind (arith, c); rises = grind (arith, c) }
starts line size short level still stays (suc (suc k)) is =
    let h : (pos 0 ≤ℤ cell line 0) × (cell line 0 <ℤ size) = in_array line size 0 (stays 0) (omega (arith, is)) in
    let j : (pos 0 ≤ℤ cell line 1) × (cell line 1 <ℤ size) = in_array line size 1 (stays 1) (omega (arith, is)) in
    let low : pos 0 ≤ℤ line.d = first_low line.c line.d h.0 in
    let high : line.d <ℤ size = first_high line.c line.d size h.1 in
    record {
      low = low;
      high = below line.d size high short;
      falls = falling line.c line.d size high short (next_low line.c line.d j.0);
      rises = rising line.c line.d size low short (next_high line.c line.d size j.1);
    }

few_in_word : (n : ℕ) → n ≤ 2 ^ 20 → n ≤ 2 ^ 32 - 1
few_in_word n h = omega (arith, h)

-- a line that stays in its array loses nothing
pub line_same : (line : Line) (size : ℤ) → size ≤ℤ pos (2 ^ 20) → line.n ≤ 2 ^ 20 → (line.n ≤ 1 → line.c ≡ pos 0) → (line.n ≡ 0 → line.d ≡ pos 0)
    → ((p : ℕ) → leaves p (Along line size) ≡ false) → kept_line line ≡ line
line_same line size short few level still stays =
    let s : Start line = starts line size short level still stays line.n refl in
    let low : pos 0 ≤ℤ line.d = s.low in
    let high : line.d <ℤ pos (2 ^ 20) = s.high in
    let falls : neg_ℤ (pos (2 ^ 20)) ≤ℤ line.c = s.falls in
    let rises : line.c <ℤ pos (2 ^ 20) = s.rises in
    let c : clamp line.c ≡ line.c = clamp_same line.c (grind (arith, falls)) (grind (arith, rises)) in
    let d : clamp line.d ≡ line.d = clamp_same line.d (grind (arith, low)) (grind (arith, high)) in
    let n : small line.n ≡ line.n = small_same line.n (few_in_word line.n few) in
    λ i. record { c = c i; d = d i; n = n i }

-- ---- the numbers of arrays and their lengths

abbrev Numbered : List ℤ → Option ℕ → ℤ → Type 0
Numbered sizes None size = size ≡ pos 0
Numbered sizes (Some n) size = (get_or sizes n (pos 0) ≡ size) × (n < length sizes)

abbrev sizes_of : Option (Kind × ℤ) → List ℤ
sizes_of o = elim o [ None ↦ [] | Some x ↦ x.1 ∷ [] ]

abbrev size_in : Option (Kind × ℤ) → ℤ
size_in o = elim o [ None ↦ pos 0 | Some x ↦ x.1 ]

counted_by : (o : Option (Kind × ℤ)) (n : ℕ) (sizes : List ℤ) → n ≡ length sizes → cond (is_some o) 1 0 + n ≡ length (sizes ++ sizes_of o)
counted_by None n sizes e = let h : length (sizes ++ []) ≡ length sizes + 0 = length-append sizes [] in omega (arith, e, h)
counted_by (Some x) n sizes e = let h : length (sizes ++ x.1 ∷ []) ≡ length sizes + 1 = length-append sizes (x.1 ∷ []) in omega (arith, e, h)

counted : (scope : Scope) → count_by (λ e. is_array e.1) scope ≡ length (lengths scope)
counted [] = refl
counted (entry ∷ scope) =
    sum_by-cons (λ e. cond (is_array e.1) 1 0) entry scope
    ∙ counted_by (as_array entry.1) (count_by (λ e. is_array e.1) scope) (lengths scope) (counted scope)

here : (o : Option (Kind × ℤ)) (sizes : List ℤ) (n : ℕ) → n ≡ length sizes → Numbered (sizes ++ sizes_of o) (if is_some o then Some n else None) (size_in o)
here None sizes n e = refl
here (Some x) sizes n e =
    let h : length (sizes ++ x.1 ∷ []) ≡ length sizes + 1 = length-append sizes (x.1 ∷ []) in
    (ap (λ k. get_or (sizes ++ x.1 ∷ []) k (pos 0)) e ∙ get_or-append_seam sizes x.1 [] (pos 0), omega (arith, e, h))

later : (o : Option (Kind × ℤ)) (sizes : List ℤ) (r : Option ℕ) (size : ℤ) → Numbered sizes r size → Numbered (sizes ++ sizes_of o) r size
later o sizes None size h = h
later o sizes (Some n) size h =
    let k : length (sizes ++ sizes_of o) ≡ length sizes + length (sizes_of o) = length-append sizes (sizes_of o) in
    let l : n < length sizes = h.1 in
    (get_or_append_left sizes (sizes_of o) (pos 0) n h.1 ∙ h.0, omega (arith, k, l))

pub numbered : (scope : Scope) (name : Name) → Numbered (lengths scope) (array_number scope name) (length_of scope name)
numbered [] name = refl
numbered (entry ∷ scope) name =
    elim (bytes_eq name entry.0) as (λ t. Numbered (lengths (entry ∷ scope))
    (if t then (if is_array entry.1 then Some (count_by (λ e. is_array e.1) scope) else None) else array_number scope name)
    (size_in (option_and_then as_array (if t then Some entry.1 else meaning_of scope name)))) [
      | true ↦ here (as_array entry.1) (lengths scope) (count_by (λ e. is_array e.1) scope) (counted scope)
      | false ↦ later (as_array entry.1) (lengths scope) (array_number scope name) (length_of scope name) (numbered scope name)
    ]

found : (sizes : List ℤ) (r : Option ℕ) (size z : ℤ) → Numbered sizes r size → pos 0 ≤ℤ z → z <ℤ size → z <ℤ get_or sizes (elim r [ None ↦ 0 | Some n ↦ n ]) (pos 0)
found sizes None size z h low high = let e : size ≡ pos 0 = h in absurd (grind (arith, e, low, high))
found sizes (Some n) size z h low high = subst (λ s. z <ℤ s) (sym h.0) high

-- a cell of a named array is one of the array of its number
pub at_number : (scope : Scope) (name : Name) (z : ℤ) → pos 0 ≤ℤ z → z <ℤ length_of scope name → z <ℤ length_at scope (array_at scope name)
at_number scope name z low high = found (lengths scope) (array_number scope name) (length_of scope name) z (numbered scope name) low high

few_by : (sizes : List ℤ) (r : Option ℕ) (size : ℤ) → Numbered sizes r size → length sizes ≤ 2 ^ 32 - 1 → elim r [ None ↦ 0 | Some n ↦ n ] ≤ 2 ^ 32 - 1
few_by sizes None size h few = omega arith
few_by sizes (Some n) size h few = let l : n < length sizes = h.1 in omega (arith, l, few)

-- the number of an array is kept as it is
pub array_few : (scope : Scope) → HasRoom scope → (name : Name) → array_at scope name ≤ 2 ^ 32 - 1
array_few scope room name = few_by (lengths scope) (array_number scope name) (length_of scope name) (numbered scope name) room.few

pub array_same : (scope : Scope) (name : Name) (result : ℕ) → HasRoom scope → result ≡ small (array_at scope name) → result ≡ array_at scope name
array_same scope name result room e = e ∙ small_same (array_at scope name) (array_few scope room name)

short_by : (sizes : List ℤ) (r : Option ℕ) (size : ℤ) → Numbered sizes r size → All (λ z. z ≤ℤ pos (2 ^ 20)) sizes → size ≤ℤ pos (2 ^ 20)
short_by sizes None size h all = let e : size ≡ pos 0 = h in grind (arith, e)
short_by sizes (Some n) size h all = subst (λ s. s ≤ℤ pos (2 ^ 20)) h.0 (All-get_or (λ z. z ≤ℤ pos (2 ^ 20)) sizes n (pos 0) h.1 all)

pub is_short : (scope : Scope) → HasRoom scope → (name : Name) → length_of scope name ≤ℤ pos (2 ^ 20)
is_short scope room name = short_by (lengths scope) (array_number scope name) (length_of scope name) (numbered scope name) room.short

-- ---- lines within their arrays

-- a line that stays in a named array
pub within : (scope : Scope) → HasRoom scope → (name : Name) (line : Line) → line.n ≤ 2 ^ 20 → (line.n ≤ 1 → line.c ≡ pos 0)
    → ((p : ℕ) → p < line.n → (pos 0 ≤ℤ cell line p) × (cell line p <ℤ length_of scope name)) → IsWithin scope (array_at scope name) line
within scope room name line few level cells =
    let short : length_of scope name ≤ℤ pos (2 ^ 20) = is_short scope room name in
    record {
      cells = λ p h. ((cells p h).0, at_number scope name (cell line p) (cells p h).0 (cells p h).1);
      bounded = record {
        cells = λ p h. ((cells p h).0, (let high : cell line p <ℤ length_of scope name = (cells p h).1 in grind (arith, high, short)));
        positions = few;
        level = level;
      };
    }
