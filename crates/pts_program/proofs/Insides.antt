-- Every point of a program is in its array.
use Rattle.std.proofs.Common.{IsTrue, ◌≡◌, ℕ, zero, suc, ◌+◌, ◌^◌, ◌<◌, ◌≤◌, true, false, ℤ, pos, negsuc, Some, None, List, [], ◌∷◌, ◌++◌, map, length, take, get_or, slice_get, refl, sym, ap, subst, ◌∙◌, arith, length-append, append-nil, append_assoc}
use Rattle.std.specs.Prelude.{Option, ◌&&◌, ◌≤ℤ◌, ◌<ℤ◌, not, nat_lt, All}
use Rattle.std.specs.Ordering.{int_eq}
use Rattle.std.proofs.Math.Seq.{take-append_seam}
use Rattle.std.proofs.lemmas.Bool.Decides.{nat_tests}
use Rattle.std.proofs.lemmas.Int.{ints}
use Rattle.std.proofs.lemmas.Bool.{and_parts, false≢true}
use Rattle.std.proofs.lemmas.List.{map-append, length-map, length-replicate}
use Rattle.std.proofs.lemmas.List.FromFn.{length-map-range_with_len}
use Rattle.std.proofs.lemmas.List.Elements.{All-nil, All-cons, All-append}
use Rattle.pts_tree.specs.declared.script.ArrayDecl.{ArrayDecl}
use Rattle.pts_tree.specs.declared.script.Start.{Start}
use Rattle.pts_tree.specs.declared.script.Start.TheVariants as starts
use Rattle.pts_tree.specs.declared.script.Item.{Item}
use Rattle.pts_tree.specs.declared.script.Item.TheVariants as items
use Rattle.pts_tree.specs.declared.script.Script.{Script}
use Rattle.pts_affine.specs.Lines.{cell}
use Rattle.pts_rules.specs.Known.{Scope, has, is_place, natural, number, sum_is, sum_value}
use Rattle.pts_rules.specs.Limits.{cells}
use Rattle.pts_rules.specs.Mistyped.{start_right}
use Rattle.pts_rules.specs.Scopes.{after, known}
use Rattle.pts_rules.specs.Steps.{list_differs}
use Rattle.pts_syntax.proofs.Writable.{few_items}
use Rattle.pts_starts.specs.Starts.{start_cells, value_of_val}
use Rattle.pts_points.specs.declared.point.PointInfo.{PointInfo}
use Rattle.pts_points.specs.Inside.{HasRoom, IsInside, lengths}
use Rattle.pts_points.specs.Inside as scoped
use Rattle.pts_points.specs.Points.{points_of}
use Rattle.pts_points.proofs.SoundItems.{points_inside}
use Rattle.pts_program.specs.declared.info.ArrayInfo.{ArrayInfo}
use Rattle.pts_program.specs.declared.lists.Lists.{Lists}
use Rattle.pts_program.specs.Faults.{IsClean, IsCleanAt, IsSound as IsScriptSound}
use Rattle.pts_program.specs.Lists.{arrays_of, no_lists, with_item, with_items, IsProgram}
use Rattle.pts_program.specs.Ranges.{IsInRange, IsOfKind, length_at}
use Rattle.pts_program.proofs.CellKinds.{kinds_more}
use Rattle.pts_program.proofs.Declared.{known_more}
use Rattle.pts_program.proofs.Decisions.{clean-at}
use Rattle.pts_program.proofs.Keeping.{Keeps, keeps_all}
use Rattle.pts_program.proofs.SoundStatements.{sound_statements}

-- ---- lengths of arrays

abbrev pub size : ArrayInfo → ℤ
size a = pos (length a.cells)

-- a length by the number of its array, and in the list of all lengths
length_read : (arrays : List ArrayInfo) (n : ℕ) → get_or (map size arrays) n (pos 0) ≡ pos (length_at arrays n)
length_read [] n = refl
length_read (a ∷ arrays) zero = refl
length_read (a ∷ arrays) (suc n) = length_read arrays n

-- more arrays behind those that are there change no length
length_kept : (arrays more : List ArrayInfo) (n : ℕ) → 1 ≤ length_at arrays n → length_at (arrays ++ more) n ≡ length_at arrays n
length_kept [] more n some = absurd (omega (arith, some))
length_kept (a ∷ arrays) more zero some = refl
length_kept (a ∷ arrays) more (suc n) some = length_kept arrays more n some

some_cell : (z : ℤ) (k : ℕ) → pos 0 ≤ℤ z → z <ℤ pos k → 1 ≤ k
some_cell z k low high = omega (arith, ints, low, high)

kept : (arrays more : List ArrayInfo) (point : PointInfo) → IsInRange arrays point → IsInRange (arrays ++ more) point
kept arrays more point h = record {
  cells = λ p within.
      let at = h.cells p within in
      let same = length_kept arrays more point.array (some_cell (cell point.line p) (length_at arrays point.array) at.0 at.1) in
      (at.0, subst (λ k. cell point.line p <ℤ pos k) (sym same) at.1);
  bounded = h.bounded;
}

all_kept : (arrays more : List ArrayInfo) (points : List PointInfo) → All (IsInRange arrays) points → All (IsInRange (arrays ++ more)) points
all_kept arrays more points h = λ k d within. kept arrays more _ (h k d within)

-- a point that is inside by the names is in range by the arrays
in_range : (scope : Scope) (arrays : List ArrayInfo) (point : PointInfo) → map size arrays ≡ lengths scope → IsInside scope point → IsInRange arrays point
in_range scope arrays point sizes h = record {
  cells = λ p within.
      let at = h.cells p within in
      let same : scoped.length_at scope point.array ≡ pos (length_at arrays point.array) = ap (λ ls. get_or ls point.array (pos 0)) (sym sizes) ∙ length_read arrays point.array in
      (at.0, subst (λ z. cell point.line p <ℤ z) same at.1);
  bounded = h.bounded;
}

all_in_range : (scope : Scope) (arrays : List ArrayInfo) (points : List PointInfo) → map size arrays ≡ lengths scope → All (IsInside scope) points → All (IsInRange arrays) points
all_in_range scope arrays points sizes h = λ k d within. in_range scope arrays _ sizes (h k d within)

-- ---- the length of a new array

not_negative : (z : ℤ) → is_place z ≡ true → pos (natural z) ≡ z
not_negative (pos n) h = refl
not_negative (negsuc n) h = absurd (grind (arith, h))

known_place : (scope : Scope) (x : ArrayDecl) → sum_is scope is_place x.length ≡ true → pos (natural (number scope x.length)) ≡ number scope x.length
known_place scope x h = by_value (sum_value scope x.length) h
  where
    by_value : (o : Option ℤ) → has is_place o ≡ true → pos (natural (elim o [ None ↦ pos 0 | Some z ↦ z ])) ≡ elim o [ None ↦ pos 0 | Some z ↦ z ]
    by_value None h = absurd (false≢true h)
    by_value (Some z) h = not_negative z h

same_length : (n : ℕ) (z : ℤ) → not (int_eq (pos n) z) ≡ false → pos n ≡ z
same_length n z h = grind (arith, ints, h)

pub start_length : (scope : Scope) (x : ArrayDecl) → IsTrue (sum_is scope is_place x.length) → list_differs scope x x.start ≡ false
    → pos (length (start_cells scope x.kind (natural (number scope x.length)) x.start)) ≡ number scope x.length
start_length scope x place whole = by_start x.start whole
  where
    count : ℕ
    count = natural (number scope x.length)

    known_count : pos count ≡ number scope x.length
    known_count = known_place scope x place

    by_start : (s : Start) → list_differs scope x s ≡ false → pos (length (start_cells scope x.kind count s)) ≡ number scope x.length
    by_start (starts.List xs) h = ap pos (length-map xs (value_of_val scope x.kind)) ∙ same_length (length xs) (number scope x.length) h
    by_start (starts.Fill y) h = ap pos (length-replicate count _) ∙ known_count
    by_start (starts.Iota y z) h = ap pos (length-map-range_with_len _ 0 count) ∙ known_count
    by_start (starts.Mix y) h = ap pos (length-map-range_with_len _ 0 count) ∙ known_count

-- ---- one item more

-- the arrays so far have the lengths that their names have, these are within the limits, and all points so far are in range
pub record AreInside (before : List Item) (lists : Lists) : Type 0 where
  pub sizes : map size lists.arrays ≡ lengths (known before)
  pub short : All (λ z. z ≤ℤ pos (2 ^ 20)) (lengths (known before))
  pub few : length (lengths (known before)) ≤ length before
  pub points : All (IsInRange lists.arrays) lists.points
  pub kinds : All IsOfKind lists.arrays

abbrev pub Sizes : Scope → Item → List ArrayInfo → Type 0
Sizes scope x arrays = map size (arrays ++ arrays_of scope x) ≡ lengths (after scope x)

no_array : (scope next : Scope) (arrays : List ArrayInfo) → map size arrays ≡ lengths scope → lengths next ≡ lengths scope → map size (arrays ++ []) ≡ lengths next
no_array scope next arrays sizes same = ap (map size) (append-nil arrays) ∙ sizes ∙ sym same

pub sizes_more : (before : List Item) (x : Item) (arrays : List ArrayInfo) → Keeps before x → map size arrays ≡ lengths (known before) → Sizes (known before) x arrays
sizes_more before (items.Const x) arrays keeps sizes = no_array (known before) (after (known before) (items.Const x)) arrays sizes (append-nil (lengths (known before)))
sizes_more before (items.Array x) arrays keeps sizes =
    let right : (sum_is (known before) is_place x.length && start_right (known before) x.kind (natural (number (known before) x.length)) x.start) ≡ true = keeps.right in
    let place : sum_is (known before) is_place x.length ≡ true = (and_parts _ _ right).0 in
    let count : ℤ = pos (length (start_cells (known before) x.kind (natural (number (known before) x.length)) x.start)) in
    map-append size arrays (arrays_of (known before) (items.Array x))
    ∙ ap (λ ls. ls ++ count ∷ []) sizes
    ∙ ap (λ z. lengths (known before) ++ z ∷ []) (start_length (known before) x place (keeps.lengths))
sizes_more before (items.Function x) arrays keeps sizes = no_array (known before) (after (known before) (items.Function x)) arrays sizes (append-nil (lengths (known before)))
sizes_more before (items.Call x) arrays keeps sizes = no_array (known before) (known before) arrays sizes refl
sizes_more before (items.Loop x) arrays keeps sizes = no_array (known before) (known before) arrays sizes refl
sizes_more before (items.Block x) arrays keeps sizes = no_array (known before) (known before) arrays sizes refl
sizes_more before (items.Print x) arrays keeps sizes = no_array (known before) (known before) arrays sizes refl

abbrev AreShort : Scope → Type 0
AreShort scope = All (λ z. z ≤ℤ pos (2 ^ 20)) (lengths scope)

within_limit : (z : ℤ) (held : ℕ) → natural z + held ≤ 2 ^ 20 → z ≤ℤ pos (2 ^ 20)
within_limit (pos n) held h = omega (arith, ints, h)
within_limit (negsuc n) held h = omega (arith, ints)

same_short : (scope : Scope) → AreShort scope → All (λ z. z ≤ℤ pos (2 ^ 20)) (lengths scope ++ [])
same_short scope h = subst (All (λ z. z ≤ℤ pos (2 ^ 20))) (sym (append-nil (lengths scope))) h

short_more : (before : List Item) (x : Item) → Keeps before x → AreShort (known before) → AreShort (after (known before) x)
short_more before (items.Const x) keeps h = same_short (known before) h
short_more before (items.Array x) keeps h =
    let few : nat_lt (2 ^ 20) (natural (number (known before) x.length) + cells (known before)) ≡ false = keeps.few in
    All-append (λ z. z ≤ℤ pos (2 ^ 20)) (lengths (known before)) (number (known before) x.length ∷ []) h
    (All-cons (λ z. z ≤ℤ pos (2 ^ 20)) (number (known before) x.length) []
    (within_limit (number (known before) x.length) (cells (known before)) (grind (arith, nat_tests, few))) (All-nil (λ z. z ≤ℤ pos (2 ^ 20))))
short_more before (items.Function x) keeps h = same_short (known before) h
short_more before (items.Call x) keeps h = h
short_more before (items.Loop x) keeps h = h
short_more before (items.Block x) keeps h = h
short_more before (items.Print x) keeps h = h

few_more : (scope : Scope) (x : Item) (n : ℕ) → length (lengths scope) ≤ n → length (lengths (after scope x)) ≤ n + 1
few_more scope (items.Const x) n h = let e = length-append (lengths scope) [] in omega (arith, e, h)
few_more scope (items.Array x) n h = let e = length-append (lengths scope) (number scope x.length ∷ []) in omega (arith, e, h)
few_more scope (items.Function x) n h = let e = length-append (lengths scope) [] in omega (arith, e, h)
few_more scope (items.Call x) n h = omega (arith, h)
few_more scope (items.Loop x) n h = omega (arith, h)
few_more scope (items.Block x) n h = omega (arith, h)
few_more scope (items.Print x) n h = omega (arith, h)

pub inside_more : (before : List Item) (x : Item) (lists : Lists) → Keeps before x → length before < 2 ^ 32 → AreInside before lists
    → AreInside (before ++ x ∷ []) (with_item (known before) (length before + 1) lists x)
inside_more before x lists keeps room h =
    let next = known_more before x in
    let has_room : HasRoom (known before) = record { short = h.short; few = let f = h.few in omega (arith, f, room) } in
    let new = points_of (known before) (length before + 1) (length lists.calls) x in
    let new_inside : All (IsInside (known before)) new = points_inside (known before) has_room (length before + 1) (length lists.calls) x (sound_statements before x keeps) in
    record {
      sizes = sizes_more before x lists.arrays keeps h.sizes ∙ ap lengths (sym next);
      short = subst AreShort (sym next) (short_more before x keeps h.short);
      few = let f = few_more (known before) x (length before) h.few in let e = length-append before (x ∷ []) in let s = ap (λ sc. length (lengths sc)) next in omega (arith, f, e, s);
      points =
          All-append (IsInRange (lists.arrays ++ arrays_of (known before) x)) lists.points new
          (all_kept lists.arrays (arrays_of (known before) x) lists.points h.points)
          (all_kept lists.arrays (arrays_of (known before) x) new (all_in_range (known before) lists.arrays new h.sizes new_inside));
      kinds = kinds_more before x lists.arrays keeps h.kinds;
    }

-- ---- all items

-- each of these items breaks no rule behind those before it
abbrev pub AllKeep : List Item → List Item → Type 0
AllKeep before [] = Unit {0}
AllKeep before (x ∷ rest) = Keeps before x × AllKeep (before ++ x ∷ []) rest

item_between : (before : List Item) (x : Item) (rest : List Item) → slice_get (before ++ x ∷ rest) (length before) ≡ Some x
item_between [] x rest = refl
item_between (y ∷ before) x rest = item_between before x rest

pub all_keep : (script : Script) (before rest behind : List Item) → script.items ≡ before ++ (rest ++ behind)
    → ((m : ℕ) → m ≤ length before + length rest → IsCleanAt script m) → AllKeep before rest
all_keep script before [] behind is clean = tt
all_keep script before (x ∷ rest) behind is clean =
    let here : slice_get script.items (length before) ≡ Some x = ap (λ xs. slice_get xs (length before)) is ∙ item_between before x (rest ++ behind) in
    let front : take (length before) script.items ≡ before = ap (take (length before)) is ∙ take-append_seam before (x ∷ (rest ++ behind)) in
    let size = length-append before (x ∷ []) in (
      keeps_all script.version before x (subst (λ xs. IsClean script.version xs x) front ((clean-at script (length before) x here).0 (clean (length before + 1) (omega arith)))),
      all_keep script (before ++ x ∷ []) rest behind (is ∙ sym (append_assoc before (x ∷ []) (rest ++ behind))) (λ m le. clean m (omega (arith, le, size))),
    )

inside_all : (before rest : List Item) (lists : Lists) → AllKeep before rest → length before + length rest ≤ 2 ^ 32 → AreInside before lists
    → AreInside (before ++ rest) (with_items before lists rest)
inside_all before [] lists keeps room h = subst (λ xs. AreInside xs lists) (sym (append-nil before)) h
inside_all before (x ∷ rest) lists keeps room h =
    let more = inside_more before x lists keeps.0 (omega (arith, room)) h in
    let size = length-append before (x ∷ []) in
    subst (λ xs. AreInside xs (with_items (before ++ x ∷ []) (with_item (known before) (length before + 1) lists x) rest)) (append_assoc before (x ∷ []) rest)
    (inside_all (before ++ x ∷ []) rest (with_item (known before) (length before + 1) lists x) keeps.1 (omega (arith, room, size)) more)

-- the items of a script that breaks no rule
pub all_items_keep : (script : Script) → IsScriptSound script → AllKeep [] script.items
all_items_keep script sound = all_keep script [] script.items [] (sym (append-nil script.items)) (λ m le. sound m)

none_inside : AreInside [] no_lists
unfolding known
none_inside = record { sizes = refl; short = All-nil (λ z. z ≤ℤ pos (2 ^ 20)); few = omega arith; points = All-nil (IsInRange []); kinds = All-nil IsOfKind }

pub program_inside : (lists : Lists) → IsProgram lists → (before : List Item) × AreInside before lists
program_inside lists h = (
  h.script.items,
  subst (AreInside h.script.items) (sym h.made)
      (inside_all [] h.script.items no_lists (all_items_keep h.script h.sound) (let few = few_items h.script h.spelled in omega (arith, few)) none_inside),
)

-- every point of a program is in range
pub points_in_range : (lists : Lists) → IsProgram lists → All (IsInRange lists.arrays) lists.points
points_in_range lists h = (program_inside lists h).1.points

-- every cell has the kind of its array
pub kinds_agree : (lists : Lists) → IsProgram lists → All IsOfKind lists.arrays
kinds_agree lists h = (program_inside lists h).1.kinds

-- the scope that the first items leave has room, where these break no rule
pub scope_room : (script : Script) (front behind : List Item) → script.items ≡ front ++ behind → ((m : ℕ) → m ≤ length front → IsCleanAt script m)
    → length front < 2 ^ 32 → HasRoom (known front)
scope_room script front behind is clean short =
    let keep = all_keep script [] front behind is (λ m le. clean m (omega (arith, le))) in
    let inside = inside_all [] front no_lists keep (omega (arith, short)) none_inside in
    record { short = inside.short; few = let f = inside.few in omega (arith, f, short) }
