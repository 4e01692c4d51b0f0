-- What holds of each point of an item holds of each point of a program; and how many positions a call has.
use Rattle.std.proofs.Common.{◌≡◌, ℕ, ◌+◌, ◌^◌, ◌<◌, ◌≤◌, Some, List, [], ◌∷◌, length, pos, refl, arith}
use Rattle.std.specs.Prelude.{◌≤ℤ◌, All, slice_get}
use Rattle.std.proofs.lemmas.List.Elements.{All-head, All-nil, All-tail}
use Rattle.pts_syntax.proofs.Writable.{few_items}
use Rattle.pts_tree.specs.declared.script.Item.{Item}
use Rattle.pts_rules.specs.Known.{Scope}
use Rattle.pts_rules.specs.Parts.{Simple, Throw, Assign, Call, Loop, statements}
use Rattle.pts_rules.specs.Scopes.{known}
use Rattle.pts_points.specs.declared.point.CallInfo.{CallInfo}
use Rattle.pts_points.specs.declared.point.PointForm.TheVariants.{LiveOut, Into}
use Rattle.pts_points.specs.declared.point.PointInfo.{PointInfo}
use Rattle.pts_points.specs.Inside.{HasRoom, IsSound}
use Rattle.pts_points.specs.Points.{calls_from, calls_of, points_of, statement_piece}
use Rattle.pts_points.specs.Standings.{Ascends, IsCell}
use Rattle.pts_points.proofs.Each.{Each, all_of, at_place, both}
use Rattle.pts_points.proofs.PointLists.{into_shown, live_out_shown, tests_shown}
use Rattle.pts_points.proofs.SoundItems.{call_short, loop_short}
use Rattle.pts_program.specs.declared.lists.Lists.{Lists}
use Rattle.pts_program.specs.Lists.{no_lists, IsProgram}
use Rattle.pts_program.specs.Ranges.{IsInRange, IsOfKind}
use Rattle.pts_program.proofs.Insides.{AreInside, inside_more}
use Rattle.pts_program.proofs.ItemTurns.{IsTurn, by_items}
use Rattle.pts_program.proofs.SoundStatements.{sound_statements}
use Rattle.pts_layout.proofs.Items.{one_more}
use Rattle.pts_layout.proofs.Places.{each_by_place}

-- ---- each point

module _ (P : PointInfo → Type 0) (own : (scope : Scope) (item earlier : ℕ) (x : Item) (k : ℕ) (y : PointInfo) → slice_get (points_of scope item earlier x) k ≡ Some y → P y) where
  abbrev HoldsOf : List Item → Lists → Type 0
  HoldsOf before lists = Each P lists.points

  point_turn : IsTurn HoldsOf
  point_turn before x lists keeps written h =
      let new = points_of (known before) (length before + 1) (length lists.calls) x in
      both P lists.points new h (each_by_place P new (own (known before) (length before + 1) (length lists.calls) x))

  at_each_point : (lists : Lists) (j : ℕ) (x : PointInfo) → IsProgram lists → slice_get lists.points j ≡ Some x → P x
  at_each_point lists j x h at = at_place P lists.points j x (by_items HoldsOf point_turn tt lists h) at

pub live_out_cells : (lists : Lists) (j : ℕ) (x : PointInfo) → IsProgram lists → slice_get lists.points j ≡ Some x → x.form ≡ LiveOut → IsCell x.line
live_out_cells = at_each_point (λ x. x.form ≡ LiveOut → IsCell x.line) live_out_shown

pub into_cells : (lists : Lists) (j : ℕ) (x : PointInfo) → IsProgram lists → slice_get lists.points j ≡ Some x → x.form ≡ Into → IsCell x.line
into_cells = at_each_point (λ x. x.form ≡ Into → IsCell x.line) into_shown

pub tests_before : (lists : Lists) (j : ℕ) (x : PointInfo) → IsProgram lists → slice_get lists.points j ≡ Some x → Ascends 0 x.branches x.number
tests_before = at_each_point (λ x. Ascends 0 x.branches x.number) tests_shown

-- ---- positions

abbrev pub IsShort : CallInfo → Type 0
IsShort x = x.positions ≤ 2 ^ 20

calls_short : (scope : Scope) → HasRoom scope → (item n : ℕ) (xs : List Simple) → All (IsSound scope) xs → Each IsShort (calls_from scope item n xs)
calls_short scope room item n [] sound = tt
calls_short scope room item n (Throw code ∷ xs) sound =
    calls_short scope room item (n + (statement_piece scope (Throw code)).size) xs (All-tail (IsSound scope) (Throw code) xs sound)
calls_short scope room item n (Assign at x ∷ xs) sound =
    calls_short scope room item (n + (statement_piece scope (Assign at x)).size) xs (All-tail (IsSound scope) (Assign at x) xs sound)
calls_short scope room item n (Call x ∷ xs) sound = (
  call_short scope room x (All-head (IsSound scope) (Call x) xs sound),
  calls_short scope room item (n + (statement_piece scope (Call x)).size) xs (All-tail (IsSound scope) (Call x) xs sound),
)
calls_short scope room item n (Loop x ∷ xs) sound = (
  loop_short scope room x (All-head (IsSound scope) (Loop x) xs sound),
  calls_short scope room item (n + (statement_piece scope (Loop x)).size) xs (All-tail (IsSound scope) (Loop x) xs sound),
)

record AreShort (before : List Item) (lists : Lists) : Type 0 where
  pub inside : AreInside before lists
  pub short : Each IsShort lists.calls

-- for so few items that arrays have numbers of 32 bits
abbrev ShortOfFew : List Item → Lists → Type 0
ShortOfFew before lists = length before ≤ 2 ^ 32 → AreShort before lists

short_turn : IsTurn ShortOfFew
short_turn before x lists keeps written h few =
    let size = one_more before x in
    let old = h (omega (arith, few, size)) in
    let less : length before < 2 ^ 32 = omega (arith, few, size) in
    let arrays = old.inside.few in
    let room : HasRoom (known before) = record { short = old.inside.short; few = omega (arith, arrays, less) } in
    let new = calls_of (known before) (length before + 1) (length lists.calls) x in
    record {
      inside = inside_more before x lists keeps less old.inside;
      short = both IsShort lists.calls new old.short (calls_short (known before) room (length before + 1) 0 (statements x) (sound_statements before x keeps));
    }

none_inside : AreInside [] no_lists
unfolding known
none_inside = record { sizes = refl; short = All-nil (λ z. z ≤ℤ pos (2 ^ 20)); few = omega arith; points = All-nil (IsInRange []); kinds = All-nil IsOfKind }

nothing_short : ShortOfFew [] no_lists
nothing_short few = record { inside = none_inside; short = tt }

pub few_positions : (lists : Lists) → IsProgram lists → All (λ call. call.positions ≤ 2 ^ 20) lists.calls
few_positions lists h =
    let few = few_items h.script h.spelled in
    all_of IsShort lists.calls (by_items ShortOfFew short_turn nothing_short lists h (omega (arith, few))).short
