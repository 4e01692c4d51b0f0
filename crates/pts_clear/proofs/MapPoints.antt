-- The points of map calls in the lists of a program.
use Rattle.std.proofs.Common.{◌≡◌, ℕ, ◌-◌, ◌<◌, Option, Some, None, option_map, List, [], map, ℤ, pos, negsuc, ◌-ℤ◌, ◌≤ℤ◌, refl, ap, sym, ◌∙◌, subst, inl, inr, arith}
use Rattle.std.proofs.lemmas.Int.{ints}
use Rattle.std.specs.Prelude.{IfSome}
use Rattle.std.specs.List.{Contains}
use Rattle.std.proofs.lemmas.Bool.{cases_lt}
use Rattle.std.proofs.lemmas.List.{map-append}
use Rattle.std.proofs.lemmas.List.Elements.{Contains-append_left, Contains-append_right, Contains-push}
use Rattle.pts_affine.specs.declared.line.Line.{Line}
use Rattle.pts_tree.specs.declared.call.Call as call
use Rattle.pts_tree.specs.declared.call.CallForm.{CallForm}
use Rattle.pts_tree.specs.declared.call.CallForm.TheVariants as call_forms
use Rattle.pts_tree.specs.declared.sum.Range.{Range}
use Rattle.pts_rules.specs.Known.{Scope, natural, number}
use Rattle.pts_points.specs.declared.point.PointForm.{PointForm}
use Rattle.pts_points.specs.declared.point.PointForm.TheVariants as forms
use Rattle.pts_points.specs.declared.point.PointInfo.{PointInfo}
use Rattle.pts_points.specs.Lines.{cells_from, line_of_range}
use Rattle.pts_points.specs.Pieces.{Context, Piece, behind}
use Rattle.pts_points.specs.Points.{answer_piece, call_piece, info, own_piece, piece_of, source_piece, target_piece}
use Rattle.pts_lowering.specs.declared.forms.CellRange.{CellRange}
use Rattle.pts_lowering.specs.declared.forms.LoweredCall.{LoweredCall}
use Rattle.pts_lowering.specs.declared.forms.LoweredCall.TheVariants as lowered
use Rattle.pts_lowering.specs.Fitting.{HasCells, IsRange}
use Rattle.pts_lowering.specs.Forms.{call_by_form, needed_range, range_of}

-- ---- lines

abbrev pub line_of : CellRange → Line
line_of range = cells_from (pos range.low) (range.high - range.low)

natural_same : (z : ℤ) → pos 0 ≤ℤ z → pos (natural z) ≡ z
natural_same (pos n) h = refl
natural_same (negsuc n) h = absurd (omega (arith, h, ints))

natural_none : (z : ℤ) → z ≤ℤ pos 0 → natural z ≡ 0
natural_none (pos n) h = omega (arith, h, ints)
natural_none (negsuc n) h = refl

natural_minus : (l h : ℕ) → natural (pos h -ℤ pos l) ≡ h - l
natural_minus l h =
    elim (cases_lt h l) [
      | inl less ↦ (let none : (pos h -ℤ pos l) ≤ℤ pos 0 = omega (arith, less, ints) in natural_none (pos h -ℤ pos l) none ∙ (let e : 0 ≡ h - l = omega (arith, less) in e))
      | inr more ↦ (let e : pos h -ℤ pos l ≡ pos (h - l) = omega (arith, more, ints) in ap natural e)
    ]

same_line : (scope : Scope) (x : Range) → IsRange scope x → line_of_range scope x ≡ line_of (range_of scope x)
same_line scope x h =
    let low = natural_same (number scope x.low) h.low.low in
    let high = natural_same (number scope x.high) h.high.low in
    (λ i. cells_from (sym low i) (natural (sym high i -ℤ sym low i)))
    ∙ ap (cells_from (pos (natural (number scope x.low)))) (natural_minus (natural (number scope x.low)) (natural (number scope x.high)))

-- ---- points

-- a point of a call, of this form at these cells
pub record HasCellsOf (points : List PointInfo) (c : Option ℕ) (form : PointForm) (range : CellRange) : Type 0 where
  pub point : PointInfo
  pub there : Contains points point
  pub of_call : point.call ≡ c
  pub of_form : point.form ≡ form
  pub of_array : point.array ≡ range.array
  pub of_line : point.line ≡ line_of range

pub still_has : (points more : List PointInfo) (c : Option ℕ) (form : PointForm) (range : CellRange) → ((y : PointInfo) → Contains points y → Contains more y)
    → HasCellsOf points c form range → HasCellsOf more c form range
still_has points more c form range f h =
    record { point = h.point; there = f h.point h.there; of_call = h.of_call; of_form = h.of_form; of_array = h.of_array; of_line = h.of_line }

module _ (item : ℕ) where
  -- wherever a piece stands, it has such a point
  abbrev Has : PointForm → CellRange → Piece → Type 0
  Has form range x = (context : Context) (n m : ℕ) → HasCellsOf (map (info item) (x.points context n m)) context.call form range

  in_first : (form : PointForm) (range : CellRange) (x y : Piece) → Has form range x → Has form range (behind x y)
  in_first form range x y h context n m =
      subst (λ l. HasCellsOf l context.call form range) (sym (map-append (info item) (x.points context n m) _))
      (still_has (map (info item) (x.points context n m)) _ context.call form range (λ z. Contains-append_left (map (info item) (x.points context n m)) _ z) (h context n m))

  in_second : (form : PointForm) (range : CellRange) (x y : Piece) → Has form range y → Has form range (behind x y)
  in_second form range x y h context n m =
      subst (λ l. HasCellsOf l context.call form range) (sym (map-append (info item) (x.points context n m) _))
      (still_has _ _ context.call form range (λ z. Contains-append_right (map (info item) (x.points context n m)) _ z) (h _ _ _))

  module _ (scope : Scope) where
    source_has : (x : Range) → IsRange scope x → Has forms.Read (range_of scope x) (source_piece scope x)
    source_has x h context n m = record {
      point = _;
      there = Contains-push [] _;
      of_call = refl;
      of_form = refl;
      of_array = refl;
      of_line = same_line scope x h;
    }

    target_has : (x : Range) → IsRange scope x → Has forms.Write (range_of scope x) (target_piece scope x)
    target_has x h context n m = record {
      point = _;
      there = Contains-push [] _;
      of_call = refl;
      of_form = refl;
      of_array = refl;
      of_line = same_line scope x h;
    }

    second_has : (o : Option Range) → IfSome o (IsRange scope) → IfSome (option_map (range_of scope) o) (λ r. Has forms.Read r (piece_of (source_piece scope) o))
    second_has None h = h
    second_has (Some x) h = source_has x h

    needed_has : (o : Option Range) → IfSome o (IsRange scope) → (needed_range scope o).low < (needed_range scope o).high → Has forms.Write (needed_range scope o) (piece_of (target_piece scope) o)
    needed_has None h some = absurd (omega (arith, some))
    needed_has (Some x) h some = target_has x h

    module _ (x : call.Call) (cells : HasCells scope x) where
      abbrev front : Piece
      front = behind (source_piece scope x.first) (piece_of (source_piece scope) x.second)

      abbrev targets : Piece
      targets = behind (piece_of (target_piece scope) x.target) (piece_of (answer_piece scope) x.store)

      abbrev back : Piece
      back = behind (own_piece scope x.form x.first) targets

      first_in : Has forms.Read (range_of scope x.first) (call_piece scope x)
      first_in = in_first forms.Read (range_of scope x.first) front back
          (in_first forms.Read (range_of scope x.first) (source_piece scope x.first) (piece_of (source_piece scope) x.second) (source_has x.first cells.first))

      second_in : (r : CellRange) → Has forms.Read r (piece_of (source_piece scope) x.second) → Has forms.Read r (call_piece scope x)
      second_in r h = in_first forms.Read r front back (in_second forms.Read r (source_piece scope x.first) (piece_of (source_piece scope) x.second) h)

      own_in : x.form ≡ call_forms.ForEach → Has forms.Write (range_of scope x.first) (call_piece scope x)
      own_in e = in_second forms.Write (range_of scope x.first) front back
          (in_first forms.Write (range_of scope x.first) (own_piece scope x.form x.first) targets
          (subst (λ f. Has forms.Write (range_of scope x.first) (own_piece scope f x.first)) (sym e) (target_has x.first cells.first)))

      target_in : (needed_range scope x.target).low < (needed_range scope x.target).high → Has forms.Write (needed_range scope x.target) (call_piece scope x)
      target_in some = in_second forms.Write (needed_range scope x.target) front back
          (in_second forms.Write (needed_range scope x.target) (own_piece scope x.form x.first) targets
          (in_first forms.Write (needed_range scope x.target) (piece_of (target_piece scope) x.target) (piece_of (answer_piece scope) x.store)
          (needed_has x.target cells.target some)))

-- ---- calls

-- the points of a map call
abbrev pub ShowsCall : List PointInfo → Option ℕ → LoweredCall → Type 0
ShowsCall points c (lowered.ForEach x) = HasCellsOf points c forms.Read x.range × HasCellsOf points c forms.Write x.range
ShowsCall points c (lowered.Transform x) =
    HasCellsOf points c forms.Read x.first × IfSome x.second (HasCellsOf points c forms.Read)
    × (x.target.low < x.target.high → HasCellsOf points c forms.Write x.target)
ShowsCall points c x = Unit {0}

module _ (item : ℕ) (scope : Scope) (x : call.Call) (cells : HasCells scope x) (context : Context) (n m : ℕ) where
  abbrev points : List PointInfo
  points = map (info item) ((call_piece scope x).points context n m)

  second_shown : (o : Option CellRange) → IfSome o (λ r. Has item forms.Read r (piece_of (source_piece scope) x.second)) → IfSome o (HasCellsOf points context.call forms.Read)
  second_shown None h = h
  second_shown (Some r) h = second_in item scope x cells r h context n m

  by_form : (form : CallForm) → x.form ≡ form → ShowsCall points context.call (call_by_form form scope x)
  by_form call_forms.ForEach e = (first_in item scope x cells context n m, own_in item scope x cells e context n m)
  by_form call_forms.Transform e = (
    first_in item scope x cells context n m,
    second_shown (option_map (range_of scope) x.second) (second_has item scope x.second cells.second),
    λ some. target_in item scope x cells some context n m,
  )
  by_form call_forms.FindIf e = tt
  by_form call_forms.CountIf e = tt
  by_form call_forms.Reduce e = tt
  by_form call_forms.TransformReduce e = tt
  by_form call_forms.InclusiveScan e = tt
  by_form call_forms.ExclusiveScan e = tt
  by_form call_forms.TransformInclusiveScan e = tt
  by_form call_forms.TransformExclusiveScan e = tt

  pub call_shown : ShowsCall points context.call (call_by_form x.form scope x)
  call_shown = by_form x.form refl
