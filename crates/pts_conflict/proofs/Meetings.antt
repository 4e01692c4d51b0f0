-- Points that meet along their lines touch one cell, and the other way round.
use Rattle.std.proofs.Common.{◌≡◌, ℕ, ◌<◌, Bool, true, false, IsTrue, ℤ, pos, List, refl, sym, ◌∙◌, subst, arith}
use Rattle.std.specs.Prelude.{◌<ℤ◌}
use Rattle.std.proofs.lemmas.Int.{ints}
use Rattle.pts_affine.specs.declared.line.Line.{Line}
use Rattle.pts_affine.specs.Lines.{cell}
use Rattle.pts_points.specs.declared.point.CallInfo.{CallInfo}
use Rattle.pts_points.specs.declared.point.PointForm.{PointForm}
use Rattle.pts_points.specs.declared.point.PointForm.TheVariants as forms
use Rattle.pts_points.specs.declared.point.PointInfo.{PointInfo}
use Rattle.pts_points.specs.Standings.{IsCell}
use Rattle.pts_program.specs.declared.info.ArrayInfo.{ArrayInfo}
use Rattle.pts_program.specs.Ranges.{IsInRange, length_at}
use Rattle.pts_conflict.specs.declared.pair.Pair.{Pair}
use Rattle.pts_conflict.specs.Conflicts.{Meet}
use Rattle.pts_conflict.specs.Touches.{Touches, positions_beside, positions_in_call}
use Rattle.pts_conflict.specs.Search.{IsFit, MeetAlong, line_beside, line_in_call}
use Rattle.pts_conflict.proofs.Clashes.{level}

-- a cell of the line, which the array has
below : (z : ℤ) (index size : ℕ) → z ≡ pos index → z <ℤ pos size → index < size
below z index size e h = omega (arith, ints, e, h)

module _ (arrays : List ArrayInfo) (x : PointInfo) (range : IsInRange arrays x) (fit : IsFit x) where
  -- one at a position of its own line
  on_line : (p index : ℕ) → p < x.line.n → cell x.line p ≡ pos index → Touches arrays x x.line.n p index
  on_line p index within at = record { position = within; exists = below (cell x.line p) index (length_at arrays x.array) at (range.cells p within).1; indexed = λ plain. at }

  -- the cell of a clause, at whatever position
  on_clause : (n p index : ℕ) → IsCell x.line → p < n → cell x.line p ≡ pos index → Touches arrays x n p index
  on_clause n p index one within at = record {
    position = within;
    exists =
        let first = (range.cells 0 (let k = one.1 in omega (arith, k))).1 in
        let same = level x.line p one.0 ∙ sym (level x.line 0 one.0) in
        below (cell x.line p) index (length_at arrays x.array) at (subst (λ z. z <ℤ pos (length_at arrays x.array)) (sym same) first);
    indexed = λ plain. at;
  }

  abbrev InCall : CallInfo → PointForm → ℕ → ℕ → Type 0
  InCall call form p index = Touches arrays x (positions_in_call call form x.line.n) p index

  pub touches_in_call : (call : CallInfo) (form : PointForm) (p index : ℕ) → x.form ≡ form → p < (line_in_call call form x.line).n → cell (line_in_call call form x.line) p ≡ pos index → InCall call form p index
  touches_in_call call forms.LiveOut p index e within at = on_clause call.positions p index (fit.clause e) within at
  touches_in_call call forms.Into p index e within at = absurd (omega (arith, within))
  touches_in_call call forms.Plain p index e within at = absurd (omega (arith, within))
  touches_in_call call forms.Read p index e within at = on_line p index within at
  touches_in_call call forms.Write p index e within at = on_line p index within at
  touches_in_call call forms.Update p index e within at = on_line p index within at

  pub touches_beside : (form : PointForm) (p index : ℕ) → p < (line_beside form x.line).n → cell (line_beside form x.line) p ≡ pos index → Touches arrays x (positions_beside form x.line.n) p index
  touches_beside forms.Plain p index within at = absurd (omega (arith, within))
  touches_beside forms.LiveOut p index within at = on_line p index within at
  touches_beside forms.Into p index within at = on_line p index within at
  touches_beside forms.Read p index within at = on_line p index within at
  touches_beside forms.Write p index within at = on_line p index within at
  touches_beside forms.Update p index within at = on_line p index within at

-- the line of a point in its call is at the cells that the point touches there
pub record OnLine (line : Line) (p index : ℕ) : Type 0 where
  pub within : p < line.n
  pub at : cell line p ≡ pos index

pub line_of_call : (arrays : List ArrayInfo) (x : PointInfo) (call : CallInfo) (form : PointForm) (p index : ℕ) → Touches arrays x (positions_in_call call form x.line.n) p index → OnLine (line_in_call call form x.line) p index
line_of_call arrays x call forms.LiveOut p index h = record { within = h.position; at = h.indexed refl }
line_of_call arrays x call forms.Into p index h = absurd (let k = h.position in omega (arith, k))
line_of_call arrays x call forms.Plain p index h = absurd (let k = h.position in omega (arith, k))
line_of_call arrays x call forms.Read p index h = record { within = h.position; at = h.indexed refl }
line_of_call arrays x call forms.Write p index h = record { within = h.position; at = h.indexed refl }
line_of_call arrays x call forms.Update p index h = record { within = h.position; at = h.indexed refl }

pub line_of_part : (arrays : List ArrayInfo) (x : PointInfo) (form : PointForm) (p index : ℕ) → Touches arrays x (positions_beside form x.line.n) p index → OnLine (line_beside form x.line) p index
line_of_part arrays x forms.Plain p index h = absurd (let k = h.position in omega (arith, k))
line_of_part arrays x forms.LiveOut p index h = record { within = h.position; at = h.indexed refl }
line_of_part arrays x forms.Into p index h = record { within = h.position; at = h.indexed refl }
line_of_part arrays x forms.Read p index h = record { within = h.position; at = h.indexed refl }
line_of_part arrays x forms.Write p index h = record { within = h.position; at = h.indexed refl }
line_of_part arrays x forms.Update p index h = record { within = h.position; at = h.indexed refl }

-- ---- pairs

module _ (arrays : List ArrayInfo) (a b : PointInfo) (x : Pair) where
  along : (after : Bool) (first second : Line) (n n' : ℕ) → Meet arrays a n b n' x → OnLine first x.p x.cell → OnLine second x.q x.cell → (IsTrue after → x.p < x.q) → MeetAlong after a first b second x
  along after first second n n' h f s later = record {
    names = h.names;
    array = h.array;
    writes = h.writes;
    meets = record { wanted = (record { first = f.within; second = s.within; same = f.at ∙ sym s.at }, later); at = f.at };
  }

  pub call_along : (call : CallInfo) → Meet arrays a (positions_in_call call a.form a.line.n) b (positions_in_call call b.form b.line.n) x → x.p < x.q
      → MeetAlong true a (line_in_call call a.form a.line) b (line_in_call call b.form b.line) x
  call_along call h later =
      along true (line_in_call call a.form a.line) (line_in_call call b.form b.line) _ _ h
      (line_of_call arrays a call a.form x.p x.cell h.first) (line_of_call arrays b call b.form x.q x.cell h.second) (λ t. later)

  pub parts_along : Meet arrays a (positions_beside a.form a.line.n) b (positions_beside b.form b.line.n) x
      → MeetAlong false a (line_beside a.form a.line) b (line_beside b.form b.line) x
  parts_along h =
      along false (line_beside a.form a.line) (line_beside b.form b.line) _ _ h
      (line_of_part arrays a a.form x.p x.cell h.first) (line_of_part arrays b b.form x.q x.cell h.second) (λ t. absurd (cc))

  module _ (first_range : IsInRange arrays a) (first_fit : IsFit a) (second_range : IsInRange arrays b) (second_fit : IsFit b) where
    pub call_meet : (call : CallInfo) → MeetAlong true a (line_in_call call a.form a.line) b (line_in_call call b.form b.line) x
        → Meet arrays a (positions_in_call call a.form a.line.n) b (positions_in_call call b.form b.line.n) x × (x.p < x.q)
    call_meet call h =
        let m = h.meets.wanted.0 in (
          record {
            names = h.names;
            array = h.array;
            writes = h.writes;
            first = touches_in_call arrays a first_range first_fit call a.form x.p x.cell refl m.first h.meets.at;
            second = touches_in_call arrays b second_range second_fit call b.form x.q x.cell refl m.second (sym m.same ∙ h.meets.at);
          },
          h.meets.wanted.1 refl,
        )

    pub parts_meet : MeetAlong false a (line_beside a.form a.line) b (line_beside b.form b.line) x → Meet arrays a (positions_beside a.form a.line.n) b (positions_beside b.form b.line.n) x
    parts_meet h =
        let m = h.meets.wanted.0 in
        record {
          names = h.names;
          array = h.array;
          writes = h.writes;
          first = touches_beside arrays a first_range first_fit a.form x.p x.cell m.first h.meets.at;
          second = touches_beside arrays b second_range second_fit b.form x.q x.cell m.second (sym m.same ∙ h.meets.at);
        }
