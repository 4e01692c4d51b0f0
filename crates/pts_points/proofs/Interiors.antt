-- The cells of every point lie in their arrays where the elements that are read and written do.
use Rattle.std.proofs.Common.{◌≡◌, ℕ, ◌+◌, ◌-◌, ◌^◌, ◌≤◌, ℤ, pos, ◌+ℤ◌, ◌*ℤ◌, Option, Some, None, List, [], ◌∷◌, ◌++◌, refl, sym, subst, arith}
use Rattle.std.specs.Prelude.{◌==◌, true, false, nat_le, if◌then◌else◌, flat_map}
use Rattle.std.specs.List.{list_any}
use Rattle.std.proofs.lemmas.Bool.{or_parts}
use Rattle.pts_affine.specs.declared.line.Line.{Line}
use Rattle.pts_tree.specs.declared.expr.Expr.{Expr}
use Rattle.pts_tree.specs.declared.expr.Place.{Place}
use Rattle.pts_tree.specs.declared.loops.BodyStmt.{BodyStmt}
use Rattle.pts_rules.specs.Parts.{Name}
use Rattle.pts_rules.specs.Known.{Scope}
use Rattle.pts_rules.specs.Indices.{Affine, affine_of, Reach, Along, leaves, line_of, length_of, place_reach, elements, places}
use Rattle.pts_points.specs.declared.space.IterationSpace.{IterationSpace}
use Rattle.pts_points.specs.Lines.{array_at, no_line}
use Rattle.pts_points.specs.Pieces.{Context, Deed, Point, Piece, taken, seeing, off_from, under, nothing, behind, served, branching}
use Rattle.pts_points.specs.Points.{index_of, line_at, array_of, line_of_deed, reads_of, both_reads, body_piece}
use Rattle.pts_points.specs.Inside.{IsWithin, HasRoom}
use Rattle.pts_points.specs.Building.{kept_line, line_along, line_of_index}
use Rattle.pts_points.proofs.Each.{Each, front, back, both}
use Rattle.pts_points.proofs.ReadForms.{by_reads}
use Rattle.pts_points.proofs.StatementForms.{by_bodies, note_deed, give_deed, test_deed}
use Rattle.pts_points.proofs.ReadTurns.{index_shown}
use Rattle.pts_points.proofs.Ranges.{in_array, line_same, is_short, array_few, within}

-- cells that never leave their array
abbrev pub Stays : Reach → Type 0
Stays reach = (p : ℕ) → leaves p reach ≡ false

pub each_stays : (rs : List Reach) → ((p : ℕ) → list_any (leaves p) rs ≡ false) → Each Stays rs
each_stays [] h = tt
each_stays (r ∷ rs) h = ((λ p. (or_parts (leaves p r) (list_any (leaves p) rs) (h p)).0), each_stays rs (λ p. (or_parts (leaves p r) (list_any (leaves p) rs) (h p)).1))

-- a line within its array, whose numbers are kept as they are
pub record IsHeld (scope : Scope) (array : ℕ) (line : Line) : Type 0 where
  pub inside : IsWithin scope array line
  pub kept : kept_line line ≡ line
  pub few : array ≤ 2 ^ 32 - 1

abbrev pub HoldsPoint : Scope → Point → Type 0
HoldsPoint scope p = IsHeld scope (array_of p.deed) (line_of_deed p.deed)

abbrev pub AllHeld : Scope → Piece → Type 0
AllHeld scope x = (context : Context) (n m : ℕ) → Each (HoldsPoint scope) (x.points context n m)

-- ---- indices

level_line : (n : ℕ) (z : ℤ) → n ≤ 1 → (if nat_le n 1 then pos 0 else z) ≡ pos 0
level_line n z h = grind (arith, h)

still_line : (n : ℕ) (z : ℤ) → n ≡ 0 → (if n == 0 then pos 0 else z) ≡ pos 0
still_line n z h = rw h refl

pub no_cells : (scope : Scope) (array : ℕ) → array ≤ 2 ^ 32 - 1 → IsHeld scope array no_line
no_cells scope array few =
    record {
      inside = record {
        cells = λ p h. absurd (omega (arith, h));
        bounded = record { cells = λ p h. absurd (omega (arith, h)); positions = omega arith; level = λ h. refl };
      };
      kept = refl;
      few = few;
    }

-- a line that never leaves a named array
pub line_held : (scope : Scope) → HasRoom scope → (name : Name) (line : Line) → line.n ≤ 2 ^ 20 → (line.n ≤ 1 → line.c ≡ pos 0) → (line.n ≡ 0 → line.d ≡ pos 0)
    → Stays (Along line (length_of scope name)) → IsHeld scope (array_at scope name) line
line_held scope room name line few level still stays =
    record {
      inside = within scope room name line few level (λ p k. in_array line (length_of scope name) p (stays p) k);
      kept = line_same line (length_of scope name) (is_short scope room name) few level still stays;
      few = array_few scope room name;
    }

module _ (scope : Scope) (room : HasRoom scope) (space : IterationSpace) (few : space.positions ≤ 2 ^ 20) where
  abbrev line : Affine → Line
  line = line_of space.first space.step space.positions

  -- an element whose line lies in its array
  abbrev pub IsPlaced : Place → Type 0
  IsPlaced at = IsHeld scope (array_at scope at.array) (line_of_index scope space at.index)

  index_held : (name : Name) (o : Option Affine) → Each Stays (elim o [ None ↦ [] | Some x ↦ Along (line x) (length_of scope name) ∷ [] ])
      → IsHeld scope (array_at scope name) (elim o [ None ↦ no_line | Some x ↦ line_along space x.factor x.offset ])
  index_held name None h = no_cells scope (array_at scope name) (array_few scope room name)
  index_held name (Some x) h =
      line_held scope room name (line x) few (level_line space.positions (x.factor *ℤ space.step)) (still_line space.positions (x.factor *ℤ space.first +ℤ x.offset)) h.0

  pub all_placed : (xs : List Place) → Each Stays (flat_map (place_reach scope line space.index) xs) → Each IsPlaced xs
  all_placed [] h = tt
  all_placed (x ∷ xs) h =
      let own : List Reach = place_reach scope line space.index x in
      let rest : List Reach = flat_map (place_reach scope line space.index) xs in
      (index_held x.array (affine_of scope space.index x.index) (front Stays own rest h), all_placed xs (back Stays own rest h))

  -- ---- pieces

  abbrev IsInside : List Place → ℕ → Piece → Type 0
  IsInside places n x = Each IsPlaced places → AllHeld scope x

  none_inside : IsInside [] 0 nothing
  none_inside h context n m = tt

  more_inside : (xs ys : List Place) (i j : ℕ) (x y : Piece) → IsInside xs i x → IsInside ys j y → IsInside (xs ++ ys) (i + j) (behind x y)
  more_inside xs ys i j x y f g h context n m =
      both (HoldsPoint scope) (x.points context n m) (y.points (seeing (x.lets context n) context) (n + x.size) (taken context.off x.offs m)) (f (front IsPlaced xs ys h) context n m)
      (g (back IsPlaced xs ys h) (seeing (x.lets context n) context) (n + x.size) (taken context.off x.offs m))

  shown_held : (at : Place) (context : Context) (n : ℕ) → IsPlaced at → IsHeld scope (array_at scope at.array) (line_at (index_of scope space at.index context n))
  shown_held at context n h = subst (IsHeld scope (array_at scope at.array)) (sym (index_shown scope space at.index context n)) h

  pub reads_inside : (x : Expr) → Each IsPlaced (elements x) → AllHeld scope (reads_of scope space x)
  reads_inside =
      by_reads scope space IsInside none_inside more_inside
      (λ name x f h context n m.
      both (HoldsPoint scope) ((reads_of scope space x).points context n m) (_ ∷ []) (f h.1 context n m) (shown_held (record { array = name; index = x }) context n h.0, tt))

  both_inside : (at : Place) (x : Expr) → Each IsPlaced ((at ∷ elements at.index) ++ elements x) → AllHeld scope (both_reads scope space at x)
  both_inside at x h =
      more_inside (elements at.index) (elements x) 0 0 (reads_of scope space at.index) (reads_of scope space x) (reads_inside at.index) (reads_inside x)
      (both IsPlaced (elements at.index) (elements x) (front IsPlaced (at ∷ elements at.index) (elements x) h).1 (back IsPlaced (at ∷ elements at.index) (elements x) h))

  -- Reads and a point that touches nothing
  plain_inside : (x : Expr) (deed : Context → ℕ → Deed) → ((context : Context) (n : ℕ) → IsHeld scope (array_of (deed context n)) (line_of_deed (deed context n)))
      → Each IsPlaced (elements x) → AllHeld scope (served (reads_of scope space x) deed)
  plain_inside x deed plain h context n m =
      both (HoldsPoint scope) ((reads_of scope space x).points context n m) (_ ∷ []) (reads_inside x h context n m) (plain context n, tt)

  branches_inside : (c : Expr) (xs ys : List Place) (i j : ℕ) (x y : Piece) → IsInside xs i x → IsInside ys j y
      → Each IsPlaced (elements c ++ xs ++ ys) → AllHeld scope (branching (reads_of scope space c) (test_deed c) x y)
  branches_inside c xs ys i j x y f g h context n m =
      let own = reads_of scope space c in
      let t = n + own.size in
      let parts = front IsPlaced (elements c ++ xs) ys h in
      both (HoldsPoint scope) ((served own (test_deed c)).points context n m)
      (x.points (under t true context) (t + 1) (taken context.off own.offs m) ++ y.points (under t false context) (t + 1 + x.size) (taken context.off (own.offs + x.offs) m))
      (plain_inside c (test_deed c) (λ context n. no_cells scope 0 (omega arith)) (front IsPlaced (elements c) xs parts) context n m)
      (both (HoldsPoint scope) (x.points (under t true context) (t + 1) (taken context.off own.offs m)) (y.points (under t false context) (t + 1 + x.size) (taken context.off (own.offs + x.offs) m))
      (f (back IsPlaced (elements c) xs parts) (under t true context) (t + 1) (taken context.off own.offs m))
      (g (back IsPlaced (elements c ++ xs) ys h) (under t false context) (t + 1 + x.size) (taken context.off (own.offs + x.offs) m)))

  pub body_inside : (xs : List BodyStmt) → Each IsPlaced (flat_map places xs) → AllHeld scope (body_piece scope space xs)
  body_inside =
      by_bodies scope space IsInside none_inside more_inside
      (λ at x h context n m. both (HoldsPoint scope) ((both_reads scope space at x).points context n m) (_ ∷ []) (both_inside at x h context n m) (shown_held at context n h.0, tt))
      (λ name x h. plain_inside x (note_deed x) (λ context n. no_cells scope 0 (omega arith)) h)
      (λ name x h. plain_inside x (give_deed name x) (λ context n. no_cells scope 0 (omega arith)) h)
      branches_inside
      (λ xs i x f h context n m. f h (off_from m context) n m)
      (λ at op x h context n m. both (HoldsPoint scope) ((both_reads scope space at x).points context n m) (_ ∷ []) (both_inside at x h context n m) (shown_held at context n h.0, tt))
