-- Pieces that stand behind others show their points with the numbers before them, and each point is on a line.
use Rattle.std.proofs.Common.{◌≡◌, ℕ, ◌+◌, Option, Some, None, List, [], ◌∷◌, ◌++◌, map, option_map, refl, sym, ap, ◌∙◌, arith}
use Rattle.std.specs.Prelude.{Bool, true, false, unwrap_or}
use Rattle.pts_types.specs.declared.value.Kind.{Kind}
use Rattle.pts_affine.specs.declared.line.Line.{Line}
use Rattle.pts_rules.specs.Parts.{Name}
use Rattle.pts_points.specs.declared.point.PointForm.{PointForm}
use Rattle.pts_points.specs.declared.point.PointInfo.{PointInfo}
use Rattle.pts_points.specs.Pieces.{Context, Deed, Point, Piece, seeing, taken, nothing, behind, served, served_off, off_from, off_vector, binding, under, branching}
use Rattle.pts_points.specs.Points.{form_of, array_of, line_of_deed, info}
use Rattle.pts_points.proofs.Builds.{map_both}
use Rattle.pts_points.proofs.Each.{Each, both}
use Rattle.pts_loop_points.specs.LoopPoints.{IsOnLine, moved, moved_branch}

abbrev pub OnLine : Point → Type 0
OnLine x = IsOnLine x.deed

-- what is shown of a deed, whatever the place
pub record Steady (f : Context → ℕ → Deed) : Type 0 where
  pub form : PointForm
  pub array : ℕ
  pub line : Line
  pub same_form : (c : Context) (n : ℕ) → form_of (f c n) ≡ form
  pub same_array : (c : Context) (n : ℕ) → array_of (f c n) ≡ array
  pub same_line : (c : Context) (n : ℕ) → line_of_deed (f c n) ≡ line
  pub on_line : (c : Context) (n : ℕ) → IsOnLine (f c n)

module _ (item : ℕ) (call : Option ℕ) (a e : ℕ) where
  abbrev later : Point → PointInfo
  later x = moved item call a e (info 0 x)

  -- the place d is the place c in the call, behind a points and e numbers of `off`
  pub record MovedTo (c d : Context) : Type 0 where
    pub of_call : d.call ≡ call
    pub branches : d.branches ≡ map (moved_branch a) c.branches
    pub off : d.off ≡ option_map (λ m. e + m) c.off

  pub record Moves (p : Piece) : Type 0 where
    pub shown : (c d : Context) (n m : ℕ) → MovedTo c d → map (info item) (p.points d (a + n) (e + m)) ≡ map later (p.points c n m)
    pub lines : (c : Context) (n m : ℕ) → Each OnLine (p.points c n m)

  pub moves_nothing : Moves nothing
  moves_nothing = record { shown = λ c d n m s. refl; lines = λ c n m. tt }

  sum_moved : (n s : ℕ) → a + n + s ≡ a + (n + s)
  sum_moved n s = omega arith

  taken_moved : (c d : Context) (s m : ℕ) → MovedTo c d → taken d.off s (e + m) ≡ e + taken c.off s m
  taken_moved c d s m h = ap (λ o. taken o s (e + m)) h.off ∙ by c.off
    where
      by : (o : Option ℕ) → taken (option_map (λ z. e + z) o) s (e + m) ≡ e + taken o s m
      by None = let same : e + m + s ≡ e + (m + s) = omega arith in same
      by (Some z) = refl

  pub moves_behind : (p q : Piece) → Moves p → Moves q → Moves (behind p q)
  moves_behind p q h k =
      record {
        shown = λ c d n m s.
            let cc = seeing (p.lets c n) c in
            let dd = seeing (p.lets d (a + n)) d in
            map_both (info item) (p.points d (a + n) (e + m)) (q.points dd (a + n + p.size) (taken d.off p.offs (e + m)))
            ∙ (λ i. map (info item) (p.points d (a + n) (e + m)) ++ map (info item) (q.points dd (sum_moved n p.size i) (taken_moved c d p.offs m s i)))
            ∙ (λ i. h.shown c d n m s i ++ k.shown cc dd (n + p.size) (taken c.off p.offs m) (record { of_call = s.of_call; branches = s.branches; off = s.off }) i)
            ∙ sym (map_both later (p.points c n m) (q.points cc (n + p.size) (taken c.off p.offs m)));
        lines = λ c n m.
            both OnLine (p.points c n m) (q.points (seeing (p.lets c n) c) (n + p.size) (taken c.off p.offs m)) (h.lines c n m)
            (k.lines (seeing (p.lets c n) c) (n + p.size) (taken c.off p.offs m));
      }

  off_moved : (m : ℕ) (c d : Context) → MovedTo c d → MovedTo (off_from m c) (off_from (e + m) d)
  off_moved m c d s = record { of_call = s.of_call; branches = s.branches; off = ap (λ o. Some (unwrap_or o (e + m))) s.off ∙ by c.off }
    where
      by : (o : Option ℕ) → Some (unwrap_or (option_map (λ z. e + z) o) (e + m)) ≡ option_map (λ z. e + z) (Some (unwrap_or o m))
      by None = refl
      by (Some z) = refl

  module _ (p : Piece) (f : Context → ℕ → Deed) (h : Moves p) (k : Steady f) where
    last_moved : (c d : Context) (n : ℕ) → MovedTo c d → (cc dd : Context) → MovedTo cc dd
        → info item (record { number = a + n + p.size; context = dd; deed = f d (a + n) }) ≡ later (record { number = n + p.size; context = cc; deed = f c n })
    last_moved c d n s cc dd t =
        λ i. record {
          item = item;
          number = sum_moved n p.size i;
          call = t.of_call i;
          form = (k.same_form d (a + n) ∙ sym (k.same_form c n)) i;
          array = (k.same_array d (a + n) ∙ sym (k.same_array c n)) i;
          line = (k.same_line d (a + n) ∙ sym (k.same_line c n)) i;
          branches = t.branches i;
          off = t.off i;
        }

    with_last : (ps qs : List Point) (x y : Point) → map (info item) ps ≡ map later qs → info item x ≡ later y → map (info item) (ps ++ x ∷ []) ≡ map later (qs ++ y ∷ [])
    with_last ps qs x y one two = map_both (info item) ps (x ∷ []) ∙ (λ i. one i ++ two i ∷ []) ∙ sym (map_both later qs (y ∷ []))

    pub moves_served : Moves (served p f)
    moves_served =
        record {
          shown = λ c d n m s. with_last (p.points d (a + n) (e + m)) (p.points c n m) _ _ (h.shown c d n m s) (last_moved c d n s c d s);
          lines = λ c n m. both OnLine (p.points c n m) (record { number = n + p.size; context = c; deed = f c n } ∷ []) (h.lines c n m) (k.on_line c n, tt);
        }

    pub moves_binding : (name : Name) (kind : Context → Kind) → Moves (binding name kind p f)
    moves_binding name kind = record { shown = moves_served.shown; lines = moves_served.lines }

    pub moves_served_off : Moves (served_off p f)
    moves_served_off =
        record {
          shown = λ c d n m s.
              ap (λ z. map (info item) (p.points d (a + n) (e + m) ++ record { number = a + n + p.size; context = off_from z d; deed = f d (a + n) } ∷ [])) (taken_moved c d p.offs m s)
              ∙ with_last (p.points d (a + n) (e + m)) (p.points c n m) _ _ (h.shown c d n m s)
              (last_moved c d n s (off_from (taken c.off p.offs m) c) (off_from (e + taken c.off p.offs m) d) (off_moved (taken c.off p.offs m) c d s));
          lines = λ c n m.
              both OnLine (p.points c n m) (record { number = n + p.size; context = off_from (taken c.off p.offs m) c; deed = f c n } ∷ []) (h.lines c n m) (k.on_line c n, tt);
        }

    side : (taken : Bool) (c d : Context) (n : ℕ) → MovedTo c d → MovedTo (under (n + p.size) taken c) (under (a + n + p.size) taken d)
    side taken c d n s =
        record {
          of_call = s.of_call;
          branches =
              (λ i. s.branches i ++ record { test = sum_moved n p.size i; taken = taken } ∷ [])
              ∙ sym (map_both (moved_branch a) c.branches (record { test = n + p.size; taken = taken } ∷ []));
          off = s.off;
        }

    pub moves_branching : (u w : Piece) → Moves u → Moves w → Moves (branching p f u w)
    moves_branching u w x y =
        record {
          shown = λ c d n m s.
              let tested = (served p f).points d (a + n) (e + m) in
              let dt = under (a + n + p.size) true d in
              let df = under (a + n + p.size) false d in
              let ct = under (n + p.size) true c in
              let cf = under (n + p.size) false c in
              let yes = u.points dt (a + n + p.size + 1) (taken d.off p.offs (e + m)) in
              let no = w.points df (a + n + p.size + 1 + u.size) (taken d.off (p.offs + u.offs) (e + m)) in
              let first : a + n + p.size + 1 ≡ a + (n + p.size + 1) = omega arith in
              let second : a + n + p.size + 1 + u.size ≡ a + (n + p.size + 1 + u.size) = omega arith in
              map_both (info item) tested (yes ++ no)
              ∙ ap (λ rest. map (info item) tested ++ rest) (map_both (info item) yes no)
              ∙ (λ i. map (info item) tested
              ++ (map (info item) (u.points dt (first i) (taken_moved c d p.offs m s i))
              ++ map (info item) (w.points df (second i) (taken_moved c d (p.offs + u.offs) m s i))))
              ∙ (λ i. moves_served.shown c d n m s i
              ++ (x.shown ct dt (n + p.size + 1) (taken c.off p.offs m) (side true c d n s) i
              ++ y.shown cf df (n + p.size + 1 + u.size) (taken c.off (p.offs + u.offs) m) (side false c d n s) i))
              ∙ sym (ap (λ rest. map later ((served p f).points c n m) ++ rest)
              (map_both later (u.points ct (n + p.size + 1) (taken c.off p.offs m)) (w.points cf (n + p.size + 1 + u.size) (taken c.off (p.offs + u.offs) m))))
              ∙ sym (map_both later ((served p f).points c n m) _);
          lines = λ c n m.
              let yes = u.points (under (n + p.size) true c) (n + p.size + 1) (taken c.off p.offs m) in
              let no = w.points (under (n + p.size) false c) (n + p.size + 1 + u.size) (taken c.off (p.offs + u.offs) m) in
              both OnLine ((served p f).points c n m) (yes ++ no) (moves_served.lines c n m)
              (both OnLine yes no (x.lines (under (n + p.size) true c) (n + p.size + 1) (taken c.off p.offs m))
              (y.lines (under (n + p.size) false c) (n + p.size + 1 + u.size) (taken c.off (p.offs + u.offs) m)));
        }

  pub moves_off_vector : (p : Piece) → Moves p → Moves (off_vector p)
  moves_off_vector p h =
      record {
        shown = λ c d n m s. h.shown (off_from m c) (off_from (e + m) d) n m (off_moved m c d s);
        lines = λ c n m. h.lines (off_from m c) n m;
      }
