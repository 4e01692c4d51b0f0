-- Pieces whose points are shown alike.
use Rattle.std.proofs.Common.{◌≡◌, ℕ, ◌+◌, Some, List, [], ◌∷◌, ◌++◌, map, refl, sym, ap, subst, ◌∙◌}
use Rattle.std.specs.Prelude.{Bool, true, false, unwrap_or}
use Rattle.pts_types.specs.declared.value.Kind.{Kind}
use Rattle.pts_rules.specs.Parts.{Name}
use Rattle.pts_points.specs.Pieces.{Context, Deed, Point, Piece, seeing, taken, nothing, behind, served, served_off, off_from, off_vector, binding, under, branching}
use Rattle.pts_points.specs.Points.{form_of, array_of, line_of_deed, info}
use Rattle.pts_points.proofs.Builds.{map_both}

-- places of one call, under the same tests and with one `off`
pub record SamePlace (c d : Context) : Type 0 where
  pub call : c.call ≡ d.call
  pub branches : c.branches ≡ d.branches
  pub off : c.off ≡ d.off

pub record Alike (p q : Piece) : Type 0 where
  pub size : p.size ≡ q.size
  pub offs : p.offs ≡ q.offs
  pub shown : (c d : Context) (n m item : ℕ) → SamePlace c d → map (info item) (p.points c n m) ≡ map (info item) (q.points d n m)

pub record AlikeDeeds (f g : Context → ℕ → Deed) : Type 0 where
  pub form : (c d : Context) (n : ℕ) → form_of (f c n) ≡ form_of (g d n)
  pub array : (c d : Context) (n : ℕ) → array_of (f c n) ≡ array_of (g d n)
  pub line : (c d : Context) (n : ℕ) → line_of_deed (f c n) ≡ line_of_deed (g d n)

pub alike_self : (p q : Piece) → p ≡ q → Alike q q → Alike p q
alike_self p q e h = subst (λ z. Alike z q) (sym e) h

pub alike_nothing : Alike nothing nothing
alike_nothing = record { size = refl; offs = refl; shown = λ c d n m item s. refl }

next_off : (c d : Context) (p q : Piece) (m : ℕ) → Alike p q → SamePlace c d → taken c.off p.offs m ≡ taken d.off q.offs m
next_off c d p q m h s = λ i. taken (s.off i) (h.offs i) m

pub alike_behind : (p q u v : Piece) → Alike p q → Alike u v → Alike (behind p u) (behind q v)
alike_behind p q u v h k =
    record {
      size = λ i. h.size i + k.size i;
      offs = λ i. h.offs i + k.offs i;
      shown = λ c d n m item s.
          let cc = seeing (p.lets c n) c in
          let dd = seeing (q.lets d n) d in
          map_both (info item) (p.points c n m) (u.points cc (n + p.size) (taken c.off p.offs m))
          ∙ (λ i. h.shown c d n m item s i ++ k.shown cc dd (n + p.size) (taken c.off p.offs m) item (record { call = s.call; branches = s.branches; off = s.off }) i)
          ∙ (λ i. map (info item) (q.points d n m) ++ map (info item) (v.points dd (n + h.size i) (next_off c d p q m h s i)))
          ∙ sym (map_both (info item) (q.points d n m) (v.points dd (n + q.size) (taken d.off q.offs m)));
    }

-- a point, as it is shown
last_shown : (c d : Context) (number other item : ℕ) (a b : Deed) → SamePlace c d → number ≡ other → form_of a ≡ form_of b → array_of a ≡ array_of b → line_of_deed a ≡ line_of_deed b
    → info item (record { number = number; context = c; deed = a }) ≡ info item (record { number = other; context = d; deed = b })
last_shown c d number other item a b s at form array line =
    λ i. record {
      item = item;
      number = at i;
      call = s.call i;
      form = form i;
      array = array i;
      line = line i;
      branches = s.branches i;
      off = s.off i;
    }

behind_last : (item : ℕ) (ps qs : List Point) (x y : Point) → map (info item) ps ≡ map (info item) qs → info item x ≡ info item y → map (info item) (ps ++ x ∷ []) ≡ map (info item) (qs ++ y ∷ [])
behind_last item ps qs x y h e = map_both (info item) ps (x ∷ []) ∙ (λ i. h i ++ e i ∷ []) ∙ sym (map_both (info item) qs (y ∷ []))

module _ (p q : Piece) (f g : Context → ℕ → Deed) (h : Alike p q) (k : AlikeDeeds f g) where
  number_same : (n : ℕ) → n + p.size ≡ n + q.size
  number_same n = ap (λ z. n + z) h.size

  pub alike_served : Alike (served p f) (served q g)
  alike_served =
      record {
        size = ap (λ z. z + 1) h.size;
        offs = h.offs;
        shown = λ c d n m item s.
            behind_last item (p.points c n m) (q.points d n m) _ _ (h.shown c d n m item s)
            (last_shown c d (n + p.size) (n + q.size) item (f c n) (g d n) s (number_same n) (k.form c d n) (k.array c d n) (k.line c d n));
      }

  pub alike_binding : (name other : Name) (own more : Context → Kind) → Alike (binding name own p f) (binding other more q g)
  alike_binding name other own more = let a = alike_served in record { size = a.size; offs = a.offs; shown = a.shown }

  pub alike_served_off : Alike (served_off p f) (served_off q g)
  alike_served_off =
      record {
        size = ap (λ z. z + 1) h.size;
        offs = ap (λ z. z + 1) h.offs;
        shown = λ c d n m item s.
            behind_last item (p.points c n m) (q.points d n m) _ _ (h.shown c d n m item s)
            (last_shown (off_from (taken c.off p.offs m) c) (off_from (taken d.off q.offs m) d) (n + p.size) (n + q.size) item (f c n) (g d n)
            (record { call = s.call; branches = s.branches; off = λ i. Some (unwrap_or (s.off i) (next_off c d p q m h s i)) })
            (number_same n) (k.form c d n) (k.array c d n) (k.line c d n));
      }

  pub alike_branching : (u v w z : Piece) → Alike u v → Alike w z → Alike (branching p f u w) (branching q g v z)
  alike_branching u v w z a b =
      record {
        size = λ i. h.size i + 1 + a.size i + b.size i;
        offs = λ i. h.offs i + a.offs i + b.offs i;
        shown = λ c d n m item s.
            let tested = (served p f).points c n m in
            let yes = u.points (under (n + p.size) true c) (n + p.size + 1) (taken c.off p.offs m) in
            let no = w.points (under (n + p.size) false c) (n + p.size + 1 + u.size) (taken c.off (p.offs + u.offs) m) in
            map_both (info item) tested (yes ++ no)
            ∙ ap (λ rest. map (info item) tested ++ rest) (map_both (info item) yes no)
            ∙ (λ i. alike_served.shown c d n m item s i
            ++ (a.shown (under (n + p.size) true c) (under (n + q.size) true d) (n + p.size + 1) (taken c.off p.offs m) item (side true c d n s) i
            ++ b.shown (under (n + p.size) false c) (under (n + q.size) false d) (n + p.size + 1 + u.size) (taken c.off (p.offs + u.offs) m) item (side false c d n s) i))
            ∙ (λ i. map (info item) ((served q g).points d n m)
            ++ (map (info item) (v.points (under (n + q.size) true d) (n + h.size i + 1) (taken (s.off i) (h.offs i) m))
            ++ map (info item) (z.points (under (n + q.size) false d) (n + h.size i + 1 + a.size i) (taken (s.off i) (h.offs i + a.offs i) m))))
            ∙ sym (ap (λ rest. map (info item) ((served q g).points d n m) ++ rest)
            (map_both (info item) (v.points (under (n + q.size) true d) (n + q.size + 1) (taken d.off q.offs m)) (z.points (under (n + q.size) false d) (n + q.size + 1 + v.size) (taken d.off (q.offs + v.offs) m))))
            ∙ sym (map_both (info item) ((served q g).points d n m) _);
      }
    where
      side : (taken : Bool) (c d : Context) (n : ℕ) → SamePlace c d → SamePlace (under (n + p.size) taken c) (under (n + q.size) taken d)
      side taken c d n s = record { call = s.call; branches = λ i. s.branches i ++ record { test = number_same n i; taken = taken } ∷ []; off = s.off }

pub alike_off_vector : (p q : Piece) → Alike p q → Alike (off_vector p) (off_vector q)
alike_off_vector p q h =
    record {
      size = h.size;
      offs = refl;
      shown = λ c d n m item s.
          h.shown (off_from m c) (off_from m d) n m item (record { call = s.call; branches = s.branches; off = λ i. Some (unwrap_or (s.off i) m) });
    }
