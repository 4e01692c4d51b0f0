-- What holds of the points of pieces: their numbers, their tests, the `let`s in scope, their Reads, and their `off`s.
use Rattle.std.proofs.Common.{◌≡◌, ℕ, ◌+◌, ◌<◌, ◌≤◌, ◌≢◌, ◌⊎◌, inl, inr, Option, Some, None, List, [], ◌∷◌, ◌++◌, refl, sym, ap, subst, arith}
use Rattle.std.specs.Prelude.{Bool, true, false, unwrap_or}
use Rattle.pts_types.specs.declared.value.Kind.{Kind}
use Rattle.pts_rules.specs.Parts.{Name}
use Rattle.pts_points.specs.declared.point.Branch.{Branch}
use Rattle.pts_points.specs.Pieces.{LetPoint, Context, Deed, Point, Piece, seeing, taken, nothing, behind, served, served_off, off_from, off_vector, binding, under, branching}
use Rattle.pts_points.specs.Standings.{Ascends, IsNotedBefore, ReadsEnd, IsOneCell}
use Rattle.pts_points.proofs.Each.{Each, both, weaker}

-- ---- numbers

-- the points are numbered from one number on and before another
abbrev pub Numbered : ℕ → List Point → ℕ → Type 0
Numbered n [] e = n ≡ e
Numbered n (p ∷ ps) e = (p.number ≡ n) × Numbered (n + 1) ps e

pub numbered_both : (n k e : ℕ) (xs ys : List Point) → Numbered n xs k → Numbered k ys e → Numbered n (xs ++ ys) e
numbered_both n k e [] ys h l = subst (λ z. Numbered z ys e) (sym h) l
numbered_both n k e (x ∷ xs) ys h l = (h.0, numbered_both (n + 1) k e xs ys h.1 l)

-- ---- tests and `let`s

pub ascends_later : (low n k : ℕ) (bs : List Branch) → n ≤ k → Ascends low bs n → Ascends low bs k
ascends_later low n k [] le h = let l : low ≤ n = h in omega (arith, l, le)
ascends_later low n k (b ∷ bs) le h = (h.0, ascends_later (b.test + 1) n k bs le h.1)

pub ascends_more : (low t : ℕ) (side : Bool) (bs : List Branch) → Ascends low bs t → Ascends low (bs ++ record { test = t; taken = side } ∷ []) (t + 1)
ascends_more low t side [] h = (h, omega arith)
ascends_more low t side (b ∷ bs) h = (h.0, ascends_more (b.test + 1) t side bs h.1)

noted_later : (n k : ℕ) (xs : List LetPoint) → n ≤ k → Each (IsNotedBefore n) xs → Each (IsNotedBefore k) xs
noted_later n k xs le h = weaker (IsNotedBefore n) (IsNotedBefore k) (λ x l. let m : x.point < n = l in omega (arith, m, le)) xs h

-- a context whose tests and `let`s stand before this number
pub record Stands (context : Context) (n : ℕ) : Type 0 where
  pub tests : Ascends 0 context.branches n
  pub lets : Each (IsNotedBefore n) context.lets

pub stands_later : (context : Context) (n k : ℕ) → n ≤ k → Stands context n → Stands context k
stands_later context n k le h = record { tests = ascends_later 0 n k context.branches le h.tests; lets = noted_later n k context.lets le h.lets }

-- the Reads of what is done end at this number, and what a clause writes is one cell
abbrev pub Owes : Deed → ℕ → Type 0
Owes deed n = ReadsEnd deed n × IsOneCell deed

-- a point whose context stands before it, and whose Reads end there
pub record IsRight (p : Point) : Type 0 where
  pub stands : Stands p.context p.number
  pub owes : Owes p.deed p.number

-- ---- `off`s

abbrev pub IsOff : ℕ → Point → Type 0
IsOff d p = p.context.off ≡ Some d

abbrev pub IsNotOff : ℕ → Point → Type 0
IsNotOff d p = p.context.off ≢ Some d

-- those of this `off` come first, and none behind them has it
abbrev pub Front : ℕ → List Point → Type 0
Front d [] = Unit {0}
Front d (p ∷ ps) = (IsOff d p × Front d ps) ⊎ Each (IsNotOff d) (p ∷ ps)

abbrev pub FrontOf : Option ℕ → List Point → Type 0
FrontOf None ps = Unit {0}
FrontOf (Some d) ps = Front d ps

abbrev pub Together : List Point → Type 0
Together [] = Unit {0}
Together (p ∷ ps) = FrontOf p.context.off ps × Together ps

front_both : (d : ℕ) (xs ys : List Point) → Front d xs → Each (IsNotOff d) ys → Front d (xs ++ ys)
front_both d [] [] h k = tt
front_both d [] (y ∷ ys) h k = inr k
front_both d (x ∷ xs) ys (inl h) k = inl (h.0, front_both d xs ys h.1 k)
front_both d (x ∷ xs) ys (inr h) k = inr (both (IsNotOff d) (x ∷ xs) ys h k)

-- an `off` with a number from `low` on and before `high`, or none
abbrev pub IsAmong : ℕ → ℕ → Option ℕ → Type 0
IsAmong low high None = Unit {0}
IsAmong low high (Some d) = (low ≤ d) × (d < high)

abbrev pub HasAmong : ℕ → ℕ → Point → Type 0
HasAmong low high p = IsAmong low high p.context.off

not_among : (low high d : ℕ) (o : Option ℕ) → d < low → IsAmong low high o → o ≢ Some d
not_among low high d None less h = λ e. cc
not_among low high d (Some k) less h = λ e. let same : k ≡ d = cc in let l : low ≤ k = h.0 in omega (arith, same, l, less)

none_among : (low high d : ℕ) (ps : List Point) → d < low → Each (HasAmong low high) ps → Each (IsNotOff d) ps
none_among low high d ps less h = weaker (HasAmong low high) (IsNotOff d) (λ p. not_among low high d p.context.off less) ps h

front_of_both : (o : Option ℕ) (low middle high : ℕ) (xs ys : List Point) → IsAmong low middle o → FrontOf o xs → Each (HasAmong middle high) ys → FrontOf o (xs ++ ys)
front_of_both None low middle high xs ys a h k = tt
front_of_both (Some d) low middle high xs ys a h k = front_both d xs ys h (none_among middle high d ys a.1 k)

together_both : (low middle high : ℕ) (xs ys : List Point) → Each (HasAmong low middle) xs → Together xs → Each (HasAmong middle high) ys → Together ys → Together (xs ++ ys)
together_both low middle high [] ys a h b k = k
together_both low middle high (x ∷ xs) ys a h b k = (front_of_both x.context.off low middle high xs ys a.0 h.0 b, together_both low middle high xs ys a.1 h.1 b k)

among_wider : (low high below above : ℕ) (o : Option ℕ) → below ≤ low → high ≤ above → IsAmong low high o → IsAmong below above o
among_wider low high below above None l u h = tt
among_wider low high below above (Some d) l u h = let a : low ≤ d = h.0 in let c : d < high = h.1 in (omega (arith, a, l), omega (arith, c, u))

all_wider : (low high below above : ℕ) (ps : List Point) → below ≤ low → high ≤ above → Each (HasAmong low high) ps → Each (HasAmong below above) ps
all_wider low high below above ps l u h = weaker (HasAmong low high) (HasAmong below above) (λ p. among_wider low high below above p.context.off l u) ps h

-- points whose `off`s have numbers between these two, and stand together
pub record Grouped (low : ℕ) (ps : List Point) (high : ℕ) : Type 0 where
  pub ordered : low ≤ high
  pub among : Each (HasAmong low high) ps
  pub together : Together ps

pub grouped_both : (low middle start high end : ℕ) (xs ys : List Point) → Grouped low xs middle → Grouped start ys high → start ≡ middle → high ≡ end → Grouped low (xs ++ ys) end
grouped_both low middle start high end xs ys h k s e =
    let l : low ≤ middle = h.ordered in
    let u : start ≤ high = k.ordered in
    let own : Each (HasAmong middle high) ys = subst (λ z. Each (HasAmong z high) ys) s k.among in
    record {
      ordered = omega (arith, l, u, s, e);
      among =
          both (HasAmong low end) xs ys
          (all_wider low middle low end xs (omega arith) (omega (arith, l, u, s, e)) h.among)
          (all_wider middle high low end ys l (omega (arith, e)) own);
      together = together_both low middle high xs ys h.among h.together own k.together;
    }

grouped_none : (low high : ℕ) → low ≤ high → Grouped low [] high
grouped_none low high le = record { ordered = le; among = tt; together = tt }

-- one point in no `off`, or in one of its own
grouped_plain : (low high : ℕ) (p : Point) → low ≤ high → p.context.off ≡ None → Grouped low (p ∷ []) high
grouped_plain low high p le e = record { ordered = le; among = (subst (IsAmong low high) (sym e) tt, tt); together = (by_off p.context.off, tt) }
  where
    by_off : (o : Option ℕ) → FrontOf o []
    by_off None = tt
    by_off (Some d) = tt

grouped_own : (low d high : ℕ) (p : Point) → low ≤ d → d < high → IsOff d p → Grouped low (p ∷ []) high
grouped_own low d high p l u e = record { ordered = omega (arith, l, u); among = (subst (IsAmong low high) (sym e) (l, u), tt); together = (subst (λ o. FrontOf o []) (sym e) tt, tt) }

-- points that are all of one `off`
one_front : (d : ℕ) (ps : List Point) → Each (IsOff d) ps → Front d ps
one_front d [] h = tt
one_front d (p ∷ ps) h = inl (h.0, one_front d ps h.1)

one_together : (d : ℕ) (ps : List Point) → Each (IsOff d) ps → Together ps
one_together d [] h = tt
one_together d (p ∷ ps) h = (subst (λ o. FrontOf o ps) (sym h.0) (one_front d ps h.1), one_together d ps h.1)

grouped_one : (d : ℕ) (ps : List Point) → Each (IsOff d) ps → Grouped d ps (d + 1)
grouped_one d ps h =
    record {
      ordered = omega arith;
      among = weaker (IsOff d) (HasAmong d (d + 1)) (λ p e. subst (IsAmong d (d + 1)) (sym e) (omega arith, omega arith)) ps h;
      together = one_together d ps h;
    }

-- ---- pieces

pub record Good (x : Piece) : Type 0 where
  pub numbered : (context : Context) (n m : ℕ) → Numbered n (x.points context n m) (n + x.size)
  pub right : (context : Context) (n m : ℕ) → Stands context n → Each IsRight (x.points context n m)
  pub lets : (context : Context) (n : ℕ) → Each (IsNotedBefore n) context.lets → Each (IsNotedBefore (n + x.size)) (x.lets context n)
  pub calls : (context : Context) (n m : ℕ) → Each (λ p. p.context.call ≡ context.call) (x.points context n m)
  pub inside : (context : Context) (n m d : ℕ) → context.off ≡ Some d → Each (IsOff d) (x.points context n m)
  pub outside : (context : Context) (n m : ℕ) → context.off ≡ None → Grouped m (x.points context n m) (m + x.offs)

taken_none : (o : Option ℕ) (count m : ℕ) → o ≡ None → taken o count m ≡ m + count
taken_none o count m e = ap (λ z. taken z count m) e

pub good_nothing : Good nothing
good_nothing =
    record {
      numbered = λ context n m. omega arith;
      right = λ context n m h. tt;
      lets = λ context n h. noted_later n (n + 0) context.lets (omega arith) h;
      calls = λ context n m. tt;
      inside = λ context n m d e. tt;
      outside = λ context n m e. grouped_none m (m + 0) (omega arith);
    }

pub good_behind : (x y : Piece) → Good x → Good y → Good (behind x y)
good_behind x y g h =
    record {
      numbered = λ context n m.
          numbered_both n (n + x.size) (n + (x.size + y.size)) (x.points context n m) _ (g.numbered context n m)
          (subst (Numbered (n + x.size) (y.points (seeing (x.lets context n) context) (n + x.size) (taken context.off x.offs m))) (omega arith)
          (h.numbered (seeing (x.lets context n) context) (n + x.size) (taken context.off x.offs m)));
      right = λ context n m s.
          both IsRight (x.points context n m) (y.points (seeing (x.lets context n) context) (n + x.size) (taken context.off x.offs m)) (g.right context n m s)
          (h.right (seeing (x.lets context n) context) (n + x.size) (taken context.off x.offs m)
          (record { tests = ascends_later 0 n (n + x.size) context.branches (omega arith) s.tests; lets = g.lets context n s.lets }));
      lets = λ context n l.
          subst (λ k. Each (IsNotedBefore k) (y.lets (seeing (x.lets context n) context) (n + x.size))) (omega arith)
          (h.lets (seeing (x.lets context n) context) (n + x.size) (g.lets context n l));
      calls = λ context n m.
          both (λ p. p.context.call ≡ context.call) (x.points context n m) (y.points (seeing (x.lets context n) context) (n + x.size) (taken context.off x.offs m)) (g.calls context n m)
          (h.calls (seeing (x.lets context n) context) (n + x.size) (taken context.off x.offs m));
      inside = λ context n m d e.
          both (IsOff d) (x.points context n m) (y.points (seeing (x.lets context n) context) (n + x.size) (taken context.off x.offs m)) (g.inside context n m d e)
          (h.inside (seeing (x.lets context n) context) (n + x.size) (taken context.off x.offs m) d e);
      outside = λ context n m e.
          grouped_both m (m + x.offs) (taken context.off x.offs m) (taken context.off x.offs m + y.offs) (m + (x.offs + y.offs)) (x.points context n m) _
          (g.outside context n m e) (h.outside (seeing (x.lets context n) context) (n + x.size) (taken context.off x.offs m) e)
          (taken_none context.off x.offs m e)
          (let t : taken context.off x.offs m ≡ m + x.offs = taken_none context.off x.offs m e in omega (arith, t));
    }

-- Reads and a point behind them: what the point itself owes
numbered_last : (n size : ℕ) (ps : List Point) (p : Point) → Numbered n ps (n + size) → p.number ≡ n + size → Numbered n (ps ++ p ∷ []) (n + (size + 1))
numbered_last n size ps p h e = numbered_both n (n + size) (n + (size + 1)) ps (p ∷ []) h (e, omega arith)

right_last : (n size : ℕ) (context : Context) (deed : Deed) → Stands context n → Owes deed (n + size) → IsRight (record { number = n + size; context = context; deed = deed })
right_last n size context deed s e = record { stands = stands_later context n (n + size) (omega arith) s; owes = e }

abbrev pub AllEnd : Piece → (Context → ℕ → Deed) → Type 0
AllEnd x deed = (context : Context) (n : ℕ) → Owes (deed context n) (n + x.size)

pub good_served : (x : Piece) (deed : Context → ℕ → Deed) → Good x → AllEnd x deed → Good (served x deed)
good_served x deed g ends =
    record {
      numbered = λ context n m. numbered_last n x.size (x.points context n m) _ (g.numbered context n m) refl;
      right = λ context n m s. both IsRight (x.points context n m) (_ ∷ []) (g.right context n m s) (right_last n x.size context (deed context n) s (ends context n), tt);
      lets = λ context n l. noted_later n (n + (x.size + 1)) context.lets (omega arith) l;
      calls = λ context n m. both (λ p. p.context.call ≡ context.call) (x.points context n m) (_ ∷ []) (g.calls context n m) (refl, tt);
      inside = λ context n m d e. both (IsOff d) (x.points context n m) (_ ∷ []) (g.inside context n m d e) (e, tt);
      outside = λ context n m e.
          grouped_both m (m + x.offs) (m + x.offs) (m + x.offs) (m + x.offs) (x.points context n m) (_ ∷ []) (g.outside context n m e)
          (grouped_plain (m + x.offs) (m + x.offs) (record { number = n + x.size; context = context; deed = deed context n }) (omega arith) e) refl refl;
    }

-- the same place off the vector stands where it stands
stands_off : (context : Context) (k n : ℕ) → Stands context n → Stands (off_from k context) n
stands_off context k n s = record { tests = s.tests; lets = s.lets }

is_off : (o : Option ℕ) (k d : ℕ) → o ≡ Some d → Some (unwrap_or o k) ≡ Some d
is_off o k d e = ap (λ z. Some (unwrap_or z k)) e

is_own : (o : Option ℕ) (count m : ℕ) → o ≡ None → Some (unwrap_or o (taken o count m)) ≡ Some (m + count)
is_own o count m e = ap (λ z. Some (unwrap_or z (taken z count m))) e

is_first : (o : Option ℕ) (m : ℕ) → o ≡ None → Some (unwrap_or o m) ≡ Some m
is_first o m e = ap (λ z. Some (unwrap_or z m)) e

pub good_served_off : (x : Piece) (deed : Context → ℕ → Deed) → Good x → AllEnd x deed → Good (served_off x deed)
good_served_off x deed g ends =
    record {
      numbered = λ context n m. numbered_last n x.size (x.points context n m) _ (g.numbered context n m) refl;
      right = λ context n m s.
          both IsRight (x.points context n m) (_ ∷ []) (g.right context n m s)
          (right_last n x.size (off_from (taken context.off x.offs m) context) (deed context n) (stands_off context (taken context.off x.offs m) n s) (ends context n), tt);
      lets = λ context n l. noted_later n (n + (x.size + 1)) context.lets (omega arith) l;
      calls = λ context n m. both (λ p. p.context.call ≡ context.call) (x.points context n m) (_ ∷ []) (g.calls context n m) (refl, tt);
      inside = λ context n m d e. both (IsOff d) (x.points context n m) (_ ∷ []) (g.inside context n m d e) (is_off context.off (taken context.off x.offs m) d e, tt);
      outside = λ context n m e.
          grouped_both m (m + x.offs) (m + x.offs) (m + (x.offs + 1)) (m + (x.offs + 1)) (x.points context n m) (_ ∷ []) (g.outside context n m e)
          (grouped_own (m + x.offs) (m + x.offs) (m + (x.offs + 1)) (record { number = n + x.size; context = off_from (taken context.off x.offs m) context; deed = deed context n })
          (omega arith) (omega arith) (is_own context.off x.offs m e)) refl refl;
    }

pub good_off_vector : (x : Piece) → Good x → Good (off_vector x)
good_off_vector x g =
    record {
      numbered = λ context n m. g.numbered (off_from m context) n m;
      right = λ context n m s. g.right (off_from m context) n m (stands_off context m n s);
      lets = λ context n l. noted_later n (n + x.size) context.lets (omega arith) l;
      calls = λ context n m. g.calls (off_from m context) n m;
      inside = λ context n m d e. g.inside (off_from m context) n m d (is_off context.off m d e);
      outside = λ context n m e. grouped_one m (x.points (off_from m context) n m) (g.inside (off_from m context) n m m (is_first context.off m e));
    }

pub good_binding : (name : Name) (kind : Context → Kind) (x : Piece) (deed : Context → ℕ → Deed) → Good x → AllEnd x deed → Good (binding name kind x deed)
good_binding name kind x deed g ends =
    let h = good_served x deed g ends in
    record {
      numbered = h.numbered;
      right = h.right;
      lets = λ context n l. (omega arith, noted_later n (n + (x.size + 1)) context.lets (omega arith) l);
      calls = h.calls;
      inside = h.inside;
      outside = h.outside;
    }

-- a branch stands behind its test
stands_under : (context : Context) (n size : ℕ) (side : Bool) → Stands context n → Stands (under (n + size) side context) (n + size + 1)
stands_under context n size side s =
    record {
      tests = ascends_more 0 (n + size) side context.branches (ascends_later 0 n (n + size) context.branches (omega arith) s.tests);
      lets = noted_later n (n + size + 1) context.lets (omega arith) s.lets;
    }

module _ (x : Piece) (deed : Context → ℕ → Deed) (first second : Piece) where
  abbrev first_points : Context → ℕ → ℕ → List Point
  first_points context n m = first.points (under (n + x.size) true context) (n + x.size + 1) (taken context.off x.offs m)

  abbrev second_points : Context → ℕ → ℕ → List Point
  second_points context n m = second.points (under (n + x.size) false context) (n + x.size + 1 + first.size) (taken context.off (x.offs + first.offs) m)

  -- what holds of the points of the test and of both branches
  of_three : (P : Point → Type 0) (context : Context) (n m : ℕ) → Each P ((served x deed).points context n m) → Each P (first_points context n m) → Each P (second_points context n m)
      → Each P ((branching x deed first second).points context n m)
  of_three P context n m h k l =
      both P ((served x deed).points context n m) (first_points context n m ++ second_points context n m) h (both P (first_points context n m) (second_points context n m) k l)

  pub good_branching : Good x → AllEnd x deed → Good first → Good second → Good (branching x deed first second)
  good_branching g ends f s =
      let t = good_served x deed g ends in
      record {
        numbered = λ context n m.
            numbered_both n (n + (x.size + 1)) (n + (x.size + 1 + first.size + second.size)) ((served x deed).points context n m) _ (t.numbered context n m)
            (subst (λ k. Numbered k (first_points context n m ++ second_points context n m) (n + (x.size + 1 + first.size + second.size))) (omega arith)
            (numbered_both (n + x.size + 1) (n + x.size + 1 + first.size) (n + (x.size + 1 + first.size + second.size)) (first_points context n m) (second_points context n m)
            (f.numbered (under (n + x.size) true context) (n + x.size + 1) (taken context.off x.offs m))
            (subst (Numbered (n + x.size + 1 + first.size) (second_points context n m)) (omega arith)
            (s.numbered (under (n + x.size) false context) (n + x.size + 1 + first.size) (taken context.off (x.offs + first.offs) m)))));
        right = λ context n m h.
            of_three IsRight context n m (t.right context n m h)
            (f.right (under (n + x.size) true context) (n + x.size + 1) (taken context.off x.offs m) (stands_under context n x.size true h))
            (s.right (under (n + x.size) false context) (n + x.size + 1 + first.size) (taken context.off (x.offs + first.offs) m)
            (stands_later (under (n + x.size) false context) (n + x.size + 1) (n + x.size + 1 + first.size) (omega arith) (stands_under context n x.size false h)));
        lets = λ context n l. noted_later n (n + (x.size + 1 + first.size + second.size)) context.lets (omega arith) l;
        calls = λ context n m.
            of_three (λ p. p.context.call ≡ context.call) context n m (t.calls context n m)
            (f.calls (under (n + x.size) true context) (n + x.size + 1) (taken context.off x.offs m))
            (s.calls (under (n + x.size) false context) (n + x.size + 1 + first.size) (taken context.off (x.offs + first.offs) m));
        inside = λ context n m d e.
            of_three (IsOff d) context n m (t.inside context n m d e)
            (f.inside (under (n + x.size) true context) (n + x.size + 1) (taken context.off x.offs m) d e)
            (s.inside (under (n + x.size) false context) (n + x.size + 1 + first.size) (taken context.off (x.offs + first.offs) m) d e);
        outside = λ context n m e.
            let a = taken_none context.off x.offs m e in
            let b = taken_none context.off (x.offs + first.offs) m e in
            grouped_both m (m + x.offs) (m + x.offs) (m + (x.offs + first.offs + second.offs)) (m + (x.offs + first.offs + second.offs)) ((served x deed).points context n m) _
            (t.outside context n m e)
            (subst (λ k. Grouped k (first_points context n m ++ second_points context n m) (m + (x.offs + first.offs + second.offs))) a
            (grouped_both (taken context.off x.offs m) (taken context.off x.offs m + first.offs) (taken context.off (x.offs + first.offs) m)
            (taken context.off (x.offs + first.offs) m + second.offs) (m + (x.offs + first.offs + second.offs)) (first_points context n m) (second_points context n m)
            (f.outside (under (n + x.size) true context) (n + x.size + 1) (taken context.off x.offs m) e)
            (s.outside (under (n + x.size) false context) (n + x.size + 1 + first.size) (taken context.off (x.offs + first.offs) m) e)
            (omega (arith, a, b)) (omega (arith, b)))) refl refl;
      }
