-- A program has one least conflict at most.
use Rattle.std.proofs.Common.{◌≡◌, ℕ, true, Some, None, Option, List, [], ◌∷◌, slice_get, refl, sym, ap, ◌∙◌, arith}
use Rattle.std.specs.List.{Contains}
use Rattle.std.proofs.lemmas.Bool.Decides.{nat_tests}
use Rattle.pts_points.specs.declared.point.PointInfo.{PointInfo}
use Rattle.pts_program.specs.declared.lists.Lists.{Lists}
use Rattle.pts_program.specs.Lists.{IsProgram}
use Rattle.pts_layout.specs.Layout.{points_before}
use Rattle.pts_conflict.specs.declared.pair.Pair.{Pair}
use Rattle.pts_conflict.specs.Conflicts.{Conflicts, IsClear, IsLeastConflict, is_at_most, rank}
use Rattle.pts_conflict.proofs.Elements.{index_of}
use Rattle.pts_conflict.proofs.ProgramLaws.{placed}

-- ---- ranks

same_head : (x y : ℕ) (xs ys : List ℕ) → is_at_most (x ∷ xs) (y ∷ ys) ≡ true → is_at_most (y ∷ ys) (x ∷ xs) ≡ true → x ≡ y
same_head x y xs ys h k = grind (arith, nat_tests, h, k)

rest_at_most : (x y : ℕ) (xs ys : List ℕ) → x ≡ y → is_at_most (x ∷ xs) (y ∷ ys) ≡ true → is_at_most xs ys ≡ true
rest_at_most x y xs ys same h = grind (arith, nat_tests, same, h)

same_list : (xs ys : List ℕ) → is_at_most xs ys ≡ true → is_at_most ys xs ≡ true → xs ≡ ys
same_list [] [] h k = refl
same_list [] (y ∷ ys) h k = absurd (cc)
same_list (x ∷ xs) [] h k = absurd (cc)
same_list (x ∷ xs) (y ∷ ys) h k =
    let same = same_head x y xs ys h k in
    let rest = same_list xs ys (rest_at_most x y xs ys same h) (rest_at_most y x ys xs (sym same) k) in
    λ i. same i ∷ rest i

-- what a rank tells of its pair
pub record Same (x y : Pair) : Type 0 where
  pub item : x.item ≡ y.item
  pub p : x.p ≡ y.p
  pub q : x.q ≡ y.q
  pub k : x.k ≡ y.k
  pub m : x.m ≡ y.m
  pub cell : x.cell ≡ y.cell

told : (o o' : Option ℕ) (x y : Pair) → rank o x ≡ rank o' y → Same x y
told (Some c) (Some c') x y e = record { item = cc; p = cc; q = cc; k = cc; m = cc; cell = cc }
told None None x y e = record { item = cc; p = cc; q = cc; k = cc; m = cc; cell = cc }
told (Some c) None x y e = absurd (let differ : ◌≡◌ {A = ℕ} 0 1 = cc in omega (arith, differ))
told None (Some c) x y e = absurd (let differ : ◌≡◌ {A = ℕ} 1 0 = cc in omega (arith, differ))

-- ---- points

module _ (lists : Lists) (program : IsProgram lists) where
  -- a number of an item is that of one point
  same_point : (a b : PointInfo) → Contains lists.points a → Contains lists.points b → a.item ≡ b.item → a.number ≡ b.number → a ≡ b
  same_point a b h k item number =
      let i = index_of lists.points a h in
      let j = index_of lists.points b k in
      let place = placed lists program i.0 a i.1 in
      let other = placed lists program j.0 b j.1 in
      let before = ap (points_before lists.points) item in
      let same : i.0 ≡ j.0 = omega (arith, place, other, before, number) in
      let e : Some a ≡ Some b = sym i.1 ∙ ap (slice_get lists.points) same ∙ j.1 in
      cc

  -- the first point of a conflict, of which its array is told
  pub record FirstPoint (x : Pair) : Type 0 where
    pub a : PointInfo
    pub there : Contains lists.points a
    pub item : x.item ≡ a.item
    pub k : x.k ≡ a.number
    pub array : x.array ≡ a.array

  first_point : (o : Option ℕ) (x : Pair) → Conflicts lists o x → FirstPoint x
  first_point (Some c) x h = record { a = h.a; there = h.first; item = h.meet.names.item; k = h.meet.names.k; array = h.meet.names.array }
  first_point None x h = record { a = h.a; there = h.first; item = h.meet.names.item; k = h.meet.names.k; array = h.meet.names.array }

  pub one_conflict : (x y : Pair) → IsLeastConflict lists x → IsLeastConflict lists y → x ≡ y
  one_conflict x y h g =
      let s = told h.call g.call x y (same_list (rank h.call x) (rank g.call y) (h.least g.call y g.conflicts) (g.least h.call x h.conflicts)) in
      let f = first_point h.call x h.conflicts in
      let g' = first_point g.call y g.conflicts in
      let point = same_point f.a g'.a f.there g'.there (sym f.item ∙ s.item ∙ g'.item) (sym f.k ∙ s.k ∙ g'.k) in
      let array : x.array ≡ y.array = f.array ∙ ap (λ z. z.array) point ∙ sym g'.array in
      λ i. record { item = s.item i; array = array i; cell = s.cell i; p = s.p i; k = s.k i; q = s.q i; m = s.m i }

pub none_least : (lists : Lists) (x : Pair) → IsClear lists → IsLeastConflict lists x → ⊥
none_least lists x clear h = clear h.call x h.conflicts
