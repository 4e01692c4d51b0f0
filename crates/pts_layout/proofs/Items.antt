-- The points of a program stand item by item, and in an item by their numbers.
use Rattle.std.proofs.Common.{◌≡◌, ℕ, ◌+◌, ◌<◌, ◌≤◌, ⊎_elim, true, false, cond, Some, List, [], ◌∷◌, ◌++◌, length, map, refl, sym, ap, ◌∙◌, subst, arith}
use Rattle.std.specs.Prelude.{◌↔◌, IsSomeAnd, nat_lt, slice_get}
use Rattle.std.proofs.lemmas.Bool.{cases_lt}
use Rattle.std.proofs.lemmas.Bool.Decides.{nat_tests}
use Rattle.std.proofs.lemmas.List.{length-append}
use Rattle.std.proofs.lemmas.List.Sums.{count_by-le-length, sum_by-append, sum_by-cons}
use Rattle.std.proofs.lemmas.Option.{none-some, slice_get_within}
use Rattle.pts_tree.specs.declared.script.Item.{Item}
use Rattle.pts_rules.specs.Known.{Scope}
use Rattle.pts_rules.specs.Scopes.{known}
use Rattle.pts_points.specs.declared.point.PointInfo.{PointInfo}
use Rattle.pts_points.specs.Pieces.{Point}
use Rattle.pts_points.specs.Points.{info, item_points, points_of}
use Rattle.pts_points.proofs.Each.{Each, at_place, both, weaker}
use Rattle.pts_points.proofs.PointLists.{number_shown}
use Rattle.pts_program.specs.declared.lists.Lists.{Lists}
use Rattle.pts_program.specs.Lists.{IsProgram}
use Rattle.pts_program.proofs.ItemTurns.{IsTurn, by_items}
use Rattle.pts_layout.specs.Layout.{StandsAt, points_before}
use Rattle.pts_layout.proofs.Places.{InSecond, found, in_either, in_second, still_found}

-- ---- counts

-- each of these points is of an item before this one, or none is
all_before : (item : ℕ) (xs : List PointInfo) → Each (λ x. x.item < item) xs → points_before xs item ≡ length xs
all_before item [] h = refl
all_before item (x ∷ xs) h =
    let own : x.item < item = h.0 in
    let test : nat_lt x.item item ≡ true = grind (arith, nat_tests, own) in
    let rest = all_before item xs h.1 in
    let more : points_before (x ∷ xs) item ≡ 1 + points_before xs item =
    sum_by-cons (λ y. cond (nat_lt y.item item) 1 0) x xs ∙ ap (λ b. cond b 1 0 + points_before xs item) test in
    omega (arith, more, rest)

none_before : (item : ℕ) (xs : List PointInfo) → Each (λ x. item ≤ x.item) xs → points_before xs item ≡ 0
none_before item [] h = refl
none_before item (x ∷ xs) h =
    let own : item ≤ x.item = h.0 in
    let test : nat_lt x.item item ≡ false = grind (arith, nat_tests, own) in
    let rest = none_before item xs h.1 in
    let more : points_before (x ∷ xs) item ≡ 0 + points_before xs item =
    sum_by-cons (λ y. cond (nat_lt y.item item) 1 0) x xs ∙ ap (λ b. cond b 1 0 + points_before xs item) test in
    omega (arith, more, rest)

before_both : (item : ℕ) (xs ys : List PointInfo) → points_before (xs ++ ys) item ≡ points_before xs item + points_before ys item
before_both item xs ys = sum_by-append (λ y. cond (nat_lt y.item item) 1 0) xs ys

-- ---- points of one item behind those of the items before it

-- the points of the items up to this one
pub record ArePlaced (n : ℕ) (points : List PointInfo) : Type 0 where
  pub below : Each (λ x. x.item ≤ n) points
  pub lower : (item j : ℕ) (x : PointInfo) → slice_get points j ≡ Some x → (x.item < item) ↔ (j < points_before points item)
  pub places : (j : ℕ) (x : PointInfo) → slice_get points j ≡ Some x → j ≡ points_before points x.item + x.number

-- the points of this item
pub record AreOf (item : ℕ) (points : List PointInfo) : Type 0 where
  pub own : Each (λ x. x.item ≡ item) points
  pub numbers : (k : ℕ) (x : PointInfo) → slice_get points k ≡ Some x → x.number ≡ k

-- both sides are right, or both are wrong
yes : {A B : Type 0} → A → B → A ↔ B
yes a b = ((λ h. b), (λ h. a))

no : {A B : Type 0} → ¬ A → ¬ B → A ↔ B
no f g = ((λ a. absurd (f a)), (λ b. absurd (g b)))

module _ (n : ℕ) (xs ys : List PointInfo) (old : ArePlaced n xs) (new : AreOf (n + 1) ys) where
  -- a new item changes nothing before it
  pub before_same : (item : ℕ) → item ≤ n + 1 → points_before (xs ++ ys) item ≡ points_before xs item
  before_same item le =
      let none = none_before item ys (weaker (λ x. x.item ≡ n + 1) (λ x. item ≤ x.item) (λ x e. omega (arith, e, le)) ys new.own) in
      let sum = before_both item xs ys in
      omega (arith, none, sum)

  old_count : points_before xs (n + 1) ≡ length xs
  old_count = all_before (n + 1) xs (weaker (λ x. x.item ≤ n) (λ x. x.item < n + 1) (λ x h. omega (arith, h)) xs old.below)

  pub before_new : points_before (xs ++ ys) (n + 1) ≡ length xs
  before_new = before_same (n + 1) (omega arith) ∙ old_count

  all_below : Each (λ x. x.item ≤ n + 1) (xs ++ ys)
  all_below =
      both (λ x. x.item ≤ n + 1) xs ys (weaker (λ x. x.item ≤ n) (λ x. x.item ≤ n + 1) (λ x h. omega (arith, h)) xs old.below)
      (weaker (λ x. x.item ≡ n + 1) (λ x. x.item ≤ n + 1) (λ x e. omega (arith, e)) ys new.own)

  before_later : (item : ℕ) → n + 1 < item → points_before (xs ++ ys) item ≡ length (xs ++ ys)
  before_later item less = all_before item (xs ++ ys) (weaker (λ x. x.item ≤ n + 1) (λ x. x.item < item) (λ x h. omega (arith, h, less)) (xs ++ ys) all_below)

  few_before : (item : ℕ) → points_before xs item ≤ length xs
  few_before item = count_by-le-length (λ y. nat_lt y.item item) xs

  old_item : (j : ℕ) (x : PointInfo) → slice_get xs j ≡ Some x → x.item ≤ n
  old_item j x at = at_place (λ y. y.item ≤ n) xs j x old.below at

  new_item : (k : ℕ) (x : PointInfo) → slice_get ys k ≡ Some x → x.item ≡ n + 1
  new_item k x at = at_place (λ y. y.item ≡ n + 1) ys k x new.own at

  all_lower : (item j : ℕ) (x : PointInfo) → slice_get (xs ++ ys) j ≡ Some x → (x.item < item) ↔ (j < points_before (xs ++ ys) item)
  all_lower item j x at = ⊎_elim late early (cases_lt (n + 1) item)
    where
      late : n + 1 < item → (x.item < item) ↔ (j < points_before (xs ++ ys) item)
      late less =
          let own : x.item ≤ n + 1 = at_place (λ y. y.item ≤ n + 1) (xs ++ ys) j x all_below at in
          let all = before_later item less in
          let inside : j < length (xs ++ ys) = slice_get_within (xs ++ ys) j x at in
          yes (omega (arith, own, less)) (omega (arith, inside, all))

      early : item ≤ n + 1 → (x.item < item) ↔ (j < points_before (xs ++ ys) item)
      early le =
          subst (λ m. (x.item < item) ↔ (j < m)) (sym (before_same item le))
          (⊎_elim (λ (here : slice_get xs j ≡ Some x). old.lower item j x here)
          (λ (behind : InSecond xs ys j x).
          let own = new_item behind.place x behind.there in
          let place = behind.behind in
          let few = few_before item in
          no (λ h. omega (arith, own, le, h)) (λ h. omega (arith, place, few, h))) (in_either xs ys j x at))

  all_places : (j : ℕ) (x : PointInfo) → slice_get (xs ++ ys) j ≡ Some x → j ≡ points_before (xs ++ ys) x.item + x.number
  all_places j x at =
      ⊎_elim
      (λ (here : slice_get xs j ≡ Some x).
      let own = old_item j x here in
      let same = before_same x.item (omega (arith, own)) in
      let place = old.places j x here in
      omega (arith, same, place))
      (λ (behind : InSecond xs ys j x).
      let count = ap (points_before (xs ++ ys)) (new_item behind.place x behind.there) ∙ before_new in
      let number = new.numbers behind.place x behind.there in
      let place = behind.behind in
      omega (arith, count, number, place)) (in_either xs ys j x at)

  pub placed_more : ArePlaced (n + 1) (xs ++ ys)
  placed_more = record { below = all_below; lower = all_lower; places = all_places }

  -- a point of an earlier item stands where it stood, and one of the new item behind those of the earlier ones
  pub still_stands : (item k : ℕ) (P : PointInfo → Type 0) → item ≤ n → StandsAt xs item k P → StandsAt (xs ++ ys) item k P
  still_stands item k P le h =
      subst (λ m. IsSomeAnd (slice_get (xs ++ ys) (m + k)) (λ x. (x.item ≡ item) × (x.number ≡ k) × P x)) (sym (before_same item (omega (arith, le))))
      (still_found (λ x. (x.item ≡ item) × (x.number ≡ k) × P x) xs ys (points_before xs item + k) h)

  pub now_stands : (k : ℕ) (x : PointInfo) (P : PointInfo → Type 0) → slice_get ys k ≡ Some x → P x → StandsAt (xs ++ ys) (n + 1) k P
  now_stands k x P at h =
      subst (λ m. IsSomeAnd (slice_get (xs ++ ys) (m + k)) (λ y. (y.item ≡ n + 1) × (y.number ≡ k) × P y)) (sym before_new)
      (found (λ y. (y.item ≡ n + 1) × (y.number ≡ k) × P y) (slice_get (xs ++ ys) (length xs + k)) x (in_second xs ys k x at) (new_item k x at, new.numbers k x at, h))

-- ---- the points of a program

own_items : (item : ℕ) (ps : List Point) → Each (λ x. x.item ≡ item) (map (info item) ps)
own_items item [] = tt
own_items item (p ∷ ps) = (refl, own_items item ps)

pub item_placed : (scope : Scope) (item earlier : ℕ) (x : Item) → AreOf item (points_of scope item earlier x)
item_placed scope item earlier x = record { own = own_items item (item_points scope earlier x); numbers = λ k y at. number_shown scope item earlier x k y at }

pub one_more : {A : Type 0} (xs : List A) (x : A) → length (xs ++ x ∷ []) ≡ length xs + 1
one_more xs x = length-append xs (x ∷ [])

abbrev ItemsPlaced : List Item → Lists → Type 0
ItemsPlaced before lists = ArePlaced (length before) lists.points

placed_turn : IsTurn ItemsPlaced
placed_turn before x lists keeps written h =
    let new = points_of (known before) (length before + 1) (length lists.calls) x in
    subst (λ m. ArePlaced m (lists.points ++ new)) (sym (one_more before x))
    (placed_more (length before) lists.points new h (item_placed (known before) (length before + 1) (length lists.calls) x))

pub none_placed : ArePlaced 0 []
none_placed = record { below = tt; lower = λ item j x at. absurd (none-some x at); places = λ j x at. absurd (none-some x at) }

pub all_placed : (lists : Lists) (h : IsProgram lists) → ArePlaced (length h.script.items) lists.points
all_placed = by_items ItemsPlaced placed_turn none_placed
