-- Which points are those of a call.
use Rattle.std.proofs.Common.{◌≡◌, ℕ, zero, suc, ◌+◌, ◌<◌, ◌≤◌, ⊎_elim, Option, Some, None, List, [], ◌∷◌, ◌++◌, length, refl, sym, ap, subst, ◌∙◌, arith}
use Rattle.std.specs.Prelude.{◌↔◌, ◌-◌, slice_get}
use Rattle.std.proofs.lemmas.Bool.{cases_lt}
use Rattle.std.proofs.lemmas.Option.{slice_get_within}
use Rattle.pts_tree.specs.declared.script.Item.{Item}
use Rattle.pts_rules.specs.Parts.{Simple, Throw, Assign, Call, Loop, statements}
use Rattle.pts_rules.specs.Known.{Scope}
use Rattle.pts_points.specs.declared.point.CallInfo.{CallInfo}
use Rattle.pts_points.specs.declared.point.PointInfo.{PointInfo}
use Rattle.pts_points.specs.Building.{points_among}
use Rattle.pts_points.specs.Pieces.{Point}
use Rattle.pts_points.specs.Points.{statement_piece, context_of, calls_in, points_from, item_points, call_at, calls_from, info, points_of, calls_of}
use Rattle.pts_points.specs.Standings.{HasPoint}
use Rattle.pts_points.proofs.Each.{Each, both, weaker, at_place}
use Rattle.pts_points.proofs.Wholes.{good_statement}
use Rattle.pts_points.proofs.Builds.{sized, map_length}
use Rattle.pts_points.proofs.StatementTurns.{points_count}
use Rattle.pts_points.proofs.PointLists.{shown_at}

-- ---- places in lists that are joined

in_front : {A : Type 0} (xs ys : List A) (k : ℕ) (x : A) → k < length xs → slice_get (xs ++ ys) k ≡ Some x → slice_get xs k ≡ Some x
in_front [] ys k x less at = absurd (omega (arith, less))
in_front (y ∷ xs) ys zero x less at = at
in_front (y ∷ xs) ys (suc k) x less at = in_front xs ys k x (omega (arith, less)) at

in_back : {A : Type 0} (xs ys : List A) (k : ℕ) (x : A) → slice_get (xs ++ ys) (length xs + k) ≡ Some x → slice_get ys k ≡ Some x
in_back [] ys k x at = subst (λ j. slice_get ys j ≡ Some x) (omega arith) at
in_back (y ∷ xs) ys k x at = let e : suc (length xs) + k ≡ suc (length xs + k) = omega arith in in_back xs ys k x (subst (λ j. slice_get (y ∷ (xs ++ ys)) j ≡ Some x) e at)

-- ---- the calls of points

-- a call of this number or a later one, or none
abbrev IsFrom : ℕ → Option ℕ → Type 0
IsFrom c None = Unit {0}
IsFrom c (Some d) = c ≤ d

abbrev PointFrom : ℕ → Point → Type 0
PointFrom c p = IsFrom c p.context.call

from_later : (c d : ℕ) (o : Option ℕ) → c ≤ d → IsFrom d o → IsFrom c o
from_later c d None le h = tt
from_later c d (Some k) le h = let l : d ≤ k = h in omega (arith, l, le)

own_from : (scope : Scope) (c : ℕ) (x : Simple) → IsFrom c (context_of scope c x).call
own_from scope c (Throw code) = tt
own_from scope c (Assign at x) = tt
own_from scope c (Call x) = omega arith
own_from scope c (Loop x) = omega arith

own_calls : (scope : Scope) (n m c : ℕ) (x : Simple) → Each (λ p. p.context.call ≡ (context_of scope c x).call) ((statement_piece scope x).points (context_of scope c x) n m)
own_calls scope n m c x = (good_statement scope x).calls (context_of scope c x) n m

all_from : (scope : Scope) (n m c : ℕ) (xs : List Simple) → Each (PointFrom c) (points_from scope n m c xs)
all_from scope n m c [] = tt
all_from scope n m c (x ∷ xs) =
    let own = statement_piece scope x in
    let rest = points_from scope (n + own.size) (m + own.offs) (c + calls_in x) xs in
    both (PointFrom c) (own.points (context_of scope c x) n m) rest
    (weaker (λ p. p.context.call ≡ (context_of scope c x).call) (PointFrom c) (λ p e. subst (IsFrom c) (sym e) (own_from scope c x)) (own.points (context_of scope c x) n m) (own_calls scope n m c x))
    (weaker (PointFrom (c + calls_in x)) (PointFrom c) (λ p. from_later c (c + calls_in x) p.context.call (omega arith)) rest (all_from scope (n + own.size) (m + own.offs) (c + calls_in x) xs))

-- a call whose points stand behind so many
abbrev StartsFrom : ℕ → CallInfo → Type 0
StartsFrom n x = n ≤ x.first_point

call_starts : (scope : Scope) (item n : ℕ) (x : Simple) → Each (StartsFrom n) (call_at scope item n x)
call_starts scope item n (Throw code) = tt
call_starts scope item n (Assign at x) = tt
call_starts scope item n (Call x) = (omega arith, tt)
call_starts scope item n (Loop x) = (omega arith, tt)

all_start : (scope : Scope) (item n : ℕ) (xs : List Simple) → Each (StartsFrom n) (calls_from scope item n xs)
all_start scope item n [] = tt
all_start scope item n (x ∷ xs) =
    let size = (statement_piece scope x).size in
    both (StartsFrom n) (call_at scope item n x) (calls_from scope item (n + size) xs) (call_starts scope item n x)
    (weaker (StartsFrom (n + size)) (StartsFrom n) (λ y l. let k : n + size ≤ y.first_point = l in omega (arith, k)) (calls_from scope item (n + size) xs) (all_start scope item (n + size) xs))

-- ---- the points of a call are those that name it

-- what is to be shown of a call and a point among statements
abbrev Agrees : Scope → ℕ → ℕ → ℕ → ℕ → List Simple → Type 0
Agrees scope item n m e xs =
    (c k : ℕ) (y : CallInfo) (p : Point) → slice_get (calls_from scope item n xs) c ≡ Some y → slice_get (points_from scope n m e xs) k ≡ Some p
    → (p.context.call ≡ Some (e + c)) ↔ HasPoint y (n + k)

-- both sides are wrong
neither : {A B : Type 0} → ¬ A → ¬ B → A ↔ B
neither f g = ((λ a. absurd (f a)), (λ b. absurd (g b)))

module _ (scope : Scope) (item n m e : ℕ) (x : Simple) (xs : List Simple) where
  abbrev own_points : List Point
  own_points = (statement_piece scope x).points (context_of scope e x) n m

  abbrev size : ℕ
  size = (statement_piece scope x).size

  abbrev rest_points : List Point
  rest_points = points_from scope (n + size) (m + (statement_piece scope x).offs) (e + calls_in x) xs

  own_length : length own_points ≡ size
  own_length = sized (statement_piece scope x) (good_statement scope x) (context_of scope e x) n m

  own_call : (k : ℕ) (p : Point) → k < length own_points → slice_get (own_points ++ rest_points) k ≡ Some p → p.context.call ≡ (context_of scope e x).call
  own_call k p less at = at_place (λ q. q.context.call ≡ (context_of scope e x).call) own_points k p (own_calls scope n m e x) (in_front own_points rest_points k p less at)

  later_place : (k : ℕ) (p : Point) → length own_points ≤ k → slice_get (own_points ++ rest_points) k ≡ Some p → slice_get rest_points (k - length own_points) ≡ Some p
  later_place k p past at = in_back own_points rest_points (k - length own_points) p (subst (λ j. slice_get (own_points ++ rest_points) j ≡ Some p) (omega (arith, past)) at)

  -- a call behind the statement has no point in it
  not_in_front : (c k : ℕ) (y : CallInfo) → k < length own_points → slice_get (calls_from scope item (n + size) xs) c ≡ Some y → ¬ HasPoint y (n + k)
  not_in_front c k y less at h =
      let start : n + size ≤ y.first_point = at_place (StartsFrom (n + size)) (calls_from scope item (n + size) xs) c y (all_start scope item (n + size) xs) at in
      let l = own_length in
      let f = h.from in
      omega (arith, start, l, f, less)

  module _ (ih : Agrees scope item (n + size) (m + (statement_piece scope x).offs) (e + calls_in x) xs) where
    -- a point behind the statement, and a call behind it
    both_later : (c k : ℕ) (y : CallInfo) (p : Point) → length own_points ≤ k → slice_get (calls_from scope item (n + size) xs) c ≡ Some y
        → slice_get (own_points ++ rest_points) k ≡ Some p → (p.context.call ≡ Some (e + calls_in x + c)) ↔ HasPoint y (n + k)
    both_later c k y p past called at =
        let l = own_length in
        subst (λ j. (p.context.call ≡ Some (e + calls_in x + c)) ↔ HasPoint y j) (omega (arith, l, past)) (ih c (k - length own_points) y p called (later_place k p past at))

    plain_agrees : call_at scope item n x ≡ [] → (context_of scope e x).call ≡ None → calls_in x ≡ 0 → Agrees scope item n m e (x ∷ xs)
    plain_agrees none no_call no_number c k y p called at =
        let later : slice_get (calls_from scope item (n + size) xs) c ≡ Some y = subst (λ zs. slice_get (zs ++ calls_from scope item (n + size) xs) c ≡ Some y) none called in
        ⊎_elim
        (λ less. neither (λ named. let o : p.context.call ≡ None = own_call k p less at ∙ no_call in cc) (not_in_front c k y less later))
        (λ past. subst (λ q. (p.context.call ≡ Some q) ↔ HasPoint y (n + k)) (omega (arith, no_number)) (both_later c k y p past later at))
        (cases_lt k (length own_points))

    call_agrees : (z : CallInfo) → call_at scope item n x ≡ z ∷ [] → z.first_point ≡ n → z.points ≡ size → (context_of scope e x).call ≡ Some e → calls_in x ≡ 1 → Agrees scope item n m e (x ∷ xs)
    call_agrees z is first many own_is one zero k y p called at =
        let same : z ≡ y = (let there : slice_get ((z ∷ []) ++ calls_from scope item (n + size) xs) 0 ≡ Some y = subst (λ zs. slice_get (zs ++ calls_from scope item (n + size) xs) 0 ≡ Some y) is called in cc) in
        let from : y.first_point ≡ n = ap (λ q. q.first_point) (sym same) ∙ first in
        let count : y.points ≡ size = ap (λ q. q.points) (sym same) ∙ many in
        let l = own_length in
        ⊎_elim
        (λ less. (
          (λ named. record { from = omega (arith, from); before = omega (arith, from, count, l, less) }),
          (λ h. own_call k p less at ∙ own_is ∙ ap Some (omega arith)),
        ))
        (λ past. neither
        (λ named. let later : PointFrom (e + calls_in x) p = at_place (PointFrom (e + calls_in x)) rest_points (k - length own_points) p
        (all_from scope (n + size) (m + (statement_piece scope x).offs) (e + calls_in x) xs) (later_place k p past at) in
        let bound : e + calls_in x ≤ e + 0 = subst (IsFrom (e + calls_in x)) named later in omega (arith, bound, one))
        (λ h. let b = h.before in omega (arith, b, from, count, l, past)))
        (cases_lt k (length own_points))
    call_agrees z is first many own_is one (suc c) k y p called at =
        let later : slice_get (calls_from scope item (n + size) xs) c ≡ Some y = subst (λ zs. slice_get (zs ++ calls_from scope item (n + size) xs) (suc c) ≡ Some y) is called in
        ⊎_elim
        (λ less. neither (λ named. let o : Some e ≡ Some (e + suc c) = sym own_is ∙ sym (own_call k p less at) ∙ named in let s : e ≡ e + suc c = cc in omega (arith, s)) (not_in_front c k y less later))
        (λ past. subst (λ q. (p.context.call ≡ Some q) ↔ HasPoint y (n + k)) (omega (arith, one)) (both_later c k y p past later at))
        (cases_lt k (length own_points))

all_agree : (scope : Scope) (item n m e : ℕ) (xs : List Simple) → Agrees scope item n m e xs
all_agree scope item n m e [] = λ c k y p called at. absurd (let l : c < 0 = slice_get_within [] c y called in omega (arith, l))
all_agree scope item n m e (Throw code ∷ xs) =
    plain_agrees scope item n m e (Throw code) xs (all_agree scope item (n + 0) (m + 0) (e + 0) xs) refl refl refl
all_agree scope item n m e (Assign at x ∷ xs) =
    let own = statement_piece scope (Assign at x) in
    plain_agrees scope item n m e (Assign at x) xs (all_agree scope item (n + own.size) (m + own.offs) (e + 0) xs) refl refl refl
all_agree scope item n m e (Call x ∷ xs) =
    let own = statement_piece scope (Call x) in
    call_agrees scope item n m e (Call x) xs (all_agree scope item (n + own.size) (m + own.offs) (e + 1) xs) _ refl refl refl refl refl
all_agree scope item n m e (Loop x ∷ xs) =
    let own = statement_piece scope (Loop x) in
    call_agrees scope item n m e (Loop x) xs (all_agree scope item (n + own.size) (m + own.offs) (e + 1) xs) _ refl refl refl refl refl

-- of a whole item: the points of a call are those that name it, and the item has them
module _ (scope : Scope) (item earlier : ℕ) (x : Item) (c : ℕ) (y : CallInfo) (called : slice_get (calls_of scope item earlier x) c ≡ Some y) where
  pub points_named : (k : ℕ) (z : PointInfo) → slice_get (points_of scope item earlier x) k ≡ Some z → (z.call ≡ Some (earlier + c)) ↔ HasPoint y k
  points_named k z at =
      let shown = shown_at scope item earlier x k z at in
      let agrees : (shown.point.context.call ≡ Some (earlier + c)) ↔ HasPoint y (0 + k) = all_agree scope item 0 0 earlier (statements x) c k y shown.point called shown.place in
      subst (λ q. (q.call ≡ Some (earlier + c)) ↔ HasPoint y k) shown.same (subst (λ j. (shown.point.context.call ≡ Some (earlier + c)) ↔ HasPoint y j) (omega arith) agrees)

-- the points of a call are points of the item
abbrev EndsBy : ℕ → CallInfo → Type 0
EndsBy e x = x.first_point + x.points ≤ e

call_ends : (scope : Scope) (item n e : ℕ) (x : Simple) → n + (statement_piece scope x).size ≤ e → Each (EndsBy e) (call_at scope item n x)
call_ends scope item n e (Throw code) le = tt
call_ends scope item n e (Assign at x) le = tt
call_ends scope item n e (Call x) le = (le, tt)
call_ends scope item n e (Loop x) le = (le, tt)

all_end : (scope : Scope) (item n e : ℕ) (xs : List Simple) → n + points_among scope xs ≤ e → Each (EndsBy e) (calls_from scope item n xs)
all_end scope item n e [] le = tt
all_end scope item n e (x ∷ xs) le =
    let size = (statement_piece scope x).size in
    both (EndsBy e) (call_at scope item n x) (calls_from scope item (n + size) xs) (call_ends scope item n e x (omega (arith, le))) (all_end scope item (n + size) e xs (omega (arith, le)))

pub points_within : (scope : Scope) (item earlier : ℕ) (x : Item) (c : ℕ) (y : CallInfo) → slice_get (calls_of scope item earlier x) c ≡ Some y
    → y.first_point + y.points ≤ length (points_of scope item earlier x)
points_within scope item earlier x c y called =
    let total = points_among scope (statements x) in
    let count : length (points_of scope item earlier x) ≡ total = map_length (info item) (item_points scope earlier x) ∙ points_count scope 0 0 earlier (statements x) in
    let h : y.first_point + y.points ≤ total = at_place (EndsBy total) (calls_of scope item earlier x) c y (all_end scope item 0 total (statements x) (omega arith)) called in
    omega (arith, h, count)
