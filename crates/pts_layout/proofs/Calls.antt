-- The calls of a program and their points.
use Rattle.std.proofs.Common.{◌≡◌, ℕ, ◌+◌, ◌-◌, ◌<◌, ◌≤◌, ⊎_elim, Option, Some, None, List, [], ◌∷◌, ◌++◌, length, refl, sym, ap, ◌∙◌, subst, arith}
use Rattle.std.specs.Prelude.{IsSomeAnd, slice_get}
use Rattle.std.proofs.lemmas.Option.{none-some}
use Rattle.pts_tree.specs.declared.script.Item.{Item}
use Rattle.pts_rules.specs.Known.{Scope}
use Rattle.pts_rules.specs.Parts.{Simple, Throw, Assign, Call, Loop, statements}
use Rattle.pts_rules.specs.Scopes.{known}
use Rattle.pts_points.specs.declared.point.CallInfo.{CallInfo}
use Rattle.pts_points.specs.declared.point.PointInfo.{PointInfo}
use Rattle.pts_points.specs.Building.{calls_among}
use Rattle.pts_points.specs.Pieces.{Point}
use Rattle.pts_points.specs.Points.{calls_from, calls_in, calls_of, context_of, item_points, points_from, points_of, statement_piece}
use Rattle.pts_points.specs.Standings.{HasPoint}
use Rattle.pts_points.proofs.CallLists.{points_named, points_within}
use Rattle.pts_points.proofs.Each.{Each, at_place, both, weaker}
use Rattle.pts_points.proofs.PointLists.{number_shown, shown_at}
use Rattle.pts_points.proofs.StatementTurns.{calls_count}
use Rattle.pts_points.proofs.Wholes.{good_statement}
use Rattle.pts_program.specs.declared.lists.Lists.{Lists}
use Rattle.pts_program.specs.Lists.{no_lists, with_item, IsProgram}
use Rattle.pts_program.proofs.ItemTurns.{IsTurn, by_items}
use Rattle.pts_layout.specs.Layout.{IsPointOfCall, StandsAt}
use Rattle.pts_layout.proofs.Items.{ArePlaced, AreOf, item_placed, none_placed, now_stands, one_more, placed_more, still_stands}
use Rattle.pts_layout.proofs.Places.{InSecond, found, in_either, in_second, still_found, within}

-- ---- the points of one item

-- a call that stands behind so many and before so many, or none
abbrev IsAmong : ℕ → ℕ → Option ℕ → Type 0
IsAmong low high None = Unit {0}
IsAmong low high (Some c) = (low ≤ c) × (c < high)

abbrev PointAmong : ℕ → ℕ → Point → Type 0
PointAmong low high p = IsAmong low high p.context.call

among_more : (low high front back : ℕ) (o : Option ℕ) → front ≤ low → high ≤ back → IsAmong low high o → IsAmong front back o
among_more low high front back None f g h = tt
among_more low high front back (Some c) f g h = let a : low ≤ c = h.0 in let b : c < high = h.1 in (omega (arith, a, f), omega (arith, b, g))

own_among : (scope : Scope) (c : ℕ) (x : Simple) → IsAmong c (c + calls_in x) (context_of scope c x).call
own_among scope c (Throw code) = tt
own_among scope c (Assign at x) = tt
own_among scope c (Call x) = (omega arith, omega arith)
own_among scope c (Loop x) = (omega arith, omega arith)

all_among : (scope : Scope) (n m c : ℕ) (xs : List Simple) → Each (PointAmong c (c + calls_among xs)) (points_from scope n m c xs)
all_among scope n m c [] = tt
all_among scope n m c (x ∷ xs) =
    let own = statement_piece scope x in
    let here = own.points (context_of scope c x) n m in
    let rest = points_from scope (n + own.size) (m + own.offs) (c + calls_in x) xs in
    let end = c + (calls_in x + calls_among xs) in
    both (PointAmong c end) here rest
    (weaker (λ p. p.context.call ≡ (context_of scope c x).call) (PointAmong c end)
    (λ p e. subst (IsAmong c end) (sym e) (among_more c (c + calls_in x) c end (context_of scope c x).call (omega arith) (omega arith) (own_among scope c x))) here
    ((good_statement scope x).calls (context_of scope c x) n m))
    (weaker (PointAmong (c + calls_in x) (c + calls_in x + calls_among xs)) (PointAmong c end)
    (λ p. among_more (c + calls_in x) (c + calls_in x + calls_among xs) c end p.context.call (omega arith) (omega arith)) rest
    (all_among scope (n + own.size) (m + own.offs) (c + calls_in x) xs))

-- the call that a point of an item names is one of the item
call_among : (scope : Scope) (item earlier : ℕ) (x : Item) (k c : ℕ) (y : PointInfo) → slice_get (points_of scope item earlier x) k ≡ Some y → y.call ≡ Some c
    → (earlier ≤ c) × (c < earlier + length (calls_of scope item earlier x))
call_among scope item earlier x k c y at named =
    let shown = shown_at scope item earlier x k y at in
    let all = at_place (PointAmong earlier (earlier + calls_among (statements x))) (item_points scope earlier x) k shown.point (all_among scope 0 0 earlier (statements x)) shown.place in
    let is : shown.point.context.call ≡ Some c = ap (λ z. z.call) shown.same ∙ named in
    let own : (earlier ≤ c) × (c < earlier + calls_among (statements x)) = subst (IsAmong earlier (earlier + calls_among (statements x))) is all in
    let count = calls_count scope item 0 (statements x) in
    let last = own.1 in
    (own.0, omega (arith, last, count))

-- the calls of an item are of it
abbrev OfItem : ℕ → CallInfo → Type 0
OfItem item x = x.item ≡ item

own_calls : (scope : Scope) (item n : ℕ) (xs : List Simple) → Each (OfItem item) (calls_from scope item n xs)
own_calls scope item n [] = tt
own_calls scope item n (Throw code ∷ xs) = own_calls scope item (n + (statement_piece scope (Throw code)).size) xs
own_calls scope item n (Assign at x ∷ xs) = own_calls scope item (n + (statement_piece scope (Assign at x)).size) xs
own_calls scope item n (Call x ∷ xs) = (refl, own_calls scope item (n + (statement_piece scope (Call x)).size) xs)
own_calls scope item n (Loop x ∷ xs) = (refl, own_calls scope item (n + (statement_piece scope (Loop x)).size) xs)

-- ---- one item more

-- this call has this point
abbrev Has : PointInfo → CallInfo → Type 0
Has x call = (call.item ≡ x.item) × HasPoint call x.number

-- the calls and points of the items up to this one
record AreTold (n : ℕ) (lists : Lists) : Type 0 where
  pub placed : ArePlaced n lists.points
  pub below : Each (λ call. call.item ≤ n) lists.calls
  pub named : (j c : ℕ) (x : PointInfo) → slice_get lists.points j ≡ Some x → x.call ≡ Some c → IsPointOfCall lists x c
  pub all : (c k : ℕ) (call : CallInfo) → slice_get lists.calls c ≡ Some call → HasPoint call k → StandsAt lists.points call.item k (λ x. x.call ≡ Some c)

module _ (scope : Scope) (n : ℕ) (lists : Lists) (x : Item) (old : AreTold n lists) where
  abbrev new_points : List PointInfo
  new_points = points_of scope (n + 1) (length lists.calls) x

  abbrev new_calls : List CallInfo
  new_calls = calls_of scope (n + 1) (length lists.calls) x

  abbrev next : Lists
  next = with_item scope (n + 1) lists x

  new_placed : AreOf (n + 1) new_points
  new_placed = item_placed scope (n + 1) (length lists.calls) x

  own_item : (d : ℕ) (y : CallInfo) → slice_get new_calls d ≡ Some y → y.item ≡ n + 1
  own_item d y called = at_place (OfItem (n + 1)) new_calls d y (own_calls scope (n + 1) 0 (statements x)) called

  -- the call that a new point names has it
  new_named : (k c : ℕ) (z : PointInfo) → slice_get new_points k ≡ Some z → z.call ≡ Some c → IsPointOfCall next z c
  new_named k c z at named =
      let among = call_among scope (n + 1) (length lists.calls) x k c z at named in
      let first = among.0 in
      let last = among.1 in
      let d = c - length lists.calls in
      let place : length lists.calls + d ≡ c = omega (arith, first) in
      let call = within new_calls d (omega (arith, first, last)) in
      let own : HasPoint call.element k =
      (points_named scope (n + 1) (length lists.calls) x d call.element call.there k z at).0 (named ∙ ap Some (sym place)) in
      let item : call.element.item ≡ z.item = own_item d call.element call.there ∙ sym (at_place (λ y. y.item ≡ n + 1) new_points k z new_placed.own at) in
      let number : HasPoint call.element z.number = subst (HasPoint call.element) (sym (number_shown scope (n + 1) (length lists.calls) x k z at)) own in
      subst (λ m. IsSomeAnd (slice_get (lists.calls ++ new_calls) m) (Has z)) place
      (found (Has z) (slice_get (lists.calls ++ new_calls) (length lists.calls + d)) call.element (in_second lists.calls new_calls d call.element call.there) (item, number))

  all_named : (j c : ℕ) (z : PointInfo) → slice_get next.points j ≡ Some z → z.call ≡ Some c → IsPointOfCall next z c
  all_named j c z at named =
      ⊎_elim (λ (here : slice_get lists.points j ≡ Some z). still_found (Has z) lists.calls new_calls c (old.named j c z here named))
      (λ (behind : InSecond lists.points new_points j z). new_named behind.place c z behind.there named) (in_either lists.points new_points j z at)

  -- each point of a new call names it
  new_all : (d k : ℕ) (call : CallInfo) → slice_get new_calls d ≡ Some call → HasPoint call k → StandsAt next.points call.item k (λ z. z.call ≡ Some (length lists.calls + d))
  new_all d k call called has =
      let end = points_within scope (n + 1) (length lists.calls) x d call called in
      let before = has.before in
      let point = within new_points k (omega (arith, end, before)) in
      let names = (points_named scope (n + 1) (length lists.calls) x d call called k point.element point.there).1 has in
      subst (λ m. StandsAt next.points m k (λ z. z.call ≡ Some (length lists.calls + d))) (sym (own_item d call called))
      (now_stands n lists.points new_points old.placed new_placed k point.element (λ z. z.call ≡ Some (length lists.calls + d)) point.there names)

  all_stand : (c k : ℕ) (call : CallInfo) → slice_get next.calls c ≡ Some call → HasPoint call k → StandsAt next.points call.item k (λ z. z.call ≡ Some c)
  all_stand c k call called has =
      ⊎_elim
      (λ (here : slice_get lists.calls c ≡ Some call).
      still_stands n lists.points new_points old.placed new_placed call.item k (λ z. z.call ≡ Some c) (at_place (λ y. y.item ≤ n) lists.calls c call old.below here) (old.all c k call here has))
      (λ (behind : InSecond lists.calls new_calls c call).
      subst (λ m. StandsAt next.points call.item k (λ z. z.call ≡ Some m)) (sym behind.behind) (new_all behind.place k call behind.there has)) (in_either lists.calls new_calls c call called)

  told_more : AreTold (n + 1) next
  told_more = record {
    placed = placed_more n lists.points new_points old.placed new_placed;
    below =
        both (λ y. y.item ≤ n + 1) lists.calls new_calls (weaker (λ y. y.item ≤ n) (λ y. y.item ≤ n + 1) (λ y h. omega (arith, h)) lists.calls old.below)
        (weaker (OfItem (n + 1)) (λ y. y.item ≤ n + 1) (λ y e. let own : y.item ≡ n + 1 = e in omega (arith, own)) new_calls (own_calls scope (n + 1) 0 (statements x)));
    named = all_named;
    all = all_stand;
  }

-- ---- a program

abbrev CallsTold : List Item → Lists → Type 0
CallsTold before lists = AreTold (length before) lists

told_turn : IsTurn CallsTold
told_turn before x lists keeps written h =
    subst (λ m. AreTold m (with_item (known before) (length before + 1) lists x)) (sym (one_more before x)) (told_more (known before) (length before) lists x h)

nothing_told : AreTold 0 no_lists
nothing_told = record { placed = none_placed; below = tt; named = λ j c x at. absurd (none-some x at); all = λ c k call at. absurd (none-some call at) }

all_told : (lists : Lists) (h : IsProgram lists) → AreTold (length h.script.items) lists
all_told = by_items CallsTold told_turn nothing_told

pub points_of_call : (lists : Lists) (j c : ℕ) (x : PointInfo) → IsProgram lists → slice_get lists.points j ≡ Some x → x.call ≡ Some c → IsPointOfCall lists x c
points_of_call lists j c x h = (all_told lists h).named j c x

pub calls_have_points : (lists : Lists) (c k : ℕ) (call : CallInfo) → IsProgram lists → slice_get lists.calls c ≡ Some call → HasPoint call k
    → StandsAt lists.points call.item k (λ x. x.call ≡ Some c)
calls_have_points lists c k call h = (all_told lists h).all c k call
