-- The conflicts of a call are pairs of the points that stand together for it.
use Rattle.std.proofs.Common.{◌≡◌, ◌≢◌, ℕ, ◌+◌, ◌-◌, ◌<◌, ◌≤◌, Some, None, Option, List, slice_get, sym, ap, ◌∙◌, subst, arith}
use Rattle.std.specs.Prelude.{All, IsSomeAnd}
use Rattle.pts_types.specs.declared.operation.Policy.TheVariants as policies
use Rattle.pts_points.specs.declared.point.CallInfo.{CallInfo}
use Rattle.pts_points.specs.declared.point.PointInfo.{PointInfo}
use Rattle.pts_points.specs.Standings.{HasPoint}
use Rattle.pts_program.specs.declared.lists.Lists.{Lists}
use Rattle.pts_program.specs.Lists.{IsProgram}
use Rattle.pts_program.specs.Ranges.{IsInRange}
use Rattle.pts_layout.specs.Layout.{call_start, points_before, points_of_call}
use Rattle.pts_conflict.specs.declared.found.Found.{Found}
use Rattle.pts_conflict.specs.Conflicts.{is_loop}
use Rattle.pts_conflict.specs.Search.{Across, FindsFirst, InCallOf, IsFit, OneOf, PairInCall, rank_of}
use Rattle.pts_conflict.proofs.Elements.{at_index, element_of, index_of, of_element}
use Rattle.pts_conflict.proofs.Firsts.{renamed}
use Rattle.pts_conflict.proofs.ProgramLaws.{fits, in_range, named, placed, stands}
use Rattle.pts_conflict.proofs.Meetings.{call_along, call_meet}
use Rattle.pts_conflict.proofs.Ranges.{all_at, from_range, in_range_of, range_all}

module _ (lists : Lists) (program : IsProgram lists) (c : ℕ) (call : CallInfo) (there : slice_get lists.calls c ≡ Some call) where
  abbrev start : ℕ
  start = call_start lists.points call

  -- a point that names the call stands among the call's own
  own_place : (x : PointInfo) (j : ℕ) → slice_get lists.points j ≡ Some x → x.call ≡ Some c → (start ≤ j) × (j < start + call.points)
  own_place x j at is = by_call (slice_get lists.calls c) there (named lists program j c x at is)
    where
      by_call : (o : Option CallInfo) → o ≡ Some call → IsSomeAnd o (λ y. (y.item ≡ x.item) × HasPoint y x.number) → (start ≤ j) × (j < start + call.points)
      by_call None e h = absurd (let n : None ≡ Some call = e in cc)
      by_call (Some y) e h =
          let same : y ≡ call = cc in
          let item : x.item ≡ call.item = sym h.0 ∙ ap (λ z. z.item) same in
          let point : HasPoint call x.number = subst (λ z. HasPoint z x.number) same h.1 in
          let place : j ≡ points_before lists.points call.item + x.number = placed lists program j x at ∙ ap (λ n. points_before lists.points n + x.number) item in
          let low = point.from in let high = point.before in
          ((omega (arith, place, low)), (omega (arith, place, high)))

  -- what stands there is of the call
  own_call : (j : ℕ) (x : PointInfo) → start ≤ j → j < start + call.points → slice_get lists.points j ≡ Some x → x.call ≡ Some c
  own_call j x from to at = by_point (slice_get lists.points (points_before lists.points call.item + (j - points_before lists.points call.item))) same (stands lists program c (j - points_before lists.points call.item) call there point)
    where
      before : ℕ
      before = points_before lists.points call.item

      point : HasPoint call (j - before)
      point = record { from = omega (arith, from); before = omega (arith, from, to) }

      same : slice_get lists.points (points_before lists.points call.item + (j - points_before lists.points call.item)) ≡ Some x
      same = let e : points_before lists.points call.item + (j - points_before lists.points call.item) ≡ j = omega (arith, from) in ap (slice_get lists.points) e ∙ at

      by_point : (o : Option PointInfo) → o ≡ Some x → IsSomeAnd o (λ y. (y.item ≡ call.item) × (y.number ≡ j - points_before lists.points call.item) × (y.call ≡ Some c)) → x.call ≡ Some c
      by_point None e h = absurd (let n : None ≡ Some x = e in cc)
      by_point (Some y) e h = let s : y ≡ x = cc in sym (ap (λ z. z.call) s) ∙ h.2

  abbrev own : List PointInfo
  own = points_of_call lists.points call

  pub own_fits : All IsFit own
  own_fits = range_all IsFit lists.points start (start + call.points) (fits lists program)

  -- ---- pairs

  pub pair_of : (policy : call.policy ≢ policies.Seq) (x : Found) → Across (PairInCall c call (is_loop lists c)) own own x → InCallOf lists c x
  pair_of policy x h =
      let first = element_of (λ a. OneOf (PairInCall c call (is_loop lists c) a) own) own x h in
      let a = first.0 in
      let second = element_of (PairInCall c call (is_loop lists c) a) own x first.2 in
      let b = second.0 in
      let pair : PairInCall c call (is_loop lists c) a b x = second.2 in
      let i = from_range lists.points start (start + call.points) a first.1 in
      let j = from_range lists.points start (start + call.points) b second.1 in
      let a_fit = all_at IsFit lists.points i.0 a i.3 (fits lists program) in
      let b_fit = all_at IsFit lists.points j.0 b j.3 (fits lists program) in
      let a_range = all_at (IsInRange lists.arrays) lists.points i.0 a i.3 (in_range lists program) in
      let b_range = all_at (IsInRange lists.arrays) lists.points j.0 b j.3 (in_range lists program) in
      let met = call_meet lists.arrays a b x.pair a_range a_fit b_range b_fit call pair.meet in (
        pair.of_call,
        record {
          call = call;
          a = a;
          b = b;
          there = there;
          policy = policy;
          first = at_index lists.points i.0 a i.3;
          second = at_index lists.points j.0 b j.3;
          first_call = own_call i.0 a i.1 i.2 i.3;
          second_call = own_call j.0 b j.1 j.2 j.3;
          meet = met.0;
          later = met.1;
          single = pair.single;
          unordered = pair.unordered;
        },
      )

  pub in_pair : (x : Found) → InCallOf lists c x → Across (PairInCall c call (is_loop lists c)) own own x
  in_pair x h =
      let k = h.1 in
      let same : k.call ≡ call = let e = sym k.there ∙ there in cc in
      let i = index_of lists.points k.a k.first in
      let j = index_of lists.points k.b k.second in
      let a_at = own_place k.a i.0 i.1 k.first_call in
      let b_at = own_place k.b j.0 j.1 k.second_call in
      let pair : PairInCall c call (is_loop lists c) k.a k.b x = subst (λ y. PairInCall c y (is_loop lists c) k.a k.b x) same (record {
        of_call = h.0;
        meet = call_along lists.arrays k.a k.b x.pair k.call k.meet k.later;
        single = k.single;
        unordered = k.unordered;
      }) in
      of_element (λ a. OneOf (PairInCall c call (is_loop lists c) a) own) own x k.a (in_range_of lists.points start (start + call.points) i.0 k.a i.1 a_at.0 a_at.1)
      (of_element (PairInCall c call (is_loop lists c) k.a) own x k.b (in_range_of lists.points start (start + call.points) j.0 k.b j.1 b_at.0 b_at.1) pair)

  -- ---- what the search answers

  pub found_in_call : (r : Option Found) → call.policy ≢ policies.Seq → FindsFirst (Across (PairInCall c call (is_loop lists c)) own own) rank_of r → FindsFirst (InCallOf lists c) rank_of r
  found_in_call r policy f = renamed rank_of (Across (PairInCall c call (is_loop lists c)) own own) (InCallOf lists c) r (pair_of policy) in_pair f

  pub none_in_order : call.policy ≡ policies.Seq → FindsFirst (InCallOf lists c) rank_of None
  none_in_order seq = λ x h. h.1.policy (ap (λ y. y.policy) (let e = sym h.1.there ∙ there in let same : h.1.call ≡ call = cc in same) ∙ seq)
