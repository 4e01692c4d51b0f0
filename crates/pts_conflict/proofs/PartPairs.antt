-- The conflicts between parts of blocks, by the points of the item, and those of the whole program.
use Rattle.std.proofs.Common.{◌≡◌, ℕ, ◌+◌, ◌-◌, ◌<◌, ◌≤◌, ◌⊎◌, inl, inr, Bool, true, false, Some, None, Option, List, [], ◌∷◌, ◌++◌, length, drop, slice_get, refl, sym, ap, ◌∙◌, subst, arith}
use Rattle.std.specs.Prelude.{All, IsSomeAnd, if◌then◌else◌}
use Rattle.std.specs.List.{Contains}
use Rattle.std.proofs.lemmas.List.{length-drop}
use Rattle.std.proofs.lemmas.List.Elements.{All-drop, Contains-append_right}
use Rattle.std.proofs.lemmas.Option.{slice_get_within}
use Rattle.pts_points.specs.declared.point.PointInfo.{PointInfo}
use Rattle.pts_lowering.specs.declared.tasks.LoweredBlock.{LoweredBlock}
use Rattle.pts_lowering.specs.declared.tasks.LoweredTask.{LoweredTask}
use Rattle.pts_program.specs.declared.lists.Lists.{Lists}
use Rattle.pts_program.specs.Lists.{IsProgram}
use Rattle.pts_program.specs.Ranges.{IsInRange}
use Rattle.pts_layout.specs.Layout.{IsInOrder, IsWithin, points_before}
use Rattle.pts_conflict.specs.declared.found.Found.{Found}
use Rattle.pts_conflict.specs.Concurrency.{IsPointOfTasks, is_wait, phase}
use Rattle.pts_conflict.specs.Concurrency.IsPointOfTask.{in_run}
use Rattle.pts_conflict.specs.Conflicts.{Conflicts, PartConflict}
use Rattle.pts_conflict.specs.Search.{FindsFirst, Forks, InBlock, InBlockOf, InSomeBlock, InSomeCall, IsConflict, IsFit, SomeForks, lower, rank_of}
use Rattle.pts_conflict.proofs.Elements.{at_index, dropped_at, first_or, here, index_of, there}
use Rattle.pts_conflict.proofs.Firsts.{joined}
use Rattle.pts_conflict.proofs.ProgramLaws.{block_stands, fits, in_order, in_range, placed}
use Rattle.pts_conflict.proofs.Meetings.{parts_along, parts_meet}
use Rattle.pts_conflict.proofs.Ranges.{all_at}
use Rattle.pts_conflict.proofs.TaskPoints.{inside}

-- ---- places in a body

-- a statement of a body that forks, and what stands around it
pub record ForksAt (lists : Lists) (points : List PointInfo) (body : List LoweredTask) (x : Found) : Type 0 where
  pub front : List LoweredTask
  pub rest : List LoweredTask
  pub task : LoweredTask
  pub stands : body ≡ front ++ task ∷ rest
  pub forks : Forks lists points task rest x

module _ (lists : Lists) (points : List PointInfo) (x : Found) where
  fork_of : (body : List LoweredTask) → SomeForks lists points body x → ForksAt lists points body x
  fork_of [] h = absurd h
  fork_of (t ∷ ts) (inl h) = record { front = []; rest = ts; task = t; stands = refl; forks = h }
  fork_of (t ∷ ts) (inr h) = let r = fork_of ts h in record { front = t ∷ r.front; rest = r.rest; task = r.task; stands = ap (λ ys. t ∷ ys) r.stands; forks = r.forks }

  some_fork : (front : List LoweredTask) (task : LoweredTask) (rest : List LoweredTask) → Forks lists points task rest x → SomeForks lists points (front ++ task ∷ rest) x
  some_fork [] task rest h = inl h
  some_fork (t ∷ front) task rest h = inr (some_fork front task rest h)

-- the rest of a phase is among what stands behind
in_phase : (xs : List LoweredTask) (y : LoweredTask) → Contains (phase xs) y → Contains xs y
in_phase [] y h = h
in_phase (x ∷ xs) y h = by_test (λ k. in_phase xs y k) (is_wait x) h
  where
    by_test : (Contains (phase xs) y → Contains xs y) → (b : Bool) → Contains (if b then [] else x ∷ phase xs) y → Contains (x ∷ xs) y
    by_test rest true k = absurd (let less = k.1 in omega (arith, less))
    by_test rest false k = elim (first_or x (phase xs) y k) [ inl e ↦ subst (Contains (x ∷ xs)) e (here x xs) | inr r ↦ there x xs y (rest r) ]

-- ---- one block

module _ (lists : Lists) (program : IsProgram lists) (n : ℕ) (block : LoweredBlock) (at : slice_get lists.lowered_blocks n ≡ Some block) where
  abbrev points : List PointInfo
  points = drop (points_before lists.points block.item) lists.points

  pub in_block_of : (r : Option Found) → FindsFirst (SomeForks lists points block.body) rank_of r → FindsFirst (InBlockOf lists n) rank_of r
  in_block_of r f = subst (λ o. FindsFirst (λ x. IsSomeAnd o (λ y. InBlock lists y x)) rank_of r) (sym at) f

  pub order : IsInOrder lists block
  order = all_at (IsInOrder lists) lists.lowered_blocks n block at (in_order lists program)

  -- point k of the block is this one
  is_point : (k : ℕ) (x : PointInfo) → IsWithin block k → slice_get points k ≡ Some x → (x.item ≡ block.item) × (x.number ≡ k)
  is_point k x within e = by_point (slice_get lists.points (points_before lists.points block.item + k)) (sym (dropped_at (points_before lists.points block.item) lists.points k) ∙ e) (block_stands lists program n k block at within)
    where
      by_point : (o : Option PointInfo) → o ≡ Some x → IsSomeAnd o (λ y. (y.item ≡ block.item) × (y.number ≡ k) × (y.item ≡ block.item)) → (x.item ≡ block.item) × (x.number ≡ k)
      by_point None e h = absurd (let s : None ≡ Some x = e in cc)
      by_point (Some y) e h = let same : y ≡ x = cc in (sym (ap (λ z. z.item) same) ∙ h.0, sym (ap (λ z. z.number) same) ∙ h.1)

  within_body : (k : ℕ) → IsPointOfTasks lists block.body k → IsWithin block k
  within_body k h = let b = inside lists k order h in record { from = b.0; before = b.1 }

  pub enough : 0 < block.points → block.first_point + block.points ≤ length points
  enough some = by_point (slice_get lists.points (points_before lists.points block.item + last)) refl (block_stands lists program n last block at (record { from = omega arith; before = omega (arith, some) }))
    where
      last : ℕ
      last = block.first_point + (block.points - 1)

      by_point : (o : Option PointInfo) → slice_get lists.points (points_before lists.points block.item + last) ≡ o → IsSomeAnd o (λ y. (y.item ≡ block.item) × (y.number ≡ last) × (y.item ≡ block.item))
          → block.first_point + block.points ≤ length (drop (points_before lists.points block.item) lists.points)
      by_point None e h = absurd h
      by_point (Some y) e h =
          let within = slice_get_within lists.points (points_before lists.points block.item + (block.first_point + (block.points - 1))) y e in
          let size = length-drop (points_before lists.points block.item) lists.points in
          omega (arith, some, within, size)

  pub points_fit : All IsFit points
  points_fit = All-drop IsFit (points_before lists.points block.item) lists.points (fits lists program)

  pub none_in_empty : block.points ≡ 0 → FindsFirst (SomeForks lists points block.body) rank_of None
  none_in_empty none = λ x h.
      let f = fork_of lists points x block.body h in
      let w = within_body f.forks.k (first_of f.front f.task f.rest f.stands x f.forks) in
      let low = w.from in let high = w.before in
      omega (arith, none, low, high)
    where
      first_of : (front : List LoweredTask) (task : LoweredTask) (rest : List LoweredTask) → block.body ≡ front ++ task ∷ rest → (x : Found) (f : Forks lists points task rest x) → IsPointOfTasks lists block.body f.k
      first_of front task rest stands x f =
          (task, subst (λ ys. Contains ys task) (sym stands) (Contains-append_right front (task ∷ rest) task (here task rest)), in_run f.tasks f.first.0 f.runs f.first.1 f.first.2)

  -- ---- the same conflicts

  in_body : (front : List LoweredTask) (task : LoweredTask) (rest : List LoweredTask) → block.body ≡ front ++ task ∷ rest → Contains block.body task
  in_body front task rest stands = subst (λ ys. Contains ys task) (sym stands) (Contains-append_right front (task ∷ rest) task (here task rest))

  behind_body : (front : List LoweredTask) (task : LoweredTask) (rest : List LoweredTask) → block.body ≡ front ++ task ∷ rest → (y : LoweredTask) → Contains (phase rest) y → Contains block.body y
  behind_body front task rest stands y h = subst (λ ys. Contains ys y) (sym stands) (Contains-append_right front (task ∷ rest) y (there task rest y (in_phase rest y h)))

  pub part_conflict : (x : Found) → SomeForks lists points block.body x → PartConflict lists x.pair
  part_conflict x h =
      let f = fork_of lists points x block.body h in
      let k = within_body f.forks.k (f.task, in_body f.front f.task f.rest f.stands, in_run f.forks.tasks f.forks.first.0 f.forks.runs f.forks.first.1 f.forks.first.2) in
      let m = within_body f.forks.m (f.forks.second.0, behind_body f.front f.task f.rest f.stands f.forks.second.0 f.forks.second.1, f.forks.second.2) in
      let a = f.forks.a in
      let b = f.forks.b in
      let a_is = is_point f.forks.k a k f.forks.first_point in
      let b_is = is_point f.forks.m b m f.forks.second_point in
      let i = sym (dropped_at (points_before lists.points block.item) lists.points f.forks.k) ∙ f.forks.first_point in
      let j = sym (dropped_at (points_before lists.points block.item) lists.points f.forks.m) ∙ f.forks.second_point in
      record {
        a = a;
        b = b;
        first = at_index lists.points (points_before lists.points block.item + f.forks.k) a i;
        second = at_index lists.points (points_before lists.points block.item + f.forks.m) b j;
        one_item = b_is.0 ∙ sym a_is.0;
        concurrent = record {
          block = block;
          there = at_index lists.lowered_blocks n block at;
          of_item = sym a_is.0;
          front = f.front;
          rest = f.rest;
          task = f.task;
          tasks = f.forks.tasks;
          stands = f.stands;
          runs = f.forks.runs;
          first = subst (IsPointOfTasks lists f.forks.tasks) (sym a_is.1) f.forks.first;
          second = subst (IsPointOfTasks lists (phase f.rest)) (sym b_is.1) f.forks.second;
        };
        meet = parts_meet lists.arrays a b x.pair
            (all_at (IsInRange lists.arrays) lists.points (points_before lists.points block.item + f.forks.k) a i (in_range lists program))
            (all_at IsFit lists.points (points_before lists.points block.item + f.forks.k) a i (fits lists program))
            (all_at (IsInRange lists.arrays) lists.points (points_before lists.points block.item + f.forks.m) b j (in_range lists program))
            (all_at IsFit lists.points (points_before lists.points block.item + f.forks.m) b j (fits lists program))
            f.forks.pair.meet;
      }

-- ---- the program

module _ (lists : Lists) (program : IsProgram lists) where
  -- a point of the item of a block, where the points of that item begin
  at_number : (item : ℕ) (x : PointInfo) → Contains lists.points x → x.item ≡ item → slice_get (drop (points_before lists.points item) lists.points) x.number ≡ Some x
  at_number item x h e =
      let i = index_of lists.points x h in
      let place : i.0 ≡ points_before lists.points item + x.number = placed lists program i.0 x i.1 ∙ ap (λ n. points_before lists.points n + x.number) e in
      dropped_at (points_before lists.points item) lists.points x.number ∙ ap (slice_get lists.points) (sym place) ∙ i.1

  some_block : (x : Found) → x.call ≡ None → PartConflict lists x.pair → InSomeBlock lists x
  some_block x none h =
      let c = h.concurrent in
      let n = index_of lists.lowered_blocks c.block c.there in
      let points = drop (points_before lists.points c.block.item) lists.points in
      let forks : Forks lists points c.task c.rest x = record {
        tasks = c.tasks;
        runs = c.runs;
        k = h.a.number;
        m = h.b.number;
        a = h.a;
        b = h.b;
        first = c.first;
        second = c.second;
        first_point = at_number c.block.item h.a h.first (sym c.of_item);
        second_point = at_number c.block.item h.b h.second (h.one_item ∙ sym c.of_item);
        pair = record { of_call = none; meet = parts_along lists.arrays h.a h.b x.pair h.meet };
      } in (
        n.0,
        slice_get_within lists.lowered_blocks n.0 c.block n.1,
        subst (λ o. IsSomeAnd o (λ y. InBlock lists y x)) (sym n.1)
            (subst (λ ys. SomeForks lists points ys x) (sym c.stands) (some_fork lists points x c.front c.task c.rest forks)),
      )

  split : (x : Found) → IsConflict lists x → InSomeCall lists x ⊎ InSomeBlock lists x
  split x h = by_call x.call refl h
    where
      by_call : (o : Option ℕ) → x.call ≡ o → Conflicts lists o x.pair → InSomeCall lists x ⊎ InSomeBlock lists x
      by_call None e k = inr (some_block x e k)
      by_call (Some c) e k = inl (c, slice_get_within lists.calls c k.call k.there, (e, k))

  of_call : (x : Found) → InSomeCall lists x → IsConflict lists x
  of_call x h = subst (λ o. Conflicts lists o x.pair) (sym h.2.0) h.2.1

  of_block : (x : Found) → InSomeBlock lists x → IsConflict lists x
  of_block x h = by_block h.0 (slice_get lists.lowered_blocks h.0) refl h.2
    where
      by_block : (n : ℕ) (o : Option LoweredBlock) → slice_get lists.lowered_blocks n ≡ o → IsSomeAnd o (λ y. InBlock lists y x) → IsConflict lists x
      by_block n None e k = absurd k
      by_block n (Some block) e k =
          let f = fork_of lists (drop (points_before lists.points block.item) lists.points) x block.body k in
          subst (λ o. Conflicts lists o x.pair) (sym f.forks.pair.of_call) (part_conflict lists program n block e x k)

  pub all_conflicts : (r s next : Option Found) → FindsFirst (InSomeCall lists) rank_of r → FindsFirst (InSomeBlock lists) rank_of s → next ≡ lower rank_of r s → FindsFirst (IsConflict lists) rank_of next
  all_conflicts r s next f g e = subst (FindsFirst (IsConflict lists) rank_of) (sym e) (joined rank_of (InSomeCall lists) (InSomeBlock lists) (IsConflict lists) r s split of_call of_block f g)
