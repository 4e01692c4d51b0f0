-- Statements of blocks and the numbers of their points: which one a number belongs to, and where statements begin whose end is known.
use Rattle.std.proofs.Common.{◌≡◌, ℕ, ◌+◌, ◌-◌, ◌<◌, ◌≤◌, ◌⊎◌, inl, inr, Some, List, [], ◌∷◌, ◌++◌, length, take, drop, get_or, slice_get, refl, sym, ap, ◌∙◌, subst, arith}
use Rattle.std.specs.List.{Contains}
use Rattle.std.proofs.lemmas.Bool.{cases_lt}
use Rattle.std.proofs.lemmas.List.{drop_all, drop_more, take_more, take_all}
use Rattle.pts_points.specs.declared.point.CallInfo.{CallInfo}
use Rattle.pts_points.specs.Standings.{HasPoint}
use Rattle.pts_lowering.specs.declared.tasks.AssignPoints.{AssignPoints}
use Rattle.pts_lowering.specs.declared.tasks.LoweredBlock.{LoweredBlock}
use Rattle.pts_lowering.specs.declared.tasks.LoweredTask.{LoweredTask}
use Rattle.pts_lowering.specs.declared.tasks.LoweredTask.TheOpen.{LoweredTask-F}
use Rattle.pts_lowering.specs.declared.tasks.LoweredTask.TheViews.{out-LoweredTask}
use Rattle.pts_program.specs.declared.lists.Lists.{Lists}
use Rattle.pts_layout.specs.Layout.{HavePoints, IsWithin}
use Rattle.pts_layout.specs.Layout.HavePoints.{none, wait, throw, assign, call, block, run}
use Rattle.pts_conflict.specs.Concurrency.{IsPointOfTask, IsPointOfTasks}
use Rattle.pts_conflict.specs.Concurrency.IsPointOfTask.{assigned, in_call, in_block, in_run}
use Rattle.pts_conflict.specs.Search.{EndsAt}
use Rattle.pts_conflict.proofs.Elements.{first_or, here, nothing, there}

module _ (lists : Lists) where
  -- ---- ends

  pub ordered : {xs : List LoweredTask} {low end : ℕ} → HavePoints lists xs low end → low ≤ end
  ordered none = omega arith
  ordered (wait e rest) = ordered rest
  ordered (throw code e rest) = ordered rest
  ordered (assign at e from some rest) = let k = ordered rest in omega (arith, from, some, k)
  ordered (call n info e there from rest) = let k = ordered rest in omega (arith, from, k)
  ordered (block n info e there from rest) = let k = ordered rest in omega (arith, from, k)
  ordered (run body middle e inside rest) = let j = ordered inside in let k = ordered rest in omega (arith, j, k)

  -- statements one behind the other
  pub both : {xs ys : List LoweredTask} {low middle end : ℕ} → HavePoints lists xs low middle → HavePoints lists ys middle end → HavePoints lists (xs ++ ys) low end
  both none k = k
  both (wait e rest) k = wait e (both rest k)
  both (throw code e rest) k = throw code e (both rest k)
  both (assign at e from some rest) k = assign at e from some (both rest k)
  both (call n info e there from rest) k = call n info e there from (both rest k)
  both (block n info e there from rest) k = block n info e there from (both rest k)
  both (run body middle e inside rest) k = run body middle e inside (both rest k)

  -- and the same taken apart
  pub parted : (xs ys : List LoweredTask) (low end : ℕ) → HavePoints lists (xs ++ ys) low end → (middle : ℕ) × HavePoints lists xs low middle × HavePoints lists ys middle end
  parted [] ys low end h = (low, none, h)
  parted (x ∷ xs) ys low end (wait e rest) = let p = parted xs ys low end rest in (p.0, wait e p.1, p.2)
  parted (x ∷ xs) ys low end (throw code e rest) = let p = parted xs ys low end rest in (p.0, throw code e p.1, p.2)
  parted (x ∷ xs) ys low end (assign at e from some rest) = let p = parted xs ys (at.write + 1) end rest in (p.0, assign at e from some p.1, p.2)
  parted (x ∷ xs) ys low end (call n info e there from rest) = let p = parted xs ys (info.first_point + info.points) end rest in (p.0, call n info e there from p.1, p.2)
  parted (x ∷ xs) ys low end (block n info e there from rest) = let p = parted xs ys (info.first_point + info.points) end rest in (p.0, block n info e there from p.1, p.2)
  parted (x ∷ xs) ys low end (run body middle e inside rest) = let p = parted xs ys middle end rest in (p.0, run body middle e inside p.1, p.2)

  -- ---- where they begin

  -- statements with one end begin at one number
  pub one_low : (xs : List LoweredTask) (low low' end : ℕ) → HavePoints lists xs low end → HavePoints lists xs low' end → low ≡ low'
  one_low [] low low' end none none = refl
  one_low (x ∷ xs) low low' end (wait e rest) (wait e' rest') = one_low xs low low' end rest rest'
  one_low (x ∷ xs) low low' end (wait e rest) (throw code e' rest') = one_low xs low low' end rest rest'
  one_low (x ∷ xs) low low' end (wait e rest) (assign at e' from some rest') = absurd (let s = sym e ∙ e' in cc)
  one_low (x ∷ xs) low low' end (wait e rest) (call n info e' there from rest') = absurd (let s = sym e ∙ e' in cc)
  one_low (x ∷ xs) low low' end (wait e rest) (block n info e' there from rest') = absurd (let s = sym e ∙ e' in cc)
  one_low (x ∷ xs) low low' end (wait e rest) (run body middle e' inside rest') = absurd (let s = sym e ∙ e' in cc)
  one_low (x ∷ xs) low low' end (throw code e rest) (wait e' rest') = one_low xs low low' end rest rest'
  one_low (x ∷ xs) low low' end (throw code e rest) (throw code' e' rest') = one_low xs low low' end rest rest'
  one_low (x ∷ xs) low low' end (throw code e rest) (assign at e' from some rest') = absurd (let s = sym e ∙ e' in cc)
  one_low (x ∷ xs) low low' end (throw code e rest) (call n info e' there from rest') = absurd (let s = sym e ∙ e' in cc)
  one_low (x ∷ xs) low low' end (throw code e rest) (block n info e' there from rest') = absurd (let s = sym e ∙ e' in cc)
  one_low (x ∷ xs) low low' end (throw code e rest) (run body middle e' inside rest') = absurd (let s = sym e ∙ e' in cc)
  one_low (x ∷ xs) low low' end (assign at e from some rest) h = assigned_low at e from h
    where
      assigned_low : (at : AssignPoints) → out-LoweredTask x ≡ LoweredTask-F.Assign at → at.first ≡ low → HavePoints lists (x ∷ xs) low' end → low ≡ low'
      assigned_low at e from (wait e' rest') = absurd (let s = sym e ∙ e' in cc)
      assigned_low at e from (throw code e' rest') = absurd (let s = sym e ∙ e' in cc)
      assigned_low at e from (assign at' e' from' some' rest') = let s = sym e ∙ e' in let same : at ≡ at' = cc in sym from ∙ ap (λ y. y.first) same ∙ from'
      assigned_low at e from (call n info e' there from' rest') = absurd (let s = sym e ∙ e' in cc)
      assigned_low at e from (block n info e' there from' rest') = absurd (let s = sym e ∙ e' in cc)
      assigned_low at e from (run body middle e' inside rest') = absurd (let s = sym e ∙ e' in cc)
  one_low (x ∷ xs) low low' end (call n info e there from rest) h = call_low n info e there from h
    where
      call_low : (n : ℕ) (info : CallInfo) → out-LoweredTask x ≡ LoweredTask-F.Call n → slice_get lists.calls n ≡ Some info → info.first_point ≡ low → HavePoints lists (x ∷ xs) low' end → low ≡ low'
      call_low n info e there from (wait e' rest') = absurd (let s = sym e ∙ e' in cc)
      call_low n info e there from (throw code e' rest') = absurd (let s = sym e ∙ e' in cc)
      call_low n info e there from (assign at' e' from' some' rest') = absurd (let s = sym e ∙ e' in cc)
      call_low n info e there from (call n' info' e' there' from' rest') =
          let s = sym e ∙ e' in
          let number : n ≡ n' = cc in
          let t = sym there ∙ ap (slice_get lists.calls) number ∙ there' in
          let same : info ≡ info' = cc in
          sym from ∙ ap (λ y. y.first_point) same ∙ from'
      call_low n info e there from (block n' info' e' there' from' rest') = absurd (let s = sym e ∙ e' in cc)
      call_low n info e there from (run body middle e' inside rest') = absurd (let s = sym e ∙ e' in cc)
  one_low (x ∷ xs) low low' end (block n info e there from rest) h = block_low n info e there from h
    where
      block_low : (n : ℕ) (info : LoweredBlock) → out-LoweredTask x ≡ LoweredTask-F.Block n → slice_get lists.lowered_blocks n ≡ Some info → info.first_point ≡ low → HavePoints lists (x ∷ xs) low' end → low ≡ low'
      block_low n info e there from (wait e' rest') = absurd (let s = sym e ∙ e' in cc)
      block_low n info e there from (throw code e' rest') = absurd (let s = sym e ∙ e' in cc)
      block_low n info e there from (assign at' e' from' some' rest') = absurd (let s = sym e ∙ e' in cc)
      block_low n info e there from (call n' info' e' there' from' rest') = absurd (let s = sym e ∙ e' in cc)
      block_low n info e there from (block n' info' e' there' from' rest') =
          let s = sym e ∙ e' in
          let number : n ≡ n' = cc in
          let t = sym there ∙ ap (slice_get lists.lowered_blocks) number ∙ there' in
          let same : info ≡ info' = cc in
          sym from ∙ ap (λ y. y.first_point) same ∙ from'
      block_low n info e there from (run body middle e' inside rest') = absurd (let s = sym e ∙ e' in cc)
  one_low (x ∷ xs) low low' end (run body middle e inside rest) (wait e' rest') = absurd (let s = sym e ∙ e' in cc)
  one_low (x ∷ xs) low low' end (run body middle e inside rest) (throw code e' rest') = absurd (let s = sym e ∙ e' in cc)
  one_low (x ∷ xs) low low' end (run body middle e inside rest) (assign at' e' from' some' rest') = absurd (let s = sym e ∙ e' in cc)
  one_low (x ∷ xs) low low' end (run body middle e inside rest) (call n' info' e' there' from' rest') = absurd (let s = sym e ∙ e' in cc)
  one_low (x ∷ xs) low low' end (run body middle e inside rest) (block n' info' e' there' from' rest') = absurd (let s = sym e ∙ e' in cc)
  one_low (x ∷ xs) low low' end (run body middle e inside rest) (run body' middle' e' inside' rest') =
      let s = sym e ∙ e' in
      let same : body' ≡ body = cc in
      let at : middle' ≡ middle = sym (one_low xs middle middle' end rest rest') in
      one_low body low low' middle inside (subst (λ ys. HavePoints lists ys low' middle) same (subst (HavePoints lists body' low') at inside'))

  -- ---- one statement whose end is known

  pub wait_low : (x : LoweredTask) (end : ℕ) → out-LoweredTask x ≡ LoweredTask-F.Wait → HavePoints lists (x ∷ []) end end
  wait_low x end e = wait e none

  pub throw_low : (x : LoweredTask) (code end : ℕ) → out-LoweredTask x ≡ LoweredTask-F.Throw code → HavePoints lists (x ∷ []) end end
  throw_low x code end e = throw code e none

  pub run_low : (x : LoweredTask) (body : List LoweredTask) (low end : ℕ) → out-LoweredTask x ≡ LoweredTask-F.Run body → HavePoints lists body low end → HavePoints lists (x ∷ []) low end
  run_low x body low end e h = run body end e h none

  ended : (n end : ℕ) → HavePoints lists [] n end → n ≡ end
  ended n end none = refl

  pub assign_low : (x : LoweredTask) (at : AssignPoints) (end : ℕ) → out-LoweredTask x ≡ LoweredTask-F.Assign at → EndsAt lists (x ∷ []) end → HavePoints lists (x ∷ []) at.first end
  assign_low x at end e h = by_form h.0 h.1
    where
      by_form : (low : ℕ) → HavePoints lists (x ∷ []) low end → HavePoints lists (x ∷ []) at.first end
      by_form low (wait e' rest) = absurd (let s = sym e ∙ e' in cc)
      by_form low (throw code e' rest) = absurd (let s = sym e ∙ e' in cc)
      by_form low (assign at' e' from some rest) = let s = sym e ∙ e' in let same : at' ≡ at = cc in subst (λ n. HavePoints lists (x ∷ []) n end) (sym from ∙ ap (λ y. y.first) same) (assign at' e' from some rest)
      by_form low (call n info e' there from rest) = absurd (let s = sym e ∙ e' in cc)
      by_form low (block n info e' there from rest) = absurd (let s = sym e ∙ e' in cc)
      by_form low (run body middle e' inside rest) = absurd (let s = sym e ∙ e' in cc)

  -- a call that stands there is one of the program's
  pub record CallLow (x : LoweredTask) (n end : ℕ) : Type 0 where
    pub info : CallInfo
    pub there : slice_get lists.calls n ≡ Some info
    pub low : HavePoints lists (x ∷ []) info.first_point end

  pub call_low : (x : LoweredTask) (n end : ℕ) → out-LoweredTask x ≡ LoweredTask-F.Call n → EndsAt lists (x ∷ []) end → CallLow x n end
  call_low x n end e h = by_form h.0 h.1
    where
      by_form : (low : ℕ) → HavePoints lists (x ∷ []) low end → CallLow x n end
      by_form low (wait e' rest) = absurd (let s = sym e ∙ e' in cc)
      by_form low (throw code e' rest) = absurd (let s = sym e ∙ e' in cc)
      by_form low (assign at' e' from some rest) = absurd (let s = sym e ∙ e' in cc)
      by_form low (call n' info e' there from rest) =
          let s = sym e ∙ e' in
          let same : n' ≡ n = cc in
          record { info = info; there = sym (ap (slice_get lists.calls) same) ∙ there; low = call n' info e' there refl rest }
      by_form low (block n' info e' there from rest) = absurd (let s = sym e ∙ e' in cc)
      by_form low (run body middle e' inside rest) = absurd (let s = sym e ∙ e' in cc)

  pub record BlockLow (x : LoweredTask) (n end : ℕ) : Type 0 where
    pub info : LoweredBlock
    pub there : slice_get lists.lowered_blocks n ≡ Some info
    pub low : HavePoints lists (x ∷ []) info.first_point end

  pub block_low : (x : LoweredTask) (n end : ℕ) → out-LoweredTask x ≡ LoweredTask-F.Block n → EndsAt lists (x ∷ []) end → BlockLow x n end
  block_low x n end e h = by_form h.0 h.1
    where
      by_form : (low : ℕ) → HavePoints lists (x ∷ []) low end → BlockLow x n end
      by_form low (wait e' rest) = absurd (let s = sym e ∙ e' in cc)
      by_form low (throw code e' rest) = absurd (let s = sym e ∙ e' in cc)
      by_form low (assign at' e' from some rest) = absurd (let s = sym e ∙ e' in cc)
      by_form low (call n' info e' there from rest) = absurd (let s = sym e ∙ e' in cc)
      by_form low (block n' info e' there from rest) =
          let s = sym e ∙ e' in
          let same : n' ≡ n = cc in
          record { info = info; there = sym (ap (slice_get lists.lowered_blocks) same) ∙ there; low = block n' info e' there refl rest }
      by_form low (run body middle e' inside rest) = absurd (let s = sym e ∙ e' in cc)

  pub tasks_end : (x : LoweredTask) (body : List LoweredTask) (end : ℕ) → out-LoweredTask x ≡ LoweredTask-F.Run body → EndsAt lists (x ∷ []) end → EndsAt lists body end
  tasks_end x body end e h = by_form h.0 h.1
    where
      by_form : (low : ℕ) → HavePoints lists (x ∷ []) low end → EndsAt lists body end
      by_form low (wait e' rest) = absurd (let s = sym e ∙ e' in cc)
      by_form low (throw code e' rest) = absurd (let s = sym e ∙ e' in cc)
      by_form low (assign at' e' from some rest) = absurd (let s = sym e ∙ e' in cc)
      by_form low (call n' info e' there from rest) = absurd (let s = sym e ∙ e' in cc)
      by_form low (block n' info e' there from rest) = absurd (let s = sym e ∙ e' in cc)
      by_form low (run body' middle e' inside rest) =
          let s = sym e ∙ e' in
          let same : body' ≡ body = cc in
          (low, subst (HavePoints lists body low) (ended middle end rest) (subst (λ ys. HavePoints lists ys low middle) same inside))

  -- ---- the loop from the last statement on

  -- the statements from i on have the points from here to the end, and those before end here
  pub record Behind (xs : List LoweredTask) (i at end : ℕ) : Type 0 where
    pub front : EndsAt lists (take i xs) at
    pub back : HavePoints lists (drop i xs) at end

  pub behind_all : (xs : List LoweredTask) (i end : ℕ) → length xs ≤ i → EndsAt lists xs end → Behind xs i end end
  behind_all xs i end all h = record {
    front = subst (λ ys. EndsAt lists ys end) (sym (take_all i xs all)) h;
    back = subst (λ ys. HavePoints lists ys end end) (sym (drop_all i xs all)) none;
  }

  pub last_ends : (xs : List LoweredTask) (i at end : ℕ) (x d : LoweredTask) → Behind xs i at end → 0 < i → i - 1 < length xs → x ≡ get_or xs (i - 1) d → EndsAt lists (x ∷ []) at
  last_ends xs i at end x d h some within is =
      let next : i - 1 + 1 ≡ i = omega (arith, some) in
      let front : take i xs ≡ take (i - 1) xs ++ get_or xs (i - 1) d ∷ [] = ap (λ n. take n xs) (sym next) ∙ take_more xs (i - 1) d within in
      let whole = subst (λ ys. HavePoints lists ys h.front.0 at) front h.front.1 in
      let p = parted (take (i - 1) xs) (get_or xs (i - 1) d ∷ []) h.front.0 at whole in
      (p.0, subst (λ y. HavePoints lists (y ∷ []) p.0 at) (sym is) p.2)

  pub behind_more : (xs : List LoweredTask) (i at end low : ℕ) (x d : LoweredTask) → Behind xs i at end → 0 < i → i - 1 < length xs → x ≡ get_or xs (i - 1) d → HavePoints lists (x ∷ []) low at → Behind xs (i - 1) low end
  behind_more xs i at end low x d h some within is here =
      let next : i - 1 + 1 ≡ i = omega (arith, some) in
      let front : take i xs ≡ take (i - 1) xs ++ get_or xs (i - 1) d ∷ [] = ap (λ n. take n xs) (sym next) ∙ take_more xs (i - 1) d within in
      let back : drop (i - 1) xs ≡ get_or xs (i - 1) d ∷ drop i xs = drop_more xs (i - 1) d within ∙ ap (λ n. get_or xs (i - 1) d ∷ drop n xs) next in
      let whole = subst (λ ys. HavePoints lists ys h.front.0 at) front h.front.1 in
      let p = parted (take (i - 1) xs) (get_or xs (i - 1) d ∷ []) h.front.0 at whole in
      let mine : HavePoints lists (get_or xs (i - 1) d ∷ []) low at = subst (λ y. HavePoints lists (y ∷ []) low at) is here in
      let same : p.0 ≡ low = one_low (get_or xs (i - 1) d ∷ []) p.0 low at p.2 mine in
      record {
        front = (h.front.0, subst (HavePoints lists (take (i - 1) xs) h.front.0) same p.1);
        back = subst (λ ys. HavePoints lists ys low end) (sym back) (both mine h.back);
      }

  pub behind_none : (xs : List LoweredTask) (at end : ℕ) → Behind xs 0 at end → HavePoints lists xs at end
  behind_none xs at end h = h.back

  -- ---- which numbers are those of a statement

  assigns : (x : LoweredTask) (at : AssignPoints) (k : ℕ) → out-LoweredTask x ≡ LoweredTask-F.Assign at → IsPointOfTask lists k x → (at.first ≤ k) × (k < at.write + 1)
  assigns x at k e (assigned at' e' from to) = let s = sym e' ∙ e in let same : at' ≡ at = cc in let f = ap (λ y. y.first) same in let w = ap (λ y. y.write) same in ((omega (arith, from, f)), (omega (arith, to, w)))
  assigns x at k e (in_call n info e' there point) = absurd (let s = sym e' ∙ e in cc)
  assigns x at k e (in_block n info e' there point) = absurd (let s = sym e' ∙ e in cc)
  assigns x at k e (in_run body y e' there point) = absurd (let s = sym e' ∙ e in cc)

  calls : (x : LoweredTask) (n : ℕ) (info : CallInfo) (k : ℕ) → out-LoweredTask x ≡ LoweredTask-F.Call n → slice_get lists.calls n ≡ Some info → IsPointOfTask lists k x → HasPoint info k
  calls x n info k e is (assigned at' e' from to) = absurd (let s = sym e' ∙ e in cc)
  calls x n info k e is (in_call n' info' e' there point) =
      let s = sym e' ∙ e in
      let number : n' ≡ n = cc in
      let t = sym there ∙ ap (slice_get lists.calls) number ∙ is in
      let same : info' ≡ info = cc in
      subst (λ y. HasPoint y k) same point
  calls x n info k e is (in_block n' info' e' there point) = absurd (let s = sym e' ∙ e in cc)
  calls x n info k e is (in_run body y e' there point) = absurd (let s = sym e' ∙ e in cc)

  blocks : (x : LoweredTask) (n : ℕ) (info : LoweredBlock) (k : ℕ) → out-LoweredTask x ≡ LoweredTask-F.Block n → slice_get lists.lowered_blocks n ≡ Some info → IsPointOfTask lists k x → IsWithin info k
  blocks x n info k e is (assigned at' e' from to) = absurd (let s = sym e' ∙ e in cc)
  blocks x n info k e is (in_call n' info' e' there point) = absurd (let s = sym e' ∙ e in cc)
  blocks x n info k e is (in_block n' info' e' there point) =
      let s = sym e' ∙ e in
      let number : n' ≡ n = cc in
      let t = sym there ∙ ap (slice_get lists.lowered_blocks) number ∙ is in
      let same : info' ≡ info = cc in
      subst (λ y. IsWithin y k) same point
  blocks x n info k e is (in_run body y e' there point) = absurd (let s = sym e' ∙ e in cc)

  runs : (x : LoweredTask) (body : List LoweredTask) (k : ℕ) → out-LoweredTask x ≡ LoweredTask-F.Run body → IsPointOfTask lists k x → IsPointOfTasks lists body k
  runs x body k e (assigned at' e' from to) = absurd (let s = sym e' ∙ e in cc)
  runs x body k e (in_call n' info' e' there point) = absurd (let s = sym e' ∙ e in cc)
  runs x body k e (in_block n' info' e' there point) = absurd (let s = sym e' ∙ e in cc)
  runs x body k e (in_run body' y e' there point) = let s = sym e' ∙ e in let same : body' ≡ body = cc in (y, subst (λ ys. Contains ys y) same there, point)

  quiet : (x : LoweredTask) (k : ℕ) → (out-LoweredTask x ≡ LoweredTask-F.Wait) ⊎ ((code : ℕ) × (out-LoweredTask x ≡ LoweredTask-F.Throw code)) → IsPointOfTask lists k x → ⊥
  quiet x k (inl e) (assigned at' e' from to) = let s = sym e' ∙ e in cc
  quiet x k (inl e) (in_call n' info' e' there point) = let s = sym e' ∙ e in cc
  quiet x k (inl e) (in_block n' info' e' there point) = let s = sym e' ∙ e in cc
  quiet x k (inl e) (in_run body' y e' there point) = let s = sym e' ∙ e in cc
  quiet x k (inr h) (assigned at' e' from to) = let s = sym e' ∙ h.1 in cc
  quiet x k (inr h) (in_call n' info' e' there point) = let s = sym e' ∙ h.1 in cc
  quiet x k (inr h) (in_block n' info' e' there point) = let s = sym e' ∙ h.1 in cc
  quiet x k (inr h) (in_run body' y e' there point) = let s = sym e' ∙ h.1 in cc

  -- a point of x ∷ xs is one of x or of xs
  one_of : (x : LoweredTask) (xs : List LoweredTask) (k : ℕ) → IsPointOfTasks lists (x ∷ xs) k → IsPointOfTask lists k x ⊎ IsPointOfTasks lists xs k
  one_of x xs k h = elim (first_or x xs h.0 h.1) [ inl e ↦ inl (subst (IsPointOfTask lists k) (sym e) h.2) | inr there ↦ inr (h.0, there, h.2) ]

  pub inside : {xs : List LoweredTask} {low end : ℕ} (k : ℕ) → HavePoints lists xs low end → IsPointOfTasks lists xs k → (low ≤ k) × (k < end)
  inside k none h = absurd (nothing h.0 h.1)
  inside {xs = x ∷ xs} k (wait e rest) h = elim (one_of x xs k h) [ inl p ↦ absurd (quiet x k (inl e) p) | inr p ↦ inside k rest p ]
  inside {xs = x ∷ xs} k (throw code e rest) h = elim (one_of x xs k h) [ inl p ↦ absurd (quiet x k (inr (code, e)) p) | inr p ↦ inside k rest p ]
  inside {xs = x ∷ xs} {low = low} {end = end} k (assign at e from some rest) h = elim (one_of x xs k h) [
    | inl p ↦ (let b = assigns x at k e p in let o = ordered rest in let l = b.0 in let r = b.1 in ((omega (arith, from, l)), (omega (arith, o, r))))
    | inr p ↦ (let b = inside k rest p in let l = b.0 in let r = b.1 in ((omega (arith, from, some, l)), r))
  ]
  inside {xs = x ∷ xs} {low = low} {end = end} k (call n info e there from rest) h = elim (one_of x xs k h) [
    | inl p ↦ (let b = calls x n info k e there p in let l = b.from in let r = b.before in let o = ordered rest in ((omega (arith, from, l)), (omega (arith, o, r))))
    | inr p ↦ (let b = inside k rest p in let l = b.0 in let r = b.1 in ((omega (arith, from, l)), r))
  ]
  inside {xs = x ∷ xs} {low = low} {end = end} k (block n info e there from rest) h = elim (one_of x xs k h) [
    | inl p ↦ (let b = blocks x n info k e there p in let l = b.from in let r = b.before in let o = ordered rest in ((omega (arith, from, l)), (omega (arith, o, r))))
    | inr p ↦ (let b = inside k rest p in let l = b.0 in let r = b.1 in ((omega (arith, from, l)), r))
  ]
  inside {xs = x ∷ xs} {low = low} {end = end} k (run body middle e within rest) h = elim (one_of x xs k h) [
    | inl p ↦ (let b = inside k within (runs x body k e p) in let o = ordered rest in let l = b.0 in let r = b.1 in (l, (omega (arith, o, r))))
    | inr p ↦ (let b = inside k rest p in let o = ordered within in let l = b.0 in let r = b.1 in ((omega (arith, o, l)), r))
  ]

  -- the point that a statement has is one of x ∷ xs, and so is one of xs
  of_first : (x : LoweredTask) (xs : List LoweredTask) (k : ℕ) → IsPointOfTask lists k x → IsPointOfTasks lists (x ∷ xs) k
  of_first x xs k p = (x, here x xs, p)

  of_rest : (x : LoweredTask) (xs : List LoweredTask) (k : ℕ) → IsPointOfTasks lists xs k → IsPointOfTasks lists (x ∷ xs) k
  of_rest x xs k h = (h.0, there x xs h.0 h.1, h.2)

  pub owned : {xs : List LoweredTask} {low end : ℕ} (k : ℕ) → HavePoints lists xs low end → low ≤ k → k < end → IsPointOfTasks lists xs k
  owned k none from to = absurd (omega (arith, from, to))
  owned {xs = x ∷ xs} k (wait e rest) from to = of_rest x xs k (owned k rest from to)
  owned {xs = x ∷ xs} k (throw code e rest) from to = of_rest x xs k (owned k rest from to)
  owned {xs = x ∷ xs} k (assign at e first some rest) from to = elim (cases_lt k (at.write + 1)) [
    | inl less ↦ of_first x xs k (assigned at e (omega (arith, first, from)) (omega (arith, less)))
    | inr more ↦ of_rest x xs k (owned k rest more to)
  ]
  owned {xs = x ∷ xs} k (call n info e there first rest) from to = elim (cases_lt k (info.first_point + info.points)) [
    | inl less ↦ of_first x xs k (in_call n info e there (record { from = omega (arith, first, from); before = less }))
    | inr more ↦ of_rest x xs k (owned k rest more to)
  ]
  owned {xs = x ∷ xs} k (block n info e there first rest) from to = elim (cases_lt k (info.first_point + info.points)) [
    | inl less ↦ of_first x xs k (in_block n info e there (record { from = omega (arith, first, from); before = less }))
    | inr more ↦ of_rest x xs k (owned k rest more to)
  ]
  owned {xs = x ∷ xs} k (run body middle e within rest) from to = elim (cases_lt k middle) [
    | inl less ↦ (let p = owned k within from less in of_first x xs k (in_run body p.0 e p.1 p.2))
    | inr more ↦ of_rest x xs k (owned k rest more to)
  ]
