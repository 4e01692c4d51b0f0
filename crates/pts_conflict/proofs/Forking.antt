-- The conflicts of what a statement of a block runs, by intervals of points, and of all statements from the last one on.
use Rattle.std.proofs.Common.{◌≡◌, ℕ, ◌+◌, ◌-◌, ◌<◌, ◌≤◌, inl, inr, Bool, true, false, None, Option, List, [], ◌∷◌, length, drop, get_or, refl, sym, ap, ◌∙◌, subst, arith}
use Rattle.std.specs.Prelude.{if◌then◌else◌, slice_range}
use Rattle.std.proofs.lemmas.Bool.{false≢true}
use Rattle.std.proofs.lemmas.List.{drop_all, drop_more}
use Rattle.pts_points.specs.declared.point.PointInfo.{PointInfo}
use Rattle.pts_lowering.specs.declared.tasks.LoweredTask.{LoweredTask}
use Rattle.pts_lowering.specs.declared.tasks.LoweredTask.TheOpen.{LoweredTask-F}
use Rattle.pts_lowering.specs.declared.tasks.LoweredTask.TheViews.{out-LoweredTask}
use Rattle.pts_program.specs.declared.lists.Lists.{Lists}
use Rattle.pts_layout.specs.Layout.{HavePoints}
use Rattle.pts_layout.specs.Layout.HavePoints.{none}
use Rattle.pts_conflict.specs.declared.found.Found.{Found}
use Rattle.pts_conflict.specs.Concurrency.{is_wait, phase}
use Rattle.pts_conflict.specs.Search.{Across, FindsFirst, Forks, OneOf, PairOfParts, SomeForks, is_run, lower, phase_end, rank_of, run_form}
use Rattle.pts_conflict.proofs.Elements.{element_of, of_element}
use Rattle.pts_conflict.proofs.Firsts.{joined, renamed}
use Rattle.pts_conflict.proofs.Ranges.{from_range, in_range_of}
use Rattle.pts_conflict.proofs.TaskPoints.{both, inside, one_low, ordered, owned, run_low, tasks_end}

-- ---- phases

module _ (lists : Lists) (x : LoweredTask) (xs : List LoweredTask) where
  pub phase_more : (low at stop : ℕ) → HavePoints lists (x ∷ []) low at → HavePoints lists (phase xs) at stop → HavePoints lists (phase (x ∷ xs)) low (phase_end x low stop)
  phase_more low at stop h k = by_test (is_wait x)
    where
      by_test : (b : Bool) → HavePoints lists (if b then [] else x ∷ phase xs) low (if b then low else stop)
      by_test true = none
      by_test false = both lists h k

-- ---- one statement

run_of : (o : LoweredTask-F LoweredTask) → run_form o ≡ true → (tasks : List LoweredTask) × (o ≡ LoweredTask-F.Run tasks)
run_of (LoweredTask-F.Run tasks) e = (tasks, refl)
run_of LoweredTask-F.Wait e = absurd (false≢true e)
run_of (LoweredTask-F.Throw code) e = absurd (false≢true e)
run_of (LoweredTask-F.Assign at) e = absurd (false≢true e)
run_of (LoweredTask-F.Call n) e = absurd (false≢true e)
run_of (LoweredTask-F.Block n) e = absurd (false≢true e)

module _ (lists : Lists) (points : List PointInfo) (x : LoweredTask) (rest : List LoweredTask) where
  pub none_forks : is_run x ≡ false → FindsFirst (Forks lists points x rest) rank_of None
  none_forks e = λ f h. false≢true (sym e ∙ ap run_form h.runs)

  module _ (low at stop : ℕ) (mine : HavePoints lists (x ∷ []) low at) (behind : HavePoints lists (phase rest) at stop) where
    across : (f : Found) → Forks lists points x rest f → Across PairOfParts (slice_range points low at) (slice_range points at stop) f
    across f h =
        let tasks = tasks_end lists x h.tasks at h.runs (low, mine) in
        let k = inside lists h.k tasks.1 h.first in
        let m = inside lists h.m behind h.second in
        let begins : tasks.0 ≡ low = begin h.tasks tasks.0 h.runs tasks.1 in
        let from = k.0 in
        of_element (λ a. OneOf (PairOfParts a) (slice_range points at stop)) (slice_range points low at) f h.a (in_range_of points low at h.k h.a h.first_point (omega (arith, begins, from)) k.1)
        (of_element (PairOfParts h.a) (slice_range points at stop) f h.b (in_range_of points at stop h.m h.b h.second_point m.0 m.1) h.pair)
      where
        begin : (tasks : List LoweredTask) (n : ℕ) → out-LoweredTask x ≡ LoweredTask-F.Run tasks → HavePoints lists tasks n at → n ≡ low
        begin tasks n e h = one_low lists (x ∷ []) n low at (run_low lists x tasks n at e h) mine

    pub forked : (tasks : List LoweredTask) → out-LoweredTask x ≡ LoweredTask-F.Run tasks → (f : Found) → Across PairOfParts (slice_range points low at) (slice_range points at stop) f → Forks lists points x rest f
    forked tasks e f h =
        let first = element_of (λ a. OneOf (PairOfParts a) (slice_range points at stop)) (slice_range points low at) f h in
        let second = element_of (PairOfParts first.0) (slice_range points at stop) f first.2 in
        let i = from_range points low at first.0 first.1 in
        let j = from_range points at stop second.0 second.1 in
        let ends = tasks_end lists x tasks at e (low, mine) in
        let begins : ends.0 ≡ low = one_low lists (x ∷ []) ends.0 low at (run_low lists x tasks ends.0 at e ends.1) mine in
        let from = i.1 in
        record {
          tasks = tasks;
          runs = e;
          k = i.0;
          m = j.0;
          a = first.0;
          b = second.0;
          first = owned lists i.0 ends.1 (omega (arith, begins, from)) i.2;
          second = owned lists j.0 behind j.1 j.2;
          first_point = i.3;
          second_point = j.3;
          pair = second.2;
        }

    pub some_forks : (r : Option Found) → is_run x ≡ true → FindsFirst (Across PairOfParts (slice_range points low at) (slice_range points at stop)) rank_of r → FindsFirst (Forks lists points x rest) rank_of r
    some_forks r e f =
        let run = run_of (out-LoweredTask x) e in
        renamed rank_of (Across PairOfParts (slice_range points low at) (slice_range points at stop)) (Forks lists points x rest) r (forked run.0 run.1) across f

-- ---- all statements, from the last one on

module _ (lists : Lists) (points : List PointInfo) (body : List LoweredTask) where
  -- what was found of the statements from i on, whose points begin here and whose phase ends there
  pub record Found_behind (i at stop : ℕ) (best : Option Found) : Type 0 where
    pub phase_ends : HavePoints lists (phase (drop i body)) at stop
    pub first : FindsFirst (SomeForks lists points (drop i body)) rank_of best

  pub forks_none : (i at : ℕ) → length body ≤ i → Found_behind i at at None
  forks_none i at all =
      let nothing = drop_all i body all in
      record {
        phase_ends = subst (λ xs. HavePoints lists (phase xs) at at) (sym nothing) none;
        first = subst (λ xs. FindsFirst (SomeForks lists points xs) rank_of None) (sym nothing) (λ f h. h);
      }

  pub forks_more : (i at stop low : ℕ) (best found next : Option Found) (stop' : ℕ) (x d : LoweredTask) → Found_behind i at stop best → 0 < i → i - 1 < length body → x ≡ get_or body (i - 1) d
      → HavePoints lists (x ∷ []) low at → ((rest : List LoweredTask) → HavePoints lists (phase rest) at stop → FindsFirst (Forks lists points x rest) rank_of found)
      → next ≡ lower rank_of best found → stop' ≡ phase_end x low stop → Found_behind (i - 1) low stop' next
  forks_more i at stop low best found next stop' x d h some within is mine here e end =
      let rest = drop i body in
      let step : i - 1 + 1 ≡ i = omega (arith, some) in
      let whole : drop (i - 1) body ≡ x ∷ rest = drop_more body (i - 1) d within ∙ ap (λ y. y ∷ drop (i - 1 + 1) body) (sym is) ∙ ap (λ n. x ∷ drop n body) step in
      let both_found = joined rank_of (SomeForks lists points rest) (Forks lists points x rest) (SomeForks lists points (x ∷ rest)) best found
      (λ f k. elim k [ inl a ↦ inr a | inr b ↦ inl b ]) (λ f k. inr k) (λ f k. inl k) h.first (here rest h.phase_ends) in
      record {
        phase_ends = subst (λ xs. HavePoints lists (phase xs) low stop') (sym whole) (subst (HavePoints lists (phase (x ∷ rest)) low) (sym end) (phase_more lists x rest low at stop mine h.phase_ends));
        first = subst (λ xs. FindsFirst (SomeForks lists points xs) rank_of next) (sym whole) (subst (FindsFirst (SomeForks lists points (x ∷ rest)) rank_of) (sym e) both_found);
      }

  pub forks_all : (at stop : ℕ) (best : Option Found) → Found_behind 0 at stop best → FindsFirst (SomeForks lists points body) rank_of best
  forks_all at stop best h = h.first

-- a phase ends no later than before
pub end_least : (lists : Lists) (x : LoweredTask) (low at stop end stop' : ℕ) → HavePoints lists (x ∷ []) low at → at ≤ stop → stop ≤ end → stop' ≡ phase_end x low stop → stop' ≤ end
end_least lists x low at stop end stop' h k most e = subst (λ n. n ≤ end) (sym e) (by_test (is_wait x))
  where
    by_test : (b : Bool) → (if b then low else stop) ≤ end
    by_test true = let l = ordered lists h in omega (arith, l, k, most)
    by_test false = most
