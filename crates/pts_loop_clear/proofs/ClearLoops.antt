-- A conflict of two evaluations of a loop is one of the program.
use Rattle.std.proofs.Common.{◌≡◌, ◌≢◌, ℕ, ◌+◌, ◌<◌, true, false, ◌||◌, ◌&&◌, not, eqb, nat_lt, Option, Some, None, List, [], ◌∷◌, map, option_map, refl, ap, sym, ◌∙◌, subst, arith}
use Rattle.std.specs.Prelude.{slice_get}
use Rattle.std.specs.List.{list_any}
use Rattle.std.proofs.lemmas.Bool.Decides.{nat_tests}
use Rattle.std.proofs.lemmas.Option.{slice_get-map}
use Rattle.pts_types.specs.declared.operation.Policy.{Policy}
use Rattle.pts_types.specs.declared.operation.Policy.TheVariants as policies
use Rattle.pts_points.specs.declared.point.Branch.{Branch}
use Rattle.pts_points.specs.declared.point.PointInfo.{PointInfo}
use Rattle.pts_points.specs.Pieces as texts
use Rattle.pts_points.specs.Points as points
use Rattle.pts_points.specs.Points.{info}
use Rattle.pts_program.specs.declared.lists.Lists.{Lists}
use Rattle.pts_store.specs.Stores.{Store}
use Rattle.pts_conflict.specs.Conflicts as conflicts
use Rattle.pts_conflict.specs.Conflicts.{are_ordered, is_loop}
use Rattle.pts_conflict.specs.Order.{are_opposite, are_sides, is_before_across, is_before_in_wave, same_side, share_off}
use Rattle.pts_conflict.specs.Touches.{is_live_out}
use Rattle.pts_orders.specs.Evaluations.{Evaluation}
use Rattle.pts_cells.specs.WrittenCells.{Cell}
use Rattle.pts_outcomes.specs.Acts.{Act, Computation}
use Rattle.pts_outcomes.specs.Touching.{TouchesAct, TouchesPoint, is_writing, is_writing_point}
use Rattle.pts_clear.specs.Showing.{HasArrays, ShowsAct, ShowsIndex}
use Rattle.pts_passes.specs.Laws.{IsFree}
use Rattle.pts_passes.specs.Passes.{Pass, across, act_of, comes_before, computed, index_of, point_of, text_points}
use Rattle.pts_passes.proofs.Orders.{in_order_is_free}
use Rattle.pts_clear.proofs.Told.{told}
use Rattle.pts_loop_points.specs.LoopPoints.{IsLine, IsOnLine, moved, moved_branch}
use Rattle.pts_loop_clear.specs.Showing.{IsLoopAt, LoopsAreFree}

-- ---- orders

module _ (item : ℕ) (call : Option ℕ) (n m : ℕ) where
  sides_moved : (b : Branch) (cs : List Branch) → list_any (are_sides (moved_branch n b)) (map (moved_branch n) cs) ≡ list_any (are_sides b) cs
  sides_moved b [] = refl
  sides_moved b (c ∷ cs) =
      let same : eqb (n + b.test) (n + c.test) ≡ eqb b.test c.test = grind (arith, nat_tests) in
      λ i. (same i && not (same_side b.taken c.taken)) || sides_moved b cs i

  opposite_moved : (bs cs : List Branch) → are_opposite (map (moved_branch n) bs) (map (moved_branch n) cs) ≡ are_opposite bs cs
  opposite_moved [] cs = refl
  opposite_moved (b ∷ bs) cs = λ i. sides_moved b cs i || opposite_moved bs cs i

  off_moved : (a b : Option ℕ) → share_off (option_map (λ d. m + d) a) (option_map (λ d. m + d) b) ≡ share_off a b
  off_moved None b = refl
  off_moved (Some a) None = refl
  off_moved (Some a) (Some b) = let same : eqb (m + a) (m + b) ≡ eqb a b = grind (arith, nat_tests) in same

  wave_moved : (a b : PointInfo) → is_before_in_wave (moved item call n m a) (moved item call n m b) ≡ is_before_in_wave a b
  wave_moved a b =
      let same : nat_lt (n + a.number) (n + b.number) ≡ nat_lt a.number b.number = grind (arith, nat_tests) in
      λ i. (same i && not (opposite_moved a.branches b.branches i)) || off_moved a.off b.off i

  order_moved : (policy : Policy) (a b : PointInfo) → is_before_across policy true (moved item call n m a) (moved item call n m b) ≡ is_before_across policy true a b
  order_moved policies.Seq a b = refl
  order_moved policies.Par a b = refl
  order_moved policies.ParUnseq a b = refl
  order_moved policies.Unseq a b = refl
  order_moved policies.Vector a b = wave_moved a b

-- ---- points

shows_index : (value : texts.Computation → Computation) (shown : PointInfo) (index : texts.Index) → IsLine index → shown.line ≡ points.line_at index → ShowsIndex shown (index_of value index)
shows_index value shown (texts.Along line) is same = same
shows_index value shown (texts.Computed x) is same = absurd is

module _ (value : texts.Computation → Computation) (item : ℕ) (call : Option ℕ) (n m : ℕ) (x : texts.Point) where
  shows_act : (deed : texts.Deed) → IsOnLine deed → x.deed ≡ deed → ShowsAct (moved item call n m (info 0 x)) (act_of value deed)
  shows_act (texts.Reads array index) is e = (ap points.form_of e, record { array = ap points.array_of e; index = shows_index value (moved item call n m (info 0 x)) index is (ap points.line_of_deed e) })
  shows_act (texts.Assigns array index y) is e = (ap points.form_of e, record { array = ap points.array_of e; index = shows_index value (moved item call n m (info 0 x)) index is (ap points.line_of_deed e) })
  shows_act (texts.Updates array index op y) is e = (ap points.form_of e, record { array = ap points.array_of e; index = shows_index value (moved item call n m (info 0 x)) index is (ap points.line_of_deed e) })
  shows_act (texts.Notes y) is e = tt
  shows_act (texts.Tests y) is e = tt
  shows_act (texts.Gives view y) is e = tt
  shows_act (texts.LivesOut array line) is e = tt
  shows_act (texts.Fills array line) is e = tt
  shows_act (texts.Answers array line) is e = tt

-- ---- conflicts

module _ (lists : Lists) (store : Store) (c : ℕ) (pass : Pass) (clear : conflicts.IsClear lists) (has : HasArrays lists store) (at : IsLoopAt lists c pass) (other : pass.head.policy ≢ policies.Seq) where
  abbrev seen : texts.Point → PointInfo
  seen x = moved at.item (Some c) at.points_before at.offs_before (info 0 x)

  abbrev act : texts.Point → Act
  act x = (point_of pass store x).act

  clash : (p q : ℕ) (w : Cell) (k l : ℕ) (a b : texts.Point) → p < q → slice_get (text_points pass) k ≡ Some a → slice_get (text_points pass) l ≡ Some b
      → TouchesAct store (act a) p w → TouchesAct store (act b) q w → (is_writing (act a) || is_writing (act b)) ≡ true
      → is_before_across pass.head.policy true (info 0 a) (info 0 b) ≡ false → ⊥
  clash p q w k l a b lower ka lb ta tb one free =
      let sa = shows_act (computed pass store a.context.lets) at.item (Some c) at.points_before at.offs_before a a.deed (at.lines k a ka) refl in
      let sb = shows_act (computed pass store b.context.lets) at.item (Some c) at.points_before at.offs_before b b.deed (at.lines l b lb) refl in
      let x = told lists store has at.info (seen a) p w (act a) sa ta in
      let y = told lists store has at.info (seen b) q w (act b) sb tb in
      let own : at.info.policy ≢ policies.Seq = λ e. other (sym at.same_policy ∙ e) in
      clear (Some c) (record { item = at.item; array = (seen a).array; cell = w.index; p = p; k = (seen a).number; q = q; m = (seen b).number }) (record {
        call = at.info;
        a = seen a;
        b = seen b;
        there = at.there;
        policy = own;
        first = at.shown k a ka;
        second = at.shown l b lb;
        first_call = refl;
        second_call = refl;
        meet = record {
          names = record { item = refl; array = refl; k = refl; m = refl };
          array = x.array ∙ sym y.array;
          writes = (λ i. x.writes i || y.writes i) ∙ one;
          first = x.touches;
          second = y.touches;
        };
        later = lower;
        single = ap (λ v. v && is_live_out (seen b).form) x.live;
        unordered =
            (λ i. not (x.live i || y.live i) && is_before_across (at.same_policy i) (at.loop i) (seen a) (seen b))
            ∙ order_moved at.item (Some c) at.points_before at.offs_before pass.head.policy (info 0 a) (info 0 b) ∙ free;
      })

  by_points : (x y : Evaluation) (w : Cell) (o o' : Option texts.Point) → x.position < y.position → slice_get (text_points pass) x.point ≡ o → slice_get (text_points pass) y.point ≡ o'
      → TouchesPoint store (option_map (point_of pass store) o) x.position w → TouchesPoint store (option_map (point_of pass store) o') y.position w
      → (is_writing_point (option_map (point_of pass store) o) || is_writing_point (option_map (point_of pass store) o')) ≡ true
      → comes_before pass.head.policy o o' ≡ false → ⊥
  by_points x y w None o' lower e e' tx ty one free = absurd tx
  by_points x y w (Some a) None lower e e' tx ty one free = absurd ty
  by_points x y w (Some a) (Some b) lower e e' tx ty one free = clash x.position y.position w x.point y.point a b lower e e' tx ty one free

  at_point : (k : ℕ) → slice_get (map (point_of pass store) (text_points pass)) k ≡ option_map (point_of pass store) (slice_get (text_points pass) k)
  at_point k = slice_get-map (point_of pass store) (text_points pass) k

  free_of_conflict : IsFree pass store
  free_of_conflict x y _ _ conflict =
      let lower = conflict.positions in
      let before = conflict.free in
      by_points x y conflict.cell (slice_get (text_points pass) x.point) (slice_get (text_points pass) y.point) lower refl refl
      (subst (λ o. TouchesPoint store o x.position conflict.cell) (at_point x.point) conflict.first)
      (subst (λ o. TouchesPoint store o y.position conflict.cell) (at_point y.point) conflict.second)
      ((λ i. is_writing_point (sym (at_point x.point) i) || is_writing_point (sym (at_point y.point) i)) ∙ conflict.one_writes)
      (let not_before : across pass x.point y.point ≡ false = grind (arith, nat_tests) in not_before)

pub loops_are_free : LoopsAreFree
loops_are_free lists store c pass clear has at = by pass.head.policy refl
  where
    by : (policy : Policy) → pass.head.policy ≡ policy → IsFree pass store
    by policies.Seq e = in_order_is_free pass store e
    by policies.Par e = free_of_conflict lists store c pass clear has at (λ seq. absurd (cc))
    by policies.ParUnseq e = free_of_conflict lists store c pass clear has at (λ seq. absurd (cc))
    by policies.Unseq e = free_of_conflict lists store c pass clear has at (λ seq. absurd (cc))
    by policies.Vector e = free_of_conflict lists store c pass clear has at (λ seq. absurd (cc))
