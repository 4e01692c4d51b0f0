-- What workers leave: of one worker, of two parts of them, and of all.
use Rattle.std.proofs.Common.{◌≡◌, ℕ, ◌+◌, ◌≤◌, List, [], ◌∷◌, ◌++◌, length, sym, refl, ap, subst, ◌∙◌, arith}
use Rattle.std.specs.Prelude.{All, Bool, ◌||◌}
use Rattle.std.specs.List.{flat_map}
use Rattle.std.specs.List.Sorted.{IsStrictlyIncreasing}
use Rattle.std.proofs.lemmas.List.{append-nil, length-append}
use Rattle.std.proofs.lemmas.List.Concat.{flat_map-append}
use Rattle.std.proofs.lemmas.List.Elements.{All-nil, All-cons, All-append}
use Rattle.pts_boards.specs.Numbers.{times, CountsUp, once_below}
use Rattle.pts_groupings.specs.Chunks.{IsGrouping}
use Rattle.pts_groupings.specs.Chunks as chunks
use Rattle.pts_workers.specs.declared.shares.Shares.{Shares}
use Rattle.atomic_table.specs.Seated.{TableId}
use Rattle.pts_boards.specs.Seats.{ClaimSeatState}
use Rattle.pts_workers.specs.Drawing.{Holds, Leaves}
use Rattle.pts_workers.specs.Shares.{EachMade, no_more, one_more}

made-append : {S : Type 0} (Made : List ℕ → S → Type 0) (gs : List (List ℕ)) (ss : List S) (hs : List (List ℕ)) (ts : List S)
    → EachMade Made gs ss → EachMade Made hs ts → EachMade Made (gs ++ hs) (ss ++ ts)
made-append Made [] [] hs ts no_more b = b
made-append {S = S} Made [] (s ∷ ss) hs ts x4 b = elim x4 [ ]
made-append {S = S} Made (g ∷ gs) [] hs ts x4 b = elim x4 [ ]
made-append Made (g ∷ gs) (s ∷ ss) hs ts (one_more _ _ _ _ m a) b = one_more g s (gs ++ hs) (ss ++ ts) m (made-append Made gs ss hs ts a b)

module _ {S : Type 0} (Made : List ℕ → S → Type 0) where
  -- a worker that drew nothing
  pub holds_none : (state : S) (drawn : List ℕ) (shares : Shares S) → [] ≡ drawn → Made [] state
      → shares.grouping.groups ≡ [] → shares.states ≡ [] → shares.idle ≡ [] ++ state ∷ [] → Holds Made drawn 1 shares
  holds_none state drawn shares all made groups states idle = record {
    all_drawn = ap (flat_map (λ group. group)) groups ∙ all;
    none_empty = subst (All (λ group. 1 ≤ length group)) (sym groups) (All-nil (λ group. 1 ≤ length group));
    ascending = subst (All IsStrictlyIncreasing) (sym groups) (All-nil IsStrictlyIncreasing);
    made = subst (λ gs. EachMade Made gs shares.states) (sym groups) (subst (EachMade Made []) (sym states) no_more);
    idle = subst (All (Made [])) (sym idle) (All-cons (Made []) state [] made (All-nil (Made [])));
    count = (let a = ap length groups in let b = ap length idle in omega (arith, a, b));
  }

  -- a worker that drew some chunks
  pub holds_some : (numbers : List ℕ) (state : S) (drawn : List ℕ) (shares : Shares S) → numbers ≡ drawn → 1 ≤ length numbers
      → IsStrictlyIncreasing numbers → Made numbers state → shares.grouping.groups ≡ [] ++ numbers ∷ [] → shares.states ≡ [] ++ state ∷ []
      → shares.idle ≡ [] → Holds Made drawn 1 shares
  holds_some numbers state drawn shares all some up made groups states idle = record {
    all_drawn = ap (flat_map (λ group. group)) groups ∙ append-nil numbers ∙ all;
    none_empty = subst (All (λ group. 1 ≤ length group)) (sym groups) (All-cons (λ group. 1 ≤ length group) numbers [] some (All-nil (λ group. 1 ≤ length group)));
    ascending = subst (All IsStrictlyIncreasing) (sym groups) (All-cons IsStrictlyIncreasing numbers [] up (All-nil IsStrictlyIncreasing));
    made = subst (λ gs. EachMade Made gs shares.states) (sym groups)
        (subst (EachMade Made (numbers ∷ [])) (sym states) (one_more numbers state [] [] made no_more));
    idle = subst (All (Made [])) (sym idle) (All-nil (Made []));
    count = (let a = ap length groups in let b = ap length idle in omega (arith, a, b));
  }

  -- a worker that drew alone
  pub holds_one : (items : List ℕ) (state : S) (drawn : List ℕ) (start shares : Shares S) → items ≡ drawn → IsStrictlyIncreasing items → Made items state
      → start.grouping.groups ≡ [] → start.states ≡ [] → start.idle ≡ []
      → (1 ≤ length items → shares.grouping.groups ≡ start.grouping.groups ++ items ∷ []) → (1 ≤ length items → shares.states ≡ start.states ++ state ∷ [])
      → (1 ≤ length items → shares.idle ≡ start.idle) → (items ≡ [] → shares.grouping.groups ≡ start.grouping.groups)
      → (items ≡ [] → shares.states ≡ start.states) → (items ≡ [] → shares.idle ≡ start.idle ++ state ∷ []) → Holds Made drawn 1 shares
  holds_one [] state drawn start shares all up made a b c groups states same_idle same_groups same_states idle =
      holds_none state drawn shares all made (same_groups refl ∙ a) (same_states refl ∙ b) (idle refl ∙ ap (λ l. l ++ state ∷ []) c)
  holds_one (x ∷ xs) state drawn start shares all up made a b c groups states same_idle same_groups same_states idle =
      let some : 1 ≤ length (x ∷ xs) = omega arith in
      holds_some (x ∷ xs) state drawn shares all some up made (groups some ∙ ap (λ l. l ++ (x ∷ xs) ∷ []) a) (states some ∙ ap (λ l. l ++ state ∷ []) b)
      (same_idle some ∙ c)

  -- two parts of the workers
  pub holds_both : (drawn others : List ℕ) (few rest : ℕ) (a b all : Shares S) → Holds Made drawn few a → Holds Made others rest b
      → all.grouping.groups ≡ a.grouping.groups ++ b.grouping.groups → all.states ≡ a.states ++ b.states → all.idle ≡ a.idle ++ b.idle
      → Holds Made (drawn ++ others) (few + rest) all
  holds_both drawn others few rest a b all h k groups states idle = record {
    all_drawn = ap (flat_map (λ group. group)) groups ∙ flat_map-append (λ group. group) a.grouping.groups b.grouping.groups
        ∙ ap (λ l. l ++ flat_map (λ group. group) b.grouping.groups) h.all_drawn ∙ ap (λ l. drawn ++ l) k.all_drawn;
    none_empty = subst (All (λ group. 1 ≤ length group)) (sym groups)
        (All-append (λ group. 1 ≤ length group) a.grouping.groups b.grouping.groups h.none_empty k.none_empty);
    ascending = subst (All IsStrictlyIncreasing) (sym groups) (All-append IsStrictlyIncreasing a.grouping.groups b.grouping.groups h.ascending k.ascending);
    made = subst (λ gs. EachMade Made gs all.states) (sym groups) (subst (EachMade Made (a.grouping.groups ++ b.grouping.groups)) (sym states)
        (made-append Made a.grouping.groups a.states b.grouping.groups b.states h.made k.made));
    idle = subst (All (Made [])) (sym idle) (All-append (Made []) a.idle b.idle h.idle k.idle);
    count = (let p = ap length groups ∙ length-append a.grouping.groups b.grouping.groups in let q = ap length idle ∙ length-append a.idle b.idle in
        let r = h.count in let s = k.count in omega (arith, p, q, r, s));
  }

  same_times : (x : ℕ) (xs : List ℕ) → chunks.times x xs ≡ times x xs
  same_times x [] = refl
  same_times x (y ∷ ys) = let r = same_times x ys in omega (arith, r)

  -- all workers share each chunk once
  pub all_shared : (drawn : List ℕ) (used workers count : ℕ) (shares : Shares S) → Holds Made drawn used shares → CountsUp drawn
      → length drawn ≡ count → used ≤ workers → IsGrouping workers count shares.grouping.groups
  all_shared drawn used workers count shares h up all few = record {
    each_once = λ c. same_times c (flat_map (λ group. group) shares.grouping.groups) ∙ ap (times c) h.all_drawn ∙ up c
        ∙ ap (λ (n : ℕ). once_below n c) all;
    none_empty = h.none_empty;
    few = (let c = h.count in omega (arith, c, few));
    ascending = h.ascending;
  }

  -- two parts of the workers, whose seats are joined
  pub leaves_both : (board : TableId) (few rest : ℕ) (mine theirs seat : ClaimSeatState) (a b all : Shares S) → Leaves Made board few mine a
      → Leaves Made board rest theirs b
      → seat ≡ record { board = mine.board; weight = mine.weight + theirs.weight; drawn = mine.drawn ++ theirs.drawn; past = mine.past || theirs.past }
      → all.grouping.groups ≡ a.grouping.groups ++ b.grouping.groups → all.states ≡ a.states ++ b.states → all.idle ≡ a.idle ++ b.idle
      → Leaves Made board (few + rest) seat all
  leaves_both board few rest mine theirs seat a b all p q both groups states idle = record {
    board_is = ap (λ (s : ClaimSeatState). s.board) both ∙ p.board_is;
    weight = (let e = ap (λ (s : ClaimSeatState). s.weight) both in let f = p.weight in let g = q.weight in omega (arith, e, f, g));
    past = ap (λ (s : ClaimSeatState). s.past) both ∙ ap (λ (y : Bool). y || theirs.past) p.past;
    holds = subst (λ drawn. Holds Made drawn (few + rest) all) (sym (ap (λ (s : ClaimSeatState). s.drawn) both))
        (holds_both mine.drawn theirs.drawn few rest a b all p.holds q.holds groups states idle);
  }
