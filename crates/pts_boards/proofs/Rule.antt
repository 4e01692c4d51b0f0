-- Each move of a board keeps its rule, whatever its sort.
use Rattle.std.proofs.Common.{◌≡◌, ◌≢◌, ℕ, ◌+◌, ◌-◌, ◌^◌, ◌<◌, ◌≤◌, Bool, true, false, cond, ◌||◌, List, [], ◌∷◌, ◌++◌, sym, refl, ap, ◌∙◌, subst, ⊎_elim, arith}
use Rattle.std.specs.Prelude.{slice_set, slice_index}
use mathlib.Core.Option.{some, some-injective, some-ne-none}
use lib.ListN.{get_elem?}
use Rattle.atomic_table.specs.Table.{State, Allows, Splits, Joins, Final, Seen, opening, stepped, carried_after, Valid, Act, keeps}
use Rattle.atomic_table.proofs.Lists.{at_set}
use Rattle.pts_boards.specs.declared.board.Hand.{Hand}
use Rattle.pts_boards.specs.declared.board.Terms.{Terms}
use Rattle.pts_boards.specs.Rule.{total, hand, Sort, IsLawful, Kept, IsPartOf, Moves, Ends, counts, marks, marked}
use Rattle.pts_boards.proofs.Views.{total_set, total_snoc, one_of_total, total_room, total_whole, Each, each_set, each_snoc}

-- a marked weight is at most the weight, and the rest is unmarked
marked_le : (b : Bool) (n : ℕ) → cond b n 0 ≤ n
marked_le true n = omega arith
marked_le false n = omega arith

marked_rest : (b : Bool) (n : ℕ) → cond b n 0 + cond b 0 n ≡ n
marked_rest true n = omega arith
marked_rest false n = omega arith

marked_minus : (b : Bool) (n a : ℕ) → a ≤ n → cond b (n - a) 0 + cond b a 0 ≡ cond b n 0
marked_minus true n a le = omega arith
marked_minus false n a le = omega arith

marked_plus : (a b : Bool) (m n : ℕ) → cond a m 0 + cond b n 0 ≤ cond (a || b) (m + n) 0
marked_plus true true m n = omega arith
marked_plus true false m n = omega arith
marked_plus false true m n = omega arith
marked_plus false false m n = omega arith

module _ {K : Type 0} (sort : Sort K) where
  -- a step that leaves the word, what is counted and the mark as they are
  pub looks : (terms : Terms) (weight : ℕ) (k : K) (then : ℕ → K → Type 0)
      → ((word : ℕ) (counted : ℕ → ℕ) (mark : ℕ) → IsPartOf sort terms weight k word counted mark
      → (l : K) × ((x : ℕ) → sort.count x l ≡ sort.count x k) × (sort.is_marked l ≡ sort.is_marked k) × sort.Fits terms word counted l × then word l)
      → Moves sort terms weight k (λ n. n) then
  looks terms weight k then look word counted mark part =
      let l = look word counted mark part in (
        l.0,
        (λ counted' mark' changed.
            let same : counted ≡ counted' = λ i x. (let a = changed.counted_is x in let b = l.1 x in let q : counted x ≡ counted' x = omega arith in q) i in
            let same_mark : mark ≡ mark' =
            let a = changed.mark_is in
            let b : marked sort weight l.0 ≡ marked sort weight k = ap (λ (b : Bool). cond b weight 0) l.2 in omega arith in (
              subst (λ (t : (ℕ → ℕ) × ℕ). sort.Agrees terms word t.0 t.1) (λ i. (same i, same_mark i)) part.agrees,
              subst (λ (t : ℕ → ℕ). sort.Fits terms word t l.0) same l.3,
              λ other fits. subst (λ (t : ℕ → ℕ). sort.Fits terms word t other) same fits,
            )),
        l.4,
      )

module _ {S K : Type 0} (sort : Sort K) (lawful : IsLawful sort) where
  -- what a seat knows of the table, where it is one of the views
  part_of : (terms : Terms) (s : State S (Hand K)) (kept : Kept sort terms s) (id : ℕ) (v : Hand K) → get_elem? s.views id ≡ some v → 1 ≤ v.weight → kept.word < 2 ^ 64
      → IsPartOf sort terms v.weight v.known kept.word (counts sort s.views) (marks sort s.views)
  part_of terms s kept id v at some_weight small = record {
    some = some_weight;
    small = small;
    agrees = kept.agrees;
    fits = kept.fits id v at;
    held = λ x. one_of_total (λ (u : Hand K). sort.count x u.known) s.views id v at;
    room =
        let r = total_room (λ (u : Hand K). marked sort u.weight u.known) (λ (u : Hand K). u.weight) (λ u. marked_le (sort.is_marked u.known) u.weight) s.views id v at in
        let w = kept.weights in
        let p = marked_rest (sort.is_marked v.known) v.weight in omega arith;
    whole = λ all x. total_whole (λ (u : Hand K). u.weight) (λ (u : Hand K). sort.count x u.known) s.views id v at (kept.weights ∙ sym all)
        (λ j u e none. ap (sort.count x) (kept.spent j u e none) ∙ lawful.count_nothing x);
  }

  -- the board at its start
  pub opens : (terms : Terms) (word : ℕ) → sort.Agrees terms word (λ _. 0) 0 → Kept sort {S = S} terms (opening (word ∷ []) [] (hand terms.shares sort.nothing))
  opens terms word agrees =
      let first = hand terms.shares sort.nothing in
      let none : (λ (x : ℕ). 0) ≡ counts sort (first ∷ []) = λ i x. (let z = lawful.count_nothing x in let q : 0 ≡ counts sort (first ∷ []) x = omega arith in q) i in
      let unmarked_at : marks sort (first ∷ []) ≡ 0 = ap (λ (b : Bool). cond b terms.shares 0 + 0) lawful.mark_nothing in
      let stands : sort.Agrees terms word (counts sort (first ∷ [])) (marks sort (first ∷ [])) =
      subst (λ (t : (ℕ → ℕ) × ℕ). sort.Agrees terms word t.0 t.1) (λ i. (none i, sym unmarked_at i)) agrees in
      let Fitting : Hand K → Type 0 = λ u. sort.Fits terms word (counts sort (first ∷ [])) u.known in
      let Spent : Hand K → Type 0 = λ u. u.weight ≡ 0 → u.known ≡ sort.nothing in
      record {
        word = word;
        words = refl;
        weights = omega arith;
        spent = each_snoc Spent [] first (λ j u e. absurd (some-ne-none u (sym e))) (λ _. refl);
        agrees = stands;
        fits = each_snoc Fitting [] first (λ j u e. absurd (some-ne-none u (sym e))) (lawful.fits_nothing terms word (counts sort (first ∷ [])) (marks sort (first ∷ [])) stands);
      }

  -- a part of a seat's weight goes to a new seat
  pub splits : (terms : Terms) (id : ℕ) (v : Hand K) (amount : ℕ) → 1 ≤ amount → amount < v.weight
      → Splits (Kept sort {S = S} terms) id v (hand (v.weight - amount) v.known) (hand amount (sort.passed v.known))
  splits terms id v amount some_weight rest s kept at =
      let left = hand (v.weight - amount) v.known in
      let right = hand amount (sort.passed v.known) in
      let views : List (Hand K) = slice_set s.views id left ++ right ∷ [] in
      let sum : (f : Hand K → ℕ) → total f views + f v ≡ total f s.views + f left + f right = λ f.
      (let a = total_set f s.views id v left at in let b = total_snoc f (slice_set s.views id left) right in omega arith) in
      let counted : counts sort s.views ≡ counts sort views = λ i x.
      (let a = sum (λ u. sort.count x u.known) in let b = lawful.count_passed x v.known in let q : counts sort s.views x ≡ counts sort views x = omega arith in q) i in
      let marked_sum : marks sort s.views ≡ marks sort views =
      let a = sum (λ u. marked sort u.weight u.known) in
      let b : marked sort amount (sort.passed v.known) ≡ marked sort amount v.known = ap (λ (b : Bool). cond b amount 0) (lawful.mark_passed v.known) in
      let c = marked_minus (sort.is_marked v.known) v.weight amount (omega arith) in omega arith in
      let Spent : Hand K → Type 0 = λ u. u.weight ≡ 0 → u.known ≡ sort.nothing in
      let Fitting : Hand K → Type 0 = λ u. sort.Fits terms kept.word (counts sort s.views) u.known in
      let fitting : Each Fitting views = each_snoc Fitting (slice_set s.views id left) right (each_set Fitting s.views id left kept.fits (kept.fits id v at))
      (lawful.fits_passed terms kept.word (counts sort s.views) v.known (kept.fits id v at)) in
      record {
        word = kept.word;
        words = kept.words;
        weights = (let a = sum (λ u. u.weight) in let b = kept.weights in omega arith);
        spent = each_snoc Spent (slice_set s.views id left) right (each_set Spent s.views id left kept.spent (λ none. absurd (omega arith))) (λ none. absurd (omega arith));
        agrees = subst (λ (t : (ℕ → ℕ) × ℕ). sort.Agrees terms kept.word t.0 t.1) (λ i. (counted i, marked_sum i)) kept.agrees;
        fits = subst (λ (t : ℕ → ℕ). Each (λ (u : Hand K). sort.Fits terms kept.word t u.known) views) counted fitting;
      }

  -- a seat takes in all that another has, which is spent
  pub joins : (terms : Terms) (id : ℕ) (v : Hand K) (other : ℕ) (w : Hand K) → 1 ≤ v.weight
      → Joins (Kept sort {S = S} terms) id v other w (hand (v.weight + w.weight) (sort.merged v.known w.known)) (hand 0 sort.nothing)
  joins terms id v other w some_weight s kept at apart there =
      let both = hand (v.weight + w.weight) (sort.merged v.known w.known) in
      let spent = hand 0 sort.nothing in
      let between : List (Hand K) = slice_set s.views id both in
      let views : List (Hand K) = slice_set between other spent in
      let was : get_elem? s.views other ≡ some w = ⊎_elim (λ (t : (other ≡ id) × (both ≡ w)). absurd (apart t.0)) (λ (t : (other ≢ id) × (get_elem? s.views other ≡ some w)). t.1)
      (at_set s.views id other both w there) in
      let sum : (f : Hand K → ℕ) → total f views + f w + f v ≡ total f s.views + f both + f spent = λ f.
      (let a = total_set f s.views id v both at in let b = total_set f between other w spent there in omega arith) in
      let counted : counts sort s.views ≡ counts sort views = λ i x.
      (let a = sum (λ u. sort.count x u.known) in let b = lawful.count_merged x v.known w.known in let c = lawful.count_nothing x in
      let q : counts sort s.views x ≡ counts sort views x = omega arith in q) i in
      let marked_sum : marks sort s.views ≤ marks sort views =
      let a = sum (λ u. marked sort u.weight u.known) in
      let b : marked sort (v.weight + w.weight) (sort.merged v.known w.known) ≡ cond (sort.is_marked v.known || sort.is_marked w.known) (v.weight + w.weight) 0 =
      ap (λ (b : Bool). cond b (v.weight + w.weight) 0) (lawful.mark_merged v.known w.known) in
      let c = marked_plus (sort.is_marked v.known) (sort.is_marked w.known) v.weight w.weight in omega arith in
      let Spent : Hand K → Type 0 = λ u. u.weight ≡ 0 → u.known ≡ sort.nothing in
      let Fitting : Hand K → Type 0 = λ u. sort.Fits terms kept.word (counts sort s.views) u.known in
      let fitting : Each Fitting views = each_set Fitting between other spent
      (each_set Fitting s.views id both kept.fits (lawful.fits_merged terms kept.word (counts sort s.views) v.known w.known (kept.fits id v at) (kept.fits other w was)))
      (lawful.fits_nothing terms kept.word (counts sort s.views) (marks sort s.views) kept.agrees) in
      record {
        word = kept.word;
        words = kept.words;
        weights = (let a = sum (λ u. u.weight) in let b = kept.weights in omega arith);
        spent = each_set Spent between other spent (each_set Spent s.views id both kept.spent (λ none. absurd (omega arith))) (λ _. refl);
        agrees = lawful.agrees_more terms kept.word (counts sort views) (marks sort s.views) (marks sort views)
            (subst (λ (t : ℕ → ℕ). sort.Agrees terms kept.word t (marks sort s.views)) counted kept.agrees) marked_sum;
        fits = subst (λ (t : ℕ → ℕ). Each (λ (u : Hand K). sort.Fits terms kept.word t u.known) views) counted fitting;
      }

  -- a step on the word
  pub moves : (terms : Terms) (slots id : ℕ) (v : Hand K) (held : List (ℕ × S)) (next : ℕ → ℕ) (then : ℕ → K → Type 0) → 1 ≤ v.weight → Moves sort terms v.weight v.known next then
      → Allows (Kept sort {S = S} terms) slots id (v, held) 0 next (λ n m. (m.1 ≡ held) × (m.0.weight ≡ v.weight) × then n m.0.known)
  moves terms slots id v held next then some_weight moving s kept homes at small =
      let word_is : slice_index s.words 0 ≡ kept.word = ap (λ (ws : List ℕ). slice_index ws 0) kept.words in
      let low : kept.word < 2 ^ 64 = omega arith in
      let step = moving kept.word (counts sort s.views) (marks sort s.views) (part_of terms s kept id v at some_weight low) in
      let w = hand v.weight step.0 in
      let views : List (Hand K) = slice_set s.views id w in
      let kept' = step.1 (counts sort views) (marks sort views) record {
        counted_is = λ x. total_set (λ (u : Hand K). sort.count x u.known) s.views id v w at;
        mark_is = total_set (λ (u : Hand K). marked sort u.weight u.known) s.views id v w at;
      } in
      let Spent : Hand K → Type 0 = λ u. u.weight ≡ 0 → u.known ≡ sort.nothing in
      let Fitting : Hand K → Type 0 = λ u. sort.Fits terms (next kept.word) (counts sort views) u.known in
      let holds : Kept sort {S = S} terms (stepped s 0 (next kept.word) id held w keeps) = record {
        word = next kept.word;
        words = ap (λ (ws : List ℕ). slice_set ws 0 (next kept.word)) kept.words;
        weights = (let a = total_set (λ (u : Hand K). u.weight) s.views id v w at in let b = kept.weights in omega arith);
        spent = each_set Spent s.views id w kept.spent (λ none. absurd (omega arith));
        agrees = kept'.0;
        fits = each_set Fitting s.views id w (λ j u e. kept'.2 u.known (kept.fits j u e)) kept'.1;
      } in
      let Goal : ℕ → Type 0 = λ n. (u : Hand K) × (a : Act S) × Valid s.homes held a × Kept sort {S = S} terms (stepped s 0 (next n) id held u a)
      × ((carried_after held a ≡ held) × (u.weight ≡ v.weight) × then n u.known) in
      subst Goal (sym word_is) (w, keeps, tt, holds, (refl, refl, step.2))

  -- what a seat with the whole weight learns at the end
  pub closes : (terms : Terms) (id : ℕ) (v : Hand K) (ws : List ℕ) (xs : List S) (word : ℕ) → v.weight ≡ terms.shares → Final (Seen (Kept sort {S = S} terms) id v) ws xs
      → get_elem? ws 0 ≡ some word → Ends sort terms v.known word
  closes terms id v ws xs word whole last first =
      let s = last.0 in
      let kept = last.1.0 in
      let at = last.1.1 in
      let counted : counts sort s.views ≡ (λ (x : ℕ). sort.count x v.known) = λ i x.
      total_whole (λ (u : Hand K). u.weight) (λ (u : Hand K). sort.count x u.known) s.views id v at (kept.weights ∙ sym whole)
      (λ j u e none. ap (sort.count x) (kept.spent j u e none) ∙ lawful.count_nothing x) i in
      let word_is : kept.word ≡ word = some-injective kept.word word (ap (λ (l : List ℕ). get_elem? l 0) (sym kept.words ∙ last.2) ∙ first) in
      subst (Ends sort terms v.known) word_is (
        (marks sort s.views, subst (λ (t : ℕ → ℕ). sort.Agrees terms kept.word t (marks sort s.views)) counted kept.agrees),
        subst (λ (t : ℕ → ℕ). sort.Fits terms kept.word t v.known) counted (kept.fits id v at),
      )
