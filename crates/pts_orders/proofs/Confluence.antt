-- A list in which what may be swapped commutes has the outcome of each list of the same evaluations in an order that is allowed.
use Rattle.std.proofs.Common.{◌≡◌, ◌≤◌, Bool, false, Option, Some, None, List, [], ◌∷◌, ◌++◌, refl, ap, sym, ◌∙◌, subst, arith}
use Rattle.std.specs.Option.{option_and_then}
use Rattle.pts_orders.specs.Evaluations.{Evaluation, is_same, one_if, times, Each, Pairs}
use Rattle.pts_orders.specs.Runs.{run, Commute, MaySwap}
use Rattle.pts_orders.proofs.Lists.{itself, times-append, split, each_from, each_at, each_both, pairs_to, pairs_without}

-- two lists are run one after the other
pub run-append : {S : Type 0} (step : Evaluation → S → Option S) (xs ys : List Evaluation) (s : S)
    → run step (xs ++ ys) s ≡ option_and_then (run step ys) (run step xs s)
run-append step [] ys s = refl
run-append {S} step (x ∷ xs) ys s = by (step x s) (run-append step xs ys)
  where
    by : (o : Option S) → ((t : S) → run step (xs ++ ys) t ≡ option_and_then (run step ys) (run step xs t))
        → option_and_then (run step (xs ++ ys)) o ≡ option_and_then (run step ys) (option_and_then (run step xs) o)
    by None rest = refl
    by (Some t) rest = rest t

-- two that commute may be swapped in front of a list
swapped : {S : Type 0} (step : Evaluation → S → Option S) (x y : Evaluation) (rest : List Evaluation) → Commute step x y
    → (s : S) → run step (x ∷ y ∷ rest) s ≡ run step (y ∷ x ∷ rest) s
swapped {S} step x y rest h s = join x y s ∙ ap (option_and_then (run step rest)) (h s) ∙ sym (join y x s)
  where
    by : (z : Evaluation) (o : Option S) → option_and_then (run step (z ∷ rest)) o ≡ option_and_then (run step rest) (option_and_then (step z) o)
    by z None = refl
    by z (Some t) = refl

    join : (u v : Evaluation) (t : S) → run step (u ∷ v ∷ rest) t ≡ option_and_then (run step rest) (option_and_then (step v) (step u t))
    join u v t = by v (step u t)

-- lists of one outcome have one outcome behind an evaluation
behind : {S : Type 0} (step : Evaluation → S → Option S) (x : Evaluation) (xs ys : List Evaluation)
    → ((t : S) → run step xs t ≡ run step ys t) → (s : S) → run step (x ∷ xs) s ≡ run step (x ∷ ys) s
behind {S} step x xs ys h s = by (step x s)
  where
    by : (o : Option S) → option_and_then (run step xs) o ≡ option_and_then (run step ys) o
    by None = refl
    by (Some t) = h t

-- x may go to the front where it commutes with all that stand before it
to_front : {S : Type 0} (step : Evaluation → S → Option S) (front : List Evaluation) (x : Evaluation) (back : List Evaluation)
    → Each (λ y. Commute step y x) front → (s : S) → run step (front ++ x ∷ back) s ≡ run step (x ∷ (front ++ back)) s
to_front step [] x back h s = refl
to_front step (y ∷ front) x back h s =
    behind step y (front ++ x ∷ back) (x ∷ (front ++ back)) (to_front step front x back h.1) s
    ∙ swapped step y x (front ++ back) h.0 s

-- the first evaluation of all is brought to the front of the list; what stood before it commutes with it
pub confluent : {S : Type 0} (step : Evaluation → S → Option S) (before : Evaluation → Evaluation → Bool) (all l : List Evaluation)
    → ((y : Evaluation) → times y l ≡ times y all) → Pairs (MaySwap step before) all → Pairs (λ y z. before z y ≡ false) l
    → (s : S) → run step l s ≡ run step all s
confluent step before [] [] same swap order s = refl
confluent step before [] (y ∷ ys) same swap order s =
    let here : one_if (is_same y y) ≡ 1 = ap one_if (itself y) in
    let none = same y in
    absurd (omega arith)
confluent {S} step before (x ∷ all) l same swap order s =
    let here : one_if (is_same x x) ≡ 1 = ap one_if (itself x) in
    let once = same x in
    let cut = split x l (omega arith) in
    by cut.0 cut.1 cut.2 (confluent step before all (cut.0 ++ cut.1))
  where
    by : (front back : List Evaluation) → l ≡ front ++ x ∷ back
        → (((y : Evaluation) → times y (front ++ back) ≡ times y all) → Pairs (MaySwap step before) all
        → Pairs (λ y z. before z y ≡ false) (front ++ back) → (t : S) → run step (front ++ back) t ≡ run step all t)
        → run step l s ≡ run step (x ∷ all) s
    by front back e rest =
        let ordered : Pairs (λ y z. before z y ≡ false) (front ++ x ∷ back) = subst (Pairs (λ y z. before z y ≡ false)) e order in
        let counts : (y : Evaluation) → times y (front ++ back) ≡ times y all = λ y.
        let whole : times y l ≡ times y (front ++ x ∷ back) = ap (times y) e in
        let a = times-append y front (x ∷ back) in
        let b = times-append y front back in
        let c = same y in omega arith in
        let others : Each (λ y. 1 ≤ times y all) front = each_from (λ y. 1 ≤ times y all) front (λ y h.
        let a = times-append y front back in let c = counts y in omega arith) in
        let may : Each (MaySwap step before x) front =
        each_from (MaySwap step before x) front (λ y h. each_at (MaySwap step before x) all swap.0 y (each_at (λ z. 1 ≤ times z all) front others y h)) in
        let free : Each (λ y. before x y ≡ false) front = pairs_to (λ y z. before z y ≡ false) front x back ordered in
        let commute : Each (λ y. Commute step y x) front =
        each_both (MaySwap step before x) (λ y. before x y ≡ false) (λ y. Commute step y x) (λ y f g. f g) front may free in
        ap (λ m. run step m s) e ∙ to_front step front x back commute s
        ∙ behind step x (front ++ back) all (rest counts swap.1 (pairs_without (λ y z. before z y ≡ false) front x back ordered)) s
