-- Windows: the locals of other positions in front and behind change nothing.
use Rattle.std.proofs.Common.{◌≡◌, ℕ, zero, suc, ◌+◌, ◌-◌, ◌≤◌, ◌<◌, Option, Some, None, List, [], ◌∷◌, ◌++◌, length, map, get_or, set, replicate, refl, ap, sym, ◌∙◌, subst, arith, append_assoc, length-append}
use Rattle.std.proofs.lemmas.List.{get_or-append-add, get_or_append_left, length-set, length-replicate, replicate-append-replicate}
use Rattle.std.specs.Option.{option_and_then, option_map}
use Rattle.pts_orders.specs.Effects.{Cells, Locals, Effect, State, Skips, Throws, Notes, Puts, locals_at, made, applied, effect_at, step_of}
use Rattle.pts_orders.specs.Evaluations.{Evaluation, at, Each}
use Rattle.pts_orders.specs.Grids.{points_at, grid, strip, strips, Rises}
use Rattle.pts_orders.specs.Runs.{run}
use Rattle.pts_orders.specs.Windows.{ahead, counted_from, fresh, behind, in_windows}
use Rattle.pts_orders.proofs.Confluence.{run-append}
use Rattle.pts_orders.proofs.Counting.{count_grid, counted, rises}
use Rattle.pts_orders.proofs.Lists.{each_from, each_append}

-- ---- lists

set_behind : {A : Type 0} (front ys : List A) (i : ℕ) (a : A) → set (front ++ ys) (length front + i) a ≡ front ++ set ys i a
set_behind {A} [] ys i a = let e : length {A = A} [] + i ≡ i = omega arith in ap (λ j. set ys j a) e
set_behind (x ∷ front) ys i a =
    let e : length (x ∷ front) + i ≡ suc (length front + i) = omega arith in
    ap (λ j. set (x ∷ (front ++ ys)) j a) e ∙ ap (λ l. x ∷ l) (set_behind front ys i a)

set_before : {A : Type 0} (xs back : List A) (i : ℕ) (a : A) → i < length xs → set (xs ++ back) i a ≡ set xs i a ++ back
set_before [] back i a h = absurd (omega arith)
set_before (x ∷ xs) back zero a h = refl
set_before (x ∷ xs) back (suc i) a h = ap (λ l. x ∷ l) (set_before xs back i a (omega arith))

map-append : (f : Evaluation → Evaluation) (xs ys : List Evaluation) → map f (xs ++ ys) ≡ map f xs ++ map f ys
map-append f [] ys = refl
map-append f (x ∷ xs) ys = ap (λ l. f x ∷ l) (map-append f xs ys)

points_ahead : (base p k m : ℕ) → points_at (base + p) k m ≡ map (ahead base) (points_at p k m)
points_ahead base p k zero = refl
points_ahead base p k (suc m) = ap (λ l. at (base + p) k ∷ l) (points_ahead base p (suc k) m)

grid_ahead : (base p n k m : ℕ) → grid (base + p) n k m ≡ map (ahead base) (grid p n k m)
grid_ahead base p zero k m = refl
grid_ahead base p (suc n) k m =
    let next : suc (base + p) ≡ base + suc p = omega arith in
    ap (λ l. l ++ grid (suc (base + p)) n k m) (points_ahead base p k m)
    ∙ ap (λ l. map (ahead base) (points_at p k m) ++ l) (ap (λ q. grid q n k m) next ∙ grid_ahead base (suc p) n k m)
    ∙ sym (map-append (ahead base) (points_at p k m) (grid (suc p) n k m))

strip_ahead : (base p n k : ℕ) (ends : List ℕ) → strip (base + p) n k ends ≡ map (ahead base) (strip p n k ends)
strip_ahead base p n k [] = refl
strip_ahead base p n k (end ∷ ends) =
    ap (λ l. l ++ strip (base + p) n end ends) (grid_ahead base p n k (end - k))
    ∙ ap (λ l. map (ahead base) (grid p n k (end - k)) ++ l) (strip_ahead base p n end ends)
    ∙ sym (map-append (ahead base) (grid p n k (end - k)) (strip p n end ends))

-- the positions of a strip from 0 on are below its height
within : (n k : ℕ) (ends : List ℕ) → Each (λ x. x.position < n) (strip 0 n k ends)
within n k [] = tt
within n k (end ∷ ends) =
    each_append (λ x. x.position < n) (grid 0 n k (end - k)) (strip 0 n end ends)
    (each_from (λ x. x.position < n) (grid 0 n k (end - k)) (λ x h.
    let w = counted x (grid 0 n k (end - k)) 0 n k (k + (end - k)) (count_grid x 0 n n k (end - k) (k + (end - k)) (omega arith) refl) h in w.1))
    (within n end ends)

module _ {M C V L N : Type 0} (cells : Cells M C V) (notes : Locals L N) where
  -- ---- one evaluation

  around : List L → List L → State M L → State M L
  around front back s = record s { locals = front ++ (s.locals ++ back) }

  seen : (front back xs : List L) (i : ℕ) → i < length xs → get_or (front ++ (xs ++ back)) (length front + i) notes.nothing ≡ get_or xs i notes.nothing
  seen front back xs i h = get_or-append-add front (xs ++ back) i notes.nothing ∙ get_or_append_left xs back notes.nothing i h

  made_around : (front back : List L) (x : Evaluation) (e : Effect C V N) (s : State M L) → x.position < length s.locals
      → made cells notes (ahead (length front) x) e (around front back s) ≡ around front back (made cells notes x e s)
  unfolding around
  made_around front back x Skips s h = refl
  made_around front back x Throws s h = refl
  made_around front back x (Puts c v) s h = refl
  made_around front back x (Notes n) s h =
      let a : L = notes.noted (get_or s.locals x.position notes.nothing) x.point n in
      ap (λ l. record s { locals = l })
      (ap (λ l. set (front ++ (s.locals ++ back)) (length front + x.position) (notes.noted l x.point n)) (seen front back s.locals x.position h)
      ∙ set_behind front (s.locals ++ back) x.position a
      ∙ ap (λ l. front ++ l) (set_before s.locals back x.position a h))

  applied_around : (front back : List L) (x : Evaluation) (e : Effect C V N) (s : State M L) → x.position < length s.locals
      → applied cells notes (ahead (length front) x) e (around front back s) ≡ option_map (around front back) (applied cells notes x e s)
  applied_around front back x Throws s h = refl
  applied_around front back x Skips s h = ap Some (made_around front back x Skips s h)
  applied_around front back x (Notes n) s h = ap Some (made_around front back x (Notes n) s h)
  applied_around front back x (Puts c v) s h = ap Some (made_around front back x (Puts c v) s h)

  -- an effect leaves the number of positions as it is
  keeps : (x : Evaluation) (e : Effect C V N) (s t : State M L) → applied cells notes x e s ≡ Some t → length t.locals ≡ length s.locals
  keeps x Throws s t e = absurd cc
  keeps x Skips s t e = let same : t ≡ s = cc in ap (λ u. length u.locals) same
  keeps x (Notes n) s t e =
      let same : t ≡ made cells notes x (Notes n) s = cc in
      ap (λ u. length u.locals) same ∙ length-set s.locals x.position (notes.noted (locals_at notes s x.position) x.point n)
  keeps x (Puts c v) s t e = let same : t ≡ made cells notes x (Puts c v) s = cc in ap (λ u. length u.locals) same

  -- ---- runs

  run_keeps : (effect : Evaluation → L → M → Effect C V N) (xs : List Evaluation) (s t : State M L) → run (step_of cells notes effect) xs s ≡ Some t → length t.locals ≡ length s.locals
  run_keeps effect [] s t e = let same : t ≡ s = cc in ap (λ u. length u.locals) same
  run_keeps effect (x ∷ xs) s t e = by (step_of cells notes effect x s) refl e (λ u. run_keeps effect xs u t)
    where
      by : (o : Option (State M L)) → step_of cells notes effect x s ≡ o → option_and_then (run (step_of cells notes effect) xs) o ≡ Some t
          → ((u : State M L) → run (step_of cells notes effect) xs u ≡ Some t → length t.locals ≡ length u.locals) → length t.locals ≡ length s.locals
      by None p q rest = absurd cc
      by (Some u) p q rest = rest u q ∙ keeps x (effect_at notes effect x s) s u p

  module _ (effect : Evaluation → L → M → Effect C V N) where
    step_around : (front back : List L) (x : Evaluation) (s : State M L) → x.position < length s.locals
        → step_of cells notes effect (ahead (length front) x) (around front back s)
        ≡ option_map (around front back) (step_of cells notes (counted_from (length front) effect) x s)
    unfolding around
    step_around front back x s h =
        ap (λ l. applied cells notes (ahead (length front) x) (effect (ahead (length front) x) l s.memory) (around front back s))
        (seen front back s.locals x.position h)
        ∙ applied_around front back x (effect_at notes (counted_from (length front) effect) x s) s h

    run_around : (front back : List L) (xs : List Evaluation) (n : ℕ) → Each (λ x. x.position < n) xs → (s : State M L) → length s.locals ≡ n
        → run (step_of cells notes effect) (map (ahead (length front)) xs) (around front back s)
        ≡ option_map (around front back) (run (step_of cells notes (counted_from (length front) effect)) xs s)
    run_around front back [] n h s e = refl
    run_around front back (x ∷ xs) n h s e =
        let low : x.position < n = h.0 in
        ap (option_and_then (run (step_of cells notes effect) (map (ahead (length front)) xs))) (step_around front back x s (omega arith))
        ∙ by (step_of cells notes (counted_from (length front) effect) x s) refl (run_around front back xs n h.1)
      where
        by : (o : Option (State M L)) → step_of cells notes (counted_from (length front) effect) x s ≡ o
            → ((t : State M L) → length t.locals ≡ n → run (step_of cells notes effect) (map (ahead (length front)) xs) (around front back t)
            ≡ option_map (around front back) (run (step_of cells notes (counted_from (length front) effect)) xs t))
            → option_and_then (run (step_of cells notes effect) (map (ahead (length front)) xs)) (option_map (around front back) o)
            ≡ option_map (around front back) (option_and_then (run (step_of cells notes (counted_from (length front) effect)) xs) o)
        by None p rest = refl
        by (Some t) p rest = rest t (keeps x (effect_at notes (counted_from (length front) effect) x s) s t p ∙ e)

    twice_behind : (front more : List L) (o : Option (State M L))
        → option_map (behind (front ++ more)) o ≡ option_map (behind front) (option_map (behind more) o)
    twice_behind front more None = refl
    twice_behind front more (Some s) = ap (λ l. Some (record s { locals = l })) (append_assoc front more s.locals)

    -- strips may each be run on a window of their own, behind the locals of the positions before them
    pub strips_behind : (p : ℕ) (rows : List ℕ) (q k : ℕ) (ends : List ℕ) (m : M) (front : List L) → length front ≡ p → Rises p rows q
        → run (step_of cells notes effect) (strips p rows k ends) (record { memory = m; locals = front ++ replicate (q - p) notes.nothing })
        ≡ option_map (behind front) (in_windows cells notes effect p rows k ends m)
    unfolding around
    strips_behind p [] q k ends m front e h =
        let none : q - p ≡ 0 = omega arith in
        ap (λ n. Some (record { memory = m; locals = front ++ replicate n notes.nothing })) none
    strips_behind p (row ∷ rows) q k ends m front e h =
        let up : p ≤ row = h.0 in
        let on : row ≤ q = rises row rows q h.1 in
        let parts : q - p ≡ (row - p) + (q - row) = omega arith in
        let none : p ≡ p + 0 = omega arith in
        ap (λ l. run (step_of cells notes effect) (strip p (row - p) k ends ++ strips row rows k ends) (record { memory = m; locals = front ++ l }))
        (ap (λ n. replicate n notes.nothing) parts ∙ sym (replicate-append-replicate (row - p) (q - row) notes.nothing))
        ∙ run-append (step_of cells notes effect) (strip p (row - p) k ends) (strips row rows k ends) (around front back (fresh notes (row - p) m))
        ∙ ap (λ l. option_and_then (run (step_of cells notes effect) (strips row rows k ends)) (run (step_of cells notes effect) l (around front back (fresh notes (row - p) m))))
        (ap (λ b. strip b (row - p) k ends) none ∙ strip_ahead p 0 (row - p) k ends)
        ∙ ap (option_and_then (run (step_of cells notes effect) (strips row rows k ends)))
        (subst (λ b. run (step_of cells notes effect) (map (ahead b) (strip 0 (row - p) k ends)) (around front back (fresh notes (row - p) m))
        ≡ option_map (around front back) (run (step_of cells notes (counted_from b effect)) (strip 0 (row - p) k ends) (fresh notes (row - p) m))) e
        (run_around front back (strip 0 (row - p) k ends) (row - p) (within (row - p) k ends) (fresh notes (row - p) m) (length-replicate (row - p) notes.nothing)))
        ∙ by (run (step_of cells notes (counted_from p effect)) (strip 0 (row - p) k ends) (fresh notes (row - p) m)) refl
        (λ s whole. strips_behind row rows q k ends s.memory (front ++ s.locals) whole h.1)
      where
        back : List L
        back = replicate (q - row) notes.nothing

        by : (o : Option (State M L)) → run (step_of cells notes (counted_from p effect)) (strip 0 (row - p) k ends) (fresh notes (row - p) m) ≡ o
            → ((s : State M L) → length (front ++ s.locals) ≡ row
            → run (step_of cells notes effect) (strips row rows k ends) (record { memory = s.memory; locals = (front ++ s.locals) ++ back })
            ≡ option_map (behind (front ++ s.locals)) (in_windows cells notes effect row rows k ends s.memory))
            → option_and_then (run (step_of cells notes effect) (strips row rows k ends)) (option_map (around front back) o)
            ≡ option_map (behind front) (option_and_then (λ s. option_map (behind s.locals) (in_windows cells notes effect row rows k ends s.memory)) o)
        by None r rest = refl
        by (Some s) r rest =
            let kept : length s.locals ≡ row - p =
            run_keeps (counted_from p effect) (strip 0 (row - p) k ends) (fresh notes (row - p) m) s r ∙ length-replicate (row - p) notes.nothing in
            let up : p ≤ row = h.0 in
            let whole : length (front ++ s.locals) ≡ row = length-append front s.locals ∙ (let sum : length front + length s.locals ≡ row = omega arith in sum) in
            ap (λ l. run (step_of cells notes effect) (strips row rows k ends) (record { memory = s.memory; locals = l })) (sym (append_assoc front s.locals back))
            ∙ rest s whole ∙ twice_behind front s.locals (in_windows cells notes effect row rows k ends s.memory)

    behind_nothing : (o : Option (State M L)) → option_map (behind []) o ≡ o
    behind_nothing None = refl
    behind_nothing (Some s) = refl

    -- from the first position on
    pub strips_in_windows : (n : ℕ) (rows : List ℕ) (k : ℕ) (ends : List ℕ) → Rises 0 rows n → (m : M)
        → run (step_of cells notes effect) (strips 0 rows k ends) (fresh notes n m) ≡ in_windows cells notes effect 0 rows k ends m
    strips_in_windows n rows k ends h m =
        let all : n ≡ n - 0 = omega arith in
        ap (λ h. run (step_of cells notes effect) (strips 0 rows k ends) (fresh notes h m)) all
        ∙ strips_behind 0 rows n k ends m [] refl h ∙ behind_nothing (in_windows cells notes effect 0 rows k ends m)
