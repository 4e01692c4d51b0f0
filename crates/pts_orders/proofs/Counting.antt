-- How often an evaluation stands in a grid, a strip or chunks.
use Rattle.std.proofs.Common.{◌≡◌, ℕ, zero, suc, ◌+◌, ◌-◌, ◌≤◌, ◌<◌, Bool, true, false, List, [], ◌∷◌, refl, arith, nat_eq, nat_le, nat_lt, ◌&&◌}
use Rattle.std.proofs.lemmas.Bool.Decides.{nat_tests}
use Rattle.pts_orders.specs.Evaluations.{Evaluation, is_within, one_if, times}
use Rattle.pts_orders.specs.Grids.{points_at, grid, strip, strips, Rises, Chunk, chunks, chunks_with}
use Rattle.pts_orders.proofs.Lists.{times-append}

count_points : (x : Evaluation) (p k m l : ℕ) → k + m ≡ l
    → times x (points_at p k m) ≡ one_if (nat_eq x.position p && nat_le k x.point && nat_lt x.point l)
count_points x p k zero l e = grind (arith, nat_tests)
count_points x p k (suc m) l e = let rest = count_points x p (suc k) m l (omega arith) in grind (arith, nat_tests)

pub count_grid : (x : Evaluation) (p n q k m l : ℕ) → p + n ≡ q → k + m ≡ l → times x (grid p n k m) ≡ one_if (is_within p q k l x)
count_grid x p zero q k m l e f = grind (arith, nat_tests)
count_grid x p (suc n) q k m l e f =
    let here = count_points x p k m l f in
    let rest = count_grid x (suc p) n q k m l (omega arith) f in
    let both = times-append x (points_at p k m) (grid (suc p) n k m) in
    grind (arith, nat_tests)

pub rises : (first : ℕ) (ns : List ℕ) (last : ℕ) → Rises first ns last → first ≤ last
rises first [] last h = omega arith
rises first (n ∷ ns) last h = let up = h.0 in let rest = rises n ns last h.1 in omega arith

pub count_strip : (x : Evaluation) (p n q k : ℕ) (ends : List ℕ) (last : ℕ) → p + n ≡ q → Rises k ends last
    → times x (strip p n k ends) ≡ one_if (is_within p q k last x)
count_strip x p n q k [] last e h = grind (arith, nat_tests)
count_strip x p n q k (end ∷ ends) last e h =
    let up : k ≤ end = h.0 in
    let on = rises end ends last h.1 in
    let part = count_grid x p n q k (end - k) end e (omega arith) in
    let rest = count_strip x p n q end ends last e h.1 in
    let both = times-append x (grid p n k (end - k)) (strip p n end ends) in
    grind (arith, nat_tests)

pub count_strips : (x : Evaluation) (p : ℕ) (rows : List ℕ) (q k : ℕ) (ends : List ℕ) (last : ℕ) → Rises p rows q → Rises k ends last
    → times x (strips p rows k ends) ≡ one_if (is_within p q k last x)
count_strips x p [] q k ends last h g = grind (arith, nat_tests)
count_strips x p (row ∷ rows) q k ends last h g =
    let up : p ≤ row = h.0 in
    let on = rises row rows q h.1 in
    let one = count_strip x p (row - p) row k ends last (omega arith) g in
    let rest = count_strips x row rows q k ends last h.1 g in
    let both = times-append x (strip p (row - p) k ends) (strips row rows k ends) in
    grind (arith, nat_tests)

-- an evaluation of one of the points stands in the chunks as often as they have its position
pub count_chunks : (x : Evaluation) (first m l : ℕ) (cs : List Chunk) → first + m ≡ l → (nat_le first x.point && nat_lt x.point l) ≡ true
    → times x (chunks first m cs) ≡ chunks_with x.position cs
count_chunks x first m l [] e h = refl
count_chunks x first m l (c ∷ cs) e h =
    let one = count_grid x c.start c.height (c.start + c.height) first m l refl e in
    let rest = count_chunks x first m l cs e h in
    let both = times-append x (grid c.start c.height first m) (chunks first m cs) in
    grind (arith, nat_tests)

-- and no other evaluation stands there
pub count_none : (x : Evaluation) (first m l : ℕ) (cs : List Chunk) → first + m ≡ l → (nat_le first x.point && nat_lt x.point l) ≡ false
    → times x (chunks first m cs) ≡ 0
count_none x first m l [] e h = refl
count_none x first m l (c ∷ cs) e h =
    let one = count_grid x c.start c.height (c.start + c.height) first m l refl e in
    let rest = count_none x first m l cs e h in
    let both = times-append x (grid c.start c.height first m) (chunks first m cs) in
    grind (arith, nat_tests)

-- what an evaluation that is counted is within
pub counted : (x : Evaluation) (xs : List Evaluation) (p q k l : ℕ) → times x xs ≡ one_if (is_within p q k l x) → 1 ≤ times x xs
    → (p ≤ x.position) × (x.position < q) × (k ≤ x.point) × (x.point < l)
counted x xs p q k l e h = grind (arith, nat_tests)

pub is_counted : (x : Evaluation) (xs : List Evaluation) (test : Bool) → times x xs ≡ one_if test → 1 ≤ times x xs → test ≡ true
is_counted x xs true e h = refl
is_counted x xs false e h = absurd (omega arith)
