-- A stretch that shows what is written, and what lies behind it.
use Rattle.std.proofs.Common.{◌≡◌, ◌≢◌, ℕ, suc, zero, ◌+◌, ◌-◌, ◌<◌, ◌≤◌, Option, Some, None, List, [], ◌∷◌, length, set, sym, refl, ap, ◌∙◌, arith, ⊎_elim}
use Rattle.std.specs.Prelude.{slice_get}
use Rattle.std.specs.Option.{option_map}
use Rattle.std.proofs.lemmas.Bool.{cases_lt}
use Rattle.std.proofs.lemmas.Option.{none-some, same_Some, slice_get_past}
use Rattle.pts_store.specs.Stretches.{Shows}

pub Shows-empty : {X W : Type 0} (shown : W → X → X) (writes : ℕ → W) (base : ℕ) (xs : List X) → Shows shown writes base 0 xs xs
Shows-empty shown writes base xs = record {
  inside = λ k less. absurd (omega arith);
  before = λ k less. refl;
  behind = λ k more. refl;
}

pub Shows-next : {X W : Type 0} (shown : W → X → X) (f h : ℕ → W) (base n m : ℕ) (old mid new : List X)
    → Shows shown f base n old mid → Shows shown h (base + n) m mid new → ((k : ℕ) → k < m → h k ≡ f (n + k))
    → Shows shown f base (n + m) old new
Shows-next shown f h base n m old mid new first second agree =
    let inside : (k : ℕ) → k < n + m → slice_get new (base + k) ≡ option_map (shown (f k)) (slice_get old (base + k)) =
    λ k less. ⊎_elim
    (λ here. second.before (base + k) (omega arith) ∙ first.inside k here)
    (λ past.
    let lt : k - n < m = omega arith in
    let place : (base + n) + (k - n) ≡ base + k = omega arith in
    let number : n + (k - n) ≡ k = omega arith in
    let far : base + n ≤ base + k = omega arith in
    ap (slice_get new) (sym place) ∙ second.inside (k - n) lt
    ∙ ap (λ w. option_map (shown w) (slice_get mid ((base + n) + (k - n)))) (agree (k - n) lt ∙ ap f number)
    ∙ ap (λ p. option_map (shown (f k)) (slice_get mid p)) place
    ∙ ap (option_map (shown (f k))) (first.behind (base + k) far))
    (cases_lt k n) in
    record {
      inside = inside;
      before = λ k less. second.before k (omega arith) ∙ first.before k less;
      behind = λ k more. second.behind k (omega arith) ∙ first.behind k (omega arith);
    }

option_map-nothing : {X : Type 0} (g : X → X) → ((x : X) → g x ≡ x) → (o : Option X) → o ≡ option_map g o
option_map-nothing g nothing None = refl
option_map-nothing g nothing (Some x) = ap Some (sym (nothing x))

-- from `some` on nothing is written, and what lies between is past the list
pub Shows-longer : {X W : Type 0} (shown : W → X → X) (f : ℕ → W) (base n m some : ℕ) (old new : List X)
    → Shows shown f base n old new → n ≤ m
    → ((k : ℕ) → some ≤ k → (x : X) → shown (f k) x ≡ x)
    → ((k : ℕ) → n ≤ k → k < m → k < some → length old ≤ base + k)
    → Shows shown f base m old new
Shows-longer shown f base n m some old new s less nothing past =
    let same : (k : ℕ) → n ≤ k → k < m → slice_get old (base + k) ≡ option_map (shown (f k)) (slice_get old (base + k)) =
    λ k low high. ⊎_elim
    (λ here.
    let none : slice_get old (base + k) ≡ None = slice_get_past old (base + k) (past k low high here) in
    none ∙ ap (option_map (shown (f k))) (sym none))
    (λ far. option_map-nothing (shown (f k)) (nothing k far) (slice_get old (base + k)))
    (cases_lt k some) in
    record {
      inside = λ k within. ⊎_elim
          (λ here. s.inside k here)
          (λ far. s.behind (base + k) (omega arith) ∙ same k far within)
          (cases_lt k n);
      before = s.before;
      behind = λ k more. s.behind k (omega arith);
    }

pub ext_slice_get : {X : Type 0} (xs ys : List X) → ((k : ℕ) → slice_get xs k ≡ slice_get ys k) → xs ≡ ys
ext_slice_get [] [] same = refl
ext_slice_get [] (y ∷ ys) same = absurd (none-some y (same 0))
ext_slice_get (x ∷ xs) [] same = absurd (none-some x (sym (same 0)))
ext_slice_get (x ∷ xs) (y ∷ ys) same =
    let first : x ≡ y = same_Some x y (same 0) in
    let rest : xs ≡ ys = ext_slice_get xs ys (λ k. same (suc k)) in
    cc

slice_get-set_same : {X : Type 0} (xs : List X) (i : ℕ) (v : X) → i < length xs → slice_get (set xs i v) i ≡ Some v
slice_get-set_same [] i v less = absurd (omega arith)
slice_get-set_same (x ∷ xs) zero v less = refl
slice_get-set_same (x ∷ xs) (suc i) v less = slice_get-set_same xs i v (omega arith)

slice_get-set_other : {X : Type 0} (xs : List X) (i k : ℕ) (v : X) → k ≢ i → slice_get (set xs i v) k ≡ slice_get xs k
slice_get-set_other [] i k v other = refl
slice_get-set_other (x ∷ xs) zero zero v other = absurd (other refl)
slice_get-set_other (x ∷ xs) zero (suc k) v other = refl
slice_get-set_other (x ∷ xs) (suc i) zero v other = refl
slice_get-set_other (x ∷ xs) (suc i) (suc k) v other = slice_get-set_other xs i k v (λ e. other (ap suc e))

-- one place more, which is set to what it shows
pub Shows-set : {X W : Type 0} (shown : W → X → X) (f : ℕ → W) (base n : ℕ) (old mid : List X) (x : X)
    → Shows shown f base n old mid → base + n < length mid → slice_get mid (base + n) ≡ Some x
    → Shows shown f base (n + 1) old (set mid (base + n) (shown (f n) x))
Shows-set shown f base n old mid x first within here =
    let new = set mid (base + n) (shown (f n) x) in
    let one : Shows shown (λ k. f (n + k)) (base + n) 1 mid new = record {
      inside = λ k less.
          let place : (base + n) + k ≡ base + n = omega arith in
          let number : n ≡ n + k = omega arith in
          ap (slice_get new) place ∙ slice_get-set_same mid (base + n) (shown (f n) x) within
          ∙ ap (λ j. Some (shown (f j) x)) number ∙ ap (option_map (shown (f (n + k)))) (sym here)
          ∙ ap (λ p. option_map (shown (f (n + k))) (slice_get mid p)) (sym place);
      before = λ k less. slice_get-set_other mid (base + n) k (shown (f n) x) (λ e. absurd (omega arith));
      behind = λ k more. slice_get-set_other mid (base + n) k (shown (f n) x) (λ e. absurd (omega arith));
    } in
    Shows-next shown f (λ k. f (n + k)) base n 1 old mid new first one (λ k less. refl)
