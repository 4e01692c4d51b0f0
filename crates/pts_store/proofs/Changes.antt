-- What a store holds when its writes change.
use Rattle.std.proofs.Common.{◌≡◌, ◌≢◌, ℕ, suc, zero, Option, Some, None, List, [], ◌∷◌, length, set, refl, ap, ◌∙◌, arith}
use Rattle.std.specs.Prelude.{slice_get}
use Rattle.std.specs.Option.{option_map}
use Rattle.std.proofs.lemmas.Bool.Decides.{nat_tests}
use Rattle.pts_types.specs.declared.value.Value.{Value}
use Rattle.pts_store.specs.Stores.{Store, cells_in, put_cell, shown, cells_with, arrays_with, accepted}
use Rattle.pts_store.specs.Writes.{Writes, written, over, SameWrites, PutsCell, Merges}
use Rattle.pts_store.proofs.Empty.{written-empty}
use Rattle.pts_store.proofs.Shown.{cells_with-nothing, slice_get-cells_with}

-- ---- cells

pub length-cells_with : (f : ℕ → Option Value) (cells : List Value) → length (cells_with f cells) ≡ length cells
unfolding cells_with
length-cells_with f [] = refl
length-cells_with f (x ∷ xs) = ap suc (length-cells_with (λ k. f (suc k)) xs)

pub cells_with-same : (f g : ℕ → Option Value) → ((k : ℕ) → g k ≡ f k) → (cells : List Value) → cells_with g cells ≡ cells_with f cells
unfolding cells_with
cells_with-same f g same [] = refl
cells_with-same f g same (x ∷ xs) =
    let first : shown (g 0) x ≡ shown (f 0) x = ap (λ o. shown o x) (same 0) in
    let rest : cells_with (λ k. g (suc k)) xs ≡ cells_with (λ k. f (suc k)) xs =
    cells_with-same (λ k. f (suc k)) (λ k. g (suc k)) (λ k. same (suc k)) xs in
    cc

pub cells_with-set : (f g : ℕ → Option Value) (i : ℕ) (value : Value) → g i ≡ Some value → ((k : ℕ) → k ≢ i → g k ≡ f k)
    → (cells : List Value) → cells_with g cells ≡ set (cells_with f cells) i value
unfolding cells_with
cells_with-set f g i value here others [] = refl
cells_with-set f g zero value here others (x ∷ xs) =
    let first : shown (g 0) x ≡ value = ap (λ o. shown o x) here in
    let rest : cells_with (λ k. g (suc k)) xs ≡ cells_with (λ k. f (suc k)) xs =
    cells_with-same (λ k. f (suc k)) (λ k. g (suc k)) (λ k. others (suc k) (λ e. absurd (omega arith))) xs in
    cc
cells_with-set f g (suc i) value here others (x ∷ xs) =
    let first : shown (g 0) x ≡ shown (f 0) x = ap (λ o. shown o x) (others 0 (λ e. absurd (omega arith))) in
    let rest : cells_with (λ k. g (suc k)) xs ≡ set (cells_with (λ k. f (suc k)) xs) i value =
    cells_with-set (λ k. f (suc k)) (λ k. g (suc k)) i value here (λ k other. others (suc k) (λ e. other (omega arith))) xs in
    cc

shown-over : (earlier later : Option Value) (x : Value) → shown (over earlier later) x ≡ shown later (shown earlier x)
shown-over earlier None x = refl
shown-over earlier (Some value) x = refl

pub cells_with-over : (f h g : ℕ → Option Value) → ((k : ℕ) → g k ≡ over (f k) (h k))
    → (cells : List Value) → cells_with g cells ≡ cells_with h (cells_with f cells)
unfolding cells_with
cells_with-over f h g both [] = refl
cells_with-over f h g both (x ∷ xs) =
    let first : shown (g 0) x ≡ shown (h 0) (shown (f 0) x) = ap (λ o. shown o x) (both 0) ∙ shown-over (f 0) (h 0) x in
    let rest : cells_with (λ k. g (suc k)) xs ≡ cells_with (λ k. h (suc k)) (cells_with (λ k. f (suc k)) xs) =
    cells_with-over (λ k. f (suc k)) (λ k. h (suc k)) (λ k. g (suc k)) (λ k. both (suc k)) xs in
    cc

-- ---- arrays

pub arrays_with-same : (f g : ℕ → ℕ → Option Value) → ((a i : ℕ) → g a i ≡ f a i) → (store : Store) → arrays_with g store ≡ arrays_with f store
unfolding arrays_with
arrays_with-same f g same [] = refl
arrays_with-same f g same (cells ∷ rest) =
    let first : cells_with (g 0) cells ≡ cells_with (f 0) cells = cells_with-same (f 0) (g 0) (same 0) cells in
    let others : arrays_with (λ a. g (suc a)) rest ≡ arrays_with (λ a. f (suc a)) rest =
    arrays_with-same (λ a. f (suc a)) (λ a. g (suc a)) (λ a. same (suc a)) rest in
    cc

pub arrays_with-put : (f g : ℕ → ℕ → Option Value) (a i : ℕ) (value : Value) → g a i ≡ Some value
    → ((k : ℕ) → k ≢ i → g a k ≡ f a k) → ((b : ℕ) → b ≢ a → (k : ℕ) → g b k ≡ f b k)
    → (store : Store) → arrays_with g store ≡ put_cell (arrays_with f store) a i value
unfolding arrays_with
arrays_with-put f g a i value here row others [] = refl
arrays_with-put f g zero i value here row others (cells ∷ rest) =
    let first : cells_with (g 0) cells ≡ set (cells_with (f 0) cells) i value = cells_with-set (f 0) (g 0) i value here row cells in
    let more : arrays_with (λ b. g (suc b)) rest ≡ arrays_with (λ b. f (suc b)) rest =
    arrays_with-same (λ b. f (suc b)) (λ b. g (suc b)) (λ b. others (suc b) (λ e. absurd (omega arith))) rest in
    cc
arrays_with-put f g (suc a) i value here row others (cells ∷ rest) =
    let first : cells_with (g 0) cells ≡ cells_with (f 0) cells = cells_with-same (f 0) (g 0) (others 0 (λ e. absurd (omega arith))) cells in
    let more : arrays_with (λ b. g (suc b)) rest ≡ put_cell (arrays_with (λ b. f (suc b)) rest) a i value =
    arrays_with-put (λ b. f (suc b)) (λ b. g (suc b)) a i value here row (λ b other. others (suc b) (λ e. other (omega arith))) rest in
    cc

pub arrays_with-over : (f h g : ℕ → ℕ → Option Value) → ((a i : ℕ) → g a i ≡ over (f a i) (h a i))
    → (store : Store) → arrays_with g store ≡ arrays_with h (arrays_with f store)
unfolding arrays_with
arrays_with-over f h g both [] = refl
arrays_with-over f h g both (cells ∷ rest) =
    let first : cells_with (g 0) cells ≡ cells_with (h 0) (cells_with (f 0) cells) = cells_with-over (f 0) (h 0) (g 0) (both 0) cells in
    let more : arrays_with (λ a. g (suc a)) rest ≡ arrays_with (λ a. h (suc a)) (arrays_with (λ a. f (suc a)) rest) =
    arrays_with-over (λ a. f (suc a)) (λ a. h (suc a)) (λ a. g (suc a)) (λ a. both (suc a)) rest in
    cc

pub cells_in-arrays_with : (f : ℕ → ℕ → Option Value) (store : Store) (a : ℕ) → cells_in (arrays_with f store) a ≡ cells_with (f a) (cells_in store a)
unfolding arrays_with cells_with
cells_in-arrays_with f [] a = refl
cells_in-arrays_with f (cells ∷ rest) zero = refl
cells_in-arrays_with f (cells ∷ rest) (suc a) = cells_in-arrays_with (λ b. f (suc b)) rest a

pub length-arrays_with : (f : ℕ → ℕ → Option Value) (store : Store) → length (arrays_with f store) ≡ length store
unfolding arrays_with
length-arrays_with f [] = refl
length-arrays_with f (cells ∷ rest) = ap suc (length-arrays_with (λ a. f (suc a)) rest)

pub arrays_with-nothing : (f : ℕ → ℕ → Option Value) → ((a i : ℕ) → f a i ≡ None) → (store : Store) → arrays_with f store ≡ store
unfolding arrays_with
arrays_with-nothing f none [] = refl
arrays_with-nothing f none (cells ∷ rest) =
    let first : cells_with (f 0) cells ≡ cells = cells_with-nothing (f 0) (none 0) cells in
    let more : arrays_with (λ a. f (suc a)) rest ≡ rest = arrays_with-nothing (λ a. f (suc a)) (λ a. none (suc a)) rest in
    cc

-- ---- writes

pub accepted-same : (store : Store) (old new : Writes) → SameWrites old new → accepted store new ≡ accepted store old
unfolding accepted
accepted-same store old new same = arrays_with-same (written old) (written new) same.cell store

pub accepted-empty : (store : Store) → accepted store [] ≡ store
unfolding accepted
accepted-empty store = arrays_with-nothing (written []) written-empty store

pub accepted-put : (store : Store) (old new : Writes) (a i : ℕ) (value : Value)
    → PutsCell old new a i value → accepted store new ≡ put_cell (accepted store old) a i value
unfolding accepted
accepted-put store old new a i value puts =
    let here : written new a i ≡ Some value = grind (arith, nat_tests, puts.cell a i) in
    let row : (k : ℕ) → k ≢ i → written new a k ≡ written old a k = λ k other. grind (arith, nat_tests, puts.cell a k) in
    let others : (b : ℕ) → b ≢ a → (k : ℕ) → written new b k ≡ written old b k = λ b other k. grind (arith, nat_tests, puts.cell b k) in
    arrays_with-put (written old) (written new) a i value here row others store

pub accepted-merged : (store : Store) (old later new : Writes) → Merges old later new → accepted store new ≡ accepted (accepted store old) later
unfolding accepted
accepted-merged store old later new merges = arrays_with-over (written old) (written later) (written new) merges.cell store

pub length-accepted : (store : Store) (writes : Writes) → length (accepted store writes) ≡ length store
unfolding accepted
length-accepted store writes = length-arrays_with (written writes) store

pub length-cells_in-accepted : (store : Store) (writes : Writes) (a : ℕ) → length (cells_in (accepted store writes) a) ≡ length (cells_in store a)
unfolding accepted
length-cells_in-accepted store writes a =
    ap length (cells_in-arrays_with (written writes) store a) ∙ length-cells_with (written writes a) (cells_in store a)

pub slice_get-accepted : (store : Store) (writes : Writes) (a i : ℕ)
    → slice_get (cells_in (accepted store writes) a) i ≡ option_map (shown (written writes a i)) (slice_get (cells_in store a) i)
unfolding accepted
slice_get-accepted store writes a i =
    ap (λ cells. slice_get cells i) (cells_in-arrays_with (written writes) store a) ∙ slice_get-cells_with (written writes a) (cells_in store a) i

pub ruleset nothing_accepted = (accepted-empty)
