-- Chunks of a list, one after another.
use Rattle.std.proofs.Common.{◌≡◌, ℕ, zero, suc, ◌+◌, ◌*◌, ◌<◌, ◌≤◌, List, [], ◌∷◌, ◌++◌, length, map, take, drop, refl, sym, ap, ◌∙◌, arith, length-drop}
use Rattle.std.specs.List.{flat_map, range_with_len}
use Rattle.std.proofs.Math.Nat.{mul-le-mul_right}
use Rattle.std.proofs.Math.Seq.{take-add}
use Rattle.std.proofs.lemmas.Grind.{div_ceil_times}
use Rattle.std.proofs.lemmas.List.{drop-drop, drop-map, length-take, map-append, take-map, take_all}
use Rattle.pts_groupings.specs.Chunks.{chunk, chunk_count}

-- so many chunks from one on are a stretch of the list
pub chunks-joined : {A : Type 0} (size : ℕ) (items : List A) (c k : ℕ)
    → flat_map (chunk size items) (range_with_len c k) ≡ take (k * size) (drop (c * size) items)
chunks-joined size items c zero = ap (λ n. take n (drop (c * size) items)) (let e : 0 ≡ zero * size = omega arith in e)
chunks-joined size items c (suc k) =
    let next : (c + 1) * size ≡ c * size + size = omega arith in
    let total : size + k * size ≡ suc k * size = omega arith in
    ap (λ l. chunk size items c ++ l)
    (chunks-joined size items (c + 1) k
    ∙ ap (λ n. take (k * size) (drop n items)) next
    ∙ ap (take (k * size)) (sym (drop-drop size (c * size) items)))
    ∙ sym (take-add size (k * size) (drop (c * size) items))
    ∙ ap (λ n. take n (drop (c * size) items)) total

pub all_chunks : {A : Type 0} (size : ℕ) (items : List A) → 0 < size
    → flat_map (chunk size items) (range_with_len 0 (chunk_count (length items) size)) ≡ items
all_chunks size items some =
    chunks-joined size items 0 (chunk_count (length items) size)
    ∙ ap (λ n. take (chunk_count (length items) size * size) (drop n items)) (let e : 0 * size ≡ 0 = omega arith in e)
    ∙ take_all (chunk_count (length items) size * size) items (div_ceil_times (length items) size some).0

-- a chunk begins before the end
pub chunk_starts : (n size c : ℕ) → 0 < size → c < chunk_count n size → c * size < n
chunk_starts n size c some below =
    let bounds = div_ceil_times n size some in
    let more : (c + 1) * size ≤ chunk_count n size * size = mul-le-mul_right size (let l : c + 1 ≤ chunk_count n size = omega (arith, below) in l) in
    let next : (c + 1) * size ≡ c * size + size = omega arith in
    omega (arith, bounds.1, more, next)

pub length-chunk : {A : Type 0} (size : ℕ) (items : List A) (c : ℕ) → 0 < size → c < chunk_count (length items) size → 1 ≤ length (chunk size items c)
length-chunk size items c some below =
    let starts = chunk_starts (length items) size c some below in
    let e = length-take size (drop (c * size) items) in
    let e' = length-drop (c * size) items in
    omega (arith, starts, e, e', some)

pub chunk-map : {A B : Type 0} (f : A → B) (size : ℕ) (items : List A) (c : ℕ) → chunk size (map f items) c ≡ map f (chunk size items c)
chunk-map f size items c = ap (take size) (drop-map f (c * size) items) ∙ take-map f size (drop (c * size) items)

pub chunks-map : {A B : Type 0} (f : A → B) (size : ℕ) (items : List A) (numbers : List ℕ)
    → flat_map (chunk size (map f items)) numbers ≡ map f (flat_map (chunk size items) numbers)
chunks-map f size items [] = refl
chunks-map f size items (c ∷ cs) =
    let e = chunk-map f size items c in
    let e' = chunks-map f size items cs in
    let e'' = map-append f (chunk size items c) (flat_map (chunk size items) cs) in
    cc
