-- Stretches of a list of items, one item after another.
use Rattle.std.proofs.Common.{◌≡◌, ℕ, zero, suc, ◌+◌, ◌-◌, ◌*◌, ◌<◌, Some, List, [], ◌∷◌, length, min, take, drop, ap, ◌∙◌, arith, add-one}
use Rattle.std.specs.List.{slice_get}
use Rattle.std.proofs.lemmas.List.{drop_min, length-drop, take_min}
use Rattle.pts_groupings.specs.Chunks.{chunk}

next : {A : Type 0} (items : List A) (at : ℕ) (item : A) → Some item ≡ slice_get items at → drop at items ≡ item ∷ drop (suc at) items
next [] at item e = absurd (cc)
next (x ∷ xs) zero item e = ap (λ y. y ∷ xs) (let same : x ≡ item = cc in same)
next (x ∷ xs) (suc at) item e = next xs at item e

-- the first item of a stretch, and the rest
pub item_more : {A : Type 0} (items : List A) (at end : ℕ) (item : A) → Some item ≡ slice_get items at → at < end
    → take (end - at) (drop at items) ≡ item ∷ take (end - (at + 1)) (drop (at + 1) items)
item_more items at end item e l =
    let count : end - at ≡ suc (end - (at + 1)) = omega arith in
    let rest : drop at items ≡ item ∷ drop (at + 1) items = rw add-one (next items at item e) in
    ap (λ n. take n (drop at items)) count ∙ ap (take (suc (end - (at + 1)))) rest

-- a chunk is the stretch between its ends
pub chunk_between : {A : Type 0} (size : ℕ) (items : List A) (number start end : ℕ) → start ≡ min (number * size) (length items) → end ≡ min (number * size + size) (length items)
    → take (end - start) (drop start items) ≡ chunk size items number
chunk_between size items number start end e e' =
    let first = number * size in
    let rest = drop first items in
    let left = length-drop first items in
    let count : end - start ≡ min size (length rest) = omega (arith, e, e', left) in
    ap (λ k. take (end - start) (drop k items)) e ∙ ap (take (end - start)) (drop_min first items) ∙ ap (λ k. take k rest) count ∙ take_min size rest
