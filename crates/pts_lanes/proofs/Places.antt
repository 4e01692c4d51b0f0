-- Places of lists: what a write or a load of the next eight does.
use Rattle.std.proofs.Common.{◌≡◌, ℕ, ◌+◌, ◌-◌, ◌<◌, ◌≤◌, List, [], ◌∷◌, ◌++◌, length, take, drop, set, fold, length-append, length-take, get_or, length-drop, refl, ap, sym, ◌∙◌, arith}
use borrow.Rule.Slice.PartMut.{put_mid}
use lib.Lanes.{chunk, put_chunk}
use Rattle.std.proofs.lemmas.Simd.{get_or-chunk, length-chunk, put_chunk_whole}
use Rattle.std.proofs.Math.Seq.{take-add}
use Rattle.std.proofs.lemmas.List.Sums.{fold-append}
use Rattle.std.proofs.lemmas.Slice.{take-put_mid}
use Rattle.std.proofs.lemmas.List.{take_more_set, take_all, take-append-drop}

-- after a write of the next n answers, so many more are there
pub filled_more : {A : Type 0} (out answer ys : List A) (at n k : ℕ) → k ≡ length ys → ys ≡ chunk at n answer → length ys ≡ n → at ≤ length out
    → take at out ≡ take at answer
    → take (at + n) (put_mid at k out ys) ≡ take (at + n) answer
filled_more out answer ys at n k p e long le so_far =
    take-put_mid at k out ys (at + n) (omega arith) le ∙ ap (λ l. l ++ ys) so_far ∙ ap (λ l. take at answer ++ l) e ∙ sym (take-add at n answer)

-- and after a write of one answer, one more
pub filled_one : {A : Type 0} (out answer : List A) (at : ℕ) (y : A) → chunk at 1 answer ≡ y ∷ [] → at < length out → take at out ≡ take at answer
    → take (at + 1) (set out at y) ≡ take (at + 1) answer
filled_one out answer at y e lt so_far =
    take_more_set out at y lt ∙ ap (λ l. l ++ (y ∷ [])) so_far ∙ ap (λ l. take at answer ++ l) (sym e) ∙ sym (take-add at 1 answer)

pub length-filled : {A : Type 0} (out ys : List A) (at k : ℕ) → k ≡ length ys → at + length ys ≤ length out → length (put_mid at k out ys) ≡ length out
length-filled out ys at k p le = omega (arith, length-append (take at out) (ys ++ drop k (drop at out)), length-append ys (drop k (drop at out)), length-take at out, length-drop k (drop at out), length-drop at out)

-- folding the items below a place, and then those from there on
pub folded_in_two : {A B : Type 0} (f : B → A → B) (a : B) (items : List A) (at : ℕ) (value result : B) → value ≡ fold f a (take at items)
    → result ≡ fold f value (take (length items - at) (drop at items))
    → result ≡ fold f a items
folded_in_two f a items at value result e rest =
    rest ∙ ap (fold f value) (take_all (length items - at) (drop at items) (omega (arith, length-drop at items)))
    ∙ ap (λ v. fold f v (drop at items)) e ∙ sym (fold-append f a (take at items) (drop at items)) ∙ ap (fold f a) (take-append-drop at items)

-- ---- a load

eight-read : {A : Type 0} (z : A) (l : List A) → length l ≡ 8 → l ≡ get_or l 0 z ∷ get_or l 1 z ∷ get_or l 2 z ∷ get_or l 3 z ∷ get_or l 4 z ∷ get_or l 5 z ∷ get_or l 6 z ∷ get_or l 7 z ∷ []
eight-read z (a ∷ b ∷ c ∷ d ∷ e ∷ f ∷ g ∷ h ∷ []) p = refl
eight-read z l p = absurd (omega arith)

-- eight items that are read one by one
pub eight-items : {A : Type 0} (z : A) (items : List A) (at : ℕ) → at + 8 ≤ length items
    → chunk at 8 items ≡ get_or items at z ∷ get_or items (at + 1) z ∷ get_or items (at + 2) z ∷ get_or items (at + 3) z ∷ get_or items (at + 4) z ∷ get_or items (at + 5) z ∷ get_or items (at + 6) z ∷ get_or items (at + 7) z ∷ []
eight-items z items at le =
    let read : (k : ℕ) → k < 8 → get_or (chunk at 8 items) k z ≡ get_or items (at + k) z = λ k lt. get_or-chunk at 8 items k z lt in
    let first : get_or (chunk at 8 items) 0 z ≡ get_or items at z = read 0 (omega arith) ∙ ap (λ k. get_or items k z) (omega arith) in
    eight-read z (chunk at 8 items) (length-chunk at 8 items le)
    ∙ rw (first, read 1 (omega arith), read 2 (omega arith), read 3 (omega arith), read 4 (omega arith), read 5 (omega arith), read 6 (omega arith), read 7 (omega arith)) refl

-- ---- a write of eight

-- a vector that holds the next eight answers, written over eight places
pub eight-stored : {A : Type 0} (out v answer : List A) (at : ℕ) → length out ≡ 8 → v ≡ chunk at 8 answer → at + 8 ≤ length answer
    → put_chunk 0 out v ≡ chunk at 8 answer
eight-stored out v answer at p e le = put_chunk_whole out v (p ∙ sym (ap length e ∙ length-chunk at 8 answer le)) ∙ e

-- eight places that are written one by one
pub eight-written : {A : Type 0} (out : List A) (a b c d e f g h : A) → length out ≡ 8
    → set (set (set (set (set (set (set (set out 0 a) 1 b) 2 c) 3 d) 4 e) 5 f) 6 g) 7 h ≡ a ∷ b ∷ c ∷ d ∷ e ∷ f ∷ g ∷ h ∷ []
eight-written (i ∷ j ∷ k ∷ l ∷ m ∷ n ∷ o ∷ p ∷ []) a b c d e f g h long = refl
eight-written out a b c d e f g h long = absurd (omega arith)
