-- Each step of a board that keeps a least number keeps its rule.
use Rattle.std.proofs.Common.{◌≡◌, ◌⊎◌, ℕ, ◌+◌, ◌<◌, ◌≤◌, min, [], ◌∷◌, ◌++◌, refl, subst, inl, inr, ⊎_elim, arith}
use Rattle.std.specs.Prelude.{Contains}
use Rattle.std.proofs.lemmas.Bool.{cases_lt, cases_eq}
use Rattle.pts_boards.specs.declared.board.Terms.{Terms}
use Rattle.pts_boards.specs.declared.least.Lowered.{Lowered}
use Rattle.pts_boards.specs.Numbers.{times, none_lower, least_of}
use Rattle.pts_boards.specs.Least.{lowered, least_sort, Tells}
use Rattle.pts_boards.specs.Laws.{times-append}
use Rattle.pts_boards.specs.Rule.{Moves, Ends}
use Rattle.pts_boards.proofs.Numbers.{one_if, one_if_same, one_if_other, all_times, contains_times, least_is}
use Rattle.pts_boards.proofs.Rule.{looks}

pub lower_move : (terms : Terms) (weight : ℕ) (k : Lowered) (x : ℕ) → x ≤ none_lower → Moves least_sort terms weight k (λ n. min n x) (λ _ l. l ≡ lowered (k.numbers ++ x ∷ []) k.least)
lower_move terms weight k x most word counted mark part =
    let l = lowered (k.numbers ++ x ∷ []) k.least in (
      l,
      (λ counted' mark' changed.
          let more : (y : ℕ) → counted' y ≡ counted y + one_if y x = λ y. (let a = changed.counted_is y in let b = times-append y k.numbers (x ∷ []) in omega arith) in
          let kept : (y : ℕ) → 1 ≤ counted y → 1 ≤ counted' y = λ y some. (let a = more y in omega arith) in
          let fits : (other : Lowered) → least_sort.Fits terms word counted other → least_sort.Fits terms (min word x) counted' other = λ other fits.
          (let a = fits.0 in omega arith, ⊎_elim (λ (e : other.least ≡ none_lower). inl e) (λ (some : 1 ≤ counted other.least). inr (kept other.least some)) fits.1) in
          let below : (y : ℕ) → 1 ≤ counted' y → min word x ≤ y = λ y some. ⊎_elim
          (λ (e : y ≡ x). let r : min word x ≤ y = omega arith in r)
          (λ (n : y ≡ x → ⊥). let a = more y in let b = one_if_other y x n in let c = part.agrees.0 y (omega arith) in let r : min word x ≤ y = omega arith in r)
          (cases_eq y x) in
          let There : ℕ → Type 0 = λ w. (w ≡ none_lower) ⊎ (1 ≤ counted' w) in
          let there : There (min word x) = ⊎_elim
          (λ (lt : word < x). subst There (let e : word ≡ min word x = omega arith in e)
          (⊎_elim (λ (e : word ≡ none_lower). inl e) (λ (some : 1 ≤ counted word). inr (kept word some)) part.agrees.1))
          (λ (le : x ≤ word). subst There (let e : x ≡ min word x = omega arith in e) (inr (let a = more x in let b = one_if_same x x refl in omega arith)))
          (cases_lt word x) in (
            (below, there, omega arith),
            fits k part.fits,
            fits,
          )),
      refl,
    )

pub now_look : (terms : Terms) (weight : ℕ) (k : Lowered) → Moves least_sort terms weight k (λ n. n) (Tells k)
now_look terms weight k = looks least_sort terms weight k (Tells k) (λ word counted mark part. (
  lowered k.numbers word,
  (λ x. refl),
  refl,
  (let p : word ≤ word = omega arith in p, part.agrees.1),
  record {
    known = refl;
    falls = part.fits.0;
    below = all_times (λ x. word ≤ x) k.numbers (λ x some. part.agrees.0 x (let a = part.held x in omega arith));
  },
))

-- what the whole weight shows
pub least_end : (terms : Terms) (k : Lowered) (word : ℕ) → Ends least_sort terms k word → (word ≡ least_of k.numbers) × (word ≤ k.least) × ((k.least ≡ none_lower) ⊎ Contains k.numbers k.least)
least_end terms k word ends =
    let all = ends.0.1 in (
      least_is word k.numbers all.0 all.1 all.2,
      ends.1.0,
      ⊎_elim (λ (e : k.least ≡ none_lower). inl e) (λ (some : 1 ≤ times k.least k.numbers). inr (contains_times k.least k.numbers some)) ends.1.1,
    )
