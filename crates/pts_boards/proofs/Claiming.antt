-- Each step of a board of claims keeps its rule.
use Rattle.std.proofs.Common.{◌≡◌, ℕ, ◌+◌, ◌%◌, ◌^◌, ◌<◌, ◌≤◌, Bool, true, false, cond, min, [], ◌∷◌, ◌++◌, length, sym, refl, ap, ◌∙◌, subst, ⊎_elim, arith}
use Rattle.std.specs.Prelude.{All}
use Rattle.std.proofs.Math.Nat.{mod-eq_of_lt}
use Rattle.std.proofs.lemmas.Bool.{cases_lt}
use Rattle.pts_boards.specs.declared.board.Terms.{Terms}
use Rattle.pts_boards.specs.declared.claims.Drawn.{Drawn}
use Rattle.pts_boards.specs.Numbers.{times, once_below, CountsUp}
use Rattle.pts_boards.specs.Claims.{drawn, claim_sort, Draws, ShowsOnce}
use Rattle.pts_boards.specs.Rule.{IsPartOf, Leads, Moves, Ends}
use Rattle.pts_boards.specs.Laws.{times-append}
use Rattle.pts_boards.proofs.Numbers.{one_if, once_most, once_lt, once_next, all_times, length_once}
use Rattle.pts_boards.proofs.Rule.{looks}

-- each number of a seat is below the word
below_word : (terms : Terms) (weight : ℕ) (k : Drawn) (word : ℕ) (counted : ℕ → ℕ) (mark : ℕ) → IsPartOf claim_sort terms weight k word counted mark → All (λ x. x < word) k.numbers
below_word terms weight k word counted mark part = all_times (λ x. x < word) k.numbers
    (λ x some. let a = part.held x in let b = part.agrees.0 x in let c = once_lt (min word terms.parts) x (omega arith) in omega arith)

-- where the word is below the parts, the claim draws it
draws_part : (terms : Terms) (weight : ℕ) (k : Drawn) (word : ℕ) (counted : ℕ → ℕ) (mark : ℕ) → IsPartOf claim_sort terms weight k word counted mark → word < terms.parts
    → Leads claim_sort terms weight k word counted mark (word + 1) (Draws terms.parts k word)
draws_part terms weight k word counted mark part below =
    let l = drawn (k.numbers ++ word ∷ []) k.past in
    let counts : (x : ℕ) → counted x ≡ once_below word x = λ x. part.agrees.0 x ∙ ap (λ (n : ℕ). once_below n x) (let r : min word terms.parts ≡ word = omega arith in r) in
    let more : (x : ℕ) → times x l.numbers ≡ times x k.numbers + one_if x word = λ x. (let a = times-append x k.numbers (word ∷ []) in omega arith) in (
      l,
      (λ counted' mark' changed. (
        (
          (λ x.
              let a = changed.counted_is x in
              let b = counts x in
              let c = more x in
              let d = once_next word x in
              let e : once_below (min (word + 1) terms.parts) x ≡ once_below (word + 1) x = ap (λ (n : ℕ). once_below n x) (let r : min (word + 1) terms.parts ≡ word + 1 = omega arith in r) in omega arith),
          omega arith,
        ),
        (λ past. let a = part.fits past in omega arith),
        λ other fits past. let a = fits past in omega arith,
      )),
      record {
        ascends = below_word terms weight k word counted mark part;
        drew = λ _. refl;
        past = λ none. absurd (omega arith);
        once = λ x. (let a = part.held x in let b = counts x in let c = more x in let d = once_next word x in let e = once_most (word + 1) x in omega arith);
      },
    )

-- else the seat is past
draws_none : (terms : Terms) (weight : ℕ) (k : Drawn) (word : ℕ) (counted : ℕ → ℕ) (mark : ℕ) → k.past ≡ false → IsPartOf claim_sort terms weight k word counted mark
    → terms.parts ≤ word → Leads claim_sort terms weight k word counted mark (word + 1) (Draws terms.parts k word)
draws_none terms weight k word counted mark left part none =
    let l = drawn k.numbers true in
    let counts : (x : ℕ) → counted x ≡ once_below terms.parts x = λ x. part.agrees.0 x ∙ ap (λ (n : ℕ). once_below n x) (let r : min word terms.parts ≡ terms.parts = omega arith in r) in (
      l,
      (λ counted' mark' changed.
          let unmarked : cond k.past weight 0 ≡ 0 = ap (λ (b : Bool). cond b weight 0) left in
          let mark_is = changed.mark_is in (
            (
              (λ x.
                  let a = changed.counted_is x in
                  let b = counts x in
                  let c : once_below (min (word + 1) terms.parts) x ≡ once_below terms.parts x = ap (λ (n : ℕ). once_below n x) (let r : min (word + 1) terms.parts ≡ terms.parts = omega arith in r) in omega arith),
              (let a = part.agrees.1 in let b = part.some in omega arith),
            ),
            (λ past. omega arith),
            λ other fits past. omega arith,
          )),
      record {
        ascends = below_word terms weight k word counted mark part;
        drew = λ yes. absurd (omega arith);
        past = λ _. refl;
        once = λ x. (let a = part.held x in let b = counts x in let e = once_most terms.parts x in omega arith);
      },
    )

pub claims_move : (terms : Terms) (weight : ℕ) (k : Drawn) → k.past ≡ false → terms.parts ≤ 1048576 → terms.shares ≤ 64
    → Moves claim_sort terms weight k (λ n. (n + 1) % 2 ^ 64) (Draws terms.parts k)
claims_move terms weight k left few_parts few word counted mark part =
    let small : word + 1 < 2 ^ 64 = let a = part.agrees.1 in let b = part.room in omega arith in
    let next : (word + 1) % 2 ^ 64 ≡ word + 1 = mod-eq_of_lt {n = word + 1} {m = 2 ^ 64} small in
    let To : ℕ → Type 0 = λ n. Leads claim_sort terms weight k word counted mark n (Draws terms.parts k word) in
    subst To (sym next) (⊎_elim (draws_part terms weight k word counted mark part) (draws_none terms weight k word counted mark left part) (cases_lt word terms.parts))

pub claims_look : (terms : Terms) (weight : ℕ) (k : Drawn) → Moves claim_sort terms weight k (λ n. n) (λ n l. ShowsOnce k l)
claims_look terms weight k = looks claim_sort terms weight k (λ n l. ShowsOnce k l) (λ word counted mark part. (
  k,
  (λ x. refl),
  refl,
  part.fits,
  (refl, λ x. let a = part.held x in let b = part.agrees.0 x in let c = once_most (min word terms.parts) x in omega arith),
))

-- what the whole weight shows
pub claims_end : (terms : Terms) (k : Drawn) (word : ℕ) → Ends claim_sort terms k word → (length k.numbers ≡ min word terms.parts) × CountsUp k.numbers × (k.past ≡ true → length k.numbers ≡ terms.parts)
claims_end terms k word ends =
    let all = ends.0.1.0 in
    let count : length k.numbers ≡ min word terms.parts = length_once (min word terms.parts) k.numbers all in (
      count,
      (λ x. all x ∙ ap (λ (n : ℕ). once_below n x) (sym count)),
      λ past. let a = ends.1 past in omega arith,
    )
