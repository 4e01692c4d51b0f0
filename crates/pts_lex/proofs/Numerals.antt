-- A number does not fall as further digits come.
use Rattle.std.proofs.Common.{◌≡◌, ℕ, suc, ◌+◌, ◌-◌, ◌*◌, ◌^◌, ◌<◌, ◌≤◌, List, [], ◌∷◌, length, get_or, drop, drop-cons, refl, sym, ◌∙◌, arith}
use Rattle.std.proofs.lemmas.List.{at_drop_all}
use Rattle.pts_lex.specs.Lexical.{number_from, number_of}

grows : (n : ℕ) (digits : List ℕ) → n ≤ number_from n digits
grows n [] = omega arith
grows n (d ∷ ds) = omega (arith, grows (n * 10 + (d - 48)) ds)

-- the digit at `at` makes the number too great, and so it stays
pub too_great : (digits : List ℕ) (n at : ℕ) → at < length digits → 2 ^ 64 ≤ n * 10 + (get_or digits at 0 - 48)
    → number_from n (drop at digits) ≡ number_of digits → number_of digits < 2 ^ 64 → ⊥
too_great digits n at within great is below =
    let rest : number_from n (drop at digits) ≡ number_from (n * 10 + (get_or digits at 0 - 48)) (drop (suc at) digits) = rw (drop-cons digits at 0) refl in
    omega (arith, grows (n * 10 + (get_or digits at 0 - 48)) (drop (suc at) digits))

-- no digit is left
pub all_read : (digits : List ℕ) (n at : ℕ) → length digits ≤ at → number_from n (drop at digits) ≡ number_of digits → n ≡ number_of digits
all_read digits n at over h = sym (at_drop_all (number_from n) digits at over) ∙ h
