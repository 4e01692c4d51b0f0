-- A count modulo 2^64 is the count, where there are fewer truths.
use Rattle.std.proofs.Common.{◌≡◌, ℕ, ◌+◌, ◌<◌, ◌^◌, Bool, true, false, cond, List, [], ◌∷◌, length, fold, refl, ap, ◌∙◌, arith}
use Rattle.pts_lanes.specs.Lanes.{counted}

pub counted-is : (a : ℕ) (xs : List Bool) → a + length xs < 2 ^ 64 → fold counted a xs ≡ fold (λ n b. n + cond b 1 0) a xs
counted-is a [] p = refl
counted-is a (true ∷ xs) p = ap (λ n. fold counted n xs) (let e : counted a true ≡ a + 1 = omega arith in e) ∙ counted-is (a + 1) xs (omega arith)
counted-is a (false ∷ xs) p = ap (λ n. fold counted n xs) (let e : counted a false ≡ a + 0 = omega arith in e) ∙ counted-is (a + 0) xs (omega arith)
