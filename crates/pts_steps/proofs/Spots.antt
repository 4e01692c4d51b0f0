-- Spots that are left, and Reads one behind the other.
use Rattle.std.proofs.Common.{◌≡◌, ℕ, ◌+◌, ◌-◌, ◌<◌, ◌≤◌, Bool, true, false, leb, List, [], ◌∷◌, ◌++◌, length, take, replicate, refl, sym, ap, ◌∙◌, ◌^◌, append_assoc, length-append, arith}
use Rattle.std.proofs.lemmas.Bool.{leb-true, leb-false}
use Rattle.std.proofs.lemmas.List.{length-replicate, length-take-le, replicate-append-replicate, replicate_more, take-take, take_all}
use Rattle.pts_tree.specs.declared.expr.Expr.{Expr}
use Rattle.pts_rules.specs.Counts.{reads}
use Rattle.pts_code.specs.Compiling.{capped}
use Rattle.pts_code.specs.Values.{numbers}
use Rattle.pts_code.proofs.Counted.{as_points}
use Rattle.pts_steps.specs.declared.builder.Builder.{Builder}
use Rattle.pts_steps.specs.declared.step.Step.TheVariants as steps
use Rattle.pts_steps.specs.Building.{with_reads, with_step}

-- all but the last of the first so many
pub but_last : {A : Type 0} (xs : List A) (n : ℕ) → take (length (take (length xs - n) xs) - 1) (take (length xs - n) xs) ≡ take (length xs - (n + 1)) xs
but_last xs n =
    let k = length xs - n in
    let short : length (take k xs) ≡ k = length-take-le k xs (omega arith) in
    let less : length (take k xs) - 1 ≤ k = omega (arith, short) in
    take-take (length (take k xs) - 1) k xs less ∙ ap (λ m. take m xs) (omega (arith, short))

-- what is left of more than so many is so many, and what is no more is as it was
pub so_many : {A : Type 0} (xs : List A) (count : ℕ) → take (length xs - (length xs - count)) xs ≡ take count xs
so_many xs count = by_test (leb (length xs) count) refl
  where
    few : length xs ≤ count → take (length xs - (length xs - count)) xs ≡ take count xs
    few le = take_all (length xs - (length xs - count)) xs (omega (arith, le)) ∙ sym (take_all count xs le)

    many : count < length xs → take (length xs - (length xs - count)) xs ≡ take count xs
    many less = let same : length xs - (length xs - count) ≡ count = omega (arith, less) in ap (λ n. take n xs) same

    by_test : (b : Bool) → leb (length xs) count ≡ b → take (length xs - (length xs - count)) xs ≡ take count xs
    by_test true h = few (leb-true (length xs) count h)
    by_test false h = many (leb-false (length xs) count h)

pub one_read : (b : Builder) (n : ℕ) → with_step (with_reads b n) steps.Read ≡ with_reads b (n + 1)
one_read b n =
    λ i. record b { steps = (append_assoc b.steps (replicate n steps.Read) (steps.Read ∷ []) ∙ ap (λ ss. b.steps ++ ss) (replicate_more n steps.Read)) i }

pub reads_twice : (b : Builder) (m n : ℕ) → with_reads (with_reads b m) n ≡ with_reads b (m + n)
reads_twice b m n =
    λ i. record b {
      steps = (append_assoc b.steps (replicate m steps.Read) (replicate n steps.Read) ∙ ap (λ ss. b.steps ++ ss) (replicate-append-replicate m n steps.Read)) i;
    }

pub reads_length : (b : Builder) (n : ℕ) → length (with_reads b n).steps ≡ length b.steps + n
reads_length b n = let both = length-append b.steps (replicate n steps.Read) in let many = length-replicate n steps.Read in omega (arith, both, many)

-- a count that is not the greatest number is all of it
pub all_counted : (x : Expr) (n : ℕ) → n ≡ capped (numbers true x) → (n ≡ 2 ^ 64 - 1 → ⊥) → n ≡ reads x
all_counted x n is less = let same = as_points x in omega (arith, is, less, same)
