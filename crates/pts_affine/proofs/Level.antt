-- Least solutions where the second line is level.
use Rattle.std.proofs.Common.{◌≡◌, ℕ, ◌+◌, ◌-◌, ◌*◌, ◌<◌, ◌≤◌, true, false, cond, inl, inr, sym, ap, ◌∙◌, arith}
use Rattle.std.specs.Prelude.{◌⊎◌}
use Rattle.std.proofs.lemmas.Bool.{false≢true}
use Rattle.pts_affine.specs.declared.equation.Equation.{Equation}
use Rattle.pts_affine.specs.Equations.{Solves, place}
use Rattle.pts_affine.specs.Lines.{IsLeast}

-- the equation without its second factor
flat : (a b u v p q : ℕ) → b ≡ 0 → a * p + u ≡ b * q + v → a * p + u ≡ v
flat a b u v p q level same = omega (arith, ap (λ n. n * q) level)

raised : (a b u v p q : ℕ) → b ≡ 0 → a * p + u ≡ v → a * p + u ≡ b * q + v
raised a b u v p q level same = omega (arith, ap (λ n. n * q) level)

straight-place : (e : Equation) (q : ℕ) → e.turned ≡ false → place e q ≡ q
straight-place e q h = ap (λ t. cond t (e.m - 1 - q) q) h

by_order : (p q p' q' : ℕ) → p ≤ p' → (p ≡ p' → q ≤ q') → (p < p') ⊎ ((p ≡ p') × (q ≤ q'))
by_order p q p' q' h k =
    let cases : (p < p') ⊎ (p ≡ p') = grind arith in
    elim cases [ inl less ↦ inl less | inr same ↦ inr (same, k same) ]

pub least_first : (e : Equation) (low : ℕ) → e.b ≡ 0 → 0 < e.m → e.after ≡ false → low < e.n → e.a * low + e.u ≡ e.v → ((p : ℕ) → p < e.n → e.a * p + e.u ≡ e.v → low ≤ p) → IsLeast (Solves e) low 0
least_first e low level some any within same least = record {
  holds = record { first = within; second = some; same = raised e.a e.b e.u e.v low 0 level same; order = λ yes. absurd (false≢true (sym any ∙ yes)) };
  least = λ p q s. by_order low 0 p q (least p s.first (flat e.a e.b e.u e.v p q level s.same)) (λ _. omega arith);
}

pub least_later : (e : Equation) (low : ℕ) → e.b ≡ 0 → e.turned ≡ false → e.after ≡ true → low < e.n → low + 1 < e.m → e.a * low + e.u ≡ e.v → ((p : ℕ) → p < e.n → p + 1 < e.m → e.a * p + e.u ≡ e.v → low ≤ p) → IsLeast (Solves e) low (low + 1)
least_later e low level straight after within room same least = record {
  holds = record {
    first = within;
    second = room;
    same = raised e.a e.b e.u e.v low (low + 1) level same;
    order = λ _. omega (arith, straight-place e (low + 1) straight);
  };
  least = λ p q s.
      let before : p < q = omega (arith, straight-place e q straight, s.order after) in
      by_order low (low + 1) p q (least p s.first (omega (arith, s.second)) (flat e.a e.b e.u e.v p q level s.same)) (λ k. omega arith);
}
