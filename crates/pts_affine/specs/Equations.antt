-- Equations of two unknowns in natural numbers, and their least solutions.
use Rattle.std.specs.Prelude.{◌≡◌, ℕ, ◌+◌, ◌-◌, ◌*◌, ◌^◌, ◌<◌, ◌≤◌, Bool, true, false, IsTrue, if◌then◌else◌}
use Rattle.pts_affine.specs.declared.equation.Equation.{Equation}
use Rattle.pts_affine.specs.declared.line.Line.{Line}
use Rattle.pts_affine.specs.declared.span.Span.{Span}
use Rattle.pts_affine.specs.Lines.{Meets}

-- p is in the span
abbrev pub InSpan : Span → ℕ → Type 0
InSpan span p = (span.low ≤ p) × (p < span.end)

-- p is the least number for which a * p + w is a multiple of b
pub record IsLeastRoot (a w b p : ℕ) : Type 0 where
  pub root : (q : ℕ) × (a * p + w ≡ b * q)
  pub least : (p' q' : ℕ) → a * p' + w ≡ b * q' → p ≤ p'

-- a position of the second line, counted from the end where that line is turned
abbrev pub place : Equation → ℕ → ℕ
place e q = if e.turned then e.m - 1 - q else q

-- p and q solve the equation, in the order that is asked for
pub record Solves (e : Equation) (p q : ℕ) : Type 0 where
  pub first : p < e.n
  pub second : q < e.m
  pub same : e.a * p + e.u ≡ e.b * q + e.v
  pub order : IsTrue e.after → p < place e q

-- the bound on p that keeps it before the q with which it solves the equation
abbrev pub IsBefore : Bool → Bool → Equation → ℕ → Type 0
IsBefore false turned e p = Unit {0}
IsBefore true false e p = e.b * p + (e.v + 1) ≤ e.a * p + e.u
IsBefore true true e p = (e.a + e.b) * p + (e.u + 2 * e.b) ≤ e.b * e.m + e.v

-- p solves the equation with some q, if it does so in fractions
pub record HasPartner (e : Equation) (p : ℕ) : Type 0 where
  pub first : p < e.n
  pub from : e.v ≤ e.a * p + e.u
  pub to : e.a * p + e.u ≤ e.b * (e.m - 1) + e.v
  pub before : IsBefore e.after e.turned e p

-- the numbers are small enough for 64 bits
pub record IsSmall (e : Equation) : Type 0 where
  pub a : e.a ≤ 2 ^ 20
  pub b : e.b ≤ 2 ^ 20
  pub u : e.u ≤ 2 ^ 42
  pub v : e.v ≤ 2 ^ 20
  pub n : e.n ≤ 2 ^ 20
  pub m : e.m ≤ 2 ^ 20
  pub some : 0 < e.m

-- two positions meet, in the order that is asked for
abbrev pub IsWanted : Bool → Line → Line → ℕ → ℕ → Type 0
IsWanted after x y p q = Meets x y p q × (IsTrue after → p < q)
