-- Laws of the values of expressions.
use Rattle.std.specs.Prelude.{◌≡◌, ℕ, ◌+◌, ◌<◌, ◌≤◌, Bool}
use Rattle.pts_types.specs.declared.value.Kind.{Kind}
use Rattle.pts_tree.specs.declared.expr.Expr.{Expr}
use Rattle.pts_code.specs.Outcomes.{Outcome}
use Rattle.pts_code.specs.Values.{Environment, Reads, valuation, value_of, count}

-- the same outcomes from number n on, m of them
abbrev pub Agree : (ℕ → Outcome) → (ℕ → Outcome) → ℕ → ℕ → Type 0
Agree f g n m = (k : ℕ) → n ≤ k → k < n + m → f k ≡ g k

-- these outcomes under such numbers
abbrev pub read_as : Bool → (ℕ → Outcome) → Reads
read_as indices outcome = record { indices = indices; outcome = outcome }

-- Two ways in which elements were read, which agree in those of an expression itself: it has one value, and the same kind
-- and elements.
pub record DependsOnItsOwn (env : Environment) (indices : Bool) (f g : ℕ → Outcome) (x : Expr) : Type 0 where
  pub value : (kind : Kind) (n : ℕ) → Agree f g n (count (valuation env (read_as indices f) x)) → value_of env (read_as indices f) kind n x ≡ value_of env (read_as indices g) kind n x
  pub own : (valuation env (read_as indices f) x).own ≡ (valuation env (read_as indices g) x).own
  pub elements : (valuation env (read_as indices f) x).elements ≡ (valuation env (read_as indices g) x).elements
