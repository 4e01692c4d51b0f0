-- Numbers of functions.
use Rattle.std.proofs.Common.{◌≡◌, ℕ, ◌+◌, ◌^◌, ◌<◌, Bool, true, false, Some, None, [], ◌∷◌, arith}
use Rattle.std.specs.Prelude.{cond, count_by, if◌then◌else◌}
use Rattle.std.specs.Str.{bytes_eq}
use Rattle.pts_rules.specs.Parts.{Name}
use Rattle.pts_rules.specs.declared.meaning.Meaning.{Meaning}
use Rattle.pts_rules.specs.Known.{Entry, Scope, function_number, is_function, number_among}
use Rattle.pts_code.proofs.Scopes.{count_cons}
use Rattle.pts_lowering.specs.Fitting.{HasNumbers}

abbrev among : (Meaning → Bool) → Scope → ℕ
among is_one scope = count_by (λ entry. is_one entry.1) scope

-- a name that is one of them has fewer of them behind it than there are
number_below : (is_one : Meaning → Bool) (scope : Scope) (name : Name) (n : ℕ) → number_among is_one scope name ≡ Some n → n < among is_one scope
number_below is_one [] name n h = absurd (cc)
number_below is_one (entry ∷ scope) name n h =
    let more = count_cons (λ (e : Entry). is_one e.1) entry scope in
    by_name (bytes_eq name entry.0) (is_one entry.1) (among is_one (entry ∷ scope)) (λ e. number_below is_one scope name n e) more h
  where
    by_name : (same own : Bool) (all : ℕ) → (number_among is_one scope name ≡ Some n → n < among is_one scope) → all ≡ among is_one scope + cond own 1 0
        → (if same then (if own then Some (among is_one scope) else None) else number_among is_one scope name) ≡ Some n → n < all
    by_name true true all rest more e = let is : among is_one scope ≡ n = cc in omega (arith, is, more)
    by_name true false all rest more e = absurd (cc)
    by_name false true all rest more e = let less = rest e in omega (arith, less, more)
    by_name false false all rest more e = let less = rest e in omega (arith, less, more)

pub function_few : (scope : Scope) (name : Name) (n : ℕ) → HasNumbers scope → function_number scope name ≡ Some n → n < 2 ^ 32
function_few scope name n numbered e = let less = number_below is_function scope name n e in let few = numbered.functions in omega (arith, less, few)
