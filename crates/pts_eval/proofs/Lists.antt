-- What lists of expressions give, one element on.
use Rattle.std.proofs.Common.{◌≡◌, ◌⊎◌, inl, inr, ℕ, ◌+◌, ◌<◌, ◌≤◌, min, true, false, if◌then◌else◌, Result, Ok, Err, List, [], ◌∷◌, ◌++◌, length, get_or, drop, map, refl, sym, ap, ◌∙◌, append_assoc, arith}
use Rattle.std.proofs.Math.Nat.{min-eq_left, min-eq_right}
use Rattle.std.proofs.lemmas.Bool.{cases_lt}
use Rattle.std.proofs.lemmas.List.{drop_more, drop_all}
use Rattle.pts_types.specs.declared.value.Kind.{Kind}
use Rattle.pts_types.specs.declared.value.Kind.TheVariants as kinds
use Rattle.pts_types.specs.declared.value.Thrown.{Thrown}
use Rattle.pts_types.specs.declared.value.Value.{Value}
use Rattle.pts_types.specs.declared.value.Value.TheVariants as values
use Rattle.pts_tree.specs.declared.expr.ChainPart.{ChainPart}
use Rattle.pts_tree.specs.declared.expr.Expr.{Expr}
use Rattle.pts_tree.specs.declared.script.Param.{Param}
use Rattle.pts_code.specs.Functions.{kinds_of}
use Rattle.pts_code.specs.Outcomes.{Outcome, and_then, is_true, operate, from_left, all_of, any_of}
use Rattle.pts_code.specs.Values.{at_kinds, count, numbers, operations, truths}
use Rattle.pts_eval.specs.declared.expressions.Names.{Names}
use Rattle.pts_eval.specs.Expressions.{given, part_of, valued}
use Rattle.pts_eval.proofs.Given.{taken}

module _ (names : Names) where
  -- ---- truths

  abbrev rest_of : List Expr → ℕ → ℕ → List Outcome
  rest_of xs at n = truths (map (valued names) (drop at xs)) n

  truths_next : (xs : List Expr) (at n : ℕ) (x : Expr) → at < length xs → x ≡ get_or xs at x → rest_of xs at n ≡ given names kinds.Bool n x ∷ rest_of xs (at + 1) (n + numbers false x)
  truths_next xs at n x within is =
      ap (λ zs. truths (map (valued names) zs) n) (drop_more xs at x within)
      ∙ ap (λ z. given names kinds.Bool n z ∷ rest_of xs (at + 1) (n + count (valued names z))) (sym is)
      ∙ ap (λ m. given names kinds.Bool n x ∷ rest_of xs (at + 1) (n + m)) (taken names x)

  module _ (xs : List Expr) (at n : ℕ) (x : Expr) (within : at < length xs) (is : x ≡ get_or xs at x) where
    pub all_threw : (e : Thrown) → given names kinds.Bool n x ≡ Err e → all_of (rest_of xs at n) ≡ Err e
    all_threw e gave = ap all_of (truths_next xs at n x within is) ∙ ap (λ o. all_of (o ∷ rest_of xs (at + 1) (n + numbers false x))) gave

    pub all_false : (value : Value) → given names kinds.Bool n x ≡ Ok value → is_true value ≡ false → all_of (rest_of xs at n) ≡ Ok (values.Bool false)
    all_false value gave truth =
        ap all_of (truths_next xs at n x within is)
        ∙ ap (λ o. all_of (o ∷ rest_of xs (at + 1) (n + numbers false x))) gave
        ∙ ap (λ b. if b then all_of (rest_of xs (at + 1) (n + numbers false x)) else Ok (values.Bool false)) truth

    pub all_true : (value : Value) → given names kinds.Bool n x ≡ Ok value → is_true value ≡ true → all_of (rest_of xs at n) ≡ all_of (rest_of xs (at + 1) (n + numbers false x))
    all_true value gave truth =
        ap all_of (truths_next xs at n x within is)
        ∙ ap (λ o. all_of (o ∷ rest_of xs (at + 1) (n + numbers false x))) gave
        ∙ ap (λ b. if b then all_of (rest_of xs (at + 1) (n + numbers false x)) else Ok (values.Bool false)) truth

    pub any_threw : (e : Thrown) → given names kinds.Bool n x ≡ Err e → any_of (rest_of xs at n) ≡ Err e
    any_threw e gave = ap any_of (truths_next xs at n x within is) ∙ ap (λ o. any_of (o ∷ rest_of xs (at + 1) (n + numbers false x))) gave

    pub any_true : (value : Value) → given names kinds.Bool n x ≡ Ok value → is_true value ≡ true → any_of (rest_of xs at n) ≡ Ok (values.Bool true)
    any_true value gave truth =
        ap any_of (truths_next xs at n x within is)
        ∙ ap (λ o. any_of (o ∷ rest_of xs (at + 1) (n + numbers false x))) gave
        ∙ ap (λ b. if b then Ok (values.Bool true) else any_of (rest_of xs (at + 1) (n + numbers false x))) truth

    pub any_false : (value : Value) → given names kinds.Bool n x ≡ Ok value → is_true value ≡ false → any_of (rest_of xs at n) ≡ any_of (rest_of xs (at + 1) (n + numbers false x))
    any_false value gave truth =
        ap any_of (truths_next xs at n x within is)
        ∙ ap (λ o. any_of (o ∷ rest_of xs (at + 1) (n + numbers false x))) gave
        ∙ ap (λ b. if b then Ok (values.Bool true) else any_of (rest_of xs (at + 1) (n + numbers false x))) truth

  -- ---- chains

  -- the operations from a place of a chain on, on what was computed before them
  abbrev pub operated_from : Kind → Outcome → List ChainPart → ℕ → ℕ → Outcome
  operated_from kind so_far parts at n = from_left so_far (operations kind (map (part_of names) (drop at parts)) n)

  pub part_next : (kind : Kind) (so_far : Outcome) (parts : List ChainPart) (at n : ℕ) (part : ChainPart) → at < length parts → part ≡ get_or parts at part
      → operated_from kind so_far parts at n ≡ operated_from kind (operate so_far (part.op, given names kind n part.operand)) parts (at + 1) (n + numbers false part.operand)
  part_next kind so_far parts at n part within is =
      ap (λ zs. from_left so_far (operations kind (map (part_of names) zs) n)) (drop_more parts at part within)
      ∙ ap (λ (z : ChainPart). operated_from kind (operate so_far (z.op, given names kind n z.operand)) parts (at + 1) (n + count (valued names z.operand))) (sym is)
      ∙ ap (λ m. operated_from kind (operate so_far (part.op, given names kind n part.operand)) parts (at + 1) (n + m)) (taken names part.operand)

  -- ---- arguments

  abbrev pub arguments_from : List Param → List Expr → ℕ → ℕ → List Outcome
  arguments_from params xs at n = at_kinds (kinds_of (drop at params)) (map (valued names) (drop at xs)) n

  pub argument_next : (params : List Param) (xs : List Expr) (at n : ℕ) (p : Param) (x : Expr)
      → at < length params → p ≡ get_or params at p → at < length xs → x ≡ get_or xs at x
      → arguments_from params xs at n ≡ given names p.kind n x ∷ arguments_from params xs (at + 1) (n + numbers false x)
  argument_next params xs at n p x known isp within is =
      (λ i. at_kinds (kinds_of (drop_more params at p known i)) (map (valued names) (drop_more xs at x within i)) n)
      ∙ (λ i. given names (sym isp i).kind n (sym is i) ∷ arguments_from params xs (at + 1) (n + count (valued names (sym is i))))
      ∙ ap (λ m. given names p.kind n x ∷ arguments_from params xs (at + 1) (n + m)) (taken names x)

  no_arguments : (params : List Param) (xs : List Expr) (n : ℕ) → (params ≡ []) ⊎ (xs ≡ []) → at_kinds (kinds_of params) (map (valued names) xs) n ≡ []
  no_arguments params xs n (inl none) = ap (λ ps. at_kinds (kinds_of ps) (map (valued names) xs) n) none
  no_arguments [] xs n (inr none) = refl
  no_arguments (p ∷ ps) xs n (inr none) = ap (λ ys. at_kinds (kinds_of (p ∷ ps)) (map (valued names) ys) n) none

  -- where one of the two has ended
  pub arguments_end : (params : List Param) (xs : List Expr) (at n : ℕ) → min (length params) (length xs) ≤ at → arguments_from params xs at n ≡ []
  arguments_end params xs at n all =
      no_arguments (drop at params) (drop at xs) n
      (elim (cases_lt (length params) (length xs)) [
        | inl lt ↦ inl (drop_all at params (omega (arith, all, min-eq_left {n = length params} {m = length xs} (omega (arith, lt)))))
        | inr le ↦ inr (drop_all at xs (omega (arith, all, min-eq_right {n = length xs} {m = length params} le)))
      ])

-- values in order, and one more
pub pushed : (r : Result (List Value) Thrown) (items : List Value) (value : Value)
    → and_then (and_then r (λ rest. Ok (value ∷ rest))) (λ rest. Ok (items ++ rest)) ≡ and_then r (λ rest. Ok ((items ++ value ∷ []) ++ rest))
pushed (Ok rest) items value = ap Ok (sym (append_assoc items (value ∷ []) rest))
pushed (Err e) items value = refl
