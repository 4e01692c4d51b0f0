-- Loops over the operands of a chain, the members of a condition and the arguments of a call.
use Rattle.std.proofs.Common.{◌≡◌, ◌≢◌, ℕ, suc, ◌+◌, ◌<◌, ◌≤◌, Bool, true, false, Option, Some, None, List, [], ◌∷◌, map, length, get_or, drop, refl, sym, ap, ◌∙◌}
use Rattle.std.proofs.lemmas.List.{drop_more, drop_all}
use native.Mathlib.Omega.{arith}
use Rattle.std.specs.Prelude.{◌&&◌}
use Rattle.std.specs.Option.{option_or}
use Rattle.pts_types.specs.declared.value.Kind.{Kind}
use Rattle.pts_types.specs.declared.value.Kind.TheVariants as kinds
use Rattle.pts_rules.specs.Known.{is_number}
use Rattle.pts_rules.specs.Kinds.{Typing, first_kind, each_fits, chain_typing, arguments_fit}
use Rattle.pts_kinds.specs.declared.kinds.Typing as kinds_of
use Rattle.pts_kinds.specs.Shown.{has_kind, typing_of, both}

-- ---- chains

or_assoc : (x y z : Option Kind) → option_or x (option_or y z) ≡ option_or (option_or x y) z
or_assoc None y z = refl
or_assoc (Some k) y z = refl

and_false : (a : Bool) → (a && false) ≡ false
and_false true = refl
and_false false = refl

and_assoc : (a b c : Bool) → (a && (b && c)) ≡ ((a && b) && c)
and_assoc true b c = refl
and_assoc false b c = refl

-- the first two operands as one
pub chain_both : (x y : Typing) (ys : List Typing) → chain_typing (x ∷ y ∷ ys) ≡ chain_typing (both x y ∷ ys)
chain_both x y ys = λ at. record {
  literal = None;
  own = or_assoc x.own y.own (first_kind ys) at;
  fits = λ asked. is_number asked && and_assoc (x.fits asked) (y.fits asked) (each_fits asked ys) at;
}

-- the operands from a place on, with those before it joined
pub record Joined {A : Type 0} (f : A → Typing) (x : Typing) (ys : List A) (at : ℕ) (so_far : Typing) : Type 0 where
  pub joined : chain_typing (so_far ∷ map f (drop at ys)) ≡ chain_typing (x ∷ map f ys)

pub joined_none : {A : Type 0} (f : A → Typing) (x : Typing) (ys : List A) (so_far : Typing) → so_far ≡ x → Joined f x ys 0 so_far
joined_none f x ys so_far is = record { joined = ap (λ z. chain_typing (z ∷ map f ys)) is }

pub joined_one : {A : Type 0} (f : A → Typing) (x : Typing) (ys : List A) (at : ℕ) (so_far now y : Typing) (part : A)
    → Joined f x ys at so_far → at < length ys → part ≡ get_or ys at part → y ≡ f part → now ≡ both so_far y → Joined f x ys (at + 1) now
joined_one f x ys at so_far now y part j within is typed both_is =
    let split : drop at ys ≡ part ∷ drop (at + 1) ys = drop_more ys at part within ∙ ap (λ z. z ∷ drop (at + 1) ys) (sym is) in
    record {
      joined =
          ap (λ z. chain_typing (z ∷ map f (drop (at + 1) ys))) (both_is ∙ ap (both so_far) typed)
          ∙ sym (chain_both so_far (f part) (map f (drop (at + 1) ys)))
          ∙ ap (λ zs. chain_typing (so_far ∷ map f zs)) (sym split)
          ∙ j.joined;
    }

pub joined_all : {A : Type 0} (f : A → Typing) (x : Typing) (ys : List A) (at : ℕ) (so_far result : Typing)
    → Joined f x ys at so_far → length ys ≤ at → result ≡ chain_typing (so_far ∷ []) → result ≡ chain_typing (x ∷ map f ys)
joined_all f x ys at so_far result j all is = is ∙ ap (λ zs. chain_typing (so_far ∷ map f zs)) (sym (drop_all at ys all)) ∙ j.joined

pub ruleset chain_turns = (joined_none, joined_one, joined_all)

-- ---- members of a condition

-- whether the members from a place on are `bool`
abbrev bools : {A : Type 0} → (A → Typing) → ℕ → List A → Bool
bools f at xs = each_fits kinds.Bool (map f (drop at xs))

module _ {A : Type 0} (f : A → Typing) (xs : List A) (at : ℕ) (t : kinds_of.Typing) (x : A) (within : at < length xs) (is : x ≡ get_or xs at x) (typed : typing_of t ≡ f x) where
  -- the member here, and those behind it
  here : bools f at xs ≡ (t.fits.bool && bools f (at + 1) xs)
  unfolding typing_of
  here =
      ap (λ ys. each_fits kinds.Bool (map f ys)) (drop_more xs at x within ∙ ap (λ z. z ∷ drop (at + 1) xs) (sym is))
      ∙ ap (λ s. s.fits kinds.Bool && bools f (at + 1) xs) (sym typed)

  pub bools_on : each_fits kinds.Bool (map f (drop at xs)) ≡ each_fits kinds.Bool (map f xs) → t.fits.bool ≡ true → each_fits kinds.Bool (map f (drop (at + 1) xs)) ≡ each_fits kinds.Bool (map f xs)
  bools_on before right = sym (here ∙ ap (λ b. b && bools f (at + 1) xs) right) ∙ before

  pub bools_stop : each_fits kinds.Bool (map f (drop at xs)) ≡ each_fits kinds.Bool (map f xs) → t.fits.bool ≡ false → false ≡ each_fits kinds.Bool (map f xs)
  bools_stop before wrong = sym (here ∙ ap (λ b. b && bools f (at + 1) xs) wrong) ∙ before

pub bools_end : {A : Type 0} (f : A → Typing) (xs : List A) (at : ℕ) → each_fits kinds.Bool (map f (drop at xs)) ≡ each_fits kinds.Bool (map f xs) → length xs ≤ at → true ≡ each_fits kinds.Bool (map f xs)
bools_end f xs at before all = ap (λ ys. each_fits kinds.Bool (map f ys)) (sym (drop_all at xs all)) ∙ before

pub ruleset bool_turns = (bools_on, bools_stop, bools_end)

-- ---- arguments

-- whether the arguments from a place on agree with the parameters from there on
abbrev agree : {A : Type 0} → (A → Typing) → ℕ → List Kind → List A → Bool
agree f at ps xs = arguments_fit (drop at ps) (map f (drop at xs))

module _ {A : Type 0} (f : A → Typing) (ps : List Kind) (xs : List A) (at : ℕ) (t : kinds_of.Typing) (p : Kind) (x : A)
    (as_many : length ps ≡ length xs) (within : at < length ps) (is : x ≡ get_or xs at x) (typed : typing_of t ≡ f x) where
  -- the argument here, and those behind it
  argument : agree f at ps xs ≡ (has_kind t.fits (get_or ps at p) && agree f (at + 1) ps xs)
  unfolding typing_of
  argument =
      ap (λ qs. arguments_fit qs (map f (drop at xs))) (drop_more ps at p within)
      ∙ ap (λ ys. arguments_fit (get_or ps at p ∷ drop (at + 1) ps) (map f ys)) (drop_more xs at x (omega (arith, within, as_many)) ∙ ap (λ z. z ∷ drop (at + 1) xs) (sym is))
      ∙ ap (λ s. s.fits (get_or ps at p) && agree f (at + 1) ps xs) (sym typed)

  pub arguments_on : arguments_fit (drop at ps) (map f (drop at xs)) ≡ arguments_fit ps (map f xs) → has_kind t.fits (get_or ps at p) ≡ true
      → arguments_fit (drop (at + 1) ps) (map f (drop (at + 1) xs)) ≡ arguments_fit ps (map f xs)
  arguments_on before right = sym (argument ∙ ap (λ b. b && agree f (at + 1) ps xs) right) ∙ before

  pub arguments_stop : arguments_fit (drop at ps) (map f (drop at xs)) ≡ arguments_fit ps (map f xs) → has_kind t.fits (get_or ps at p) ≡ false → false ≡ arguments_fit ps (map f xs)
  arguments_stop before wrong = sym (argument ∙ ap (λ b. b && agree f (at + 1) ps xs) wrong) ∙ before

pub arguments_end : {A : Type 0} (f : A → Typing) (ps : List Kind) (xs : List A) (at : ℕ) → length ps ≡ length xs
    → arguments_fit (drop at ps) (map f (drop at xs)) ≡ arguments_fit ps (map f xs) → length ps ≤ at → true ≡ arguments_fit ps (map f xs)
arguments_end f ps xs at as_many before all =
    ap (λ qs. arguments_fit qs []) (sym (drop_all at ps all)) ∙ ap (λ ys. arguments_fit (drop at ps) (map f ys)) (sym (drop_all at xs (omega (arith, all, as_many)))) ∙ before

-- as many arguments as parameters
pub arguments_differ : {A : Type 0} (f : A → Typing) (ps : List Kind) (xs : List A) → length ps ≢ length xs → false ≡ arguments_fit ps (map f xs)
arguments_differ f [] [] differ = absurd (differ refl)
arguments_differ f [] (x ∷ xs) differ = refl
arguments_differ f (p ∷ ps) [] differ = refl
arguments_differ f (p ∷ ps) (x ∷ xs) differ = sym (ap (λ b. (f x).fits p && b) (sym (arguments_differ f ps xs (λ same. differ (ap suc same)))) ∙ and_false ((f x).fits p))

pub ruleset argument_turns = (arguments_on, arguments_stop, arguments_end, arguments_differ)
