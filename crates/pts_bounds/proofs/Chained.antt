-- Steps of what affine expressions are made by.
use mir.Syntax.{w128}
use Rattle.std.proofs.Common.{to_z, of_z, ◌≡◌, ℕ, ◌+◌, ◌<◌, Bool, true, false, Option, None, List, [], ◌∷◌, ◌++◌, length, get_or, take, map, refl, sym, ap, subst, ◌∙◌, arith}
use Rattle.std.specs.Prelude.{fold, if◌then◌else◌, ◌||◌, ℤ, pos, ◌+ℤ◌, ◌*ℤ◌}
use Rattle.std.specs.Ordering.{int_eq}
use Rattle.std.proofs.lemmas.Int.{ints}
use Rattle.std.proofs.lemmas.List.{map_more}
use Rattle.pts_tree.specs.declared.expr.ChainPart.{ChainPart}
use Rattle.pts_rules.specs.Parts.{Name}
use Rattle.pts_rules.specs.Known.{Scope}
use Rattle.pts_rules.specs.Indices.{Affine, affine_of, kept, next_affine}
use Rattle.pts_rules.proofs.Readings.{link}

-- a number as the code holds it
abbrev pub wide : ℤ → ℤ
wide z = to_z w128 (of_z w128 z)

-- the same numbers
pub kept_at : (a b x y : ℤ) (result : Option Affine) → result ≡ kept a b → a ≡ x → b ≡ y → result ≡ kept x y
kept_at a b x y result e p q = e ∙ (λ i. kept (p i) (q i))

fold_push : {A B : Type 0} (f : B → A → B) (b : B) (xs : List A) (x : A) → fold f b (xs ++ x ∷ []) ≡ f (fold f b xs) x
fold_push f b [] x = refl
fold_push f b (y ∷ ys) x = fold_push f (f b y) ys x

-- one part more of a chain
pub chained : (scope : Scope) (index : Option Name) (first : Option Affine) (parts : List ChainPart) (i : ℕ) (x : ChainPart) (so_far operand next : Option Affine)
    → i < length parts → x ≡ get_or parts i x → so_far ≡ fold next_affine first (map (link scope index) (take i parts))
    → operand ≡ affine_of scope index x.operand → next ≡ next_affine so_far (x.op, operand)
    → next ≡ fold next_affine first (map (link scope index) (take (i + 1) parts))
chained scope index first parts i x so_far operand next h is e1 e2 e3 =
    e3 ∙ (λ j. next_affine (e1 j) (x.op, e2 j)) ∙ ap (λ z. next_affine (fold next_affine first (map (link scope index) (take i parts))) (link scope index z)) is
    ∙ sym (ap (fold next_affine first) (map_more (link scope index) parts i x h) ∙ fold_push next_affine first (map (link scope index) (take i parts)) (link scope index (get_or parts i x)))

zero_plus : (a d x : ℤ) → a ≡ pos 0 → x ≡ a *ℤ d +ℤ x
zero_plus a d x z = subst (λ y. x ≡ y *ℤ d +ℤ x) (sym z) (omega (arith, ints))

plus_zero : (b c x : ℤ) → c ≡ pos 0 → x ≡ x +ℤ b *ℤ c
plus_zero b c x z = subst (λ y. x ≡ x +ℤ b *ℤ y) (sym z) (omega (arith, ints))

or_last : (t : Bool) (x : Option Affine) → x ≡ (if t || true then x else None)
or_last true x = refl
or_last false x = refl

abbrev level : ℤ → ℤ → Option Affine → Option Affine
level a b x = if int_eq a (pos 0) || int_eq b (pos 0) then x else None

-- a product whose first side is level
pub level_left : (m n a b c d : ℤ) (result : Option Affine) → result ≡ kept m n → a ≡ pos 0 → m ≡ b *ℤ c → n ≡ b *ℤ d
    → result ≡ level a c (kept (a *ℤ d +ℤ b *ℤ c) (b *ℤ d))
level_left m n a b c d result e z p q =
    e ∙ (λ i. kept (p i) (q i)) ∙ ap (λ k. kept k (b *ℤ d)) (zero_plus a d (b *ℤ c) z)
    ∙ ap (λ y. level y c (kept (a *ℤ d +ℤ b *ℤ c) (b *ℤ d))) (sym z)

-- the same of the second
pub level_right : (m n a b c d : ℤ) (result : Option Affine) → result ≡ kept m n → c ≡ pos 0 → m ≡ a *ℤ d → n ≡ b *ℤ d
    → result ≡ level a c (kept (a *ℤ d +ℤ b *ℤ c) (b *ℤ d))
level_right m n a b c d result e z p q =
    e ∙ (λ i. kept (p i) (q i)) ∙ ap (λ k. kept k (b *ℤ d)) (plus_zero b c (a *ℤ d) z)
    ∙ or_last (int_eq a (pos 0)) (kept (a *ℤ d +ℤ b *ℤ c) (b *ℤ d))
    ∙ ap (λ y. level a y (kept (a *ℤ d +ℤ b *ℤ c) (b *ℤ d))) (sym z)
