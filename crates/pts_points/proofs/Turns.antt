-- Pieces that are added one after the other, one at each turn of a loop.
use Rattle.std.proofs.Common.{◌≡◌, ℕ, ◌+◌, ◌<◌, ◌≤◌, List, [], ◌∷◌, ◌++◌, map, length, get_or, take, sym, ap, subst, ◌∙◌, append_assoc, arith}
use Rattle.std.proofs.lemmas.List.{take_all, take_more}
use Rattle.pts_points.specs.declared.builder.Builder.{Builder}
use Rattle.pts_points.specs.Pieces.{Piece, seeing, taken, nothing, behind, sequence}
use Rattle.pts_points.specs.Building.{Adds}
use Rattle.pts_points.proofs.Standing.{Good, good_nothing, good_behind}
use Rattle.pts_points.proofs.Builds.{append_nothing, map_both, taken_nothing, taken_both, adds_behind}

-- ---- pieces behind each other

plus_zero : (n : ℕ) → n + 0 ≡ n
plus_zero n = omega arith

zero_plus : (n : ℕ) → 0 + n ≡ n
zero_plus n = omega arith

plus_both : (a b c : ℕ) → a + (b + c) ≡ a + b + c
plus_both a b c = omega arith

behind_nothing : (x : Piece) → behind x nothing ≡ x
behind_nothing x =
    λ i. record {
      size = plus_zero x.size i;
      offs = plus_zero x.offs i;
      lets = x.lets;
      points = λ context n m. append_nothing (x.points context n m) i;
    }

nothing_behind : (x : Piece) → behind nothing x ≡ x
nothing_behind x =
    λ i. record {
      size = zero_plus x.size i;
      offs = zero_plus x.offs i;
      lets = λ context n. x.lets context (plus_zero n i);
      points = λ context n m. x.points context (plus_zero n i) (taken_nothing context.off m i);
    }

behind_behind : (x y z : Piece) → behind x (behind y z) ≡ behind (behind x y) z
behind_behind x y z =
    λ i. record {
      size = plus_both x.size y.size z.size i;
      offs = plus_both x.offs y.offs z.offs i;
      lets = λ context n.
          let seen = seeing (x.lets context n) context in
          z.lets (seeing (y.lets seen (n + x.size)) context) (sym (plus_both n x.size y.size) i);
      points = λ context n m.
          let seen = seeing (x.lets context n) context in
          let all = seeing (y.lets seen (n + x.size)) context in
          ((λ j. x.points context n m ++ (y.points seen (n + x.size) (taken context.off x.offs m)
          ++ z.points all (sym (plus_both n x.size y.size) j) (taken_both context.off x.offs y.offs m j)))
          ∙ sym (append_assoc (x.points context n m) (y.points seen (n + x.size) (taken context.off x.offs m)) (z.points all (n + (x.size + y.size)) (taken context.off (x.offs + y.offs) m)))) i;
    }

in_turn : (xs : List Piece) (y : Piece) → sequence (xs ++ y ∷ []) ≡ behind (sequence xs) y
in_turn [] y = behind_nothing y ∙ sym (nothing_behind y)
in_turn (x ∷ xs) y = ap (behind x) (in_turn xs y) ∙ behind_behind x (sequence xs) y

-- ---- turns

pub all_good : {A : Type 0} (f : A → Piece) → ((x : A) → Good (f x)) → (xs : List A) → Good (sequence (map f xs))
all_good f good [] = good_nothing
all_good f good (x ∷ xs) = good_behind (f x) (sequence (map f xs)) (good x) (all_good f good xs)

pub adds_turn : {A : Type 0} (f : A → Piece) → ((x : A) → Good (f x)) → (b c d : Builder) (xs : List A) (at : ℕ) (x : A)
    → at < length xs → x ≡ get_or xs at x → Adds b c (sequence (map f (take at xs))) → Adds c d (f x) → Adds b d (sequence (map f (take (at + 1) xs)))
adds_turn f good b c d xs at x within is h k =
    let more : take (at + 1) xs ≡ take at xs ++ x ∷ [] = take_more xs at x within ∙ ap (λ y. take at xs ++ y ∷ []) (sym is) in
    subst (Adds b d) (sym (ap (λ ys. sequence (map f ys)) more ∙ ap sequence (map_both f (take at xs) (x ∷ [])) ∙ in_turn (map f (take at xs)) (f x)))
    (adds_behind b c d (sequence (map f (take at xs))) (f x) (all_good f good (take at xs)) h k)

pub adds_all : {A : Type 0} (f : A → Piece) (b c : Builder) (xs : List A) (at : ℕ) → length xs ≤ at → Adds b c (sequence (map f (take at xs))) → Adds b c (sequence (map f xs))
adds_all f b c xs at past h = subst (λ ys. Adds b c (sequence (map f ys))) (take_all at xs past) h

-- a piece leaves how the index runs as it is
pub same_space : (b c : Builder) (x : Piece) → Adds b c x → c.space ≡ b.space
same_space b c x h = ap (λ z. z.space) (h.added [] [])
