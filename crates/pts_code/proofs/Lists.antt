-- Codes of lists, one element on.
use Rattle.std.proofs.Common.{◌≡◌, ◌⊎◌, inl, inr, ℕ, zero, suc, ◌+◌, ◌<◌, ◌≤◌, true, min, List, [], ◌∷◌, ◌++◌, length, get_or, take, map, refl, sym, ap, ◌∙◌, subst, arith, length-append}
use Rattle.std.proofs.lemmas.Bool.{cases_lt}
use Rattle.std.proofs.Math.Nat.{min-eq_left, min-eq_right}
use Rattle.std.proofs.lemmas.List.{take_more, take_all, map-append, length-take-le, length-map}
use Rattle.pts_types.specs.declared.value.Kind.{Kind}
use Rattle.pts_types.specs.declared.value.Kind.TheVariants as kinds
use Rattle.pts_tree.specs.declared.expr.Expr.{Expr}
use Rattle.pts_tree.specs.declared.expr.ChainPart.{ChainPart}
use Rattle.pts_rules.specs.Known.{Scope}
use Rattle.pts_code.specs.declared.code.Code.{Code}
use Rattle.pts_code.specs.declared.code.Step.{Step}
use Rattle.pts_code.specs.declared.compiling.Spot.{Spot}
use Rattle.pts_code.specs.Codes.{Sight, gives}
use Rattle.pts_code.specs.Compiling.{IsCode, AreArguments, AreTruths, AreSteps, part_of, step_at}
use Rattle.pts_code.specs.Values.{Environment, Valuation, Part, count, elements_of, noted, numbers, operands, operations, valuation, at_kinds, truths}
use Rattle.pts_code.proofs.Counted.{each_counted, each_part_counted}
use Rattle.pts_code.proofs.Sums.{numbers_before}

-- a list and one element more
abbrev more : {A : Type 0} → List A → A → List A
more xs x = xs ++ x ∷ []

take_one : {A : Type 0} (xs : List A) (n : ℕ) (x : A) → n < length xs → x ≡ get_or xs n x → take (n + 1) xs ≡ more (take n xs) x
take_one xs n x within is = take_more xs n x within ∙ ap (more (take n xs)) (sym is)

elements_more : (vs : List Valuation) (v : Valuation) → length (elements_of (more vs v)) ≡ length (elements_of vs) + count v
elements_more [] v = omega (arith, length-append v.elements [])
elements_more (w ∷ ws) v = omega (arith, elements_more ws v, length-append w.elements (elements_of (more ws v)), length-append w.elements (elements_of ws))

-- ---- truths

truths_more : (vs : List Valuation) (v : Valuation) (n m : ℕ) → m ≡ n + length (elements_of vs) → truths (more vs v) n ≡ more (truths vs n) (v.value kinds.Bool m)
truths_more [] v n m is = ap (λ k. v.value kinds.Bool k ∷ []) (omega (arith, is))
truths_more (w ∷ ws) v n m is = ap (λ rest. w.value kinds.Bool n ∷ rest) (truths_more ws v (n + count w) m (omega (arith, is, length-append w.elements (elements_of ws))))

module _ (scope : Scope) (spots : List Spot) (first : ℕ) where
  abbrev c : Expr → ℕ
  c = numbers true

  abbrev v : Environment → Sight → Expr → Valuation
  v env sight = valuation env (noted sight.notes)

  pub truths_none : (xs : List Expr) → AreTruths scope spots first (take 0 xs) []
  truths_none [] = record { means = λ env sight s holds. refl }
  truths_none (x ∷ xs) = record { means = λ env sight s holds. refl }

  pub truths_one : (xs : List Expr) (codes : List Code) (n : ℕ) (x : Expr) (code : Code) (next : ℕ)
      → AreTruths scope spots first (take n xs) codes → n < length xs → x ≡ get_or xs n x → next ≡ first + numbers_before c xs n → IsCode scope spots kinds.Bool next x code
      → AreTruths scope spots first (take (n + 1) xs) (codes ++ code ∷ [])
  truths_one xs codes n x code next h within is at one = record {
    means = λ env sight s holds.
        map-append (gives sight) codes (code ∷ [])
        ∙ (λ i. h.means env sight s holds i ++ one.means env sight s holds i ∷ [])
        ∙ sym (truths_more (map (v env sight) (take n xs)) (v env sight x) first next (omega (arith, at, each_counted env (noted sight.notes) (take n xs))))
        ∙ ap (λ vs. truths vs first) (sym (map-append (v env sight) (take n xs) (x ∷ [])))
        ∙ ap (λ ys. truths (map (v env sight) ys) first) (sym (take_one xs n x within is));
  }

  pub truths_all : (xs : List Expr) (codes : List Code) (n : ℕ) → AreTruths scope spots first (take n xs) codes → length xs ≤ n → AreTruths scope spots first xs codes
  truths_all xs codes n h all = subst (λ ys. AreTruths scope spots first ys codes) (take_all n xs all) h

  -- ---- chains

  operations_more : (kind : Kind) (ps : List Part) (p : Part) (n m : ℕ) → m ≡ n + length (elements_of (operands ps)) → operations kind (more ps p) n ≡ more (operations kind ps n) (p.0, p.1.value kind m)
  operations_more kind [] p n m is = ap (λ k. (p.0, p.1.value kind k) ∷ []) (omega (arith, is))
  operations_more kind (q ∷ qs) p n m is = ap (λ rest. (q.0, q.1.value kind n) ∷ rest) (operations_more kind qs p (n + count q.1) m (omega (arith, is, length-append q.1.elements (elements_of (operands qs)))))

  pub steps_one : (kind : Kind) (parts : List ChainPart) (steps : List Step) (n : ℕ) (part : ChainPart) (code : Code) (next : ℕ)
      → AreSteps scope spots kind first (take n parts) steps → n < length parts → part ≡ get_or parts n part → next ≡ first + numbers_before (λ y. numbers true y.operand) parts n
      → IsCode scope spots kind next part.operand code
      → AreSteps scope spots kind first (take (n + 1) parts) (steps ++ (record { op = part.op; operand = code }) ∷ [])
  steps_one kind parts steps n part code next h within is at one = record {
    means = λ env sight s holds.
        map-append (step_at sight) steps ((record { op = part.op; operand = code }) ∷ [])
        ∙ (λ i. h.means env sight s holds i ++ (part.op, one.means env sight s holds i) ∷ [])
        ∙ sym (operations_more kind (map (part_of env sight) (take n parts)) (part_of env sight part) first next (omega (arith, at, each_part_counted env (noted sight.notes) (take n parts))))
        ∙ ap (λ ps. operations kind ps first) (sym (map-append (part_of env sight) (take n parts) (part ∷ [])))
        ∙ ap (λ ys. operations kind (map (part_of env sight) ys) first) (sym (take_one parts n part within is));
  }

  pub steps_all : (kind : Kind) (parts : List ChainPart) (steps : List Step) (n : ℕ) → AreSteps scope spots kind first (take n parts) steps → length parts ≤ n → AreSteps scope spots kind first parts steps
  steps_all kind parts steps n h all = subst (λ ys. AreSteps scope spots kind first ys steps) (take_all n parts all) h

  -- ---- arguments

  at_kinds_one : (ks : List Kind) (vs : List Valuation) (k : Kind) (x : Valuation) (n m : ℕ) → length ks ≡ length vs → m ≡ n + length (elements_of vs)
      → at_kinds (more ks k) (more vs x) n ≡ more (at_kinds ks vs n) (x.value k m)
  at_kinds_one [] [] k x n m e is = ap (λ j. x.value k j ∷ []) (omega (arith, is))
  at_kinds_one [] (w ∷ ws) k x n m e is = absurd (omega (arith, e))
  at_kinds_one (j ∷ js) [] k x n m e is = absurd (omega (arith, e))
  at_kinds_one (j ∷ js) (w ∷ ws) k x n m e is =
      ap (λ rest. w.value j n ∷ rest) (at_kinds_one js ws k x (n + count w) m (omega (arith, e)) (omega (arith, is, length-append w.elements (elements_of ws))))

  pub arguments_one : (ks : List Kind) (xs : List Expr) (codes : List Code) (n : ℕ) (d : Kind) (x : Expr) (code : Code) (next : ℕ)
      → AreArguments scope spots (take n ks) first (take n xs) codes → n < length ks → n < length xs → x ≡ get_or xs n x → next ≡ first + numbers_before c xs n
      → IsCode scope spots (get_or ks n d) next x code
      → AreArguments scope spots (take (n + 1) ks) first (take (n + 1) xs) (codes ++ code ∷ [])
  arguments_one ks xs codes n d x code next h known within is at one = record {
    means = λ env sight s holds.
        let k = get_or ks n d in
        let vs = map (v env sight) (take n xs) in
        let lengths : length (take n ks) ≡ length vs = omega (arith, known, within, length-take-le n ks (omega (arith, known)), length-take-le n xs (omega (arith, within)), length-map (take n xs) (v env sight)) in
        map-append (gives sight) codes (code ∷ [])
        ∙ (λ i. h.means env sight s holds i ++ one.means env sight s holds i ∷ [])
        ∙ sym (at_kinds_one (take n ks) vs k (v env sight x) first next lengths (omega (arith, at, each_counted env (noted sight.notes) (take n xs))))
        ∙ ap (λ ws. at_kinds (more (take n ks) k) ws first) (sym (map-append (v env sight) (take n xs) (x ∷ [])))
        ∙ (λ i. at_kinds (sym (take_more ks n d known) i) (map (v env sight) (sym (take_one xs n x within is) i)) first);
  }

  -- as many as there are on both sides
  fewest : (a b n : ℕ) → min a b ≤ n → (a ≤ n) ⊎ (b ≤ n)
  fewest a b n h = elim (cases_lt a b) [ inl lt ↦ inl (omega (arith, h, min-eq_left {n = a} {m = b} (omega (arith, lt)))) | inr le ↦ inr (omega (arith, h, min-eq_right {n = b} {m = a} le)) ]

  enough : (f : Expr → Valuation) (ks : List Kind) (xs : List Expr) (n m : ℕ) → (length ks ≤ n) ⊎ (length xs ≤ n) → at_kinds (take n ks) (map f (take n xs)) m ≡ at_kinds ks (map f xs) m
  enough f [] xs zero m all = refl
  enough f [] xs (suc n) m all = refl
  enough f (k ∷ ks) [] zero m all = refl
  enough f (k ∷ ks) [] (suc n) m all = refl
  enough f (k ∷ ks) (x ∷ xs) zero m (inl all) = absurd (omega (arith, all))
  enough f (k ∷ ks) (x ∷ xs) zero m (inr all) = absurd (omega (arith, all))
  enough f (k ∷ ks) (x ∷ xs) (suc n) m (inl all) = ap (λ rest. (f x).value k m ∷ rest) (enough f ks xs n (m + count (f x)) (inl (omega (arith, all))))
  enough f (k ∷ ks) (x ∷ xs) (suc n) m (inr all) = ap (λ rest. (f x).value k m ∷ rest) (enough f ks xs n (m + count (f x)) (inr (omega (arith, all))))

  pub arguments_all : (ks : List Kind) (xs : List Expr) (codes : List Code) (n : ℕ)
      → AreArguments scope spots (take n ks) first (take n xs) codes → min (length ks) (length xs) ≤ n → AreArguments scope spots ks first xs codes
  arguments_all ks xs codes n h all =
      record { means = λ env sight s holds. h.means env sight s holds ∙ enough (v env sight) ks xs n first (fewest (length ks) (length xs) n all) }
