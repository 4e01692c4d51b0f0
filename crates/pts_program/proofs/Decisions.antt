-- A script has a fault or breaks no rule.
use Rattle.std.proofs.Common.{◌≡◌, ℕ, zero, suc, ◌+◌, ◌-◌, ◌<◌, ◌≤◌, ◌⊎◌, ◌↔◌, inl, inr, Bool, true, false, IsTrue, IsSomeAnd, Option, Some, None, List, [], ◌∷◌, length, take, slice_get, refl, sym, subst, arith}
use Rattle.std.specs.Prelude.{◌-ℤ◌, flat_map, IfSome, MatchOption}
use Rattle.std.specs.List.{list_any}
use Rattle.std.proofs.lemmas.Bool.{cases_lt, or_cases, false≢true}
use Rattle.std.proofs.lemmas.Bool.Decides.{nat_tests}
use Rattle.std.proofs.lemmas.Option.{slice_get_past}
use Rattle.pts_tree.specs.declared.script.Item.{Item}
use Rattle.pts_tree.specs.declared.script.Script.{Script}
use Rattle.pts_rules.specs.Parts.{statements}
use Rattle.pts_rules.specs.Known.{Scope, natural}
use Rattle.pts_rules.specs.Scopes.{known}
use Rattle.pts_rules.specs.Indices.{Reach, Span, Along, leaves, reaches, is_out_at}
use Rattle.pts_program.specs.declared.fault.BuildFault.{BuildFault}
use Rattle.pts_program.specs.declared.fault.BuildFault.TheVariants.{OutOfRange}
use Rattle.pts_program.specs.Faults.{rules, first_fault, IsOutOfRange, IsFaultOf, IsClean, IsCleanAt, IsFaultAt, IsSound, item_at, items_before}
use Rattle.pts_program.proofs.Findings.{none_holds}

-- ---- least numbers

-- it holds or it does not
abbrev pub Decided : Type 0 → Type 0
Decided P = P ⊎ (¬ P)

-- the least number of which P holds
abbrev pub Least : (ℕ → Type 0) → Type 0
Least P = (n : ℕ) × P n × ((k : ℕ) → k < n → ¬ P k)

next-below : (P : ℕ → Type 0) (m k : ℕ) → ((j : ℕ) → j < m → ¬ P j) → ¬ P m → k < suc m → (k < m) ⊎ (m ≤ k) → ¬ P k
next-below P m k none q less (inl h) = none k h
next-below P m k none q less (inr h) = λ p. q (subst P (omega (arith, less, h)) p)

next-least : (P : ℕ → Type 0) (m : ℕ) → Least P ⊎ ((k : ℕ) → k < m → ¬ P k) → Decided (P m) → Least P ⊎ ((k : ℕ) → k < suc m → ¬ P k)
next-least P m (inl found) d = inl found
next-least P m (inr none) (inl p) = inl (m, p, none)
next-least P m (inr none) (inr q) = inr (λ k less. next-below P m k none q less (cases_lt k m))

-- there is a least number of which P holds, or none below m
pub least-below : (P : ℕ → Type 0) → ((n : ℕ) → Decided (P n)) → (m : ℕ) → Least P ⊎ ((k : ℕ) → k < m → ¬ P k)
least-below P d zero = inr (λ k less. absurd (omega (arith, less)))
least-below P d (suc m) = next-least P m (least-below P d m) (d m)

-- ---- one item

pub decide-test : (b : Bool) → Decided (IsTrue b)
decide-test true = inl refl
decide-test false = inr false≢true

-- cells are left at positions below this number
bound : Reach → ℕ
bound (Span low high length) = natural (length -ℤ low) + 1
bound (Along line length) = line.n

bounds : List Reach → ℕ
bounds [] = 0
bounds (x ∷ xs) = bound x + bounds xs

left-below : (p : ℕ) (x : Reach) → leaves p x ≡ true → p < bound x
unfolding bound
left-below p (Span low high length) h = grind (arith, nat_tests)
left-below p (Along line length) h = grind (arith, nat_tests)

left-below_all : (p : ℕ) (xs : List Reach) → list_any (leaves p) xs ≡ true → p < bounds xs
unfolding bounds
left-below_all p [] h = absurd (false≢true h)
left-below_all p (x ∷ xs) h =
    elim (or_cases (leaves p x) (list_any (leaves p) xs) h) [
      | inl here ↦ omega (arith, left-below p x here)
      | inr later ↦ omega (arith, left-below_all p xs later)
    ]

decide-out : (scope : Scope) (x : Item) → Least (λ p. IsTrue (is_out_at scope x p)) ⊎ ((p : ℕ) → ¬ IsTrue (is_out_at scope x p))
decide-out scope x =
    elim (least-below (λ p. IsTrue (is_out_at scope x p)) (λ p. decide-test (is_out_at scope x p)) (bounds (flat_map (reaches scope) (statements x)))) [
      | inl found ↦ inl found
      | inr none ↦ inr (λ p h. none p (left-below_all p (flat_map (reaches scope) (statements x)) h) h)
    ]

not-before : (P : ℕ → Type 0) (least : Least P) (q : ℕ) → P q → (q < least.0) ⊎ (least.0 ≤ q) → least.0 ≤ q
not-before P least q p (inl less) = absurd (least.2 q less p)
not-before P least q p (inr h) = h

module _ (version : ℕ) (before : List Item) (x : Item) (n : ℕ) where
  abbrev IsOne : Type 0
  IsOne = IsClean version before x ⊎ ((fault : BuildFault) × IsFaultOf version before x n fault)

  out-of_range : first_fault n (rules version before x) ≡ None → Least (λ p. IsTrue (is_out_at (known before) x p)) → (fault : BuildFault) × IsFaultOf version before x n fault
  out-of_range e least = (
    OutOfRange n least.0,
    subst (λ o. MatchOption o (IsOutOfRange before x n (OutOfRange n least.0)) (λ h. OutOfRange n least.0 ≡ h)) (sym e) (
      least.0,
      record { out = least.1; first = λ q out. not-before (λ p. IsTrue (is_out_at (known before) x p)) least q out (cases_lt q least.0) },
      refl,
    ),
  )

  decide-by : (first : Option BuildFault) → first_fault n (rules version before x) ≡ first → IsOne
  decide-by (Some f) e = inr (f, subst (λ o. MatchOption o (IsOutOfRange before x n f) (λ h. f ≡ h)) (sym e) refl)
  decide-by None e =
      elim (decide-out (known before) x) [
        | inl least ↦ inr (out-of_range e least)
        | inr none ↦ inl (record { none = none_holds n (rules version before x) e; stays = none })
      ]

  -- an item breaks no rule, or it has a fault
  decide-item : IsOne
  decide-item = decide-by (first_fault n (rules version before x)) refl

-- ---- all items

-- item n is clean, or has a fault
abbrev IsEither : Script → ℕ → Type 0
IsEither script n = IsCleanAt script n ⊎ ((fault : BuildFault) × IsSomeAnd (item_at script n) (λ x. IsFaultOf script.version (items_before script n) x n fault))

decide-some : (script : Script) (n : ℕ) (o : Option Item)
    → IfSome o (λ x. IsClean script.version (items_before script n) x)
    ⊎ ((fault : BuildFault) × IsSomeAnd o (λ x. IsFaultOf script.version (items_before script n) x n fault))
decide-some script n None = inl tt
decide-some script n (Some x) = decide-item script.version (items_before script n) x n

-- a script with this fault
abbrev pub HasFault : Script → Type 0
HasFault script = (n : ℕ) × (fault : BuildFault) × IsFaultAt script n fault

-- the items below k are clean
abbrev AreCleanBelow : Script → ℕ → Type 0
AreCleanBelow script k = (m : ℕ) → m < k → IsCleanAt script m

clean-next : (script : Script) (k : ℕ) → AreCleanBelow script k → IsCleanAt script k → (m : ℕ) → m < suc k → (m < k) ⊎ (k ≤ m) → IsCleanAt script m
clean-next script k clean here m less (inl below) = clean m below
clean-next script k clean here m less (inr above) = let same : k ≡ m = omega (arith, less, above) in subst (IsCleanAt script) same here

next-item : (script : Script) (k : ℕ) → HasFault script ⊎ AreCleanBelow script k → IsEither script k → HasFault script ⊎ AreCleanBelow script (suc k)
next-item script k (inl fault) either = inl fault
next-item script k (inr clean) (inl here) = inr (λ m less. clean-next script k clean here m less (cases_lt m k))
next-item script k (inr clean) (inr fault) = inl (k, fault.0, record { earlier = clean; here = fault.1 })

items-below : (script : Script) (k : ℕ) → HasFault script ⊎ AreCleanBelow script k
items-below script zero = inr (λ m less. absurd (omega (arith, less)))
items-below script (suc k) = next-item script k (items-below script k) (decide-some script k (item_at script k))

-- there are no items behind the last one
pub past-end : (script : Script) (n : ℕ) → length script.items < n → IsCleanAt script n
past-end script zero less = absurd (omega (arith, less))
past-end script (suc n) less =
    subst (λ o. IfSome o (λ x. IsClean script.version (items_before script (suc n)) x)) (sym (slice_get_past script.items n (omega (arith, less)))) tt

-- a script has a fault or breaks no rule
pub decided-script : (script : Script) → HasFault script ⊎ IsSound script
decided-script script =
    elim (items-below script (length script.items + 1)) [
      | inl fault ↦ inl fault
      | inr clean ↦ inr (λ n. elim (cases_lt (length script.items) n) [ inl past ↦ past-end script n past | inr within ↦ clean n (omega (arith, within)) ])
    ]

-- ---- items by their places in the list

-- the item at place k, from 0, is item k + 1, and the first k stand before it
pub clean-at : (script : Script) (k : ℕ) (x : Item) → slice_get script.items k ≡ Some x → IsCleanAt script (k + 1) ↔ IsClean script.version (take k script.items) x
clean-at script k x e =
    let same : k + 1 ≡ suc k = omega arith in
    let before : suc k - 1 ≡ k = omega arith in (
      λ h. subst (λ m. IsClean script.version (take m script.items) x) before
          (subst (λ o. IfSome o (λ y. IsClean script.version (take (suc k - 1) script.items) y)) e (subst (λ n. IsCleanAt script n) same h)),
      λ h. subst (λ n. IsCleanAt script n) (sym same)
          (subst (λ o. IfSome o (λ y. IsClean script.version (take (suc k - 1) script.items) y)) (sym e) (subst (λ m. IsClean script.version (take m script.items) x) (sym before) h)),
    )

-- and a fault of it is one of item k + 1
pub fault-at : (script : Script) (k : ℕ) (x : Item) (fault : BuildFault) → slice_get script.items k ≡ Some x → IsFaultOf script.version (take k script.items) x (k + 1) fault
    → IsSomeAnd (item_at script (k + 1)) (λ y. IsFaultOf script.version (items_before script (k + 1)) y (k + 1) fault)
fault-at script k x fault e h =
    let same : k + 1 ≡ suc k = omega arith in
    let before : suc k - 1 ≡ k = omega arith in
    subst (λ n. IsSomeAnd (item_at script n) (λ y. IsFaultOf script.version (items_before script n) y n fault)) (sym same)
    (subst (λ o. IsSomeAnd o (λ y. IsFaultOf script.version (take (suc k - 1) script.items) y (suc k) fault)) (sym e)
    (subst (λ m. IsFaultOf script.version (take m script.items) x (suc k) fault) (sym before) (subst (λ n. IsFaultOf script.version (take k script.items) x n fault) same h)))
