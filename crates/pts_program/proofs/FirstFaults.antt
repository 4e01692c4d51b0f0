-- No script has two faults, and one that has a fault breaks a rule.
use Rattle.std.proofs.Common.{◌≡◌, ℕ, ◌<◌, ◌≤◌, ◌⊎◌, inl, inr, Option, Some, None, List, IsSomeAnd, sym, ap, ◌∙◌, subst, arith}
use Rattle.std.specs.Prelude.{IfSome, MatchOption}
use Rattle.std.proofs.lemmas.Bool.{cases_lt}
use Rattle.pts_tree.specs.declared.script.Item.{Item}
use Rattle.pts_tree.specs.declared.script.Script.{Script}
use Rattle.pts_program.specs.declared.fault.BuildFault.{BuildFault}
use Rattle.pts_program.specs.declared.fault.BuildFault.TheVariants.{OutOfRange}
use Rattle.pts_program.specs.Faults.{rules, first_fault, IsOutOfRange, IsFaultOf, IsClean, IsFaultAt, IsSound, item_at, items_before}
use Rattle.pts_program.proofs.Findings.{no_fault}

-- an item has one fault
one_of : (before : List Item) (x : Item) (n : ℕ) (first : Option BuildFault) (f g : BuildFault)
    → MatchOption first (IsOutOfRange before x n f) (λ h. f ≡ h) → MatchOption first (IsOutOfRange before x n g) (λ h. g ≡ h) → f ≡ g
one_of before x n (Some h) f g a b = a ∙ sym b
one_of before x n None f g a b =
    let low = a.1.first b.0 b.1.out in
    let high = b.1.first a.0 a.1.out in
    let same : a.0 ≡ b.0 = omega (arith, low, high) in
    a.2 ∙ ap (OutOfRange n) same ∙ sym b.2

one_here : (script : Script) (n : ℕ) (o : Option Item) (f g : BuildFault)
    → IsSomeAnd o (λ x. IsFaultOf script.version (items_before script n) x n f) → IsSomeAnd o (λ x. IsFaultOf script.version (items_before script n) x n g) → f ≡ g
one_here script n None f g a b = absurd a
one_here script n (Some x) f g a b = one_of (items_before script n) x n (first_fault n (rules script.version (items_before script n) x)) f g a b

-- and breaks a rule then
not_clean : (version : ℕ) (before : List Item) (x : Item) (n : ℕ) (f : BuildFault) → IsClean version before x → ¬ IsFaultOf version before x n f
not_clean version before x n f clean fault =
    let out = subst (λ o. MatchOption o (IsOutOfRange before x n f) (λ h. f ≡ h)) (no_fault n (rules version before x) clean.none) fault in
    clean.stays out.0 out.1.out

not_clean_here : (script : Script) (n : ℕ) (o : Option Item) (f : BuildFault)
    → IfSome o (λ x. IsClean script.version (items_before script n) x) → ¬ IsSomeAnd o (λ x. IsFaultOf script.version (items_before script n) x n f)
not_clean_here script n None f clean fault = fault
not_clean_here script n (Some x) f clean fault = not_clean script.version (items_before script n) x n f clean fault

in_order : (script : Script) (n m : ℕ) (f g : BuildFault) → IsFaultAt script n f → IsFaultAt script m g → (n < m) ⊎ (m ≤ n) → (m < n) ⊎ (n ≤ m) → (n ≡ m) × (f ≡ g)
in_order script n m f g a b (inl less) k = absurd (not_clean_here script n (item_at script n) f (b.earlier n less) a.here)
in_order script n m f g a b (inr more) (inl less) = absurd (not_clean_here script m (item_at script m) g (a.earlier m less) b.here)
in_order script n m f g a b (inr more) (inr less) =
    let same : n ≡ m = omega (arith, more, less) in (
      same,
      one_here script m (item_at script m) f g
          (subst (λ k. IsSomeAnd (item_at script k) (λ x. IsFaultOf script.version (items_before script k) x k f)) same a.here) b.here,
    )

-- a script has one fault
pub fault-unique : (script : Script) (n m : ℕ) (f g : BuildFault) → IsFaultAt script n f → IsFaultAt script m g → (n ≡ m) × (f ≡ g)
fault-unique script n m f g a b = in_order script n m f g a b (cases_lt n m) (cases_lt m n)

-- and then some item breaks a rule
pub fault-or_sound : (script : Script) (n : ℕ) (f : BuildFault) → IsFaultAt script n f → ¬ IsSound script
fault-or_sound script n f a sound = not_clean_here script n (item_at script n) f (sound n) a.here
