-- The rules in their order, and the first fault of a script.
use Rattle.std.specs.Prelude.{◌≡◌, ℕ, zero, suc, ◌-◌, ◌<◌, ◌≤◌, Bool, false, if◌then◌else◌, IsTrue, IfSome, IsSomeAnd, MatchOption, Option, Some, None, List, [], ◌∷◌, take, slice_get, count_by}
use Rattle.std.specs.List.{list_any}
use Rattle.pts_tree.specs.declared.script.Item.{Item}
use Rattle.pts_tree.specs.declared.script.Script.{Script}
use Rattle.pts_program.specs.declared.fault.BuildFault.{BuildFault}
use Rattle.pts_program.specs.declared.fault.BuildFault.TheVariants.{Unknown, Twice, Mistyped, TooDeep, TooMany, BadStep, BackwardRange, LengthsDiffer, BadIdentity, NotAffine, OutOfRange}
use Rattle.pts_rules.specs.Names.{is_unknown, is_twice}
use Rattle.pts_rules.specs.Mistyped.{is_mistyped}
use Rattle.pts_rules.specs.Limits.{cells, is_statement, is_too_deep, is_too_many}
use Rattle.pts_rules.specs.Steps.{is_bad_step, is_backward_range, lengths_differ, is_bad_identity}
use Rattle.pts_rules.specs.Indices.{is_not_affine, is_out_at}
use Rattle.pts_rules.specs.Scopes.{known}

-- ---- one item

-- a rule, by the fault of the item of this number that breaks it
abbrev pub Rule : Type 0
Rule = ℕ → BuildFault

-- the rules that one test decides, in their order, each with its test of an item in the scope that the items before it
-- leave; in a script of another version of the language a rule may be another
abbrev pub rules : ℕ → List Item → Item → List (Rule × Bool)
rules version before x =
    (Unknown, is_unknown (known before) x)
    ∷ (Twice, is_twice (known before) x)
    ∷ (Mistyped, is_mistyped (known before) x)
    ∷ (TooDeep, is_too_deep (known before) x)
    ∷ (TooMany, is_too_many (known before) (count_by is_statement before) (cells (known before)) x)
    ∷ (BadStep, is_bad_step (known before) x)
    ∷ (BackwardRange, is_backward_range (known before) x)
    ∷ (LengthsDiffer, lengths_differ (known before) x)
    ∷ (BadIdentity, is_bad_identity (known before) x)
    ∷ (NotAffine, is_not_affine (known before) x)
    ∷ []

-- the fault of the first rule whose test holds, where the item has this number
abbrev pub first_fault : ℕ → List (Rule × Bool) → Option BuildFault
first_fault n [] = None
first_fault n (test ∷ tests) = if test.1 then Some (test.0 n) else first_fault n tests

-- p is the least position at which an item is out of range
pub record IsFirstOut (before : List Item) (x : Item) (p : ℕ) : Type 0 where
  pub out : IsTrue (is_out_at (known before) x p)
  pub first : (q : ℕ) → IsTrue (is_out_at (known before) x q) → p ≤ q

-- the last rule, OutOfRange, which names the least position
abbrev pub IsOutOfRange : List Item → Item → ℕ → BuildFault → Type 0
IsOutOfRange before x n fault = (p : ℕ) × IsFirstOut before x p × (fault ≡ OutOfRange n p)

-- the fault of item n, which stands behind these: that of the first rule that it breaks
abbrev pub IsFaultOf : ℕ → List Item → Item → ℕ → BuildFault → Type 0
IsFaultOf version before x n fault = MatchOption (first_fault n (rules version before x)) (IsOutOfRange before x n fault) (λ first. fault ≡ first)

-- an item that breaks no rule
pub record IsClean (version : ℕ) (before : List Item) (x : Item) : Type 0 where
  pub none : list_any (λ test. test.1) (rules version before x) ≡ false
  pub stays : (p : ℕ) → ¬ IsTrue (is_out_at (known before) x p)

-- ---- the items of a script

-- item n of a script; they are numbered from 1
abbrev pub item_at : Script → ℕ → Option Item
item_at script zero = None
item_at script (suc n) = slice_get script.items n

-- the items before item n
abbrev pub items_before : Script → ℕ → List Item
items_before script n = take (n - 1) script.items

-- item n breaks no rule, where there is such an item
abbrev pub IsCleanAt : Script → ℕ → Type 0
IsCleanAt script n = IfSome (item_at script n) (λ x. IsClean script.version (items_before script n) x)

-- this is the fault of the script: n is the least item that breaks a rule, and it has this fault
pub record IsFaultAt (script : Script) (n : ℕ) (fault : BuildFault) : Type 0 where
  pub earlier : (m : ℕ) → m < n → IsCleanAt script m
  pub here : IsSomeAnd (item_at script n) (λ x. IsFaultOf script.version (items_before script n) x n fault)

-- no item of the script breaks a rule
abbrev pub IsSound : Script → Type 0
IsSound script = (n : ℕ) → IsCleanAt script n
