-- How many functions items declare.
use Rattle.std.proofs.Common.{◌≡◌, ℕ, ◌+◌, ◌≤◌, Bool, true, false, List, [], ◌∷◌, length, arith}
use Rattle.std.specs.Prelude.{cond, count_by, fold}
use Rattle.pts_tree.specs.declared.script.Item.{Item}
use Rattle.pts_tree.specs.declared.script.Item.TheVariants as items
use Rattle.pts_rules.specs.declared.meaning.Meaning.TheVariants.{Constant, Array, Function}
use Rattle.pts_rules.specs.Known.{Entry, Scope, is_function, number}
use Rattle.pts_rules.specs.Scopes.{after, known, signature}
use Rattle.pts_code.proofs.Scopes.{count_cons}

abbrev functions : Scope → ℕ
functions scope = count_by (λ entry. is_function entry.1) scope

one_entry : (entry : Entry) (scope : Scope) → functions (entry ∷ scope) ≤ functions scope + 1
one_entry entry scope = by_kind (is_function entry.1) (functions (entry ∷ scope)) (count_cons (λ (e : Entry). is_function e.1) entry scope)
  where
    by_kind : (own : Bool) (n : ℕ) → n ≡ functions scope + cond own 1 0 → n ≤ functions scope + 1
    by_kind true n e = omega (arith, e)
    by_kind false n e = omega (arith, e)

-- an item declares one function at most
one_item : (scope : Scope) (x : Item) → functions (after scope x) ≤ functions scope + 1
one_item scope (items.Const x) = one_entry (x.name, Constant (number scope x.value)) scope
one_item scope (items.Array x) = one_entry (x.name, Array x.kind (number scope x.length)) scope
one_item scope (items.Function x) = one_entry (x.name, Function (signature scope x)) scope
one_item scope (items.Call x) = omega arith
one_item scope (items.Loop x) = omega arith
one_item scope (items.Block x) = omega arith
one_item scope (items.Print x) = omega arith

few_from : (scope : Scope) (xs : List Item) → functions (fold after scope xs) ≤ functions scope + length xs
few_from scope [] = omega arith
few_from scope (x ∷ xs) =
    let first = one_item scope x in
    let rest = few_from (after scope x) xs in
    omega (arith, first, rest)

-- there are no more functions than items
pub few_functions : (xs : List Item) → functions (known xs) ≤ length xs
unfolding known
few_functions xs = let few = few_from [] xs in omega (arith, few)
