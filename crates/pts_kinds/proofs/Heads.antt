-- The scope of a loop's body: the names of its head in front of the scope outside.
use Rattle.std.proofs.Common.{◌≡◌, ℕ, ◌+◌, ◌-◌, ◌<◌, ◌≤◌, Option, Some, None, List, [], ◌∷◌, ◌++◌, map, length, get_or, drop, refl, sym, ap, ◌∙◌}
use Rattle.std.specs.Prelude.{fold}
use Rattle.std.proofs.lemmas.List.{drop_more, drop_all}
use native.Mathlib.Omega.{arith}
use Rattle.pts_types.specs.declared.value.Kind.{Kind}
use Rattle.pts_types.specs.declared.value.Kind.TheVariants as kinds
use Rattle.pts_tree.specs.declared.loops.Loop as loops
use Rattle.pts_tree.specs.declared.loops.Clause.{Clause}
use Rattle.pts_tree.specs.declared.loops.Clause.TheVariants as clauses
use Rattle.pts_rules.specs.declared.meaning.Meaning.TheVariants.{Value}
use Rattle.pts_rules.specs.Known.{Scope, kind_of_array}
use Rattle.pts_rules.specs.Mistyped.{clause_entries, body_scope}
use Rattle.pts_kinds.specs.Entered.{IsAbove, local_kind, local_entries, entered}
use Rattle.pts_kinds.proofs.Above.{above_same, above_one, above_more, above_left}

-- ---- entering one after the other

pub entered_one : (cs : List Clause) (ks : List (Option Kind)) (at : ℕ) (c : Clause) (k : Option Kind) (old scope now : Scope) → length ks ≡ length cs
    → entered (drop at cs) (drop at ks) scope ≡ entered cs ks old → at < length cs → c ≡ get_or cs at c → now ≡ local_entries c (get_or ks at k) ++ scope
    → entered (drop (at + 1) cs) (drop (at + 1) ks) now ≡ entered cs ks old
entered_one cs ks at c k old scope now as_many before within is now_is =
    ap (entered (drop (at + 1) cs) (drop (at + 1) ks)) now_is
    ∙ ap (λ ys. entered ys (get_or ks at k ∷ drop (at + 1) ks) scope) (sym (drop_more cs at c within ∙ ap (λ y. y ∷ drop (at + 1) cs) (sym is)))
    ∙ ap (λ ys. entered (drop at cs) ys scope) (sym (drop_more ks at k (omega (arith, within, as_many))))
    ∙ before

pub entered_all : (cs : List Clause) (ks : List (Option Kind)) (at : ℕ) (old scope : Scope)
    → entered (drop at cs) (drop at ks) scope ≡ entered cs ks old → length cs ≤ at → scope ≡ entered cs ks old
entered_all cs ks at old scope before all = ap (λ ys. entered ys (drop at ks) scope) (sym (drop_all at cs all)) ∙ before

pub ruleset entered_turns = (entered_one, entered_all)

-- ---- the scope of a body

same_entries : (scope : Scope) (c : Clause) → local_entries c (local_kind scope c) ≡ clause_entries scope c
same_entries scope (clauses.Reduce x) = by_kind (kind_of_array scope x.cell.array)
  where
    by_kind : (kind : Option Kind) → local_entries (clauses.Reduce x) kind ≡ elim kind [ None ↦ [] | Some kind ↦ local_entries (clauses.Reduce x) (Some kind) ]
    by_kind None = refl
    by_kind (Some kind) = refl
same_entries scope (clauses.Induct x) = refl

entered_kinds : (globals : Scope) (cs : List Clause) (scope : Scope) → entered cs (map (local_kind globals) cs) scope ≡ fold (λ entries c. clause_entries globals c ++ entries) scope cs
entered_kinds globals [] scope = refl
entered_kinds globals (c ∷ cs) scope =
    entered_kinds globals cs (local_entries c (local_kind globals c) ++ scope)
    ∙ ap (λ es. fold (λ entries c. clause_entries globals c ++ entries) (es ++ scope) cs) (same_entries globals c)

pub entered_body : (scope now new : Scope) (x : loops.Loop) (ks : List (Option Kind)) → ks ≡ map (local_kind scope) x.clauses → now ≡ entered x.clauses ks scope
    → new ≡ (x.index, Value kinds.I64) ∷ now → new ≡ body_scope scope x
entered_body scope now new x ks ks_are now_is new_is =
    new_is ∙ ap (λ s. (x.index, Value kinds.I64) ∷ s) (now_is ∙ ap (λ ys. entered x.clauses ys scope) ks_are ∙ entered_kinds scope x.clauses scope)

above_fold : (globals : Scope) (cs : List Clause) (now old : Scope) → IsAbove now old → IsAbove (fold (λ entries c. clause_entries globals c ++ entries) now cs) old
above_fold globals [] now old a = a
above_fold globals (c ∷ cs) now old a =
    above_fold globals cs (clause_entries globals c ++ now) old (above_more (clause_entries globals c ++ now) now old (record { fresh = clause_entries globals c; is = refl }) a)

above_body : (scope : Scope) (x : loops.Loop) → IsAbove (body_scope scope x) scope
above_body scope x =
    above_more (body_scope scope x) (fold (λ entries c. clause_entries scope c ++ entries) scope x.clauses) scope
    (above_one (body_scope scope x) (fold (λ entries c. clause_entries scope c ++ entries) scope x.clauses) (x.index, Value kinds.I64) refl)
    (above_fold scope x.clauses scope scope (above_same scope scope refl))

-- without the names of the head and of the body
pub left_body : (scope now : Scope) (x : loops.Loop) → now ≡ body_scope scope x → drop (length now - length scope) now ≡ scope
left_body scope now x is = ap (λ s. drop (length s - length scope) s) is ∙ above_left (body_scope scope x) scope (above_body scope x)
