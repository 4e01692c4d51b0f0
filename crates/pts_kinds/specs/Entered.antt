-- Scopes with names that were entered, and the heads of loops.
use Rattle.std.specs.Prelude.{◌≡◌, Bool, ◌&&◌, Option, Some, None, List, [], ◌∷◌, ◌++◌}
use Rattle.std.specs.List.{list_all}
use Rattle.pts_types.specs.declared.value.Kind.{Kind}
use Rattle.pts_types.specs.declared.value.Kind.TheVariants as kinds
use Rattle.pts_tree.specs.Spelling.{if_there}
use Rattle.pts_tree.specs.declared.loops.Loop as loops
use Rattle.pts_tree.specs.declared.loops.Clause.{Clause}
use Rattle.pts_tree.specs.declared.loops.Clause.TheVariants as clauses
use Rattle.pts_rules.specs.declared.meaning.Meaning.TheVariants.{Value, View}
use Rattle.pts_rules.specs.Known.{Entry, Scope, kind_of_array, holds, sum_is}
use Rattle.pts_rules.specs.Mistyped.{clause_right}

-- the new scope is the old one with entries in front
pub record IsAbove (new old : Scope) : Type 0 where
  pub fresh : List Entry
  pub is : new ≡ fresh ++ old

-- the kind of what a clause declares
abbrev pub local_kind : Scope → Clause → Option Kind
local_kind scope (clauses.Reduce x) = kind_of_array scope x.cell.array
local_kind scope (clauses.Induct x) = Some x.kind

-- what a clause declares where it is of this kind
abbrev pub local_entries : Clause → Option Kind → List Entry
local_entries c None = []
local_entries (clauses.Reduce x) (Some kind) = (x.view, View kind) ∷ []
local_entries (clauses.Induct x) (Some kind) = (x.name, Value kind) ∷ []

-- the scope behind clauses whose declarations are of these kinds
abbrev pub entered : List Clause → List (Option Kind) → Scope → Scope
entered (c ∷ cs) (kind ∷ kinds) scope = entered cs kinds (local_entries c kind ++ scope)
entered _ _ scope = scope

-- bounds and a step in `i64`, and clauses that are right
abbrev pub head_right : Scope → loops.Loop → Bool
head_right scope x =
    sum_is scope (holds kinds.I64) x.low && sum_is scope (holds kinds.I64) x.high && if_there (sum_is scope (holds kinds.I64)) x.step
    && list_all (clause_right scope) x.clauses
