-- What the names in a loop's body stand for at one position.
use Rattle.std.specs.Prelude.{ℕ, ◌+◌, List, [], ◌∷◌, ◌++◌, map, flat_map}
use Rattle.pts_types.specs.declared.value.Kind.{Kind}
use Rattle.pts_types.specs.declared.value.Kind.TheVariants as kinds
use Rattle.pts_types.specs.declared.value.Value.{Value}
use Rattle.pts_tree.specs.declared.loops.Loop as loops
use Rattle.pts_tree.specs.declared.loops.Clause.{Clause}
use Rattle.pts_tree.specs.declared.loops.Clause.TheVariants as clauses
use Rattle.pts_rules.specs.Parts.{Name}
use Rattle.pts_code.specs.Codes.{Sight, local}
use Rattle.pts_code.specs.Values.{Bound, Local, Environment, note}
use Rattle.pts_points.specs.Pieces.{LetPoint}

-- a name that has a place of its own in a frame, with the kind of what stands there
abbrev pub Head : Type 0
Head = Name × Kind

abbrev pub clause_heads : Clause → List Head
clause_heads (clauses.Reduce x) = []
clause_heads (clauses.Induct x) = (x.name, x.kind) ∷ []

-- the index of a loop and its inductions, in the order of their places in a frame
abbrev pub heads : loops.Loop → List Head
heads x = (x.index, kinds.I64) ∷ flat_map clause_heads x.clauses

-- these names, which stand for the values of a frame from place n on
abbrev pub with_heads : List Value → ℕ → Environment → List Head → Environment
with_heads values n env [] = env
with_heads values n env (h ∷ hs) = with_heads values (n + 1) ((h.0, Local h.1 (local values n)) ∷ env) hs

-- a `let` stands for what its point noted, a throw among it
abbrev pub noted_let : Sight → LetPoint → Name × Bound
noted_let sight x = (x.name, Local x.kind (note sight.notes x.point))

-- The names at a position: the `let`s in scope by the notes of their points, the index and the inductions by the values of the
-- frame, and the arrays and functions.
abbrev pub at_position : loops.Loop → List LetPoint → Environment → Sight → Environment
at_position x lets globals sight = map (noted_let sight) lets ++ with_heads sight.values 0 globals (heads x)
