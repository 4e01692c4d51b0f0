-- What the code that makes the steps of a loop holds, for the contracts of its parts alone.
use Rattle.std.specs.Prelude.{◌≡◌, ℕ, ◌+◌, ◌-◌, List, [], ◌∷◌, ◌++◌, length, map, fold, take, drop, replicate}
use Rattle.pts_tree.specs.declared.loops.Loop as loops
use Rattle.pts_rules.specs.declared.meaning.Meaning.TheVariants.{Value}
use Rattle.pts_rules.specs.Known.{Entry, Scope}
use Rattle.pts_tree.specs.declared.loops.Clause.{Clause}
use Rattle.pts_rules.specs.Mistyped.{body_scope, clause_entries}
use Rattle.pts_code.specs.declared.compiling.Spot.{Spot}
use Rattle.pts_code.specs.declared.compiling.Spot.TheVariants as places
use Rattle.pts_points.specs.Pieces.{LetPoint, Context, Point, Piece}
use Rattle.pts_steps.specs.declared.builder.Builder.{Builder}
use Rattle.pts_steps.specs.declared.builder.Mark.{Mark}
use Rattle.pts_steps.specs.declared.step.Step.{Step}
use Rattle.pts_steps.specs.declared.step.Step.TheVariants as steps
use Rattle.pts_steps.specs.Positions.{Head, clause_heads, heads}
use Rattle.pts_steps.specs.Scopes.{HasNoLocals}
use Rattle.pts_steps.specs.Steps.{AreSteps}

-- ---- names

abbrev pub let_entry : LetPoint → Entry
let_entry x = (x.name, Value x.kind)

abbrev pub with_head : Scope → Head → Scope
with_head names h = (h.0, Value h.1) ∷ names

-- the names at a place, as the rules of kinds and as code see them
abbrev pub kinds_at : Scope → loops.Loop → List LetPoint → Scope
kinds_at names x lets = map let_entry lets ++ body_scope names x

abbrev pub names_at : Scope → loops.Loop → List LetPoint → Scope
names_at names x lets = map let_entry lets ++ fold with_head names (heads x)

-- the spots of the names of a loop's head, and of `let`s
abbrev pub head_spots : ℕ → List Head → List Spot
head_spots n [] = []
head_spots n (h ∷ hs) = places.Local n ∷ head_spots (n + 1) hs

abbrev pub let_spots : List LetPoint → List Spot
let_spots [] = []
let_spots (x ∷ lets) = let_spots lets ++ places.Note x.point ∷ []

abbrev pub spots_at : loops.Loop → List LetPoint → List Spot
spots_at x lets = head_spots 0 (heads x) ++ let_spots lets

-- the names of a head more, which stand in the frame behind those before them
abbrev pub heads_entered : Builder → List Head → Builder
heads_entered b hs = record b { names = fold with_head b.names hs; spots = b.spots ++ head_spots (length b.spots) hs }

-- what a clause declares
abbrev pub with_clause : Builder → Clause → Builder
with_clause b c = record (heads_entered b (clause_heads c)) { kinds = clause_entries b.globals c ++ b.kinds }

-- the builder stands between loops
pub record IsAtGlobals (b : Builder) : Type 0 where
  pub free : HasNoLocals b.globals
  pub kinds : b.kinds ≡ b.globals
  pub names : b.names ≡ b.globals
  pub spots : b.spots ≡ []

-- the builder stands where these `let`s are in scope
pub record Stands (x : loops.Loop) (b : Builder) (lets : List LetPoint) : Type 0 where
  pub free : HasNoLocals b.globals
  pub kinds : b.kinds ≡ kinds_at b.globals x lets
  pub names : b.names ≡ names_at b.globals x lets
  pub spots : b.spots ≡ spots_at x lets

-- ---- steps

-- the same behind so many Reads
abbrev pub with_reads : Builder → ℕ → Builder
with_reads b n = record b { steps = b.steps ++ replicate n steps.Read }

abbrev pub with_step : Builder → Step → Builder
with_step b step = record b { steps = b.steps ++ step ∷ [] }

-- names and spots that stand above others
pub record IsAbove (old new : Builder) : Type 0 where
  pub kinds_more : Scope
  pub names_more : Scope
  pub spots_more : List Spot
  pub kinds : new.kinds ≡ kinds_more ++ old.kinds
  pub names : new.names ≡ names_more ++ old.names
  pub spots : new.spots ≡ old.spots ++ spots_more

-- the steps of a piece more, behind which what it declares is in scope
pub record Goes (x : loops.Loop) (old new : Builder) (piece : Piece) : Type 0 where
  pub globals : new.globals ≡ old.globals
  pub count : length new.steps ≡ length old.steps + piece.size
  pub above : IsAbove old new
  pub stands : (context : Context) → context.head ≡ body_scope old.globals x → Stands x old context.lets → Stands x new (piece.lets context (length old.steps))
  pub steps : (context : Context) (m : ℕ) (points : List Point) → context.head ≡ body_scope old.globals x → Stands x old context.lets
      → AreSteps old.globals x points old.steps → AreSteps old.globals x (points ++ piece.points context (length old.steps) m) new.steps

-- the same between braces, behind which nothing more is in scope
pub record GoesInside (x : loops.Loop) (old new : Builder) (piece : Piece) : Type 0 where
  pub globals : new.globals ≡ old.globals
  pub count : length new.steps ≡ length old.steps + piece.size
  pub kinds : new.kinds ≡ old.kinds
  pub names : new.names ≡ old.names
  pub spots : new.spots ≡ old.spots
  pub steps : (context : Context) (m : ℕ) (points : List Point) → context.head ≡ body_scope old.globals x → Stands x old context.lets
      → AreSteps old.globals x points old.steps → AreSteps old.globals x (points ++ piece.points context (length old.steps) m) new.steps

-- both branches behind a test
pub record GoesBoth (x : loops.Loop) (old new : Builder) (first second : Piece) : Type 0 where
  pub between : Builder
  pub first_goes : GoesInside x old between first
  pub second_goes : GoesInside x between new second

-- ---- places that are left

-- how many names and spots there are
abbrev pub mark_of : Builder → Mark
mark_of b = record { kinds = length b.kinds; names = length b.names; spots = length b.spots }

-- the latest names and spots left, until there are so many
abbrev pub left : Mark → Builder → Builder
left mark b =
    record b {
      kinds = drop (length b.kinds - mark.kinds) b.kinds;
      names = drop (length b.names - mark.names) b.names;
      spots = take mark.spots b.spots;
    }
