-- What the code that makes the points of an item holds, for the contracts of its parts alone: points in the widths that
-- lists keep. The numbers of a sound item are within these widths, so that nothing of it is cut.
use Rattle.std.specs.Prelude.{◌≡◌, ℕ, ◌+◌, ◌-◌, ◌≤ℤ◌, unwrap_or, Option, Some, None, List, [], ◌∷◌, ◌++◌, length, map, flat_map, ℤ, pos}
use Rattle.pts_types.specs.declared.operation.Policy.{Policy}
use Rattle.pts_types.specs.Arithmetic.{least_i64, greatest_i64}
use Rattle.pts_affine.specs.declared.line.Line.{Line}
use Rattle.pts_tree.specs.declared.expr.Place.{Place}
use Rattle.pts_tree.specs.declared.sum.Range.{Range}
use Rattle.pts_tree.specs.declared.sum.Cell.{Cell}
use Rattle.pts_tree.specs.declared.expr.Expr.{Expr}
use Rattle.pts_tree.specs.declared.block.TaskStmt.{TaskStmt}
use Rattle.pts_tree.specs.declared.block.TaskStmt.TheFolds.{fold-TaskStmt}
use Rattle.pts_rules.specs.Known.{Scope}
use Rattle.pts_rules.specs.Indices.{affine_of, line_of}
use Rattle.pts_rules.specs.Parts.{Name, Simple, Loop, simple_step}
use Rattle.pts_points.specs.declared.point.PointForm.{PointForm}
use Rattle.pts_points.specs.declared.point.PointForm.TheVariants.{Plain}
use Rattle.pts_points.specs.declared.point.Branch.{Branch}
use Rattle.pts_points.specs.declared.point.PointInfo.{PointInfo}
use Rattle.pts_points.specs.declared.point.CallInfo.{CallInfo}
use Rattle.pts_points.specs.declared.space.IterationSpace.{IterationSpace}
use Rattle.pts_points.specs.declared.builder.Test.{Test}
use Rattle.pts_points.specs.declared.builder.Builder.{Builder}
use Rattle.pts_points.specs.Lines.{line_of_range, line_of_cell, space_of, no_line, no_loop}
use Rattle.pts_points.specs.Pieces.{LetPoint, Context, Deed, Reads, Point, Piece, taken, served, under}
use Rattle.pts_points.specs.Points.{array_at, reads_of, index_of, form_of, array_of, line_of_deed, statement_piece, calls_in, points_from, calls_from}
use Rattle.pts_points.specs.Widths.{small, clamp}

-- ---- what is kept

abbrev pub kept_line : Line → Line
kept_line line = record { c = clamp line.c; d = clamp line.d; n = small line.n }

abbrev pub kept_branch : Branch → Branch
kept_branch x = record { test = small x.test; taken = x.taken }

abbrev pub kept_info : ℕ → Point → PointInfo
kept_info item x =
    record {
      item = item;
      number = small x.number;
      call = x.context.call;
      form = form_of x.deed;
      array = small (array_of x.deed);
      line = kept_line (line_of_deed x.deed);
      branches = map kept_branch x.context.branches;
      off = x.context.off;
    }

abbrev pub kept_call : CallInfo → CallInfo
kept_call x = record { item = x.item; policy = x.policy; positions = small x.positions; first_point = small x.first_point; points = small x.points }

-- the cells of an index, or none where it is no line
abbrev pub line_along : IterationSpace → ℤ → ℤ → Line
line_along space factor offset = line_of space.first space.step space.positions (record { factor = factor; offset = offset })

abbrev pub slope : IterationSpace → ℤ → ℤ
slope space factor = (line_along space factor (pos 0)).c

abbrev pub start : IterationSpace → ℤ → ℤ → ℤ
start space factor offset = (line_along space factor offset).d

abbrev pub line_of_index : Scope → IterationSpace → Expr → Line
line_of_index scope space x =
    elim (affine_of scope space.index x) [ None ↦ no_line | Some affine ↦ line_along space affine.factor affine.offset ]

-- ---- pieces

-- a side of a test
abbrev pub branch_of : Test → Branch
branch_of x = record { test = x.number; taken = x.taken }

-- where the next point stands; the names in scope are not held
abbrev pub context_at : Builder → Scope → List LetPoint → Context
context_at b head lets = record { call = b.call; branches = map branch_of b.branches; off = b.off; head = head; lets = lets }

-- the points of a piece behind those before it
abbrev pub with_points : Builder → Context → Piece → Builder
with_points b context x =
    record b { points = b.points ++ map (kept_info b.item) (x.points context (length b.points) b.offs); offs = taken b.off x.offs b.offs }

-- a piece more, whatever the names in scope are
pub record Adds (old new : Builder) (x : Piece) : Type 0 where
  pub added : (head : Scope) (lets : List LetPoint) → new ≡ with_points old (context_at old head lets) x

-- a piece more, under a side of a test
pub record AddsUnder (test : Test) (old new : Builder) (x : Piece) : Type 0 where
  pub added : (head : Scope) (lets : List LetPoint) → new ≡ with_points old (under test.number test.taken (context_at old head lets)) x

-- a Read of an element behind the Reads of its index
abbrev pub element_piece : Scope → IterationSpace → Name → Expr → Piece
element_piece scope space name x = served (reads_of scope space x) (λ context n. Reads (array_at scope name) (index_of scope space x context n))

-- one point more
abbrev pub pushed : Builder → PointForm → ℕ → Line → Builder
pushed b form array line =
    record b {
      points =
          b.points
          ++ record {
            item = b.item;
            number = small (length b.points);
            call = b.call;
            form = form;
            array = array;
            line = line;
            branches = map (λ x. kept_branch (branch_of x)) b.branches;
            off = b.off;
          } ∷ [];
    }

-- a point of a form at the cells of a place
abbrev pub pushed_at : Scope → Builder → PointForm → Place → Builder
pushed_at scope b form at = pushed b form (small (array_at scope at.array)) (kept_line (line_of_index scope b.space at.index))

-- a point of a form at the cells of a range, and at a single cell
abbrev pub pushed_range : Scope → Builder → PointForm → Range → Builder
pushed_range scope b form x = pushed b form (small (array_at scope x.array)) (kept_line (line_of_range scope x))

abbrev pub pushed_cell : Scope → Builder → PointForm → Cell → Builder
pushed_cell scope b form x = pushed b form (small (array_at scope x.array)) (kept_line (line_of_cell scope x))

-- what touches nothing
pub record IsPlain (deed : Context → ℕ → Deed) : Type 0 where
  pub form : (context : Context) (n : ℕ) → form_of (deed context n) ≡ Plain
  pub array : (context : Context) (n : ℕ) → array_of (deed context n) ≡ 0
  pub line : (context : Context) (n : ℕ) → line_of_deed (deed context n) ≡ no_line

-- Reads and a point that touches nothing, whatever is computed there
pub record AddsPlain (old new : Builder) (x : Piece) : Type 0 where
  pub added : (deed : Context → ℕ → Deed) → IsPlain deed → Adds old new (served x deed)

-- off the vector
abbrev pub off_builder : Builder → Builder
off_builder b = record b { off = Some (unwrap_or b.off b.offs) }

-- back from off the vector
abbrev pub back_on : Option ℕ → Builder → Builder
back_on off b = record b { off = off; offs = taken off 1 b.offs }

-- ---- statements

-- nothing stands around the next statement
pub record IsIdle (b : Builder) : Type 0 where
  pub call : b.call ≡ None
  pub branches : b.branches ≡ []
  pub off : b.off ≡ None
  pub space : b.space ≡ no_loop

-- how many points, numbers of `off` and calls statements have
abbrev pub points_among : Scope → List Simple → ℕ
points_among scope [] = 0
points_among scope (x ∷ xs) = (statement_piece scope x).size + points_among scope xs

abbrev pub offs_among : Scope → List Simple → ℕ
offs_among scope [] = 0
offs_among scope (x ∷ xs) = (statement_piece scope x).offs + offs_among scope xs

abbrev pub calls_among : List Simple → ℕ
calls_among [] = 0
calls_among (x ∷ xs) = calls_in x + calls_among xs

-- statements more
abbrev pub with_statements : Scope → Builder → List Simple → Builder
with_statements scope b xs =
    record b {
      points = b.points ++ map (kept_info b.item) (points_from scope (length b.points) b.offs (b.earlier + length b.calls) xs);
      calls = b.calls ++ map kept_call (calls_from scope b.item (length b.points) xs);
      offs = b.offs + offs_among scope xs;
    }

-- nothing of an item so far
abbrev pub no_points : ℕ → ℕ → Builder
no_points item earlier =
    record { item = item; earlier = earlier; call = None; space = no_loop; branches = []; off = None; offs = 0; points = []; calls = [] }

-- a call at its end
abbrev pub ended : Builder → Policy → ℕ → ℕ → Builder
ended b policy positions before =
    record b {
      call = None;
      space = no_loop;
      calls =
          b.calls
          ++ record { item = b.item; policy = policy; positions = positions; first_point = small before; points = small (length b.points - before) } ∷ [];
    }

-- the statements of one statement of a block
unfoldable pub task_statements : TaskStmt → List Simple
task_statements = fold-TaskStmt (List Simple) (List Simple) simple_step (λ x. flat_map (λ y. y) x.body)

-- the numbers that the index of a loop takes are kept as they are
pub record IsKept (space : IterationSpace) : Type 0 where
  pub first_low : least_i64 ≤ℤ space.first
  pub first_high : space.first ≤ℤ greatest_i64
  pub step_low : least_i64 ≤ℤ space.step
  pub step_high : space.step ≤ℤ greatest_i64

abbrev pub IsKeptIn : Scope → Simple → Type 0
IsKeptIn scope (Loop x) = IsKept (space_of scope x)
IsKeptIn scope x = Unit {0}

abbrev pub AreKept : Scope → List Simple → Type 0
AreKept scope [] = Unit {0}
AreKept scope (x ∷ xs) = IsKeptIn scope x × AreKept scope xs

-- statements that can be added, where nothing stands around them
pub record AreAddable (scope : Scope) (b : Builder) (xs : List Simple) : Type 0 where
  pub idle : IsIdle b
  pub kept : AreKept scope xs
