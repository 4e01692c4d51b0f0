-- Pieces of text and their points: what a point does, what it may use, and how pieces are put together.
use Rattle.std.specs.Prelude.{ℕ, ◌+◌, Bool, true, false, unwrap_or, Option, Some, None, List, [], ◌∷◌, ◌++◌, map}
use Rattle.pts_types.specs.declared.value.Kind.{Kind}
use Rattle.pts_types.specs.declared.operation.ScalarOp.{ScalarOp}
use Rattle.pts_affine.specs.declared.line.Line.{Line}
use Rattle.pts_tree.specs.declared.expr.Expr.{Expr}
use Rattle.pts_rules.specs.Parts.{Name}
use Rattle.pts_rules.specs.Known.{Scope}
use Rattle.pts_rules.specs.declared.meaning.Meaning.TheVariants.{Value}
use Rattle.pts_points.specs.declared.point.Branch.{Branch}

-- ---- points

-- a `let`: its name, its kind, and the number of the point that notes its value
pub record LetPoint : Type 0 where
  pub name : Name
  pub kind : Kind
  pub point : ℕ

-- what the points of a place in the text have in common: the call that they are of, the tests that they stand under, the
-- outermost first, the `off` that they have, the names of the globals and of the loop's head, and the `let`s in scope, the
-- last one first
pub record Context : Type 0 where
  pub call : Option ℕ
  pub branches : List Branch
  pub off : Option ℕ
  pub head : Scope
  pub lets : List LetPoint

-- an expression whose value is asked of a kind; the Reads of its elements have the numbers from `first` on
pub record Computation : Type 0 where
  pub kind : Kind
  pub first : ℕ
  pub expr : Expr

-- which cells of an array a point is at: those of a line, or at each position the one that is computed
pub data Index : Type 0 where
  Along : Line → Index
  Computed : Computation → Index

-- what is done at a point: a read, the write of a value, an update by an operation, the note of a `let`, a test, a value for
-- a view, and what a call or a loop writes by itself: a range, the cell of a clause, the cell of an answer
pub data Deed : Type 0 where
  Reads : ℕ → Index → Deed
  Assigns : ℕ → Index → Computation → Deed
  Updates : ℕ → Index → ScalarOp → Computation → Deed
  Notes : Computation → Deed
  Tests : Computation → Deed
  Gives : Name → Computation → Deed
  Fills : ℕ → Line → Deed
  LivesOut : ℕ → Line → Deed
  Answers : ℕ → Line → Deed

-- a point of an item, numbered from 0 in the item
pub record Point : Type 0 where
  pub number : ℕ
  pub context : Context
  pub deed : Deed

-- what the names at a place stand for
abbrev pub names_in : Context → Scope
names_in context = map (λ x. (x.name, Value x.kind)) context.lets ++ context.head

-- ---- pieces

-- a piece of text: how many points it has and how many numbers of `off` it takes, the `let`s that what stands behind it may
-- use, and its points; these two are told the context, the number of the first point, and the points the first number of
-- `off` too
pub record Piece : Type 0 where
  pub size : ℕ
  pub offs : ℕ
  pub lets : Context → ℕ → List LetPoint
  pub points : Context → ℕ → ℕ → List Point

-- the same place with these `let`s in scope
abbrev pub seeing : List LetPoint → Context → Context
seeing lets context = record context { lets = lets }

-- the next number of `off` behind so many; what stands inside an `off` takes none
abbrev pub taken : Option ℕ → ℕ → ℕ → ℕ
taken None count m = m + count
taken (Some d) count m = m

-- no text
abbrev pub nothing : Piece
nothing = record { size = 0; offs = 0; lets = λ context n. context.lets; points = λ context n m. [] }

-- a piece and another one behind it
abbrev pub behind : Piece → Piece → Piece
behind x y =
    record {
      size = x.size + y.size;
      offs = x.offs + y.offs;
      lets = λ context n. y.lets (seeing (x.lets context n) context) (n + x.size);
      points =
          λ context n m.
          x.points context n m ++ y.points (seeing (x.lets context n) context) (n + x.size) (taken context.off x.offs m);
    }

-- pieces one behind the other
abbrev pub sequence : List Piece → Piece
sequence [] = nothing
sequence (x ∷ xs) = behind x (sequence xs)

abbrev pub sequence_of : Option (List Piece) → Piece
sequence_of None = nothing
sequence_of (Some xs) = sequence xs

-- Reads and behind them the point that they serve; what it does is told the context and the number of the first Read
abbrev pub served : Piece → (Context → ℕ → Deed) → Piece
served x deed =
    record x {
      size = x.size + 1;
      lets = λ context n. context.lets;
      points = λ context n m. x.points context n m ++ record { number = n + x.size; context = context; deed = deed context n } ∷ [];
    }

-- a point without Reads
abbrev pub alone : Deed → Piece
alone deed = served nothing (λ context n. deed)

-- off the vector: in an `off`, this one where there is none around it
abbrev pub off_from : ℕ → Context → Context
off_from m context = record context { off = Some (unwrap_or context.off m) }

-- the same with an `off` of the point alone, which its Reads do not have
abbrev pub served_off : Piece → (Context → ℕ → Deed) → Piece
served_off x deed =
    record x {
      size = x.size + 1;
      offs = x.offs + 1;
      lets = λ context n. context.lets;
      points =
          λ context n m.
          x.points context n m
          ++ record { number = n + x.size; context = off_from (taken context.off x.offs m) context; deed = deed context n } ∷ [];
    }

-- all of a piece in one `off`
abbrev pub off_vector : Piece → Piece
off_vector x =
    record { size = x.size; offs = 1; lets = λ context n. context.lets; points = λ context n m. x.points (off_from m context) n m }

-- a `let`, which is in scope behind it
abbrev pub binding : Name → (Context → Kind) → Piece → (Context → ℕ → Deed) → Piece
binding name kind x deed =
    record (served x deed) {
      lets = λ context n. record { name = name; kind = kind context; point = n + x.size } ∷ context.lets;
    }

-- under one side of a test
abbrev pub under : ℕ → Bool → Context → Context
under test taken context = record context { branches = context.branches ++ record { test = test; taken = taken } ∷ [] }

-- the Reads of a condition and its test, and behind them the branches, each under its side of the test
abbrev pub branching : Piece → (Context → ℕ → Deed) → Piece → Piece → Piece
branching x deed first second =
    record {
      size = x.size + 1 + first.size + second.size;
      offs = x.offs + first.offs + second.offs;
      lets = λ context n. context.lets;
      points =
          λ context n m.
          (served x deed).points context n m
          ++ (first.points (under (n + x.size) true context) (n + x.size + 1) (taken context.off x.offs m)
          ++ second.points (under (n + x.size) false context) (n + x.size + 1 + first.size) (taken context.off (x.offs + first.offs) m));
    }
