-- NotAffine and OutOfRange: indices that are no lines, and positions at which a cell is not in its array.
use Rattle.std.specs.Prelude.{ℕ, Bool, true, false, not, ◌&&◌, ◌||◌, ◌==◌, nat_lt, nat_le, if◌then◌else◌, is_none, option_and_then, Option, Some, None, List, [], ◌∷◌, ◌++◌, fold, flat_map, ℤ, pos, ◌+ℤ◌, ◌-ℤ◌, ◌*ℤ◌, neg_ℤ, int_lt, int_le}
use Rattle.std.specs.List.{list_any}
use Rattle.std.specs.Ordering.{int_eq}
use Rattle.std.specs.Str.{bytes_eq}
use Rattle.pts_types.specs.declared.value.Kind.TheVariants as kinds
use Rattle.pts_types.specs.declared.operation.ScalarOp.{ScalarOp}
use Rattle.pts_types.specs.declared.operation.ScalarOp.TheVariants as ops
use Rattle.pts_affine.specs.declared.line.Line.{Line}
use Rattle.pts_affine.specs.Lines.{cell}
use Rattle.pts_tree.specs.declared.sum.Range.{Range}
use Rattle.pts_tree.specs.declared.sum.Cell.{Cell}
use Rattle.pts_tree.specs.declared.expr.Expr.{Expr}
use Rattle.pts_tree.specs.declared.expr.Expr.TheOpen.{Expr-F}
use Rattle.pts_tree.specs.declared.expr.Expr.TheFolds.{fold-Expr, para-Expr}
use Rattle.pts_tree.specs.declared.expr.ChainPart.{ChainPart}
use Rattle.pts_tree.specs.declared.expr.Place.{Place}
use Rattle.pts_tree.specs.declared.loops.Loop as loops
use Rattle.pts_tree.specs.declared.loops.Clause.{Clause}
use Rattle.pts_tree.specs.declared.loops.Clause.TheVariants as clauses
use Rattle.pts_tree.specs.declared.loops.Initial.TheVariants as initials
use Rattle.pts_tree.specs.declared.loops.BodyStmt.{BodyStmt}
use Rattle.pts_tree.specs.declared.loops.BodyStmt.TheOpen.{BodyStmt-F}
use Rattle.pts_tree.specs.declared.loops.BodyStmt.TheFolds.{fold-BodyStmt}
use Rattle.pts_tree.specs.declared.script.Item.{Item}
use Rattle.pts_rules.specs.Parts.{Name, Simple, Throw, Assign, Call, Loop, statements}
use Rattle.pts_rules.specs.Known.{Scope, array_of, constant_of, has, holds, number, natural}
use Rattle.pts_rules.specs.Counts.{step_of, loop_positions}

-- ---- indices

-- the elements that an expression reads, each with its index and before those that its index reads
abbrev pub elements_step : Expr-F (Expr × List Place) (ChainPart × List Place) → List Place
elements_step (Expr-F.Call name xs) = flat_map (λ x. x.1) xs
elements_step (Expr-F.Element name x) = record { array = name; index = x.0 } ∷ x.1
elements_step (Expr-F.Convert to x) = x.1
elements_step (Expr-F.Paren x) = x.1
elements_step (Expr-F.Minus x) = x.1
elements_step (Expr-F.Not x) = x.1
elements_step (Expr-F.Chain x xs) = x.1 ++ flat_map (λ y. y.1) xs
elements_step (Expr-F.Compare op x y) = x.1 ++ y.1
elements_step (Expr-F.All xs) = flat_map (λ x. x.1) xs
elements_step (Expr-F.Any xs) = flat_map (λ x. x.1) xs
elements_step (Expr-F.If x y z) = x.1 ++ y.1 ++ z.1
elements_step _ = []

-- the elements that an expression reads
unfoldable pub elements : Expr → List Place
elements = para-Expr (List Place) (List Place) elements_step (λ part. part.operand.1)

abbrev pub else_places : Option (List (List Place)) → List Place
else_places None = []
else_places (Some xs) = flat_map (λ x. x) xs

abbrev pub places_step : BodyStmt-F (List Place) → List Place
places_step (BodyStmt-F.Assign at x) = (at ∷ elements at.index) ++ elements x
places_step (BodyStmt-F.Let name x) = elements x
places_step (BodyStmt-F.Combine name x) = elements x
places_step (BodyStmt-F.If x xs ys) = elements x ++ flat_map (λ y. y) xs ++ else_places ys
places_step (BodyStmt-F.VecOff xs) = flat_map (λ y. y) xs
places_step (BodyStmt-F.Ordered at op x) = (at ∷ elements at.index) ++ elements x

-- the elements that a statement of a body reads and writes
unfoldable pub places : BodyStmt → List Place
places = fold-BodyStmt (List Place) places_step

-- ---- affine expressions

-- factor * i + offset, where i is the loop index
pub record Affine : Type 0 where
  pub factor : ℤ
  pub offset : ℤ

-- the same, where both lie in `i64`
abbrev pub kept : ℤ → ℤ → Option Affine
kept factor offset = if holds kinds.I64 factor && holds kinds.I64 offset then Some (record { factor = factor; offset = offset }) else None

-- a sum, a difference, or a product that has a side without the loop index
abbrev pub combined : ScalarOp → Affine → Affine → Option Affine
combined ops.Plus x y = kept (x.factor +ℤ y.factor) (x.offset +ℤ y.offset)
combined ops.Minus x y = kept (x.factor -ℤ y.factor) (x.offset -ℤ y.offset)
combined ops.Multiplies x y =
    if int_eq x.factor (pos 0) || int_eq y.factor (pos 0)
    then kept (x.factor *ℤ y.offset +ℤ x.offset *ℤ y.factor) (x.offset *ℤ y.offset)
    else None
combined op x y = None

-- an expression by its literal number (a NUMBER or a constant name alone) and its factor and offset, if it is affine
pub record Reading : Type 0 where
  pub literal : Option ℤ
  pub affine : Option Affine

abbrev pub affine_reading : Option Affine → Reading
affine_reading affine = record { literal = None; affine = affine }

abbrev pub number_reading : Option ℤ → Reading
number_reading None = affine_reading None
number_reading (Some z) = record { literal = Some z; affine = kept (pos 0) z }

-- the loop index is 1 * i + 0; a constant is its value; no other name is affine
abbrev pub name_reading : Bool → Option ℤ → Reading
name_reading true z = affine_reading (kept (pos 1) (pos 0))
name_reading false z = number_reading z

-- `-` before a number or a constant name is one number
abbrev pub minus_affine : Option ℤ → Option Affine → Option Affine
minus_affine (Some z) x = kept (pos 0) (neg_ℤ z)
minus_affine None x = option_and_then (λ y. kept (neg_ℤ y.factor) (neg_ℤ y.offset)) x

-- a chain so far, and an operator with its operand
abbrev pub next_affine : Option Affine → ScalarOp × Option Affine → Option Affine
next_affine x part = option_and_then (λ y. option_and_then (combined part.0 y) part.1) x

-- one case for each form that is affine; every number on the way lies in `i64`
abbrev pub reading_step : Scope → Option Name → Expr-F Reading (ScalarOp × Option Affine) → Reading
reading_step scope index (Expr-F.Number n) = number_reading (Some (pos n))
reading_step scope index (Expr-F.Name name) = name_reading (has (bytes_eq name) index) (constant_of scope name)
reading_step scope index (Expr-F.Paren x) = affine_reading x.affine
reading_step scope index (Expr-F.Minus x) = affine_reading (minus_affine x.literal x.affine)
reading_step scope index (Expr-F.Chain x xs) = affine_reading (fold next_affine x.affine xs)
reading_step scope index _ = affine_reading None

-- an expression, read with this loop index or without one; the scope is that of the globals
unfoldable pub reading : Scope → Option Name → Expr → Reading
reading scope index = fold-Expr Reading (ScalarOp × Option Affine) (reading_step scope index) (λ part. (part.op, part.operand.affine))

-- the factor and the offset of an expression, if it is affine
abbrev pub affine_of : Scope → Option Name → Expr → Option Affine
affine_of scope index x = (reading scope index x).affine

-- the index of an element has no factor and offset
abbrev pub index_not_affine : Scope → Option Name → Place → Bool
index_not_affine scope index at = is_none (affine_of scope index at.index)

-- an index of a loop's body, or of an element that an assignment reads, is not affine
abbrev pub has_not_affine : Scope → Simple → Bool
has_not_affine scope (Assign at x) = list_any (index_not_affine scope None) (elements x)
has_not_affine scope (Loop x) = list_any (index_not_affine scope (Some x.index)) (flat_map places x.body)
has_not_affine scope _ = false

-- NotAffine: an index is not made of numbers, constants, the loop index, `+`, `-`, `*` and parentheses as a line
abbrev pub is_not_affine : Scope → Item → Bool
is_not_affine scope x = list_any (has_not_affine scope) (statements x)

-- ---- where cells lie

-- cells of an array of this length: those of a range from low on and before high, or those of a line at its positions
pub data Reach : Type 0 where
  Span : ℤ → ℤ → ℤ → Reach
  Along : Line → ℤ → Reach

-- position p is at a cell that the array does not have; a range names the first of its positions past the array
abbrev pub leaves : ℕ → Reach → Bool
leaves p (Span low high length) = int_lt length high && p == natural (length -ℤ low)
leaves p (Along line length) = nat_lt p line.n && not (int_le (pos 0) (cell line p) && int_lt (cell line p) length)

-- the line of an index in a loop of n positions whose index is first + p * step at position p
abbrev pub line_of : ℤ → ℤ → ℕ → Affine → Line
line_of first step n index =
    record {
      c = if nat_le n 1 then pos 0 else index.factor *ℤ step;
      d = if n == 0 then pos 0 else index.factor *ℤ first +ℤ index.offset;
      n = n;
    }

-- the length of an array; of what is no array only a broken rule is asked
abbrev pub length_of : Scope → Name → ℤ
length_of scope name = elim (array_of scope name) [ None ↦ pos 0 | Some x ↦ x.1 ]

abbrev pub range_reach : Scope → Range → List Reach
range_reach scope x = Span (number scope x.low) (number scope x.high) (length_of scope x.array) ∷ []

-- a cell is reached at one position
abbrev pub cell_reach : Scope → Cell → List Reach
cell_reach scope x = Along (record { c = pos 0; d = number scope x.index; n = 1 }) (length_of scope x.array) ∷ []

-- the cells of an index, by the line of its factor and offset
abbrev pub place_reach : Scope → (Affine → Line) → Option Name → Place → List Reach
place_reach scope line index at = elim (affine_of scope index at.index) [ None ↦ [] | Some x ↦ Along (line x) (length_of scope at.array) ∷ [] ]

-- the cell of a clause, if it names one
abbrev pub clause_reach : Scope → Clause → List Reach
clause_reach scope (clauses.Reduce x) = cell_reach scope x.cell
clause_reach scope (clauses.Induct x) = elim x.initial [ initials.Val y ↦ [] | initials.Cell y ↦ cell_reach scope y ]

abbrev pub reach_of : {A : Type 0} → (A → List Reach) → Option A → List Reach
reach_of f None = []
reach_of f (Some x) = f x

-- the line of an index of a loop's body
abbrev pub loop_line : Scope → loops.Loop → Affine → Line
loop_line scope x = line_of (number scope x.low) (step_of scope x.step) (loop_positions scope x)

-- every range, cell and index of a statement
abbrev pub reaches : Scope → Simple → List Reach
reaches scope (Throw n) = []
reaches scope (Assign at x) = cell_reach scope at ++ flat_map (place_reach scope (line_of (pos 0) (pos 0) 1) None) (elements x)
reaches scope (Call x) = range_reach scope x.first ++ reach_of (range_reach scope) x.second ++ reach_of (range_reach scope) x.target ++ reach_of (cell_reach scope) x.store
reaches scope (Loop x) = flat_map (clause_reach scope) x.clauses ++ flat_map (place_reach scope (loop_line scope x) (Some x.index)) (flat_map places x.body)

-- OutOfRange at p: at position p the item is at a cell that an array does not have
abbrev pub is_out_at : Scope → Item → ℕ → Bool
is_out_at scope x p = list_any (leaves p) (flat_map (reaches scope) (statements x))
