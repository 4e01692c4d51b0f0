-- Trees without constants: a sum is one number, and a constant in an expression is the number that it stands for.
use Rattle.std.specs.Prelude.{◌-◌, ◌^◌, min, if◌then◌else◌, option_map, Option, Some, None, List, [], map, ℤ, pos, neg_ℤ, nat_abs, int_lt}
use Rattle.pts_tree.specs.declared.sum.Atom.TheVariants as atoms
use Rattle.pts_tree.specs.declared.sum.Sum.{Sum}
use Rattle.pts_tree.specs.declared.sum.Val.{Val}
use Rattle.pts_tree.specs.declared.sum.Val.TheVariants as vals
use Rattle.pts_tree.specs.declared.sum.Range.{Range}
use Rattle.pts_tree.specs.declared.sum.Cell.{Cell}
use Rattle.pts_tree.specs.declared.call.Call.{Call}
use Rattle.pts_tree.specs.declared.expr.Expr.{Expr}
use Rattle.pts_tree.specs.declared.expr.Expr.TheOpen.{Expr-F, ChainPart-F}
use Rattle.pts_tree.specs.declared.expr.Expr.TheVariants as e
use Rattle.pts_tree.specs.declared.expr.Expr.TheFolds.{fold-Expr}
use Rattle.pts_tree.specs.declared.expr.ChainPart.{ChainPart}
use Rattle.pts_tree.specs.declared.expr.Place.{Place}
use Rattle.pts_tree.specs.declared.loops.Loop.{Loop}
use Rattle.pts_tree.specs.declared.loops.Clause.{Clause}
use Rattle.pts_tree.specs.declared.loops.Clause.TheVariants as clauses
use Rattle.pts_tree.specs.declared.loops.ReduceClause.{ReduceClause}
use Rattle.pts_tree.specs.declared.loops.InductClause.{InductClause}
use Rattle.pts_tree.specs.declared.loops.Initial.{Initial}
use Rattle.pts_tree.specs.declared.loops.Initial.TheVariants as initials
use Rattle.pts_tree.specs.declared.loops.BodyStmt.{BodyStmt}
use Rattle.pts_tree.specs.declared.loops.BodyStmt.TheOpen.{BodyStmt-F}
use Rattle.pts_tree.specs.declared.loops.BodyStmt.TheVariants as b
use Rattle.pts_tree.specs.declared.loops.BodyStmt.TheFolds.{fold-BodyStmt}
use Rattle.pts_tree.specs.declared.block.Block.{Block}
use Rattle.pts_tree.specs.declared.block.TaskStmt.{TaskStmt}
use Rattle.pts_tree.specs.declared.block.TaskStmt.TheOpen.{TaskStmt-F, Block-F}
use Rattle.pts_tree.specs.declared.block.TaskStmt.TheVariants as t
use Rattle.pts_tree.specs.declared.block.TaskStmt.TheFolds.{fold-Block, fold-TaskStmt}
use Rattle.pts_rules.specs.Parts.{Name}
use Rattle.pts_rules.specs.Known.{Scope, constant_of, number}

-- ---- sums

-- a sum that is one number; one of a sound item has no more than 64 bits
abbrev pub number_sum : ℤ → Sum
number_sum z = record { negative = int_lt z (pos 0); first = atoms.Number (min (nat_abs z) (2 ^ 64 - 1)); rest = [] }

abbrev pub resolved_sum : Scope → Sum → Sum
resolved_sum scope x = number_sum (number scope x)

abbrev pub resolved_val : Scope → Val → Val
resolved_val scope (vals.Sum x) = vals.Sum (resolved_sum scope x)
resolved_val scope x = x

abbrev pub resolved_range : Scope → Range → Range
resolved_range scope x = record { array = x.array; low = resolved_sum scope x.low; high = resolved_sum scope x.high }

abbrev pub resolved_cell : Scope → Cell → Cell
resolved_cell scope x = record { array = x.array; index = resolved_sum scope x.index }

abbrev pub resolved_call : Scope → Call → Call
resolved_call scope x =
    record {
      form = x.form;
      policy = x.policy;
      first = resolved_range scope x.first;
      second = option_map (resolved_range scope) x.second;
      target = option_map (resolved_range scope) x.target;
      init = option_map (resolved_val scope) x.init;
      op = x.op;
      function = x.function;
      store = option_map (resolved_cell scope) x.store;
    }

-- ---- expressions

-- an expression by the value of the constant that it is, and without constants
pub record Resolution : Type 0 where
  pub constant : Option ℤ
  pub tree : Expr

abbrev pub whole : Expr → Resolution
whole x = record { constant = None; tree = x }

-- a number; below 0 with `-` before it
abbrev pub number_expr : ℤ → Expr
number_expr z = if int_lt z (pos 0) then e.Minus (e.Number (nat_abs z)) else e.Number (nat_abs z)

abbrev pub named : Name → Option ℤ → Resolution
named name None = whole (e.Name name)
named name (Some z) = record { constant = Some z; tree = number_expr z }

-- `-` before a constant is part of the number
abbrev pub minus_expr : Option ℤ → Expr → Expr
minus_expr None x = e.Minus x
minus_expr (Some z) x = number_expr (neg_ℤ z)

abbrev pub trees : List Resolution → List Expr
trees xs = map (λ x. x.tree) xs

abbrev pub resolution_step : Scope → Expr-F Resolution ChainPart → Resolution
resolution_step scope (Expr-F.Number n) = whole (e.Number n)
resolution_step scope Expr-F.True = whole e.True
resolution_step scope Expr-F.False = whole e.False
resolution_step scope (Expr-F.Name name) = named name (constant_of scope name)
resolution_step scope (Expr-F.Call name xs) = whole (e.Call name (trees xs))
resolution_step scope (Expr-F.Element name x) = whole (e.Element name x.tree)
resolution_step scope (Expr-F.Convert to x) = whole (e.Convert to x.tree)
resolution_step scope (Expr-F.Throw n) = whole (e.Throw n)
resolution_step scope (Expr-F.Paren x) = whole (e.Paren x.tree)
resolution_step scope (Expr-F.Minus x) = whole (minus_expr x.constant x.tree)
resolution_step scope (Expr-F.Not x) = whole (e.Not x.tree)
resolution_step scope (Expr-F.Chain x xs) = whole (e.Chain x.tree xs)
resolution_step scope (Expr-F.Compare op x y) = whole (e.Compare op x.tree y.tree)
resolution_step scope (Expr-F.All xs) = whole (e.All (trees xs))
resolution_step scope (Expr-F.Any xs) = whole (e.Any (trees xs))
resolution_step scope (Expr-F.If x y z) = whole (e.If x.tree y.tree z.tree)

abbrev pub resolved_operand : ChainPart-F Resolution ChainPart → ChainPart
resolved_operand part = record { op = part.op; operand = part.operand.tree }

unfoldable pub resolution : Scope → Expr → Resolution
resolution scope = fold-Expr Resolution ChainPart (resolution_step scope) resolved_operand

-- an expression without constants; names that are no constants stay
abbrev pub resolved_expr : Scope → Expr → Expr
resolved_expr scope x = (resolution scope x).tree

-- the value of the constant that an expression is
abbrev pub constant_expr : Scope → Expr → Option ℤ
constant_expr scope x = (resolution scope x).constant

abbrev pub resolved_part : Scope → ChainPart → ChainPart
resolved_part scope x = record { op = x.op; operand = resolved_expr scope x.operand }

abbrev pub resolved_place : Scope → Place → Place
resolved_place scope x = record { array = x.array; index = resolved_expr scope x.index }

-- ---- loops

abbrev pub resolved_reduce : Scope → ReduceClause → ReduceClause
resolved_reduce scope x = record { cell = resolved_cell scope x.cell; op = x.op; identity = option_map (resolved_val scope) x.identity; view = x.view }

abbrev pub resolved_initial : Scope → Initial → Initial
resolved_initial scope (initials.Val x) = initials.Val (resolved_val scope x)
resolved_initial scope (initials.Cell x) = initials.Cell (resolved_cell scope x)

abbrev pub resolved_induct : Scope → InductClause → InductClause
resolved_induct scope x = record { name = x.name; kind = x.kind; initial = resolved_initial scope x.initial; step = option_map (resolved_sum scope) x.step }

abbrev pub resolved_clause : Scope → Clause → Clause
resolved_clause scope (clauses.Reduce x) = clauses.Reduce (resolved_reduce scope x)
resolved_clause scope (clauses.Induct x) = clauses.Induct (resolved_induct scope x)

abbrev pub stmt_step : Scope → BodyStmt-F BodyStmt → BodyStmt
stmt_step scope (BodyStmt-F.Assign at x) = b.Assign (resolved_place scope at) (resolved_expr scope x)
stmt_step scope (BodyStmt-F.Let name x) = b.Let name (resolved_expr scope x)
stmt_step scope (BodyStmt-F.Combine name x) = b.Combine name (resolved_expr scope x)
stmt_step scope (BodyStmt-F.If x xs ys) = b.If (resolved_expr scope x) xs ys
stmt_step scope (BodyStmt-F.VecOff xs) = b.VecOff xs
stmt_step scope (BodyStmt-F.Ordered at op x) = b.Ordered (resolved_place scope at) op (resolved_expr scope x)

-- a statement of a body without constants
unfoldable pub resolved_stmt : Scope → BodyStmt → BodyStmt
resolved_stmt scope = fold-BodyStmt BodyStmt (stmt_step scope)

abbrev pub resolved_loop : Scope → Loop → Loop
resolved_loop scope x =
    record {
      policy = x.policy;
      index = x.index;
      low = resolved_sum scope x.low;
      high = resolved_sum scope x.high;
      step = option_map (resolved_sum scope) x.step;
      clauses = map (resolved_clause scope) x.clauses;
      body = map (resolved_stmt scope) x.body;
    }

-- ---- blocks

abbrev pub task_step : Scope → TaskStmt-F TaskStmt Block → TaskStmt
task_step scope (TaskStmt-F.Run xs) = t.Run xs
task_step scope TaskStmt-F.Wait = t.Wait
task_step scope (TaskStmt-F.Throw n) = t.Throw n
task_step scope (TaskStmt-F.Assign at x) = t.Assign (resolved_cell scope at) (resolved_expr scope x)
task_step scope (TaskStmt-F.Call x) = t.Call (resolved_call scope x)
task_step scope (TaskStmt-F.Loop x) = t.Loop (resolved_loop scope x)
task_step scope (TaskStmt-F.Block x) = t.Block x

abbrev pub as_block : Block-F TaskStmt Block → Block
as_block x = record { body = x.body }

-- a block without constants
unfoldable pub resolved_block : Scope → Block → Block
resolved_block scope = fold-Block TaskStmt Block (task_step scope) as_block

-- a statement of a block without constants
unfoldable pub resolved_task : Scope → TaskStmt → TaskStmt
resolved_task scope = fold-TaskStmt TaskStmt Block (task_step scope) as_block
