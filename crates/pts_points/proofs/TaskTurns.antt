-- The statements of a statement of a block, form by form, and how they are added.
use Rattle.std.proofs.Common.{◌≡◌, ℕ, ◌+◌, Some, List, [], ◌∷◌, length, refl, sym, ap, subst, ◌∙◌}
use Rattle.std.specs.Prelude.{flat_map}
use Rattle.pts_affine.specs.declared.line.Line.{Line}
use Rattle.pts_tree.specs.declared.sum.Cell.{Cell}
use Rattle.pts_tree.specs.declared.call.Call as call
use Rattle.pts_tree.specs.declared.expr.Expr.{Expr}
use Rattle.pts_tree.specs.declared.loops.Loop as loops
use Rattle.pts_tree.specs.declared.block.Block.{Block}
use Rattle.pts_tree.specs.declared.block.TaskStmt.{TaskStmt}
use Rattle.pts_tree.specs.declared.block.TaskStmt.TheVariants as t
use Rattle.pts_tree.specs.declared.script.Item.{Item}
use Rattle.pts_rules.specs.Known.{Scope}
use Rattle.pts_rules.specs.Mistyped.{body_scope}
use Rattle.pts_rules.specs.Parts.{Simple, Throw, Assign, Call, Loop, block_statements, statements}
use Rattle.pts_rules.proofs.Tasks as tasks
use Rattle.pts_points.specs.declared.builder.Builder.{Builder}
use Rattle.pts_points.specs.declared.space.IterationSpace.{IterationSpace}
use Rattle.pts_points.specs.Widths.{small}
use Rattle.pts_points.specs.Lines.{line_of_range, space_of}
use Rattle.pts_points.specs.Points.{call_piece, loop_piece}
use Rattle.pts_points.specs.Building.{Adds, AreAddable, ended, kept_line, task_statements, with_statements}
use Rattle.pts_points.proofs.StatementTurns.{call_done, with_none}

pub task-Run : (xs : List TaskStmt) → task_statements (t.Run xs) ≡ flat_map task_statements xs
unfolding task_statements tasks.task_statements
task-Run xs = tasks.statements-Run xs

pub task-Wait : task_statements t.Wait ≡ []
unfolding task_statements tasks.task_statements
task-Wait = tasks.statements-Wait

pub task-Throw : (n : ℕ) → task_statements (t.Throw n) ≡ Throw n ∷ []
unfolding task_statements tasks.task_statements
task-Throw n = tasks.statements-Throw n

pub task-Assign : (at : Cell) (x : Expr) → task_statements (t.Assign at x) ≡ Assign at x ∷ []
unfolding task_statements tasks.task_statements
task-Assign at x = tasks.statements-Assign at x

pub task-Call : (x : call.Call) → task_statements (t.Call x) ≡ Call x ∷ []
unfolding task_statements tasks.task_statements
task-Call x = tasks.statements-Call x

pub task-Loop : (x : loops.Loop) → task_statements (t.Loop x) ≡ Loop x ∷ []
unfolding task_statements tasks.task_statements
task-Loop x = tasks.statements-Loop x

pub block_body : (x : Block) → block_statements x ≡ flat_map task_statements x.body
unfolding task_statements tasks.task_statements
block_body x = tasks.statements-body x

pub task-Block : (x : Block) → task_statements (t.Block x) ≡ flat_map task_statements x.body
unfolding task_statements tasks.task_statements
task-Block x = tasks.statements-Block x ∙ block_body x

-- ---- calls and loops at their end

pub call_ended : (scope : Scope) (b m c d : Builder) (x : call.Call) (line : Line) (number before : ℕ) → AreAddable scope b (Call x ∷ [])
    → before ≡ length b.points → number ≡ b.earlier + length b.calls → m ≡ record b { call = Some number } → Adds m c (call_piece scope x) → line ≡ kept_line (line_of_range scope x.first)
    → d ≡ ended c x.policy line.n before → d ≡ with_statements scope b (Call x ∷ [])
call_ended scope b m c d x line number before room is_before is_number inside h is_line e =
    call_done scope b c d (Call x) b.space scope x.policy (line_of_range scope x.first).n line.n room.idle refl refl (ap (λ z. z.n) is_line)
    (subst (λ z. Adds z c (call_piece scope x)) (inside ∙ (λ i. record b { call = Some (is_number i) })) h)
    (e ∙ (λ i. ended c x.policy line.n (is_before i)))

pub loop_ended : (scope : Scope) (b m c d : Builder) (x : loops.Loop) (space : IterationSpace) (positions number before : ℕ) → AreAddable scope b (Loop x ∷ [])
    → before ≡ length b.points → number ≡ b.earlier + length b.calls → space ≡ space_of scope x → positions ≡ small space.positions
    → m ≡ record b { call = Some number; space = space } → Adds m c (loop_piece scope x)
    → d ≡ ended c x.policy positions before → d ≡ with_statements scope b (Loop x ∷ [])
loop_ended scope b m c d x space positions number before room is_before is_number is_space count inside h e =
    call_done scope b c d (Loop x) space (body_scope scope x) x.policy (space_of scope x).positions positions room.idle refl refl (count ∙ ap (λ s. small s.positions) is_space)
    (subst (λ z. Adds z c (loop_piece scope x)) (inside ∙ (λ i. record b { call = Some (is_number i); space = space })) h)
    (e ∙ (λ i. ended c x.policy positions (is_before i)))

-- ---- forms

module _ (scope : Scope) (b c : Builder) (x : TaskStmt) (y : TaskStmt) (zs : List Simple) (is : x ≡ y) (same : task_statements y ≡ zs) where
  pub by_form : c ≡ with_statements scope b zs → c ≡ with_statements scope b (task_statements x)
  by_form h = h ∙ ap (with_statements scope b) (sym (ap task_statements is ∙ same))

  pub room_by_form : AreAddable scope b (task_statements x) → AreAddable scope b zs
  room_by_form h = subst (AreAddable scope b) (ap task_statements is ∙ same) h

module _ (scope : Scope) (b c : Builder) (x : Item) (y : Item) (zs : List Simple) (is : x ≡ y) (same : statements y ≡ zs) where
  pub item_by_form : c ≡ with_statements scope b zs → c ≡ with_statements scope b (statements x)
  item_by_form h = h ∙ ap (with_statements scope b) (sym (ap statements is ∙ same))

  pub item_room : AreAddable scope b (statements x) → AreAddable scope b zs
  item_room h = subst (AreAddable scope b) (ap statements is ∙ same) h

-- a statement without points and calls
pub with_throw : (scope : Scope) (b : Builder) (n : ℕ) → b ≡ with_statements scope b (Throw n ∷ [])
with_throw scope b n = with_none scope b
