-- The calls and loops of the statements of blocks.
use Rattle.std.proofs.Common.{◌≡◌, ℕ, zero, suc, ◌<◌, List, [], ◌∷◌, ◌++◌, length, get_or, sym, subst, ap, ◌∙◌, arith}
use Rattle.std.specs.Prelude.{All, flat_map}
use Rattle.std.proofs.lemmas.List.Elements.{All-head, All-tail, All-cons, All-nil}
use Rattle.pts_tree.specs.declared.sum.Cell.{Cell}
use Rattle.pts_tree.specs.declared.call.Call as call
use Rattle.pts_tree.specs.declared.expr.Expr.{Expr}
use Rattle.pts_tree.specs.declared.loops.Loop as loops
use Rattle.pts_tree.specs.declared.block.Block.{Block}
use Rattle.pts_tree.specs.declared.block.TaskStmt.{TaskStmt}
use Rattle.pts_tree.specs.declared.block.TaskStmt.TheVariants as t
use Rattle.pts_tree.specs.declared.script.Item.{Item}
use Rattle.pts_rules.specs.Parts.{Simple, Call, Loop, block_statements, statements}
use Rattle.pts_rules.specs.Known.{Scope}
use Rattle.pts_rules.proofs.Tasks.{task_statements, statements-Run, statements-Wait, statements-Throw, statements-Assign, statements-Call, statements-Loop, statements-Block, statements-body}
use Rattle.pts_constants.proofs.Additions.{flat_map_flat}
use Rattle.pts_points.specs.Inside.{IsSound}
use Rattle.pts_lowering.specs.Fitting.{CanLower}
use Rattle.pts_lowering.specs.Forms.{lowered_of, task_calls}

front_all : {A : Type 0} (P : A → Type 0) (xs ys : List A) → All P (xs ++ ys) → All P xs
front_all P [] ys h = All-nil P
front_all P (x ∷ xs) ys h = All-cons P x xs (All-head P x (xs ++ ys) h) (front_all P xs ys (All-tail P x (xs ++ ys) h))

back_all : {A : Type 0} (P : A → Type 0) (xs ys : List A) → All P (xs ++ ys) → All P ys
back_all P [] ys h = h
back_all P (x ∷ xs) ys h = back_all P xs ys (All-tail P x (xs ++ ys) h)

-- what holds of all that the parts have holds of what each of them has
pub each_part : (P : Simple → Type 0) (xs : List TaskStmt) (i : ℕ) (x : TaskStmt) → All P (flat_map task_statements xs) → i < length xs → x ≡ get_or xs i x → All P (task_statements x)
each_part P [] i x h within is = absurd (omega (arith, within))
each_part P (y ∷ ys) zero x h within is = subst (λ z. All P (task_statements z)) (sym is) (front_all P (task_statements y) (flat_map task_statements ys) h)
each_part P (y ∷ ys) (suc i) x h within is = each_part P ys i x (back_all P (task_statements y) (flat_map task_statements ys) h) (omega (arith, within)) is

module _ (scope : Scope) where
  pub first_sound : (x : Simple) → CanLower scope (x ∷ []) → IsSound scope x
  first_sound x h = All-head (IsSound scope) x [] h.sound

  -- the statements of a part
  pub part_lowered : (xs : List TaskStmt) (i : ℕ) (x : TaskStmt) → i < length xs → x ≡ get_or xs i x → CanLower scope (flat_map task_statements xs) → CanLower scope (task_statements x)
  part_lowered xs i x within is h = record { numbered = h.numbered; sound = each_part (IsSound scope) xs i x h.sound within is }

  -- and those of a statement of a form
  pub form_lowered : (x y : TaskStmt) (zs : List Simple) → x ≡ y → task_statements y ≡ zs → CanLower scope (task_statements x) → CanLower scope zs
  form_lowered x y zs is same h = subst (CanLower scope) (ap task_statements is ∙ same) h

  pub item_lowered : (x y : Item) (zs : List Simple) → x ≡ y → statements y ≡ zs → CanLower scope (statements x) → CanLower scope zs
  item_lowered x y zs is same h = subst (CanLower scope) (ap statements is ∙ same) h

-- ---- form by form

module _ (scope : Scope) where
  all_of : (xs : List TaskStmt) → flat_map (lowered_of scope) (flat_map task_statements xs) ≡ flat_map (task_calls scope) xs
  all_of xs = flat_map_flat (lowered_of scope) task_statements xs

  pub calls-Run : (xs : List TaskStmt) → task_calls scope (t.Run xs) ≡ flat_map (task_calls scope) xs
  calls-Run xs = ap (flat_map (lowered_of scope)) (statements-Run xs) ∙ all_of xs

  pub calls-Wait : task_calls scope t.Wait ≡ []
  calls-Wait = ap (flat_map (lowered_of scope)) statements-Wait

  pub calls-Throw : (n : ℕ) → task_calls scope (t.Throw n) ≡ []
  calls-Throw n = ap (flat_map (lowered_of scope)) (statements-Throw n)

  pub calls-Assign : (at : Cell) (x : Expr) → task_calls scope (t.Assign at x) ≡ []
  calls-Assign at x = ap (flat_map (lowered_of scope)) (statements-Assign at x)

  pub calls-Call : (x : call.Call) → task_calls scope (t.Call x) ≡ lowered_of scope (Call x)
  calls-Call x = ap (flat_map (lowered_of scope)) (statements-Call x)

  pub calls-Loop : (x : loops.Loop) → task_calls scope (t.Loop x) ≡ lowered_of scope (Loop x)
  calls-Loop x = ap (flat_map (lowered_of scope)) (statements-Loop x)

  pub calls-Block : (x : Block) → task_calls scope (t.Block x) ≡ flat_map (task_calls scope) x.body
  calls-Block x = ap (flat_map (lowered_of scope)) (statements-Block x ∙ statements-body x) ∙ all_of x.body

  pub item-Block : (x : Block) → flat_map (lowered_of scope) (block_statements x) ≡ flat_map (task_calls scope) x.body
  item-Block x = ap (flat_map (lowered_of scope)) (statements-body x) ∙ all_of x.body

pub ruleset calls_by_form = (calls-Run, calls-Wait, calls-Throw, calls-Assign, calls-Call, calls-Loop, calls-Block)

pub ruleset item_by_form = (item-Block)
