-- What the statements of a task block use and declare, form by form, and loops over them.
use Rattle.std.proofs.Common.{◌≡◌, ℕ, ◌+◌, ◌<◌, ◌≤◌, Bool, true, false, List, [], ◌∷◌, ◌++◌, length, get_or, drop, refl, sym, ap, ◌∙◌, append-nil}
use Rattle.std.specs.Prelude.{◌||◌, flat_map}
use Rattle.std.proofs.lemmas.List.{drop_more, drop_all}
use Rattle.std.proofs.lemmas.List.Folds.{list_any-append}
use Rattle.std.proofs.lemmas.Grind.{flat_map-append}
use Rattle.pts_tree.specs.declared.sum.Cell.{Cell}
use Rattle.pts_tree.specs.declared.call.Call as call
use Rattle.pts_tree.specs.declared.expr.Expr.{Expr}
use Rattle.pts_tree.specs.declared.loops.Loop as loops
use Rattle.pts_tree.specs.declared.block.Block.{Block}
use Rattle.pts_tree.specs.declared.block.TaskStmt.{TaskStmt}
use Rattle.pts_tree.specs.declared.block.TaskStmt.TheVariants as t
use Rattle.pts_rules.specs.Known.{Scope}
use Rattle.pts_rules.specs.Parts.{Name, Simple, Throw, Assign, Call, Loop, block_statements, statement_names, statement_locals, cell_names, expr_names, call_names, loop_names, loop_locals}
use Rattle.pts_rules.proofs.Tasks as by
use Rattle.pts_rules.specs.Names.{names_in, clash}
use Rattle.pts_names.specs.Entered.{misses, repeats, task_statements, task_names, task_locals, clashes}
use Rattle.pts_names.proofs.Missing.{misses_none, misses_both, or_false}
use Rattle.pts_names.proofs.Clashes.{repeats_clash}

-- ---- statements

same : (x : TaskStmt) → task_statements x ≡ by.task_statements x
unfolding task_statements by.task_statements
same x = refl

-- lists of lists
flat_flat : {A B C : Type 0} (f : A → List B) (g : B → List C) (xs : List A) → flat_map g (flat_map f xs) ≡ flat_map (λ x. flat_map g (f x)) xs
flat_flat f g [] = refl
flat_flat f g (x ∷ xs) = flat_map-append g (f x) (flat_map f xs) ∙ ap (λ ys. flat_map g (f x) ++ ys) (flat_flat f g xs)

-- the statements of a block inside
abbrev pub inner : List TaskStmt → List Simple
inner xs = flat_map by.task_statements xs

module _ {A : Type 0} (g : Simple → List A) where
  -- what g gives for a statement of a block
  abbrev parts : TaskStmt → List A
  parts x = flat_map g (task_statements x)

  each : (ys : List TaskStmt) → flat_map parts ys ≡ flat_map (λ y. flat_map g (by.task_statements y)) ys
  each [] = refl
  each (y ∷ ys) = λ i. flat_map g (same y i) ++ each ys i

  joined : (xs : List TaskStmt) → flat_map g (inner xs) ≡ flat_map parts xs
  joined xs = flat_flat by.task_statements g xs ∙ sym (each xs)

  pub parts-Run : (xs : List TaskStmt) → parts (t.Run xs) ≡ flat_map parts xs
  parts-Run xs = ap (flat_map g) (same (t.Run xs) ∙ by.statements-Run xs) ∙ joined xs

  pub parts-Block : (x : Block) → parts (t.Block x) ≡ flat_map parts x.body
  parts-Block x = ap (flat_map g) (same (t.Block x) ∙ by.statements-Block x ∙ by.statements-body x) ∙ joined x.body

  pub parts-Wait : parts t.Wait ≡ []
  parts-Wait = ap (flat_map g) (same t.Wait ∙ by.statements-Wait)

  pub parts-Throw : (n : ℕ) → parts (t.Throw n) ≡ g (Throw n) ++ []
  parts-Throw n = ap (flat_map g) (same (t.Throw n) ∙ by.statements-Throw n)

  pub parts-Assign : (at : Cell) (x : Expr) → parts (t.Assign at x) ≡ g (Assign at x) ++ []
  parts-Assign at x = ap (flat_map g) (same (t.Assign at x) ∙ by.statements-Assign at x)

  pub parts-Call : (x : call.Call) → parts (t.Call x) ≡ g (Call x) ++ []
  parts-Call x = ap (flat_map g) (same (t.Call x) ∙ by.statements-Call x)

  pub parts-Loop : (x : loops.Loop) → parts (t.Loop x) ≡ g (Loop x) ++ []
  parts-Loop x = ap (flat_map g) (same (t.Loop x) ∙ by.statements-Loop x)

-- the statements of a block, each with its parts
pub of_block : {A : Type 0} (g : Simple → List A) (x : Block) → flat_map g (block_statements x) ≡ flat_map (λ y. flat_map g (task_statements y)) x.body
of_block g x = ap (flat_map g) (by.statements-body x) ∙ joined g x.body

-- ---- whether what it uses is in scope

module _ (scope : Scope) where
  -- the answer for a statement
  abbrev missed : TaskStmt → Bool
  missed x = misses scope (task_names x)

  alone : (xs : List Name) → misses scope (xs ++ []) ≡ misses scope xs
  alone xs = ap (misses scope) (append-nil xs)

  pub missed-Run : (xs : List TaskStmt) → missed (t.Run xs) ≡ misses scope (flat_map task_names xs)
  unfolding task_names
  missed-Run xs = ap (misses scope) (parts-Run statement_names xs)

  pub missed-Wait : missed t.Wait ≡ false
  unfolding task_names
  missed-Wait = ap (misses scope) (parts-Wait statement_names) ∙ misses_none scope

  pub missed-Throw : (n : ℕ) → missed (t.Throw n) ≡ false
  unfolding task_names
  missed-Throw n = ap (misses scope) (parts-Throw statement_names n) ∙ misses_none scope

  pub missed-Assign : (at : Cell) (x : Expr) → missed (t.Assign at x) ≡ (misses scope (cell_names at) || misses scope (expr_names x))
  unfolding task_names
  missed-Assign at x = ap (misses scope) (parts-Assign statement_names at x) ∙ alone (cell_names at ++ expr_names x) ∙ misses_both scope (cell_names at) (expr_names x)

  pub missed-Call : (x : call.Call) → missed (t.Call x) ≡ misses scope (call_names x)
  unfolding task_names
  missed-Call x = ap (misses scope) (parts-Call statement_names x) ∙ alone (call_names x)

  pub missed-Loop : (x : loops.Loop) → missed (t.Loop x) ≡ misses scope (loop_names x)
  unfolding task_names
  missed-Loop x = ap (misses scope) (parts-Loop statement_names x) ∙ alone (loop_names x)

  pub missed-Block : (x : Block) → missed (t.Block x) ≡ misses scope (flat_map task_names x.body)
  unfolding task_names
  missed-Block x = ap (misses scope) (parts-Block statement_names x)

pub ruleset missed_parts = (missed-Run, missed-Wait, missed-Throw, missed-Assign, missed-Call, missed-Loop, missed-Block)

-- ---- whether its local names clash

module _ (scope : Scope) where
  clashes_none : clashes scope [] ≡ false
  unfolding clashes
  clashes_none = refl

  clashes_one : (locals : List Name) → clashes scope (locals ∷ []) ≡ repeats scope locals
  unfolding clashes
  clashes_one locals = or_false (clash (names_in scope) locals) ∙ sym (repeats_clash scope locals)

  pub clashes_both : (xs ys : List (List Name)) → clashes scope (xs ++ ys) ≡ (clashes scope xs || clashes scope ys)
  unfolding clashes
  clashes_both xs ys = list_any-append (clash (names_in scope)) xs ys

  no_locals : clashes scope ([] ∷ []) ≡ false
  unfolding clashes
  no_locals = refl

  -- the answer for a statement
  abbrev clashed : TaskStmt → Bool
  clashed x = clashes scope (task_locals x)

  pub clashed-Run : (xs : List TaskStmt) → clashed (t.Run xs) ≡ clashes scope (flat_map task_locals xs)
  unfolding task_locals
  clashed-Run xs = ap (clashes scope) (parts-Run (λ y. statement_locals y ∷ []) xs)

  pub clashed-Wait : clashed t.Wait ≡ false
  unfolding task_locals
  clashed-Wait = ap (clashes scope) (parts-Wait (λ y. statement_locals y ∷ [])) ∙ clashes_none

  pub clashed-Throw : (n : ℕ) → clashed (t.Throw n) ≡ false
  unfolding task_locals
  clashed-Throw n = ap (clashes scope) (parts-Throw (λ y. statement_locals y ∷ []) n) ∙ no_locals

  pub clashed-Assign : (at : Cell) (x : Expr) → clashed (t.Assign at x) ≡ false
  unfolding task_locals
  clashed-Assign at x = ap (clashes scope) (parts-Assign (λ y. statement_locals y ∷ []) at x) ∙ no_locals

  pub clashed-Call : (x : call.Call) → clashed (t.Call x) ≡ false
  unfolding task_locals
  clashed-Call x = ap (clashes scope) (parts-Call (λ y. statement_locals y ∷ []) x) ∙ no_locals

  pub clashed-Loop : (x : loops.Loop) → clashed (t.Loop x) ≡ repeats scope (loop_locals x)
  unfolding task_locals
  clashed-Loop x = ap (clashes scope) (parts-Loop (λ y. statement_locals y ∷ []) x) ∙ clashes_one (loop_locals x)

  pub clashed-Block : (x : Block) → clashed (t.Block x) ≡ clashes scope (flat_map task_locals x.body)
  unfolding task_locals
  clashed-Block x = ap (clashes scope) (parts-Block (λ y. statement_locals y ∷ []) x)

pub ruleset clashed_parts = (clashed-Run, clashed-Wait, clashed-Throw, clashed-Assign, clashed-Call, clashed-Loop, clashed-Block)

-- ---- loops that look at one statement after the other

-- the statements before this place have no clash
pub record Cleared (scope : Scope) (xs : List TaskStmt) (at : ℕ) : Type 0 where
  pub left : clashes scope (flat_map task_locals xs) ≡ clashes scope (flat_map task_locals (drop at xs))

split : (scope : Scope) (xs : List TaskStmt) (at : ℕ) (x : TaskStmt) → at < length xs → x ≡ get_or xs at x
    → clashes scope (flat_map task_locals (drop at xs)) ≡ (clashes scope (task_locals x) || clashes scope (flat_map task_locals (drop (at + 1) xs)))
split scope xs at x within is =
    let first : drop at xs ≡ x ∷ drop (at + 1) xs = drop_more xs at x within ∙ ap (λ y. y ∷ drop (at + 1) xs) (sym is) in
    ap (λ zs. clashes scope (flat_map task_locals zs)) first ∙ clashes_both scope (task_locals x) (flat_map task_locals (drop (at + 1) xs))

pub cleared_none : (scope : Scope) (xs : List TaskStmt) → Cleared scope xs 0
cleared_none scope xs = record { left = refl }

pub cleared_one : (scope : Scope) (xs : List TaskStmt) (at : ℕ) (x : TaskStmt) (r : Bool)
    → Cleared scope xs at → at < length xs → x ≡ get_or xs at x → r ≡ clashes scope (task_locals x) → r ≡ false → Cleared scope xs (at + 1)
cleared_one scope xs at x r h within is answer passed =
    record { left = h.left ∙ split scope xs at x within is ∙ ap (λ b. b || clashes scope (flat_map task_locals (drop (at + 1) xs))) (sym answer ∙ passed) }

pub cleared_found : (scope : Scope) (xs : List TaskStmt) (at : ℕ) (x : TaskStmt) (r : Bool)
    → Cleared scope xs at → at < length xs → x ≡ get_or xs at x → r ≡ clashes scope (task_locals x) → r ≡ true → true ≡ clashes scope (flat_map task_locals xs)
cleared_found scope xs at x r h within is answer failed =
    sym (h.left ∙ split scope xs at x within is ∙ ap (λ b. b || clashes scope (flat_map task_locals (drop (at + 1) xs))) (sym answer ∙ failed))

pub cleared_all : (scope : Scope) (xs : List TaskStmt) (at : ℕ) → Cleared scope xs at → length xs ≤ at → false ≡ clashes scope (flat_map task_locals xs)
cleared_all scope xs at h all = sym (h.left ∙ ap (λ zs. clashes scope (flat_map task_locals zs)) (drop_all at xs all) ∙ clashes_none scope)

pub ruleset turns = (cleared_none, cleared_one, cleared_found, cleared_all)
