-- The two rules, item by item.
use Rattle.std.proofs.Common.{◌≡◌, Bool, true, false, List, [], ◌∷◌, ◌++◌, refl, sym, ap, ◌∙◌, append-nil}
use Rattle.std.specs.Prelude.{not, ◌||◌, flat_map}
use Rattle.std.specs.List.{list_any}
use Rattle.std.specs.Str.{bytes_eq}
use Rattle.std.proofs.lemmas.List.Folds.{list_any-append}
use Rattle.pts_tree.specs.declared.call.Call as call
use Rattle.pts_tree.specs.declared.loops.Loop as loops
use Rattle.pts_tree.specs.declared.block.Block.{Block}
use Rattle.pts_tree.specs.declared.script.ConstDecl.{ConstDecl}
use Rattle.pts_tree.specs.declared.script.ArrayDecl.{ArrayDecl}
use Rattle.pts_tree.specs.declared.script.FunctionDecl.{FunctionDecl}
use Rattle.pts_tree.specs.declared.script.Item.{Item}
use Rattle.pts_tree.specs.declared.script.Item.TheVariants as items
use Rattle.pts_rules.specs.Known.{Scope}
use Rattle.pts_rules.specs.Names.{has_repeat, meet, names_in, clash, is_unknown, is_twice}
use Rattle.pts_rules.specs.Parts.{Name, is_among, without, sum_names, start_names, expr_names, param_names, call_names, loop_names, loop_locals, statement_names, statement_locals, used_names}
use Rattle.pts_names.specs.Entered.{is_missing, misses, local, repeats, clashes, task_names, task_locals}
use Rattle.pts_names.proofs.Missing.{misses_both, or_false}
use Rattle.pts_names.proofs.Clashes.{repeats_clash}
use Rattle.pts_names.proofs.TaskNames.{of_block}

-- ---- names that are not in scope

module _ (scope : Scope) where
  by_names : (x : Item) → is_unknown scope x ≡ misses scope (used_names x)
  unfolding misses is_missing
  by_names x = refl

  pub unknown-Const : (x : ConstDecl) → is_unknown scope (items.Const x) ≡ misses scope (sum_names x.value)
  unknown-Const x = by_names (items.Const x)

  pub unknown-Array : (x : ArrayDecl) → is_unknown scope (items.Array x) ≡ (misses scope (sum_names x.length) || misses scope (start_names x.start))
  unknown-Array x = by_names (items.Array x) ∙ misses_both scope (sum_names x.length) (start_names x.start)

  pub unknown-Function : (x : FunctionDecl) → is_unknown scope (items.Function x) ≡ misses scope (without (param_names x.params) (expr_names x.body))
  unknown-Function x = by_names (items.Function x)

  pub unknown-Call : (x : call.Call) → is_unknown scope (items.Call x) ≡ misses scope (call_names x)
  unknown-Call x = by_names (items.Call x) ∙ ap (misses scope) (append-nil (call_names x))

  pub unknown-Loop : (x : loops.Loop) → is_unknown scope (items.Loop x) ≡ misses scope (loop_names x)
  unknown-Loop x = by_names (items.Loop x) ∙ ap (misses scope) (append-nil (loop_names x))

  pub unknown-Block : (x : Block) → is_unknown scope (items.Block x) ≡ misses scope (flat_map task_names x.body)
  unfolding task_names
  unknown-Block x = by_names (items.Block x) ∙ ap (misses scope) (of_block statement_names x)

  pub unknown-Print : (x : Name) → is_unknown scope (items.Print x) ≡ is_missing scope x
  unfolding is_missing
  unknown-Print x = or_false (not (is_among x (names_in scope)))

pub ruleset unknown_parts = (unknown-Const, unknown-Array, unknown-Function, unknown-Call, unknown-Loop, unknown-Block, unknown-Print)

-- ---- names that are declared again

not_twice : (b : Bool) → ((b || false) || false) ≡ not (not b)
not_twice true = refl
not_twice false = refl

turn : (a b : Bool) → (b || (a || false)) ≡ (a || b)
turn true true = refl
turn true false = refl
turn false true = refl
turn false false = refl

-- the last of the others may as well stand first
among_last : (y x : Name) (others : List Name) → is_among y (others ++ x ∷ []) ≡ is_among y (x ∷ others)
among_last y x others = list_any-append (bytes_eq y) others (x ∷ []) ∙ turn (bytes_eq y x) (list_any (bytes_eq y) others)

meets_last : (x : Name) (others xs : List Name) → meet xs (others ++ x ∷ []) ≡ meet xs (x ∷ others)
meets_last x others [] = refl
meets_last x others (y ∷ ys) = λ i. among_last y x others i || meets_last x others ys i

either : (a b : Bool) → ((a || false) || (b || false)) ≡ (a || b)
either true b = refl
either false b = or_false b

module _ (scope : Scope) where
  pub twice-Const : (x : ConstDecl) → is_twice scope (items.Const x) ≡ not (is_missing scope x.name)
  unfolding is_missing
  twice-Const x = not_twice (is_among x.name (names_in scope))

  pub twice-Array : (x : ArrayDecl) → is_twice scope (items.Array x) ≡ not (is_missing scope x.name)
  unfolding is_missing
  twice-Array x = not_twice (is_among x.name (names_in scope))

  pub twice-Function : (x : FunctionDecl) → is_twice scope (items.Function x) ≡ repeats scope (x.name ∷ param_names x.params)
  unfolding repeats
  twice-Function x =
      let others = names_in scope in
      let params = param_names x.params in
      either (is_among x.name others) (clash (others ++ x.name ∷ []) params)
      ∙ ap (λ b. is_among x.name others || b) (ap (λ b. has_repeat params || b) (meets_last x.name others params) ∙ sym (repeats_clash (local x.name ∷ scope) params))

  -- an item that declares no name
  of_locals : (locals : List (List Name)) → list_any (clash (names_in scope ++ [])) locals ≡ clashes scope locals
  unfolding clashes
  of_locals locals = ap (λ names. list_any (clash names) locals) (append-nil (names_in scope))

  pub twice-Loop : (x : loops.Loop) → is_twice scope (items.Loop x) ≡ repeats scope (loop_locals x)
  unfolding clashes
  twice-Loop x = of_locals (loop_locals x ∷ []) ∙ or_false (clash (names_in scope) (loop_locals x)) ∙ sym (repeats_clash scope (loop_locals x))

  pub twice-Block : (x : Block) → is_twice scope (items.Block x) ≡ clashes scope (flat_map task_locals x.body)
  unfolding task_locals
  twice-Block x = ap (list_any (clash (names_in scope ++ []))) (of_block (λ y. statement_locals y ∷ []) x) ∙ of_locals (flat_map task_locals x.body)

  pub twice-Call : (x : call.Call) → is_twice scope (items.Call x) ≡ false
  twice-Call x = refl

  pub twice-Print : (x : Name) → is_twice scope (items.Print x) ≡ false
  twice-Print x = refl

pub ruleset twice_parts = (twice-Const, twice-Array, twice-Function, twice-Call, twice-Loop, twice-Block, twice-Print)
