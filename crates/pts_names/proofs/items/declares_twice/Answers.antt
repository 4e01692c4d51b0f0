use Rattle.std.proofs.Common.{◌≡◌, Bool, sym, ap, ◌∙◌, subst, IfOk}
use Rattle.std.specs.Prelude.{Result, not}
use Rattle.pts_tree.specs.declared.script.Item.{Item}
use Rattle.pts_rules.specs.Known.{Scope}
use Rattle.pts_rules.specs.Names as rules
use Rattle.pts_names.proofs.ItemNames.{twice-Const, twice-Array, twice-Function, twice-Loop}
use Rattle.pts_names.proofs.items.declares_twice.Goals as goal

-- the same answer, said of the item
said : {E : Type 0} (r : Result Bool E) (scope : Scope) (x y : Item) (b : Bool) → x ≡ y → rules.is_twice scope y ≡ b → IfOk r (λ a. a ≡ b)
    → IfOk r (λ a. a ≡ rules.is_twice scope x)
said r scope x y b is e h = subst (λ z. IfOk r (λ a. a ≡ z)) (sym (ap (rules.is_twice scope) is ∙ e)) h

pub returns-in-Const-clause-answer : goal.returns-in-Const-clause-answer
returns-in-Const-clause-answer c =
    ap not c.name_is_missing.ensures ∙ sym (ap (rules.is_twice c.args.scope.now) c.in-Const.is ∙ twice-Const c.args.scope.now c.in-Const.x)

pub returns-in-Array-clause-answer : goal.returns-in-Array-clause-answer
returns-in-Array-clause-answer c =
    ap not c.name_is_missing-in-Array.ensures ∙ sym (ap (rules.is_twice c.args.scope.now) c.in-Array.is ∙ twice-Array c.args.scope.now c.in-Array.x)

pub returns-in-Function-clause-answer : goal.returns-in-Function-clause-answer
returns-in-Function-clause-answer c =
    said c.function_repeats.result c.args.scope.now c.args.item.now _ _ c.in-Function.is (twice-Function c.args.scope.now c.in-Function.x) c.function_repeats.ensures.answer

pub returns-in-Loop-clause-answer : goal.returns-in-Loop-clause-answer
returns-in-Loop-clause-answer c =
    said c.loop_repeats.result c.args.scope.now c.args.item.now _ _ c.in-Loop.is (twice-Loop c.args.scope.now c.in-Loop.x) c.loop_repeats.ensures.answer
