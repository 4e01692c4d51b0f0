use Rattle.std.specs.Prelude.{◌≡◌, map, drop}
use Rattle.pts_types.specs.declared.value.Kind.TheVariants as kinds
use Rattle.pts_rules.specs.Kinds.{typing, each_fits, arguments_fit}
use Rattle.pts_kinds.specs.Shown.{typing_of}
use Rattle.pts_kinds.proofs.Operands.{Joined}
use Rattle.pts_kinds.proofs.exprs.«+expr».Given as goal

abbrev pub invariant-chain_typing-loop-part : goal.invariant-chain_typing-loop-part
invariant-chain_typing-loop-part l = Joined (λ y. typing l.reads l.scope y.operand) (typing_of l.fn.first) l.parts l.part-index (typing_of l.operands)

abbrev pub invariant-are_bools-loop-expr : goal.invariant-are_bools-loop-expr
invariant-are_bools-loop-expr l = each_fits kinds.Bool (map (typing l.reads l.scope) (drop l.expr-index l.exprs)) ≡ each_fits kinds.Bool (map (typing l.reads l.scope) l.exprs)

abbrev pub invariant-arguments_fit-loop-at : goal.invariant-arguments_fit-loop-at
invariant-arguments_fit-loop-at l =
    arguments_fit (drop l.at l.params) (map (typing l.reads l.scope) (drop l.at l.arguments)) ≡ arguments_fit l.params (map (typing l.reads l.scope) l.arguments)
