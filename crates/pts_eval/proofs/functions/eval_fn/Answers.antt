use Rattle.std.proofs.Common.{sym, ap, ◌∙◌, subst}
use Rattle.pts_code.specs.Functions.{outcome_of}
use Rattle.pts_types.specs.Arithmetic.{GivesKind}
use Rattle.pts_code.proofs.TypedFunctions.{outcome_kind}
use Rattle.pts_program.proofs.TypedBodies.{bodies_typed}
use Rattle.pts_eval.proofs.functions.eval_fn.Goals as goal

pub returns-clause-kind : goal.returns-clause-kind
returns-clause-kind c f is has =
    subst (GivesKind f.kind) (sym (c.call.ensures ∙ ap (λ fs. outcome_of fs c.args.function c.args.args.now) c.codes.ensures))
    (outcome_kind c.args.program.now.functions c.args.function f c.args.args.now (bodies_typed c.args.program.now c.keeps_its_promises.ensures) is has)
