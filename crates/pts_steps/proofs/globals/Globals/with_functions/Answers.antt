use Rattle.std.proofs.Common.{sym, ap, ◌∙◌, subst}
use Rattle.std.specs.Prelude.{fold}
use Rattle.pts_code.specs.Functions.{with_signature}
use Rattle.pts_steps.specs.Scopes.{HasNoLocals}
use Rattle.pts_steps.proofs.GlobalNames.{functions_free}
use Rattle.pts_steps.proofs.globals.Globals.with_functions.Goals as goal

pub invariant_of-result : goal.invariant_of-result
invariant_of-result c =
    let fs = c.args.functions.now in
    record {
      free = subst HasNoLocals (sym c.in_ok-enter_functions.ensures) (functions_free c.self.inside.globals fs c.self.invariant.free);
      same_kinds = c.in_ok-enter_functions-2.ensures ∙ ap (λ s. fold with_signature s fs) c.self.invariant.same_kinds ∙ sym c.in_ok-enter_functions.ensures;
      same_names = c.in_ok-enter_functions-3.ensures ∙ ap (λ s. fold with_signature s fs) c.self.invariant.same_names ∙ sym c.in_ok-enter_functions.ensures;
    }
