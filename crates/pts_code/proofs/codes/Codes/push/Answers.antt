use Rattle.std.proofs.Common.{◌≡◌, List, [], ◌∷◌, ◌++◌, sym, ap, ◌∙◌, subst}
use Rattle.pts_rules.specs.Known.{Scope}
use Rattle.pts_code.specs.declared.code.Code.{Code}
use Rattle.pts_code.specs.declared.function.FunctionInfo.{FunctionInfo}
use Rattle.pts_code.specs.Compiling.{IsCompiled}
use Rattle.pts_code.specs.Functions.{with_signature}
use Rattle.pts_code.proofs.Scopes.{compiled_push}
use Rattle.pts_code.proofs.codes.Codes.push.Goals as goal

pub invariant_of-result : goal.invariant_of-result
invariant_of-result c =
    let functions = c.self.inside.functions.items in
    let codes = c.self.inside.codes.items in
    let scope = c.self.inside.scope in
    let f = c.args.function in
    let code = c.in_ok-code.code in
    let made : IsCompiled (functions ++ f ∷ []) (codes ++ code ∷ []) (with_signature scope f) = compiled_push functions codes scope f code c.self.invariant c.requires c.in_ok-code.ensures.code in
    let entered : c.enter_function.new.scope ≡ with_signature scope f =
    c.in_ok-enter_function.ensures ∙ ap (λ s. with_signature s f) c.in_ok-code.ensures.same in
    subst (λ (x : List FunctionInfo × List Code × Scope). IsCompiled x.0 x.1 x.2) (λ i. (sym c.in-Ok.ensures.functions i, sym c.in-Ok.ensures.codes i, sym entered i)) made
