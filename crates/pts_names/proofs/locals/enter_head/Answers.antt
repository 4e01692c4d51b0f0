use Rattle.std.proofs.Common.{◌∙◌, ap, [], ◌∷◌}
use Rattle.std.specs.Prelude.{flat_map}
use Rattle.pts_rules.specs.Parts.{clause_name}
use Rattle.pts_names.specs.Entered.{entered, repeats}
use Rattle.pts_names.proofs.Entering.{both_repeat, both_enter}
use Rattle.pts_names.proofs.locals.enter_head.Goals as goal

pub returns : goal.returns
returns c =
    let x = c.args.x.now in
    let same = ap (flat_map (λ c. clause_name c ∷ [])) c.as_slice.ensures in
    record {
      answer = both_repeat c.args.scope.now c.enter_local.new.scope (x.index ∷ []) (flat_map (λ c. clause_name c ∷ []) x.clauses) c.in_ok-again.again c.in_ok-again-2.field-0
          c.in_ok-again.ensures.answer c.in_ok-again.ensures.entered (c.in_ok-again-2.ensures.answer ∙ ap (repeats c.enter_local.new.scope) same);
      entered = both_enter c.args.scope.now c.enter_local.new.scope c.enter_clauses.new.scope (x.index ∷ []) (flat_map (λ c. clause_name c ∷ []) x.clauses)
          c.in_ok-again.ensures.entered (c.in_ok-again-2.ensures.entered ∙ ap (λ names. entered names c.enter_local.new.scope) same);
    }
