use Rattle.std.proofs.Common.{sym, ap, ◌∙◌}
use Rattle.std.specs.Option.{option_or}
use Rattle.pts_program.specs.Faults.{first_fault}
use Rattle.pts_program.specs.Findings.{limit_rules, name_rules, step_rules}
use Rattle.pts_program.proofs.Findings.{later}
use Rattle.pts_program.proofs.checks.tested_fault.Goals as goal

pub returns-in-None-clause-answer : goal.returns-in-None-clause-answer
returns-in-None-clause-answer c =
    later (first_fault c.args.number (name_rules c.args.standing.now.scope c.args.item.now)) _ _
    (sym c.in-None.is ∙ c.in_ok-fault.ensures.answer)
    (c.later_fault.ensures
    ∙ ap (λ scope. option_or (first_fault c.args.number (limit_rules (record c.args.standing.now { scope = scope }) c.args.item.now)) (first_fault c.args.number (step_rules scope c.args.item.now))) c.in_ok-fault.ensures.same)
