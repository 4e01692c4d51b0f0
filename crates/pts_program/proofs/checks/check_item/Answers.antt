use Rattle.std.proofs.Common.{◌≤◌, ℕ, IsTrue, sym, subst, ◌∙◌}
use Rattle.pts_program.specs.declared.standing.Standing.{Standing}
use Rattle.pts_rules.specs.Indices.{is_out_at}
use Rattle.pts_program.proofs.Findings.{acceptable, fault_verdict, out_verdict, clean_verdict}
use Rattle.pts_program.proofs.checks.check_item.Goals as goal

pub returns-in-Some-clause-verdict : goal.returns-in-Some-clause-verdict
returns-in-Some-clause-verdict c = λ before h.
    fault_verdict before c.args.item.now c.args.standing.now c.args.number h c.in-Some.fault (sym c.in-Some.is ∙ c.in_ok-found.ensures.answer)

pub returns-in-Some-first_out-clause-verdict : goal.returns-in-Some-first_out-clause-verdict
returns-in-Some-first_out-clause-verdict c = λ before h.
    out_verdict before c.args.item.now c.args.standing.now c.args.number h c.in-Some-first_out.position (sym c.in_default.is ∙ c.in_ok-found.ensures.answer)
    (subst (λ (s : Standing). IsTrue (is_out_at s.scope c.args.item.now c.in-Some-first_out.position)) c.in_ok-found.ensures.same c.in-Some-first_out.ensures.0)
    (subst (λ (s : Standing). (q : ℕ) → IsTrue (is_out_at s.scope c.args.item.now q) → c.in-Some-first_out.position ≤ q) c.in_ok-found.ensures.same c.in-Some-first_out.ensures.1)

pub returns-clause-verdict : goal.returns-clause-verdict
returns-clause-verdict c = λ before h.
    clean_verdict before c.args.item.now c.args.standing.now c.args.number h _ (sym c.in_default.is ∙ c.in_ok-found.ensures.answer)
    (subst (λ (s : Standing). (p : ℕ) → ¬ IsTrue (is_out_at s.scope c.args.item.now p)) c.in_ok-found.ensures.same c.in_default-first_out.ensures)

pub returns-clause-acceptable : goal.returns-clause-acceptable
returns-clause-acceptable c =
    acceptable c.args.standing.now c.args.number c.args.item.now (sym c.in_default.is ∙ c.in_ok-found.ensures.answer)
    (subst (λ (s : Standing). (p : ℕ) → ¬ IsTrue (is_out_at s.scope c.args.item.now p)) c.in_ok-found.ensures.same c.in_default-first_out.ensures)
