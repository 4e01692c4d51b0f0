use Rattle.std.proofs.Common.{◌≡◌, ◌+◌, List, length, ap, ◌∙◌, subst, arith}
use Rattle.std.specs.Prelude.{IfOk}
use Rattle.pts_rules.specs.Known.{Scope}
use Rattle.pts_code.specs.declared.compiling.Spot.{Spot}
use Rattle.pts_code.specs.Compiling.{IsCode}
use Rattle.pts_code.proofs.Counted.{as_points}
use Rattle.pts_rules.specs.Counts.{reads}
use Rattle.pts_steps.proofs.Spots.{reads_length}
use Rattle.pts_steps.proofs.builder.Builder.compute.Goals as goal

pub code-requires : goal.code-requires
code-requires c =
    let longer : length c.reads.new.self.steps ≡ length c.args.self.now.steps + reads c.args.expr.now =
    ap (λ b. length b.steps) c.in_ok-reads.ensures.reads ∙ reads_length c.args.self.now (reads c.args.expr.now) in
    omega (arith, longer, as_points c.args.expr.now, c.len-first.ensures, c.in_ok-reads.ensures.number)

pub returns-clause-code : goal.returns-clause-code
returns-clause-code c =
    let is = c.in_ok-reads.ensures.reads in
    subst (λ (t : Scope × List Spot). IfOk c.code.result (λ code. IsCode t.0 t.1 c.args.kind (length c.args.self.now.steps) c.args.expr.now code)) (λ i. ((is i).names, (is i).spots))
    (subst (λ n. IfOk c.code.result (λ code. IsCode c.reads.new.self.names c.reads.new.self.spots c.args.kind n c.args.expr.now code)) c.len-first.ensures c.code.ensures)
