use Rattle.std.proofs.Common.{fold, ap, ◌∙◌}
use Rattle.std.proofs.lemmas.Result.{on_ok_weaker}
use Rattle.pts_steps.specs.Building.{with_clause}
use Rattle.pts_steps.proofs.LoopHeads.{head_above, head_same, head_stands}
use Rattle.pts_steps.proofs.builder.Builder.enter_loop.Goals as goal

pub returns : goal.returns
returns c =
    let x = c.args.x.now in
    let a = c.args.self.now in
    let b = c.enter_head.new.self in
    let before = c.enter_clauses.new.self in
    let behind = record before { kinds = c.enter.new.self } in
    let second = c.in_ok-enter_clauses.ensures ∙ ap (fold with_clause b) c.as_slice.ensures in
    record {
      stands = on_ok_weaker c.enter.result (λ e. head_stands x a b before behind c.requires c.in_ok-enter_head.ensures second (λ i. record before { kinds = e i })) c.enter.ensures;
      same = on_ok_weaker c.enter.result (λ e. head_same x a b before behind c.requires c.in_ok-enter_head.ensures second (λ i. record before { kinds = e i })) c.enter.ensures;
      above = on_ok_weaker c.enter.result (λ e. head_above x a b before behind c.requires c.in_ok-enter_head.ensures second (λ i. record before { kinds = e i })) c.enter.ensures;
    }
