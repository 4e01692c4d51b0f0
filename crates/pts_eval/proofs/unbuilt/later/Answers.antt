use Rattle.std.proofs.Common.{Some, List, sym, ap, ◌∙◌}
use Rattle.std.specs.Prelude.{find, option_map}
use Rattle.pts_program.specs.declared.info.StatementInfo.{StatementInfo}
use Rattle.pts_eval.specs.Built.{is_later, item_of}
use Rattle.pts_eval.proofs.Finds.{find_here, find_step}
use Rattle.pts_eval.proofs.unbuilt.later.Goals as goal

pub returns-then-is_later : goal.returns-then-is_later
returns-then-is_later c =
    let program = c.args.program.now in
    let passes = sym c.is_later.ensures ∙ c.if-is_later.true in
    let found = find_here (is_later program) c.statements-statement-items.result.now c.loop-statement.statement-index _ c.loop-statement-test.true c.loop-statement.invariant passes in
    ap Some c.item_of.ensures ∙ sym (ap (λ (ss : List StatementInfo). option_map (item_of program) (find (is_later program) ss)) (sym c.statements-statement-items.ensures) ∙ ap (option_map (item_of program)) found)

pub loop-statement-preserved : goal.loop-statement-preserved
loop-statement-preserved c =
    let program = c.args.program.now in
    let fails = sym c.is_later.ensures ∙ c.if-is_later.false in
    find_step (is_later program) c.statements-statement-items.result.now c.loop-statement.statement-index _ c.loop-statement-test.true c.loop-statement.invariant fails
