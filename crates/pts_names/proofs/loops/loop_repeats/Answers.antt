use Rattle.std.proofs.Common.{ap, ◌∙◌}
use Rattle.std.specs.Prelude.{flat_map}
use Rattle.pts_rules.specs.Parts.{head_locals, lets, loop_locals}
use Rattle.pts_names.specs.Entered.{repeats, entered}
use Rattle.pts_names.proofs.Entering.{left, over_names, both_repeat, both_enter}
use Rattle.pts_names.proofs.loops.loop_repeats.Goals as goal

pub returns : goal.returns
returns c =
    let before = c.args.scope.now in
    let inside = c.enter_head.new.scope in
    let head = head_locals c.args.x.now in
    let body = flat_map lets c.args.x.now.body in
    let same = ap (flat_map lets) c.as_slice.ensures in
    record {
      answer = both_repeat before inside head body c.in_ok-again.again c.in_ok-again-2.field-0 c.in_ok-again.ensures.answer c.in_ok-again.ensures.entered
          (c.in_ok-again-2.ensures.answer ∙ ap (repeats inside) same);
      same = left before c.enter_lets.new.scope c.leave.new.self c.len-mark.result
          (over_names (loop_locals c.args.x.now) before c.enter_lets.new.scope
          (both_enter before inside c.enter_lets.new.scope head body c.in_ok-again.ensures.entered (c.in_ok-again-2.ensures.entered ∙ ap (λ names. entered names inside) same)))
          c.len-mark.ensures c.leave.ensures;
    }
