use Rattle.pts_rules.specs.Parts.{head_locals}
use Rattle.pts_names.proofs.Entering.{left, over_more, over_names}
use Rattle.pts_names.proofs.LoopNames.{of_body}
use Rattle.pts_names.proofs.loops.loop_body_misses.Goals as goal

pub returns : goal.returns
returns c =
    let before = c.args.scope.now in
    let inside = c.enter_head.new.scope in
    record {
      answer = of_body before inside c.args.x.now c.as_slice.result.now c.in_ok-missing.missing c.in_ok-_again.ensures.entered c.as_slice.ensures c.in_ok-missing.ensures.answer;
      same = left before c.stmts_miss.new.scope c.leave.new.self c.len-mark.result
          (over_more before inside c.stmts_miss.new.scope (over_names (head_locals c.args.x.now) before inside c.in_ok-_again.ensures.entered) c.in_ok-missing.ensures.over)
          c.len-mark.ensures c.leave.ensures;
    }
