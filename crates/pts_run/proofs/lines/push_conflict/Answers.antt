use Rattle.pts_run.proofs.Texts.{three}
use Rattle.pts_run.proofs.lines.push_conflict.Goals as goal

pub returns : goal.returns
returns c =
    three c.args.text.now.items _ _ _ _ _ _ c.in_ok-extend_from_slice.ensures.items c.in_ok-push_number.ensures c.in_ok-push_place.ensures
