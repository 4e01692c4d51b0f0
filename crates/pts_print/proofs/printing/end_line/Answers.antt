use Rattle.std.proofs.Common.{arith}
use Rattle.pts_print.proofs.Lines.{last_set}
use Rattle.pts_print.proofs.printing.end_line.Goals as goal

pub returns : goal.returns
returns c front e = last_set front c.args.out.now.items _ e (omega (arith, c.len-last.ensures, c.args.out.now.ok.0))
