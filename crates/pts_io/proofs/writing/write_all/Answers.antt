use Rattle.std.proofs.Common.{arith, rules, length, ap}
use Rattle.std.proofs.Math.Seq.{take-add}
use Rattle.std.proofs.lemmas.List.{take_rest}
use Rattle.std.proofs.KnownBytes.{Appends-trans}
use Rattle.pts_io.proofs.writing.write_all.Goals as goal

pub loop-done-preserved : goal.loop-done-preserved
loop-done-preserved g c =
    let taken = rw take_rest at c.in-Ok.ensures.taken in record {
      within = search rules;
      taken = rw take-add (Appends-trans _ _ _ _ _ c.loop-done.invariant.taken taken);
      counts = omega arith;
      untouched = λ none. absurd (omega (arith, ap length none));
    }
