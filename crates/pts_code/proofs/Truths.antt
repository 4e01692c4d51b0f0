-- Truths that hold together.
use Rattle.std.proofs.Common.{IsTrue, Bool, true, false, ◌&&◌, refl}
use Rattle.std.proofs.lemmas.Bool.{false≢true}

pub and_left : (a b : Bool) → IsTrue (a && b) → IsTrue a
and_left true b h = refl
and_left false b h = h

pub and_right : (a b : Bool) → IsTrue (a && b) → IsTrue b
and_right true b h = h
and_right false b h = absurd (false≢true h)
