use Rattle.std.proofs.Common.{◌≡◌, Bool, true, false, List, [], ◌∷◌, map, refl, sym, ap, ◌∙◌}
use mir.Val.{bool_byte}
use lib.Lanes.{chunk}
use Rattle.pts_types.specs.Arithmetic.{number_of}
use Rattle.pts_lanes.proofs.Places.{eight-items}
use Rattle.pts_lanes.proofs.operations.as_numbers.Goals as goal

-- the code's number of a truth is the definition's
bytes-are : (l : List Bool) → map bool_byte l ≡ map number_of l
bytes-are [] = refl
bytes-are (true ∷ l) = ap (λ l. 1 ∷ l) (bytes-are l)
bytes-are (false ∷ l) = ap (λ l. 0 ∷ l) (bytes-are l)

pub returns : goal.returns
returns c =
    rw (c.from.ensures, c.from-2.ensures, c.from-3.ensures, c.from-4.ensures, c.from-5.ensures, c.from-6.ensures, c.from-7.ensures, c.from-8.ensures)
    (ap (map bool_byte) (sym (eight-items false c.args.truths.now c.args.at c.requires)) ∙ bytes-are (chunk c.args.at 8 c.args.truths.now))
