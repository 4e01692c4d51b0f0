use Rattle.std.proofs.Common.{◌≡◌, ◌≤◌, ◌<◌, ◌++◌, ◌∷◌, [], true, length, ap, sym, subst, ⊎_elim, arith}
use Rattle.std.specs.Prelude.{All}
use Rattle.std.proofs.lemmas.Bool.{cases_lt}
use Rattle.std.proofs.lemmas.List.{length_push}
use Rattle.pts_boards.specs.Seats.{ClaimSeatState}
use Rattle.pts_workers.proofs.Ascending.{no_more_than, ascends_more, below_more}
use Rattle.pts_workers.proofs.worker.draw.Goals as goal

pub push_reserved-requires : goal.push_reserved-requires
push_reserved-requires g c =
    let inv = c.loop-turn.invariant in
    let numbers = c.loop-turn.worker.numbers.items in
    let parts = c.args.claims.now.parts in
    let number = c.claim-number.result in
    let within : number < parts = ⊎_elim (λ (l : number < parts). l)
    (λ (l : parts ≤ number).
    let past : c.claim-number.new.seat.past ≡ true = ap (λ (v : ClaimSeatState). v.past) (c.claim-number.ensures.past l) in
    let test = c.past.ensures in
    let no = c.if-past.false in
    absurd (cc))
    (cases_lt number parts) in
    let below : All (λ x. x < number) numbers = subst (All (λ x. x < number)) (sym inv.listed) c.claim-number.ensures.ascends in
    let most = no_more_than (numbers ++ number ∷ []) parts (ascends_more numbers number inv.ascends below) (below_more numbers number parts inv.below within) in
    let one = length_push numbers number in
    let value = ap length c.as_slice.ensures.value in
    let len = c.as_slice.ensures.len in
    let room = inv.room in
    omega (arith, most, one, value, len, room)

pub returns : goal.returns
returns g c =
    let inv = c.loop-turn.invariant in
    let most = no_more_than c.loop-turn.worker.numbers.items c.args.claims.now.parts inv.ascends inv.below in
    let count = inv.count in
    let ends = c.loop-turn-test.false in
    let chunks = c.chunks.ensures in
    let wide = c.from-chunks.ensures in
    let parts = c.requires.parts in
    absurd (omega (arith, most, count, ends, chunks, wide, parts))
