-- Each step of an alarm keeps its rule.
use Rattle.std.proofs.Common.{◌≡◌, ℕ, ◌+◌, ◌%◌, ◌^◌, ◌<◌, ◌≤◌, Bool, true, false, cond, ltb, sym, refl, ap, ◌∙◌, subst, arith}
use Rattle.std.proofs.Math.Nat.{mod-eq_of_lt}
use Rattle.pts_boards.specs.declared.board.Terms.{Terms}
use Rattle.pts_boards.specs.declared.alarm.Raises.{Raises}
use Rattle.pts_boards.specs.Alarm.{raises, alarm_sort, Shows}
use Rattle.pts_boards.specs.Rule.{Leads, Moves}
use Rattle.pts_boards.proofs.Numbers.{pos_of_ltb}
use Rattle.pts_boards.proofs.Rule.{looks}

pub raise_move : (terms : Terms) (weight : ℕ) (k : Raises) → k.raised ≡ false → terms.shares ≤ 64
    → Moves alarm_sort terms weight k (λ n. (n + 1) % 2 ^ 64) (λ _ l. l ≡ raises (k.count + 1) true k.seen)
raise_move terms weight k first few word counted mark part =
    let unmarked : cond k.raised weight 0 ≡ 0 = ap (λ (b : Bool). cond b weight 0) first in
    let room : mark + weight ≤ terms.shares = subst (λ (b : Bool). mark + cond b 0 weight ≤ terms.shares) first part.room in
    let small : word + 1 < 2 ^ 64 = let a = part.agrees.1 in omega arith in
    let next : (word + 1) % 2 ^ 64 ≡ word + 1 = mod-eq_of_lt {n = word + 1} {m = 2 ^ 64} small in
    let l = raises (k.count + 1) true k.seen in
    let To : ℕ → Type 0 = λ n. Leads alarm_sort terms weight k word counted mark n (λ m. m ≡ l) in
    subst To (sym next) (
      l,
      (λ counted' mark' changed.
          let a = changed.counted_is 0 in
          let b = changed.mark_is in
          let c = part.agrees.0 in
          let d = part.agrees.1 in
          let e = part.some in (
            (omega arith, omega arith),
            (λ seen. omega arith),
            λ other fits seen. omega arith,
          )),
      refl,
    )

pub seen_look : (terms : Terms) (weight : ℕ) (k : Raises) → Moves alarm_sort terms weight k (λ n. n) (Shows terms.shares weight k)
seen_look terms weight k = looks alarm_sort terms weight k (Shows terms.shares weight k) (λ word counted mark part. (
  raises k.count k.raised (ltb 0 word),
  (λ x. refl),
  refl,
  (λ seen. pos_of_ltb word seen),
  record {
    known = refl;
    again = part.fits;
    own = (let a = part.held 0 in let b = part.agrees.0 in omega arith);
    whole = λ all. part.agrees.0 ∙ part.whole all 0;
  },
))
