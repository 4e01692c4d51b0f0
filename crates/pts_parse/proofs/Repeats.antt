-- Loops that read a part as often as the next sign says that one follows.
use Rattle.std.proofs.Common.{◌≡◌, ℕ, zero, suc, ◌+◌, ◌-◌, ◌<◌, Bool, true, false, List, [], ◌∷◌, ◌++◌, Ok, Err, refl, ap, append_assoc, arith}
use Rattle.std.proofs.lemmas.List.{append-nil}
use Rattle.pts_tree.specs.declared.sign.SignKind.{SignKind}
use Rattle.pts_tree.specs.Signs.{Sign}
use Rattle.pts_parse.specs.declared.reader.Stop.{Stop}
use Rattle.pts_parse.specs.Reading.{Read, Parser, and_then, ahead, many}

-- what was read before stands in front of what is read
unfoldable pub with_front : {A : Type 0} → List A → Read (List A) → Read (List A)
with_front xs (Ok x) = Ok (xs ++ x.0, x.1)
with_front xs (Err e) = Err e

abbrev both : {A : Type 0} → List A → List Sign → Read (List A)
both xs ts = Ok (xs, ts)

none_before : {A : Type 0} (o : Read (List A)) → with_front [] o ≡ o
unfolding with_front
none_before (Ok x) = refl
none_before (Err e) = refl

-- before the first turn nothing was read
pub at_start : {A : Type 0} (sees : SignKind → Bool) (part : Parser A) (n : ℕ) (ts : List Sign) → with_front [] (many sees part (n - 0) ts) ≡ many sees part n ts
unfolding with_front
at_start sees part n ts = let e : n - 0 ≡ n = omega arith in rw e (none_before (many sees part n ts))

-- where no part follows, what was read is all
pub stops_here : {A : Type 0} (sees : SignKind → Bool) (part : Parser A) (xs : List A) (n : ℕ) (ts : List Sign) → sees (ahead ts) ≡ false → with_front xs (many sees part n ts) ≡ Ok (xs, ts)
unfolding with_front many
stops_here {A} sees part xs zero ts e = ap (λ (ys : List A). both ys ts) (append-nil xs)
stops_here {A} sees part xs (suc n) ts e = rw e (ap (λ (ys : List A). both ys ts) (append-nil xs))

left_over : (len turn : ℕ) → turn < len → len - turn ≡ suc (len - (turn + 1))
left_over len turn h = omega arith

-- a fault in a part is that of the whole
pub fails_here : {A : Type 0} (sees : SignKind → Bool) (part : Parser A) (xs : List A) (len turn : ℕ) (ts : List Sign) (e : Stop)
    → turn < len → sees (ahead ts) ≡ true → part ts ≡ Err e → with_front xs (many sees part (len - turn) ts) ≡ Err e
unfolding with_front many and_then
fails_here sees part xs len turn ts e h s f = rw (left_over len turn h, s, f) refl

one_before : {A : Type 0} (xs : List A) (x : A) (o : Read (List A)) → with_front (xs ++ x ∷ []) o ≡ with_front xs (and_then o (λ ys. Ok (x ∷ ys.0, ys.1)))
unfolding with_front and_then
one_before {A} xs x (Ok ys) = ap (λ (zs : List A). both zs ys.1) (append_assoc xs (x ∷ []) ys.0)
one_before xs x (Err e) = refl

-- a part that was read stands behind those before it
pub one_more : {A : Type 0} (sees : SignKind → Bool) (part : Parser A) (xs : List A) (len turn : ℕ) (ts : List Sign) (x : A) (rest : List Sign)
    → turn < len → sees (ahead ts) ≡ true → part ts ≡ Ok (x, rest) → with_front (xs ++ x ∷ []) (many sees part (len - (turn + 1)) rest) ≡ with_front xs (many sees part (len - turn) ts)
unfolding with_front many and_then
one_more {A} sees part xs len turn ts x rest h s f = rw (left_over len turn h, s, f) (one_before xs x (many sees part (len - (turn + 1)) rest))

-- behind the last turn what was read is all
pub at_end : {A : Type 0} (sees : SignKind → Bool) (part : Parser A) (xs : List A) (len turn : ℕ) (ts : List Sign) → turn ≡ len → with_front xs (many sees part (len - turn) ts) ≡ Ok (xs, ts)
unfolding with_front many
at_end {A} sees part xs len turn ts h = let e : len - turn ≡ 0 = omega arith in rw e (ap (λ (ys : List A). both ys ts) (append-nil xs))

pub ruleset loops = (at_start, stops_here, fails_here, one_more, at_end)
