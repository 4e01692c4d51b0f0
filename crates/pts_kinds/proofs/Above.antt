-- Scopes that have newer entries in front of another, and what is left without them.
use Rattle.std.proofs.Common.{◌≡◌, ◌+◌, ◌-◌, List, [], ◌∷◌, ◌++◌, length, drop, refl, ap, ◌∙◌, length-append}
use native.Mathlib.Omega.{arith}
use Rattle.pts_rules.specs.Known.{Entry, Scope}
use Rattle.pts_kinds.specs.Entered.{IsAbove}

pub above_same : (new old : Scope) → new ≡ old → IsAbove new old
above_same new old is = record { fresh = []; is = is }

pub above_one : (new old : Scope) (entry : Entry) → new ≡ entry ∷ old → IsAbove new old
above_one new old entry is = record { fresh = entry ∷ []; is = is }

append-assoc : (xs ys zs : List Entry) → xs ++ (ys ++ zs) ≡ (xs ++ ys) ++ zs
append-assoc [] ys zs = refl
append-assoc (x ∷ xs) ys zs = ap (λ s. x ∷ s) (append-assoc xs ys zs)

pub above_more : (new now old : Scope) → IsAbove new now → IsAbove now old → IsAbove new old
above_more new now old a b =
    let is : new ≡ (a.fresh ++ b.fresh) ++ old = a.is ∙ ap (λ s. a.fresh ++ s) b.is ∙ append-assoc a.fresh b.fresh old in
    record { fresh = a.fresh ++ b.fresh; is = is }

dropped : (xs old : List Entry) → drop (length xs) (xs ++ old) ≡ old
dropped [] old = refl
dropped (x ∷ xs) old = dropped xs old

-- without the newer entries
pub above_left : (new old : Scope) → IsAbove new old → drop (length new - length old) new ≡ old
above_left new old a =
    let long : length new ≡ length a.fresh + length old = ap length a.is ∙ length-append a.fresh old in
    let count : length new - length old ≡ length a.fresh = omega (arith, long) in
    ap (λ n. drop n new) count ∙ ap (drop (length a.fresh)) a.is ∙ dropped a.fresh old

-- without the entries in front
pub left_front : (fresh : List Entry) (now old : Scope) → now ≡ fresh ++ old → drop (length now - length old) now ≡ old
left_front fresh now old is = above_left now old (record { fresh = fresh; is = is })

pub ruleset above = (above_same, above_one, above_more, above_left)
