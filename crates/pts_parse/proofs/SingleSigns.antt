-- Reading along a single sign: a word or symbol, a bracket, a name or a number.
use Rattle.std.proofs.Common.{◌≡◌, ℕ, zero, suc, ◌-◌, ◌<◌, Bool, true, false, if◌then◌else◌, List, [], ◌∷◌, length, Some, None, Result, Ok, Err, refl, sym, subst, ap, arith}
use Rattle.pts_tree.specs.declared.mark.Mark as mark_type
use Rattle.pts_tree.specs.declared.sign.SignKind.{SignKind}
use Rattle.pts_tree.specs.declared.sign.SignKind.TheVariants as k
use Rattle.pts_tree.specs.Signs.{Sign, Mark, Name, Number, kind_of}
use Rattle.pts_tree.specs.Grammar as g
use Rattle.pts_tree.specs.Grammar.{Rule, Part, Row, One, The, rows, same, has, Matches}
use Rattle.pts_parse.specs.declared.reader.Stop.{Stop}
use Rattle.pts_parse.specs.declared.reader.Stop.TheVariants as stops
use Rattle.pts_parse.specs.Brackets.{less, room_behind, beyond}
use Rattle.pts_parse.specs.Reading as reading
use Rattle.pts_parse.specs.Reading.{Read, Parser, and_then, ahead, past, unexpected, expect, open_bracket}
use Rattle.pts_parse.proofs.KindFacts.{one_kind}
use Rattle.pts_parse.proofs.Passes.{wrong_sign, right_sign, next_sign, Passes, at_bracket, Along, reads, Skips, skips, stuck, along_behind, along_unexpected, skips_unexpected, done}

-- ---- the next sign by its kind

pub mark_ahead : (n : mark_type.Mark) (ts : List Sign) → ahead ts ≡ k.Mark n → ts ≡ Mark n ∷ past ts
mark_ahead n [] e = absurd (cc)
mark_ahead n (Mark x ∷ ts) e = cc
mark_ahead n (Name text ∷ ts) e = absurd (cc)
mark_ahead n (Number zero ∷ ts) e = absurd (cc)
mark_ahead n (Number (suc zero) ∷ ts) e = absurd (cc)
mark_ahead n (Number (suc (suc x)) ∷ ts) e = absurd (cc)

-- a test for a word or symbol has found it
pub mark_seen : (n : mark_type.Mark) (ts : List Sign) → same (k.Mark n) (ahead ts) ≡ true → ahead ts ≡ k.Mark n
mark_seen n ts e = sym (one_kind (k.Mark n) (ahead ts) e)

pub one_ahead : (ts : List Sign) → ahead ts ≡ k.One → ts ≡ Number 1 ∷ past ts
one_ahead [] e = absurd (cc)
one_ahead (Mark x ∷ ts) e = absurd (cc)
one_ahead (Name text ∷ ts) e = absurd (cc)
one_ahead (Number zero ∷ ts) e = absurd (cc)
one_ahead (Number (suc zero) ∷ ts) e = refl
one_ahead (Number (suc (suc x)) ∷ ts) e = absurd (cc)

-- ---- passing one sign

beyond_past : (room room' : ℕ) (t : Sign) (ts : List Sign) → room_behind (kind_of t) room ≡ Some room' → beyond room (t ∷ ts) ≡ beyond room' ts
beyond_past room room' t ts e = ap (λ o. elim o [ None ↦ Some (suc (length ts)) | Some left ↦ beyond left ts ]) e

beyond_at : (room : ℕ) (t : Sign) (ts : List Sign) → room_behind (kind_of t) room ≡ None → beyond room (t ∷ ts) ≡ Some (suc (length ts))
beyond_at room t ts e = ap (λ o. elim o [ None ↦ Some (suc (length ts)) | Some left ↦ beyond left ts ]) e

-- a sign of one of these kinds
pub passes_sign : {room room' : ℕ} (ks : List SignKind) (t : Sign) (ts : List Sign) → has ks (kind_of t) ≡ true → room_behind (kind_of t) room ≡ Some room'
    → Passes (One ks ∷ []) room (t ∷ ts) room' ts
passes_sign {room = room} {room' = room'} ks t ts h e = record {
  stops = λ w more left s. next_sign h s;
  matches = λ v more p. g.sign h p;
  takes = omega arith;
  within = beyond_past room room' t ts e;
}

-- reading goes on behind a sign that was looked at
pub behind : {A : Type 0} {Q : A → List Sign → Type 0} {row : Row} {room room' room'' : ℕ} {ks : List SignKind} {o : Read A}
    (n : mark_type.Mark) (ts : List Sign) → ahead ts ≡ k.Mark n → has ks (k.Mark n) ≡ true → room_behind (k.Mark n) room ≡ Some room'
    → (ts ≡ Mark n ∷ past ts → Along row room' room'' Q (past ts) o) → Along (One ks ∷ row) room room'' Q ts o
behind {Q = Q} {row = row} {room = room} {room'' = room''} {ks = ks} {o = o} n ts e h b go =
    let i = mark_ahead n ts e in
    subst (λ us. Along (One ks ∷ row) room room'' Q us o) (sym i) (along_behind (One ks ∷ []) row (passes_sign ks (Mark n) (past ts) h b) (go i))

-- a value for a word or symbol
pub word_along : {A : Type 0} {Q : A → List Sign → Type 0} {room room' : ℕ} {ks : List SignKind} {x : A}
    (n : mark_type.Mark) (ts : List Sign) → ahead ts ≡ k.Mark n → has ks (k.Mark n) ≡ true → room_behind (k.Mark n) room ≡ Some room'
    → (ts ≡ Mark n ∷ past ts → Q x (past ts)) → Along (One ks ∷ []) room room' Q ts (Ok (x, past ts))
word_along n ts e h b q = behind n ts e h b (λ i. done (q i))

-- the number 1
pub one_along : {A : Type 0} {Q : A → List Sign → Type 0} {room : ℕ} {ks : List SignKind} {x : A}
    (ts : List Sign) → ahead ts ≡ k.One → has ks k.One ≡ true → (ts ≡ Number 1 ∷ past ts → Q x (past ts)) → Along (One ks ∷ []) room room Q ts (Ok (x, past ts))
one_along {Q = Q} {room = room} {ks = ks} {x = x} ts e h q =
    let i = one_ahead ts e in
    subst (λ us. Along (One ks ∷ []) room room Q us (Ok (x, past ts))) (sym i) (reads x (past ts) (q i) (passes_sign ks (Number 1) (past ts) h refl))

-- no sign of these kinds is next
pub not_along : {A : Type 0} {Q : A → List Sign → Type 0} {row : Row} {room room' : ℕ} {ks : List SignKind} {ts : List Sign} → has ks (ahead ts) ≡ false
    → Along (One ks ∷ row) room room' Q ts (unexpected ts)
not_along h = along_unexpected (λ more. wrong_sign h)

-- ---- the steps of reading

has_one : (y x : SignKind) (b : Bool) → same y x ≡ b → has (y ∷ []) x ≡ b
has_one y x true e = rw e refl
has_one y x false e = rw e refl

-- a word or symbol; for a closing bracket there is room for one more behind it
pub expect_along : {room room' : ℕ} (n : mark_type.Mark) (ts : List Sign) → room_behind (k.Mark n) room ≡ Some room'
    → Skips (g.mark n ∷ []) room room' (λ after. ts ≡ Mark n ∷ after) ts (expect n ts)
unfolding expect
expect_along {room = room} {room' = room'} n ts b = by (same (k.Mark n) (ahead ts)) refl
  where
    here : same (k.Mark n) (ahead ts) ≡ true → ahead ts ≡ k.Mark n → Skips (g.mark n ∷ []) room room' (λ after. ts ≡ Mark n ∷ after) ts (Ok (past ts))
    here h e =
        let i = mark_ahead n ts e in
        skips (past ts) i (subst (λ us. Passes (g.mark n ∷ []) room us room' (past ts)) (sym i)
        (passes_sign (k.Mark n ∷ []) (Mark n) (past ts) (has_one (k.Mark n) (k.Mark n) true (subst (λ x. same (k.Mark n) x ≡ true) e h)) b))

    by : (s : Bool) → same (k.Mark n) (ahead ts) ≡ s → Skips (g.mark n ∷ []) room room' (λ after. ts ≡ Mark n ∷ after) ts (if s then Ok (past ts) else unexpected ts)
    by true e = here e (sym (one_kind (k.Mark n) (ahead ts) e))
    by false e = skips_unexpected (λ more. wrong_sign (has_one (k.Mark n) (ahead ts) false e))

-- a bracket closes
pub close_along : (n : mark_type.Mark) (room : ℕ) (ts : List Sign) → ((left : ℕ) → room_behind (k.Mark n) left ≡ Some (suc left)) → 0 < room
    → Skips (g.mark n ∷ []) (room - 1) room (λ after. ts ≡ Mark n ∷ after) ts (expect n ts)
close_along n zero ts b l = absurd (omega arith)
close_along n (suc room) ts b l = rw (suc_less room) (expect_along n ts (b room))
  where
    suc_less : (left : ℕ) → suc left - 1 ≡ left
    suc_less left = omega arith

-- where no bracket may open, one that does is the fault
opens_too_many : (n : mark_type.Mark) (ts : List Sign) → room_behind (k.Mark n) 0 ≡ None
    → Skips (g.mark n ∷ []) 0 0 (λ after. (ts ≡ Mark n ∷ after) × (0 < 0)) ts (open_bracket 0 n ts)
unfolding open_bracket expect and_then
opens_too_many n ts b = by (same (k.Mark n) (ahead ts)) refl
  where
    here : same (k.Mark n) (ahead ts) ≡ true → ahead ts ≡ k.Mark n → Skips (g.mark n ∷ []) 0 0 (λ after. (ts ≡ Mark n ∷ after) × (0 < 0)) ts (Err (stops.Nesting (length ts)))
    here h e =
        let i = mark_ahead n ts e in
        subst (λ us. Skips (g.mark n ∷ []) 0 0 (λ after. (us ≡ Mark n ∷ after) × (0 < 0)) us (Err (stops.Nesting (length us)))) (sym i)
        (stuck (stops.Nesting (suc (length (past ts)))) (at_bracket (suc (length (past ts)))
        (λ more. right_sign (has_one (k.Mark n) (k.Mark n) true (subst (λ x. same (k.Mark n) x ≡ true) e h)))
        (beyond_at 0 (Mark n) (past ts) b)))

    by : (s : Bool) → same (k.Mark n) (ahead ts) ≡ s → Skips (g.mark n ∷ []) 0 0 (λ after. (ts ≡ Mark n ∷ after) × (0 < 0)) ts
        (and_then (if s then Ok (past ts) else unexpected ts) (λ rest. Err (stops.Nesting (length ts))))
    by true e = here e (sym (one_kind (k.Mark n) (ahead ts) e))
    by false e = skips_unexpected (λ more. wrong_sign (has_one (k.Mark n) (ahead ts) false e))

opens_bracket : (n : mark_type.Mark) (room : ℕ) (ts : List Sign) → room_behind (k.Mark n) (suc room) ≡ Some room
    → Skips (g.mark n ∷ []) (suc room) room (λ after. (ts ≡ Mark n ∷ after) × (0 < suc room)) ts (open_bracket (suc room) n ts)
unfolding open_bracket
opens_bracket n room ts b = by (expect n ts) (expect_along n ts b)
  where
    by : (o : Result (List Sign) Stop) → Skips (g.mark n ∷ []) (suc room) room (λ after. ts ≡ Mark n ∷ after) ts o
        → Skips (g.mark n ∷ []) (suc room) room (λ after. (ts ≡ Mark n ∷ after) × (0 < suc room)) ts o
    by _ (skips after q p) = skips after (q, omega arith) p
    by _ (stuck e f) = stuck e f

-- a bracket opens
pub open_along : (n : mark_type.Mark) (room : ℕ) (ts : List Sign) → ((left : ℕ) → room_behind (k.Mark n) left ≡ less left)
    → Skips (g.mark n ∷ []) room (room - 1) (λ after. (ts ≡ Mark n ∷ after) × (0 < room)) ts (open_bracket room n ts)
open_along n zero ts b = opens_too_many n ts (b 0)
open_along n (suc room) ts b = rw (suc_less room) (opens_bracket n room ts (b (suc room)))
  where
    suc_less : (left : ℕ) → suc left - 1 ≡ left
    suc_less left = omega arith

-- NAME
pub name_along : {room : ℕ} (ts : List Sign) → Along (g.name ∷ []) room room (λ x after. ts ≡ Name x ∷ after) ts (reading.name ts)
unfolding reading.name
name_along [] = not_along refl
name_along (Mark n ∷ ts) = not_along refl
name_along (Name text ∷ ts) = reads text ts refl (passes_sign (k.Name ∷ []) (Name text) ts refl refl)
name_along (Number zero ∷ ts) = not_along refl
name_along (Number (suc zero) ∷ ts) = not_along refl
name_along (Number (suc (suc n)) ∷ ts) = not_along refl

-- NUMBER
pub number_along : {room : ℕ} (ts : List Sign) → Along (g.number ∷ []) room room (λ x after. ts ≡ Number x ∷ after) ts (reading.number ts)
unfolding reading.number
number_along [] = not_along refl
number_along (Mark n ∷ ts) = not_along refl
number_along (Name text ∷ ts) = not_along refl
number_along (Number zero ∷ ts) = reads 0 ts refl (passes_sign (k.Number ∷ k.One ∷ []) (Number 0) ts refl refl)
number_along (Number (suc zero) ∷ ts) = reads 1 ts refl (passes_sign (k.Number ∷ k.One ∷ []) (Number 1) ts refl refl)
number_along (Number (suc (suc n)) ∷ ts) = reads (suc (suc n)) ts refl (passes_sign (k.Number ∷ k.One ∷ []) (Number (suc (suc n))) ts refl refl)
