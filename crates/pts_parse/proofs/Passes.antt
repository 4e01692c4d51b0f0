-- Reading along a row by the next sign alone: where it stops, what it passes, and how the steps of reading are put together.
use Rattle.std.proofs.Common.{◌≡◌, ℕ, suc, ◌+◌, ◌≤◌, ◌⊎◌, Bool, true, false, if◌then◌else◌, List, [], ◌∷◌, ◌++◌, length, Option, Some, None, Result, Ok, Err, IfSome, refl, sym, subst, ◌∙◌, arith, append_assoc}
use Rattle.pts_tree.specs.declared.sign.SignKind.{SignKind}
use Rattle.pts_tree.specs.Signs.{Sign, kind_of}
use Rattle.pts_tree.specs.Grammar.{Rule, Part, Row, One, The, Maybe, Many, rows, has, Among, Matches}
use Rattle.pts_parse.specs.declared.reader.Stop.{Stop}
use Rattle.pts_parse.specs.declared.reader.Stop.TheVariants as stops
use Rattle.pts_parse.specs.Brackets.{room_behind, beyond}
use Rattle.pts_parse.specs.Reading.{Read, and_then, ahead, unexpected}
use Rattle.pts_parse.proofs.Tables.{first, begins, least}

-- ---- stopping

-- each alternative but this one begins by other kinds
abbrev pub Alone : Row → List Row → SignKind → Type 0
Alone opened alternatives x = (other : Row) → Among other alternatives → (other ≡ opened) ⊎ (has (begins other) x ≡ false)

-- no alternative begins by this kind
abbrev pub NoneBegins : List Row → SignKind → Type 0
NoneBegins alternatives x = (other : Row) → Among other alternatives → has (begins other) x ≡ false

-- reading this row by the next sign alone stops where so many signs are left: with false at a sign that does not go on, with true at one that does
pub data Stops : Bool → Row → List Sign → ℕ → Type 0 where
  wrong_sign : {ks : List SignKind} {row : Row} {ts : List Sign} → has ks (ahead ts) ≡ false → Stops false (One ks ∷ row) ts (length ts)
  right_sign : {ks : List SignKind} {row : Row} {t : Sign} {ts : List Sign} → has ks (kind_of t) ≡ true → Stops true (One ks ∷ row) (t ∷ ts) (suc (length ts))
  next_sign : {w : Bool} {ks : List SignKind} {row : Row} {t : Sign} {ts : List Sign} {left : ℕ} → has ks (kind_of t) ≡ true → Stops w row ts left → Stops w (One ks ∷ row) (t ∷ ts) left
  none_chosen : {r : Rule} {row : Row} {ts : List Sign} → NoneBegins (rows r) (ahead ts) → Stops false (The r ∷ row) ts (length ts)
  chosen : {w : Bool} {r : Rule} {row : Row} {ts : List Sign} {left : ℕ} (opened : Row) → Among opened (rows r) → Alone opened (rows r) (ahead ts) → Stops w (opened ++ row) ts left → Stops w (The r ∷ row) ts left
  left_out : {w : Bool} {r : Rule} {row : Row} {ts : List Sign} {left : ℕ} → has (first r) (ahead ts) ≡ false → Stops w row ts left → Stops w (Maybe r ∷ row) ts left
  put_in : {w : Bool} {r : Rule} {row : Row} {ts : List Sign} {left : ℕ} → has (first r) (ahead ts) ≡ true → Stops w (The r ∷ row) ts left → Stops w (Maybe r ∷ row) ts left
  no_further : {w : Bool} {r : Rule} {row : Row} {ts : List Sign} {left : ℕ} → has (first r) (ahead ts) ≡ false → Stops w row ts left → Stops w (Many r ∷ row) ts left
  one_further : {w : Bool} {r : Rule} {row : Row} {ts : List Sign} {left : ℕ} → has (first r) (ahead ts) ≡ true → Stops w (The r ∷ Many r ∷ row) ts left → Stops w (Many r ∷ row) ts left
  too_many : {t : Sign} {ts : List Sign} → Stops false [] (t ∷ ts) (suc (length ts))

-- ---- passing

-- the signs from the first ones to the second ones spell this row, read by the next sign alone; and how the room for brackets changes
pub record Passes (row : Row) (room : ℕ) (before : List Sign) (room' : ℕ) (after : List Sign) : Type 0 where
  pub stops : (w : Bool) (more : Row) (left : ℕ) → Stops w more after left → Stops w (row ++ more) before left
  pub matches : (v : Bool) (more : Row) → Matches rows v more after → Matches rows v (row ++ more) before
  pub takes : length after + least row ≤ length before
  pub within : beyond room before ≡ beyond room' after

-- reading this row fails with this fault, and rightly so
pub data FailsBy (row : Row) (room : ℕ) (before : List Sign) : Stop → Type 0 where
  at_wrong : (left : ℕ) → ((more : Row) → Stops false (row ++ more) before left) → IfSome (beyond room before) (λ l. l ≤ left) → FailsBy row room before (stops.Unexpected left)
  at_bracket : (left : ℕ) → ((more : Row) → Stops true (row ++ more) before left) → beyond room before ≡ Some left → FailsBy row room before (stops.Nesting left)

-- what was read along this row is so, or the fault is right
pub data Along (row : Row) (room room' : ℕ) {A : Type 0} (Q : A → List Sign → Type 0) (before : List Sign) : Read A → Type 0 where
  reads : (x : A) (after : List Sign) → Q x after → Passes row room before room' after → Along row room room' Q before (Ok (x, after))
  fails : (e : Stop) → FailsBy row room before e → Along row room room' Q before (Err e)

-- the same for a step that reads no value
pub data Skips (row : Row) (room room' : ℕ) (Q : List Sign → Type 0) (before : List Sign) : Result (List Sign) Stop → Type 0 where
  skips : (after : List Sign) → Q after → Passes row room before room' after → Skips row room room' Q before (Ok after)
  stuck : (e : Stop) → FailsBy row room before e → Skips row room room' Q before (Err e)

-- ---- failing at once

-- a bracket too many is one of the signs
pub beyond_within : (room : ℕ) (ts : List Sign) → IfSome (beyond room ts) (λ l. l ≤ length ts)
beyond_within room [] = tt
beyond_within room (t ∷ ts) = by (room_behind (kind_of t) room) (λ left. beyond_within left ts)
  where
    wider : (o : Option ℕ) → IfSome o (λ l. l ≤ length ts) → IfSome o (λ l. l ≤ suc (length ts))
    wider None h = tt
    wider (Some l) h = omega arith

    by : (o : Option ℕ) → ((left : ℕ) → IfSome (beyond left ts) (λ l. l ≤ length ts)) → IfSome (elim o [ None ↦ Some (suc (length ts)) | Some left ↦ beyond left ts ]) (λ l. l ≤ suc (length ts))
    by None go = omega arith
    by (Some left) go = wider (beyond left ts) (go left)

-- the first sign does not go on
pub along_unexpected : {A : Type 0} {Q : A → List Sign → Type 0} {row : Row} {room room' : ℕ} {ts : List Sign}
    → ((more : Row) → Stops false (row ++ more) ts (length ts)) → Along row room room' Q ts (unexpected ts)
along_unexpected {room = room} {ts = ts} s = fails (stops.Unexpected (length ts)) (at_wrong (length ts) s (beyond_within room ts))

pub skips_unexpected : {Q : List Sign → Type 0} {row : Row} {room room' : ℕ} {ts : List Sign} → ((more : Row) → Stops false (row ++ more) ts (length ts))
    → Skips row room room' Q ts (unexpected ts)
skips_unexpected {room = room} {ts = ts} s = stuck (stops.Unexpected (length ts)) (at_wrong (length ts) s (beyond_within room ts))

-- ---- putting rows together

pub least-append : (a b : Row) → least (a ++ b) ≡ least a + least b
least-append [] b = omega arith
least-append (One ks ∷ a) b = omega (arith, least-append a b)
least-append (The r ∷ a) b = omega (arith, least-append a b)
least-append (Maybe r ∷ a) b = least-append a b
least-append (Many r ∷ a) b = least-append a b

pub passes_nothing : (room : ℕ) (ts : List Sign) → Passes [] room ts room ts
passes_nothing room ts = record { stops = λ w more left s. s; matches = λ v more h. h; takes = omega arith; within = refl }

-- one row passed behind another
pub passes_both : {room room' room'' : ℕ} {before mid after : List Sign} (front row : Row) → Passes front room before room' mid → Passes row room' mid room'' after
    → Passes (front ++ row) room before room'' after
passes_both {before = before} front row p q = record {
  stops = λ w more left s. rw (append_assoc front row more) (p.stops w (row ++ more) left (q.stops w more left s));
  matches = λ v more h. rw (append_assoc front row more) (p.matches v (row ++ more) (q.matches v more h));
  takes = omega (arith, p.takes, q.takes, least-append front row);
  within = p.within ∙ q.within;
}

-- a fault in the first part of a row
pub fails_first : {room : ℕ} {before : List Sign} {e : Stop} (front row : Row) → FailsBy front room before e → FailsBy (front ++ row) room before e
fails_first front row (at_wrong left s b) = at_wrong left (λ more. rw (append_assoc front row more) (s (row ++ more))) b
fails_first front row (at_bracket left s b) = at_bracket left (λ more. rw (append_assoc front row more) (s (row ++ more))) b

-- a fault behind a first part that was passed
pub fails_behind : {room room' : ℕ} {before mid : List Sign} {e : Stop} (front row : Row) → Passes front room before room' mid → FailsBy row room' mid e
    → FailsBy (front ++ row) room before e
fails_behind front row p (at_wrong left s b) =
    at_wrong left (λ more. rw (append_assoc front row more) (p.stops false (row ++ more) left (s more))) (subst (λ o. IfSome o (λ l. l ≤ left)) (sym p.within) b)
fails_behind front row p (at_bracket left s b) = at_bracket left (λ more. rw (append_assoc front row more) (p.stops true (row ++ more) left (s more))) (p.within ∙ b)

-- reading goes on behind a first part that was passed
pub along_behind : {A : Type 0} {Q : A → List Sign → Type 0} {room room' room'' : ℕ} {before mid : List Sign} {o : Read A} (front row : Row)
    → Passes front room before room' mid → Along row room' room'' Q mid o → Along (front ++ row) room room'' Q before o
along_behind front row p (reads x after q r) = reads x after q (passes_both front row p r)
along_behind front row p (fails e f) = fails e (fails_behind front row p f)

-- a step that reads several parts, and what is read behind it, where fewer signs are left
pub steps_down : {A B : Type 0} {front row : Row} {room room' room'' : ℕ} {QA : A → List Sign → Type 0} {Q : B → List Sign → Type 0} {before : List Sign} {o : Read A} {f : A × List Sign → Read B}
    → Along front room room' QA before o
    → ((x : A × List Sign) → QA x.0 x.1 → length x.1 + least front ≤ length before → Along row room' room'' Q x.1 (f x))
    → Along (front ++ row) room room'' Q before (and_then o f)
unfolding and_then
steps_down {front = front} {row = row} (reads x after q p) go = along_behind front row p (go (x, after) q p.takes)
steps_down {front = front} {row = row} (fails e f) go = fails e (fails_first front row f)

-- a step that reads several parts, and what is read behind it
pub steps : {A B : Type 0} {front row : Row} {room room' room'' : ℕ} {QA : A → List Sign → Type 0} {Q : B → List Sign → Type 0} {before : List Sign} {o : Read A} {f : A × List Sign → Read B}
    → Along front room room' QA before o
    → ((x : A × List Sign) → QA x.0 x.1 → Along row room' room'' Q x.1 (f x))
    → Along (front ++ row) room room'' Q before (and_then o f)
steps a go = steps_down a (λ x q less. go x q)

-- a step that reads one part, and what is read behind it
pub step : {A B : Type 0} {p : Part} {row : Row} {room room' room'' : ℕ} {QA : A → List Sign → Type 0} {Q : B → List Sign → Type 0} {before : List Sign} {o : Read A} {f : A × List Sign → Read B}
    → Along (p ∷ []) room room' QA before o
    → ((x : A × List Sign) → QA x.0 x.1 → Along row room' room'' Q x.1 (f x))
    → Along (p ∷ row) room room'' Q before (and_then o f)
step a go = steps a go

-- the same for steps that read no value
pub skip_all : {B : Type 0} {front row : Row} {room room' room'' : ℕ} {QA : List Sign → Type 0} {Q : B → List Sign → Type 0} {before : List Sign} {o : Result (List Sign) Stop} {f : List Sign → Read B}
    → Skips front room room' QA before o
    → ((after : List Sign) → QA after → Along row room' room'' Q after (f after))
    → Along (front ++ row) room room'' Q before (and_then o f)
unfolding and_then
skip_all {front = front} {row = row} (skips after q p) go = along_behind front row p (go after q)
skip_all {front = front} {row = row} (stuck e f) go = fails e (fails_first front row f)

pub skip : {B : Type 0} {p : Part} {row : Row} {room room' room'' : ℕ} {QA : List Sign → Type 0} {Q : B → List Sign → Type 0} {before : List Sign} {o : Result (List Sign) Stop} {f : List Sign → Read B}
    → Skips (p ∷ []) room room' QA before o
    → ((after : List Sign) → QA after → Along row room' room'' Q after (f after))
    → Along (p ∷ row) room room'' Q before (and_then o f)
skip a go = skip_all a go

skips_behind : {room room' room'' : ℕ} {Q : List Sign → Type 0} {before mid : List Sign} {o : Result (List Sign) Stop} (front row : Row)
    → Passes front room before room' mid → Skips row room' room'' Q mid o → Skips (front ++ row) room room'' Q before o
skips_behind front row p (skips after q r) = skips after q (passes_both front row p r)
skips_behind front row p (stuck e f) = stuck e (fails_behind front row p f)

-- two such steps
pub skips_both : {front row : Row} {room room' room'' : ℕ} {QA Q : List Sign → Type 0} {before : List Sign} {o : Result (List Sign) Stop} {f : List Sign → Result (List Sign) Stop}
    → Skips front room room' QA before o
    → ((after : List Sign) → QA after → Skips row room' room'' Q after (f after))
    → Skips (front ++ row) room room'' Q before (and_then o f)
unfolding and_then
skips_both {front = front} {row = row} (skips after q p) go = skips_behind front row p (go after q)
skips_both {front = front} {row = row} (stuck e f) go = stuck e (fails_first front row f)

-- nothing is left to read
pub done : {A : Type 0} {Q : A → List Sign → Type 0} {room : ℕ} {x : A} {ts : List Sign} → Q x ts → Along [] room room Q ts (Ok (x, ts))
done {room = room} {x = x} {ts = ts} q = reads x ts q (passes_nothing room ts)

-- what was read is the answer
pub last : {A : Type 0} {row : Row} {room room' : ℕ} {QA Q : A → List Sign → Type 0} {before : List Sign} {o : Read A}
    → Along row room room' QA before o → ((x : A) (after : List Sign) → QA x after → Q x after) → Along row room room' Q before o
last (reads x after q p) go = reads x after (go x after q) p
last (fails e f) go = fails e f

-- what was read is made into the answer
pub made : {A B : Type 0} {row : Row} {room room' : ℕ} {QA : A → List Sign → Type 0} {Q : B → List Sign → Type 0} {before : List Sign} {o : Read A}
    (f : A → B) → Along row room room' QA before o → ((x : A) (after : List Sign) → QA x after → Q (f x) after) → Along row room room' Q before (and_then o (λ x. Ok (f x.0, x.1)))
unfolding and_then
made f (reads x after q p) go = reads (f x) after (go x after q) p
made f (fails e g) go = fails e g

-- what is read goes by a test
pub test_along : {A : Type 0} {Q : A → List Sign → Type 0} {row : Row} {room room' : ℕ} {ts : List Sign} {one other : Read A}
    (b : Bool) → (b ≡ true → Along row room room' Q ts one) → (b ≡ false → Along row room room' Q ts other) → Along row room room' Q ts (if b then one else other)
test_along true f g = f refl
test_along false f g = g refl
