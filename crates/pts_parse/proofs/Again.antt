-- Reading what a part spells gives the part back and the signs behind it, or meets a bracket too many: the steps of this.
use Rattle.std.proofs.Common.{◌≡◌, ℕ, zero, suc, ◌+◌, ◌≤◌, Bool, true, false, if◌then◌else◌, List, [], ◌∷◌, length, Result, Ok, Err, refl, sym, arith, ◌∙◌, eqb, rules, true≢false}
use Rattle.std.proofs.Math.Dec.{eqb_refl}
use Rattle.std.specs.List.{list_all}
use Rattle.pts_tree.specs.declared.mark.Mark as mark
use Rattle.pts_tree.specs.declared.sign.SignKind.{SignKind}
use Rattle.pts_tree.specs.declared.sign.SignKind.TheVariants as k
use Rattle.pts_tree.specs.Marks.{place}
use Rattle.pts_tree.specs.Signs.{Sign, Mark, Name, Number, number_kind}
use Rattle.pts_tree.specs.Grammar.{same}
use Rattle.pts_tree.specs.Spelling.{Text, each}
use Rattle.pts_parse.specs.declared.reader.Stop.{Stop}
use Rattle.pts_parse.specs.declared.reader.Stop.TheVariants as stops
use Rattle.pts_parse.specs.Reading as reading
use Rattle.pts_parse.specs.Reading.{Parser, and_then, ahead, past, expect, open_bracket, many, each_of}
use Rattle.pts_parse.proofs.KindFacts.{and_both}

-- ---- what is given back

-- this value was read, and at least so many of the signs before are not among those after; or a bracket was one too many
pub data Gets {A : Type 0} (least : ℕ) (before after : List Sign) (value : A) : Result A Stop → Type 0 where
  got : length after + least ≤ length before → Gets least before after value (Ok value)
  nested : (left : ℕ) → Gets least before after value (Err (stops.Nesting left))

-- nothing is left to read
pub done : {A : Type 0} {ts : List Sign} {x : A} → Gets 0 ts ts x (Ok x)
done = got (omega arith)

-- a step, and what is read behind it, where fewer signs are left
pub next_down : {A B : Type 0} {least other : ℕ} {before mid after : List Sign} {x : A} {y : B} {o : Result A Stop} (f : A → Result B Stop)
    → Gets least before mid x o → (length mid + least ≤ length before → Gets other mid after y (f x)) → Gets least before after y (and_then o f)
unfolding and_then
next_down {least = least} {other = other} {before = before} {mid = mid} {after = after} f (got l) go = by (go l)
  where
    by : {B : Type 0} {y : B} {o : Result B Stop} → Gets other mid after y o → Gets least before after y o
    by (got h) = got (omega arith)
    by (nested left) = nested left
next_down f (nested left) go = nested left

-- a step, and what is read behind it
pub next : {A B : Type 0} {least other : ℕ} {before mid after : List Sign} {x : A} {y : B} {o : Result A Stop} (f : A → Result B Stop)
    → Gets least before mid x o → Gets other mid after y (f x) → Gets least before after y (and_then o f)
next f g h = next_down f g (λ l. h)

-- behind one sign that was looked at
pub behind_sign : {A : Type 0} {least : ℕ} {t : Sign} {ts after : List Sign} {x : A} {o : Result A Stop} → Gets least ts after x o → Gets 1 (t ∷ ts) after x o
behind_sign (got l) = got (omega arith)
behind_sign (nested left) = nested left

-- at least nothing was read
pub at_all : {A : Type 0} {least : ℕ} {before after : List Sign} {x : A} {o : Result A Stop} → Gets least before after x o → Gets 0 before after x o
at_all (got l) = got (omega arith)
at_all (nested left) = nested left

-- a test that holds
pub in_case : {A : Type 0} {least : ℕ} {before after : List Sign} {x : A} {one : Result A Stop} (other : Result A Stop) (b : Bool) → b ≡ true
    → Gets least before after x one → Gets least before after x (if b then one else other)
in_case other true e g = g
in_case other false e g = absurd (true≢false (sym e))

-- a test that fails
pub otherwise : {A : Type 0} {least : ℕ} {before after : List Sign} {x : A} {other : Result A Stop} (one : Result A Stop) (b : Bool) → b ≡ false
    → Gets least before after x other → Gets least before after x (if b then one else other)
otherwise one true e g = absurd (true≢false e)
otherwise one false e g = g

-- ---- single signs

same_place : (n : ℕ) → eqb n n ≡ true
same_place n = search (rules, eqb_refl)

pub same_mark : (n : mark.Mark) → same (k.Mark n) (k.Mark n) ≡ true
same_mark n = same_place (place n)

pub expect_again : (n : mark.Mark) (ts : List Sign) → Gets 1 (Mark n ∷ ts) ts ts (expect n (Mark n ∷ ts))
unfolding expect
expect_again n ts = in_case _ (same (k.Mark n) (k.Mark n)) (same_mark n) (got (omega arith))

-- a bracket opens, and what is inside of it is read where it may
pub open_again : {B : Type 0} {other : ℕ} {after : List Sign} {y : B} (f : List Sign → Result B Stop) (room : ℕ) (n : mark.Mark) (ts : List Sign)
    → ((less : ℕ) → room ≡ suc less → Gets other ts after y (f ts)) → Gets 1 (Mark n ∷ ts) after y (and_then (open_bracket room n (Mark n ∷ ts)) f)
unfolding open_bracket and_then
open_again {other = other} {after = after} {y = y} f zero n ts go = by (expect n (Mark n ∷ ts)) (expect_again n ts)
  where
    by : (o : Result (List Sign) Stop) → Gets 1 (Mark n ∷ ts) ts ts o → Gets 1 (Mark n ∷ ts) after y (and_then (and_then o (λ rest. Err (stops.Nesting (suc (length ts))))) f)
    by _ (got l) = nested (suc (length ts))
    by _ (nested left) = nested left
open_again f (suc room) n ts go = next f (expect_again n ts) (go room refl)

pub name_again : (text : List ℕ) (ts : List Sign) → Gets 1 (Name text ∷ ts) ts (text, ts) (reading.name (Name text ∷ ts))
unfolding reading.name
name_again text ts = got (omega arith)

pub number_again : (n : ℕ) (ts : List Sign) → Gets 1 (Number n ∷ ts) ts (n, ts) (reading.number (Number n ∷ ts))
unfolding reading.number
number_again n ts = got (omega arith)

-- what holds of both kinds of numbers
pub by_number : (P : SignKind → Type 0) → P k.Number → P k.One → (n : ℕ) → P (number_kind n)
by_number P a b zero = a
by_number P a b (suc zero) = b
by_number P a b (suc (suc n)) = a

-- ---- repeated parts

-- a fact of each element
pub data Each {A : Type 0} (P : A → Type 0) : List A → Type 0 where
  none : Each P []
  one : {x : A} {xs : List A} → P x → Each P xs → Each P (x ∷ xs)

pub each_so : {A : Type 0} {P : A → Type 0} → ((x : A) → P x) → (xs : List A) → Each P xs
each_so h [] = none
each_so h (x ∷ xs) = one (h x) (each_so h xs)

-- a fact of each element that passes a test, which all do
pub each_passed : {A : Type 0} {P : A → Type 0} (test : A → Bool) → ((x : A) → test x ≡ true → P x) → (xs : List A) → list_all test xs ≡ true → Each P xs
each_passed test h [] e = none
each_passed test h (x ∷ xs) e = let both = and_both (test x) (list_all test xs) e in one (h x both.0) (each_passed test h xs both.1)

-- from one fact of each element to another
pub each_to : {A : Type 0} {P Q : A → Type 0} {xs : List A} → ((x : A) → P x → Q x) → Each P xs → Each Q xs
each_to h none = none
each_to h (one p ps) = one (h _ p) (each_to h ps)

-- what is asked of a part that is read any number of times: its first sign says that it follows, it may stand behind another one, and it is given back before what may follow it
pub record Repeats {A : Type 0} (sees : SignKind → Bool) (Ends : List Sign → Type 0) (part : Parser A) (spell : A → Text) (x : A) : Type 0 where
  pub seen : (ts : List Sign) → sees (ahead (spell x ts)) ≡ true
  pub ends : (ts : List Sign) → Ends (spell x ts)
  pub back : (ts : List Sign) → Ends ts → Gets 1 (spell x ts) ts (x, ts) (part (spell x ts))

-- whatever follows
abbrev pub Anything : List Sign → Type 0
Anything ts = Unit {0}

filled : (sees : SignKind → Bool) (ts : List Sign) → sees k.End ≡ false → sees (ahead ts) ≡ true → 1 ≤ length ts
filled sees [] e h = absurd (true≢false (sym h ∙ e))
filled sees (t ∷ ts) e h = omega arith

pub many_again : {A : Type 0} {sees : SignKind → Bool} {Ends : List Sign → Type 0} {part : Parser A} {spell : A → Text} {xs : List A}
    → Each (Repeats sees Ends part spell) xs → sees k.End ≡ false → (tail : List Sign) → sees (ahead tail) ≡ false → Ends tail
    → (n : ℕ) → length (each spell xs tail) ≤ n → Gets 0 (each spell xs tail) tail (xs, tail) (many sees part n (each spell xs tail))
unfolding many
many_again none e tail h l zero less = done
many_again {sees = sees} none e tail h l (suc n) less = otherwise _ (sees (ahead tail)) h done
many_again {sees = sees} {spell = spell} (one {x = x} {xs = xs} r rs) e tail h l zero less =
    absurd (let f = filled sees (spell x (each spell xs tail)) e (r.seen (each spell xs tail)) in omega arith)
many_again {A = A} {sees = sees} {Ends = Ends} {part = part} {spell = spell} (one {x = x} {xs = xs} r rs) e tail h l (suc n) less =
    at_all (in_case _ (sees (ahead (spell x (each spell xs tail)))) (r.seen (each spell xs tail))
    (next_down _ (r.back (each spell xs tail) (follows rs)) (λ d. next _ (many_again rs e tail h l n (omega arith)) done)))
  where
    follows : {ys : List A} → Each (Repeats sees Ends part spell) ys → Ends (each spell ys tail)
    follows none = l
    follows (one {xs = ys} r rs) = r.ends (each spell ys tail)

-- a part any number of times
pub each_again : {A : Type 0} {sees : SignKind → Bool} {part : Parser A} {spell : A → Text} {xs : List A} (Ends : List Sign → Type 0)
    → Each (Repeats sees Ends part spell) xs → sees k.End ≡ false → (tail : List Sign) → sees (ahead tail) ≡ false → Ends tail
    → Gets 0 (each spell xs tail) tail (xs, tail) (each_of sees part (each spell xs tail))
each_again {spell = spell} {xs = xs} Ends rs e tail h l = many_again rs e tail h l (length (each spell xs tail)) (omega arith)

none_many : {A : Type 0} (sees : SignKind → Bool) (part : Parser A) (tail : List Sign) → sees (ahead tail) ≡ false → (n : ℕ) → Gets 0 tail tail ([], tail) (many sees part n tail)
unfolding many
none_many sees part tail h zero = done
none_many sees part tail h (suc n) = otherwise _ (sees (ahead tail)) h done

-- no part follows
pub none_again : {A : Type 0} (sees : SignKind → Bool) (part : Parser A) (tail : List Sign) → sees (ahead tail) ≡ false → Gets 0 tail tail ([], tail) (each_of sees part tail)
none_again {A} sees part tail h = none_many sees part tail h (length tail)
