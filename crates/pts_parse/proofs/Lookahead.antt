-- Reading by the next sign alone stops at the right sign: the signs before it begin the row, and with it they begin none.
use Rattle.std.proofs.Common.{◌≡◌, ℕ, suc, ◌-◌, ◌<◌, ◌≤◌, ◌⊎◌, inl, inr, Bool, true, false, List, [], ◌∷◌, ◌++◌, length, take, drop, refl, sym, subst, arith, append-nil, take-append-drop, length-drop, true≢false}
use Rattle.pts_tree.specs.declared.sign.SignKind.{SignKind}
use Rattle.pts_tree.specs.Signs.{Sign, kind_of}
use Rattle.pts_tree.specs.Grammar.{Rule, Row, One, The, Maybe, Many, rows, has, Among, Matches, whole, ends, sign, opens, without, with_it, no_more, one_more, IsPhrase, IsViable}
use Rattle.pts_parse.specs.Reading.{ahead}
use Rattle.pts_parse.proofs.Tables.{first, tail, begins, solid}
use Rattle.pts_parse.proofs.KindFacts.{clash, fit, no_end}
use Rattle.pts_parse.proofs.LawfulRows.{starts, opened_begins, Lawful, lawful_of, lawful_opened, lawful_again}
use Rattle.pts_parse.proofs.Passes.{Stops, wrong_sign, right_sign, next_sign, none_chosen, chosen, left_out, put_in, no_further, one_further, too_many}

-- ---- the place

pub left_within : (w : Bool) (row : Row) (ts : List Sign) (left : ℕ) → Stops w row ts left → left ≤ length ts
left_within _ _ ts _ (wrong_sign h) = omega arith
left_within _ _ _ _ (right_sign h) = omega arith
left_within w _ _ left (next_sign {row = row} {ts = ts} h s) = omega (arith, left_within w row ts left s)
left_within _ _ ts _ (none_chosen f) = omega arith
left_within w _ ts left (chosen {row = row} opened i a s) = left_within w (opened ++ row) ts left s
left_within w _ ts left (left_out {row = row} h s) = left_within w row ts left s
left_within w _ ts left (put_in {r = r} {row = row} h s) = left_within w (The r ∷ row) ts left s
left_within w _ ts left (no_further {row = row} h s) = left_within w row ts left s
left_within w _ ts left (one_further {r = r} {row = row} h s) = left_within w (The r ∷ Many r ∷ row) ts left s
left_within _ _ _ _ too_many = omega arith

-- at a sign that goes on, there is one
pub left_positive : (row : Row) (ts : List Sign) (left : ℕ) → Stops true row ts left → 0 < left
left_positive _ _ _ (right_sign h) = omega arith
left_positive _ _ left (next_sign {row = row} {ts = ts} h s) = left_positive row ts left s
left_positive _ ts left (chosen {row = row} opened i a s) = left_positive (opened ++ row) ts left s
left_positive _ ts left (left_out {row = row} h s) = left_positive row ts left s
left_positive _ ts left (put_in {r = r} {row = row} h s) = left_positive (The r ∷ row) ts left s
left_positive _ ts left (no_further {row = row} h s) = left_positive row ts left s
left_positive _ ts left (one_further {r = r} {row = row} h s) = left_positive (The r ∷ Many r ∷ row) ts left s

-- ---- what stands before the place begins the row

-- with true, the sign at the place too
abbrev pub with_place : Bool → ℕ → ℕ
with_place false n = n
with_place true n = suc n

take_here : {A : Type 0} (n : ℕ) (ts : List A) → n ≡ 0 → take n ts ≡ []
take_here n ts e = rw e refl

take_next : {A : Type 0} (m n : ℕ) (t : A) (ts : List A) → n ≡ suc m → take n (t ∷ ts) ≡ t ∷ take m ts
take_next m n t ts e = rw e refl

next_place : (w : Bool) (n left : ℕ) → left ≤ n → with_place w (suc n - left) ≡ suc (with_place w (n - left))
next_place false n left l = omega arith
next_place true n left l = omega arith

pub viable : (w : Bool) (row : Row) (ts : List Sign) (left : ℕ) → Stops w row ts left → Matches rows false row (take (with_place w (length ts - left)) ts)
viable _ (One ks ∷ row) ts _ (wrong_sign h) = rw (take_here (length ts - length ts) ts (omega arith)) ends
viable _ (One ks ∷ row) (t ∷ ts) _ (right_sign h) = rw (take_next 0 (suc (suc (length ts) - suc (length ts))) t ts (omega arith)) (sign h ends)
viable w _ _ left (next_sign {row = row} {t = t} {ts = ts} h s) =
    rw (take_next (with_place w (length ts - left)) (with_place w (suc (length ts) - left)) t ts (next_place w (length ts) left (left_within w row ts left s))) (sign h (viable w row ts left s))
viable _ (The r ∷ row) ts _ (none_chosen f) = rw (take_here (length ts - length ts) ts (omega arith)) ends
viable w _ ts left (chosen {row = row} opened i a s) = opens opened i (viable w (opened ++ row) ts left s)
viable w _ ts left (left_out {row = row} h s) = without (viable w row ts left s)
viable w _ ts left (put_in {r = r} {row = row} h s) = with_it (viable w (The r ∷ row) ts left s)
viable w _ ts left (no_further {row = row} h s) = no_more (viable w row ts left s)
viable w _ ts left (one_further {r = r} {row = row} h s) = one_more (viable w (The r ∷ Many r ∷ row) ts left s)
viable _ _ (t ∷ ts) _ too_many = rw (take_here (suc (length ts) - suc (length ts)) (t ∷ ts) (omega arith)) ends

-- ---- what goes beyond the place begins it not

-- signs that stop at once stop at a part that cannot be left out
stops_solid : (row : Row) (ts : List Sign) (left : ℕ) → Stops false row ts left → ts ≡ [] → solid row ≡ true
stops_solid _ _ _ (wrong_sign h) e = refl
stops_solid _ _ _ (next_sign h s) e = refl
stops_solid _ _ _ (none_chosen f) e = refl
stops_solid _ _ _ (chosen opened i a s) e = refl
stops_solid _ ts left (left_out {row = row} h s) e = stops_solid row ts left s e
stops_solid _ ts left (put_in {r = r} h s) e = clash (subst (λ us. has (first r) (ahead us) ≡ true) e h) (no_end r)
stops_solid _ ts left (no_further {row = row} h s) e = stops_solid row ts left s e
stops_solid _ ts left (one_further {r = r} h s) e = clash (subst (λ us. has (first r) (ahead us) ≡ true) e h) (no_end r)
stops_solid _ _ _ too_many e = absurd (cc)

solid_front : (a b : Row) → solid (a ++ b) ≡ false → solid a ≡ false
solid_front [] b e = refl
solid_front (One ks ∷ a) b e = e
solid_front (The r ∷ a) b e = e
solid_front (Maybe r ∷ a) b e = solid_front a b e
solid_front (Many r ∷ a) b e = solid_front a b e

-- no sign is the whole of a row only where each part may be left out
hollow : (v : Bool) (row : Row) (ts : List Sign) → Matches rows v row ts → v ≡ true → ts ≡ [] → solid row ≡ false
hollow _ _ _ whole b e = refl
hollow _ _ _ ends b e = absurd (true≢false (sym b))
hollow _ _ _ (sign h p) b e = absurd (cc)
hollow v _ ts (opens {r = r} {row = row} opened i p) b e = clash (fit r opened i).filled (solid_front opened row (hollow v (opened ++ row) ts p b e))
hollow v _ ts (without {row = row} p) b e = hollow v row ts p b e
hollow v _ ts (with_it {r = r} {row = row} p) b e = absurd (true≢false (hollow v (The r ∷ row) ts p b e))
hollow v _ ts (no_more {row = row} p) b e = hollow v row ts p b e
hollow v _ ts (one_more {r = r} {row = row} p) b e = absurd (true≢false (hollow v (The r ∷ Many r ∷ row) ts p b e))

-- a front of the signs, behind which these are left, goes beyond the place; or it is all of them, and shall be the whole of the row
abbrev pub Far : Bool → List Sign → ℕ → Type 0
Far v us left = (length us < left) ⊎ ((v ≡ true) × (us ≡ []))

-- one part taken off the front
from_sign : (v : Bool) (ks : List SignKind) (row : Row) (t : Sign) (ts : List Sign) → Matches rows v (One ks ∷ row) (t ∷ ts) → Matches rows v row ts
from_sign v ks row t ts (sign h p) = p

from_rule : (v : Bool) (r : Rule) (row : Row) (t : Sign) (ts : List Sign) → Matches rows v (The r ∷ row) (t ∷ ts)
    → (opened : Row) × Among opened (rows r) × Matches rows v (opened ++ row) (t ∷ ts)
from_rule v r row t ts (opens opened i p) = (opened, i, p)

from_maybe : (v : Bool) (r : Rule) (row : Row) (t : Sign) (ts : List Sign) → Matches rows v (Maybe r ∷ row) (t ∷ ts)
    → Matches rows v row (t ∷ ts) ⊎ Matches rows v (The r ∷ row) (t ∷ ts)
from_maybe v r row t ts (without p) = inl p
from_maybe v r row t ts (with_it p) = inr p

from_many : (v : Bool) (r : Rule) (row : Row) (t : Sign) (ts : List Sign) → Matches rows v (Many r ∷ row) (t ∷ ts)
    → Matches rows v row (t ∷ ts) ⊎ Matches rows v (The r ∷ Many r ∷ row) (t ∷ ts)
from_many v r row t ts (no_more p) = inl p
from_many v r row t ts (one_more p) = inr p

-- no sign at all
never_empty : (row : Row) (ts : List Sign) (left : ℕ) → Stops false row ts left → (v : Bool) → Far v ts left → Matches rows v row [] → ⊥
never_empty row ts left s v (inl l) p = absurd (omega (arith, left_within false row ts left s))
never_empty row ts left s v (inr b) p = clash (stops_solid row ts left s b.1) (hollow v row [] p b.0 refl)

pub never : (row : Row) (ts : List Sign) (left : ℕ) → Stops false row ts left → Lawful row → (v : Bool) (ps us : List Sign) → ts ≡ ps ++ us → Far v us left
    → Matches rows v row ps → ⊥
never row ts left s l v [] us e far p = never_empty row ts left s v (subst (λ xs. Far v xs left) (sym e) far) p
never _ ts _ (wrong_sign {ks = ks} {row = row} h) l v (x ∷ ps) us e far p =
    clash (starts v (One ks ∷ row) (x ∷ ps) p (omega arith)) (subst (λ xs. has ks (ahead xs) ≡ false) e h)
never _ _ left (next_sign {ks = ks} {row = row} {t = t} {ts = ts} h s) l v (x ∷ ps) us e far p =
    never row ts left s l v ps us (cc) far (from_sign v ks row x ps p)
never _ ts _ (none_chosen {r = r} {row = row} f) l v (x ∷ ps) us e far p =
    let o = from_rule v r row x ps p in
    clash (opened_begins r o.0 row (kind_of x) o.1 (starts v (o.0 ++ row) (x ∷ ps) o.2 (omega arith))) (subst (λ xs. has (begins o.0) (ahead xs) ≡ false) e (f o.0 o.1))
never _ ts left (chosen {r = r} {row = row} opened i a s) l v (x ∷ ps) us e far p =
    let o = from_rule v r row x ps p in
    elim (a o.0 o.1) [
      | inl q ↦ never (opened ++ row) ts left s (lawful_opened r opened row i l) v (x ∷ ps) us e far (subst (λ z. Matches rows v (z ++ row) (x ∷ ps)) q o.2)
      | inr f ↦ clash (opened_begins r o.0 row (kind_of x) o.1 (starts v (o.0 ++ row) (x ∷ ps) o.2 (omega arith))) (subst (λ xs. has (begins o.0) (ahead xs) ≡ false) e f)
    ]
never _ ts left (left_out {r = r} {row = row} h s) l v (x ∷ ps) us e far p =
    elim (from_maybe v r row x ps p) [
      | inl q ↦ never row ts left s l.2 v (x ∷ ps) us e far q
      | inr q ↦ clash (starts v (The r ∷ row) (x ∷ ps) q (omega arith)) (subst (λ xs. has (first r) (ahead xs) ≡ false) e h)
    ]
never _ ts left (put_in {r = r} {row = row} h s) l v (x ∷ ps) us e far p =
    elim (from_maybe v r row x ps p) [
      | inl q ↦ l.0 (kind_of x) (subst (λ xs. has (first r) (ahead xs) ≡ true) e h) (starts v row (x ∷ ps) q (omega arith))
      | inr q ↦ never (The r ∷ row) ts left s (l.1, l.2) v (x ∷ ps) us e far q
    ]
never _ ts left (no_further {r = r} {row = row} h s) l v (x ∷ ps) us e far p =
    elim (from_many v r row x ps p) [
      | inl q ↦ never row ts left s l.3 v (x ∷ ps) us e far q
      | inr q ↦ clash (starts v (The r ∷ Many r ∷ row) (x ∷ ps) q (omega arith)) (subst (λ xs. has (first r) (ahead xs) ≡ false) e h)
    ]
never _ ts left (one_further {r = r} {row = row} h s) l v (x ∷ ps) us e far p =
    elim (from_many v r row x ps p) [
      | inl q ↦ l.1 (kind_of x) (subst (λ xs. has (first r) (ahead xs) ≡ true) e h) (starts v row (x ∷ ps) q (omega arith))
      | inr q ↦ never (The r ∷ Many r ∷ row) ts left s (lawful_again r row l) v (x ∷ ps) us e far q
    ]
never _ _ _ (too_many {t = t} {ts = ts}) l v (x ∷ ps) us e far p = clash (starts v [] (x ∷ ps) p (omega arith)) refl

-- ---- scripts

script_lawful : Lawful (The Rule.script ∷ [])
unfolding tail
script_lawful = lawful_of (The Rule.script ∷ []) refl

-- what reading a script by the next sign alone, and stopping at a wrong sign, says of the signs
pub record WrongAt (ts : List Sign) (left : ℕ) : Type 0 where
  pub within : left ≤ length ts
  pub before : IsViable (take (length ts - left) ts)
  pub wrong : 0 < left → IsViable (take (suc (length ts - left)) ts) → ⊥
  pub beyond_it : (v : Bool) (ps us : List Sign) → ts ≡ ps ++ us → length us < left → Matches rows v (The Rule.script ∷ []) ps → ⊥
  pub no_phrase : IsPhrase (The Rule.script) ts → ⊥

pub wrong_at : (ts : List Sign) (left : ℕ) → Stops false (The Rule.script ∷ []) ts left → WrongAt ts left
wrong_at ts left s =
    let within = left_within false (The Rule.script ∷ []) ts left s in
    record {
      within = within;
      before = viable false (The Rule.script ∷ []) ts left s;
      wrong = λ l p. never (The Rule.script ∷ []) ts left s script_lawful false (take (suc (length ts - left)) ts) (drop (suc (length ts - left)) ts)
          (sym (take-append-drop (suc (length ts - left)) ts)) (inl (omega (arith, length-drop (suc (length ts - left)) ts))) p;
      beyond_it = λ v ps us e l p. never (The Rule.script ∷ []) ts left s script_lawful v ps us e (inl l) p;
      no_phrase = λ p. never (The Rule.script ∷ []) ts left s script_lawful true ts [] (sym (append-nil ts)) (inr (refl, refl)) p;
    }

-- the same where reading stops at a sign that goes on
pub record RightAt (ts : List Sign) (left : ℕ) : Type 0 where
  pub within : left ≤ length ts
  pub some_left : 0 < left
  pub viable_with : IsViable (take (suc (length ts - left)) ts)

pub right_at : (ts : List Sign) (left : ℕ) → Stops true (The Rule.script ∷ []) ts left → RightAt ts left
right_at ts left s = record {
  within = left_within true (The Rule.script ∷ []) ts left s;
  some_left = left_positive (The Rule.script ∷ []) ts left s;
  viable_with = viable true (The Rule.script ∷ []) ts left s;
}
