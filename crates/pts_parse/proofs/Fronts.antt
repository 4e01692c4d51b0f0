-- Beginnings part by part: signs that begin a row spell its first parts whole and begin the rest, or only begin the first parts.
use Rattle.std.proofs.Common.{◌≡◌, ◌↔◌, Bool, true, false, List, [], ◌∷◌, ◌++◌, refl, sym, subst, ◌∙◌, ap, append_assoc, append-nil, true≢false}
use Rattle.pts_tree.specs.Signs.{Sign}
use Rattle.pts_tree.specs.Grammar.{Rule, Part, Row, One, The, Maybe, Many, rows, Matches, whole, ends, sign, opens, without, with_it, no_more, one_more}

-- signs that spell or begin a row and what follows it: some of them spell the row whole and the others the rest, or all of them only begin the row
pub data Split (rules : Rule → List Row) (row more : Row) (v : Bool) (ts : List Sign) : Type 0 where
  in_two : (front back : List Sign) → ts ≡ front ++ back → Matches rules true row front → Matches rules v more back → Split rules row more v ts
  in_first : v ≡ false → Matches rules false row ts → Split rules row more v ts

-- what matches one row matches another
Carries : (Rule → List Row) → Row → Row → Type 0
Carries rules from to = (u : Bool) (us : List Sign) → Matches rules u from us → Matches rules u to us

carry : (rules : Rule → List Row) (from to more : Row) (v : Bool) (ts : List Sign) → Carries rules from to → Split rules from more v ts → Split rules to more v ts
unfolding Carries
carry rules from to more v ts f (in_two front back e p q) = in_two front back e (f true front p) q
carry rules from to more v ts f (in_first b p) = in_first b (f false ts p)

-- one sign more in front
behind_sign : (rules : Rule → List Row) (row to more : Row) (v : Bool) (t : Sign) (ts : List Sign)
    → ((u : Bool) (us : List Sign) → Matches rules u row us → Matches rules u to (t ∷ us)) → Split rules row more v ts → Split rules to more v (t ∷ ts)
behind_sign rules row to more v t ts f (in_two front back e p q) = in_two (t ∷ front) back (ap (λ us. t ∷ us) e) (f true front p) q
behind_sign rules row to more v t ts f (in_first b p) = in_first b (f false ts p)

split_by : (rules : Rule → List Row) (v : Bool) (whole_row : Row) (ts : List Sign) → Matches rules v whole_row ts → (row more : Row) → whole_row ≡ row ++ more
    → Split rules row more v ts
unfolding Carries
split_by rules v w ts m [] more e = in_two [] ts refl whole (subst (λ z. Matches rules v z ts) e m)
split_by rules _ _ _ whole (p ∷ row) more e = absurd (cc)
split_by rules _ w _ ends (p ∷ row) more e = in_first refl ends
split_by rules v _ _ (sign {ks = ks} {row = w} {t = t} {ts = ts} h m) (p ∷ row) more e =
    let i : One ks ≡ p = cc in
    behind_sign rules row (p ∷ row) more v t ts (λ u us q. subst (λ z. Matches rules u (z ∷ row) (t ∷ us)) i (sign h q)) (split_by rules v w ts m row more (cc))
split_by rules v _ ts (opens {r = r} {row = w} opened among m) (p ∷ row) more e =
    let i : The r ≡ p = cc in
    let j : w ≡ row ++ more = cc in
    carry rules (opened ++ row) (p ∷ row) more v ts (λ u us q. subst (λ z. Matches rules u (z ∷ row) us) i (opens opened among q))
    (split_by rules v (opened ++ w) ts m (opened ++ row) more (ap (λ z. opened ++ z) j ∙ sym (append_assoc opened row more)))
split_by rules v _ ts (without {r = r} {row = w} m) (p ∷ row) more e =
    let i : Maybe r ≡ p = cc in
    carry rules row (p ∷ row) more v ts (λ u us q. subst (λ z. Matches rules u (z ∷ row) us) i (without q)) (split_by rules v w ts m row more (cc))
split_by rules v _ ts (with_it {r = r} {row = w} m) (p ∷ row) more e =
    let i : Maybe r ≡ p = cc in
    let j : w ≡ row ++ more = cc in
    carry rules (The r ∷ row) (p ∷ row) more v ts (λ u us q. subst (λ z. Matches rules u (z ∷ row) us) i (with_it q)) (split_by rules v (The r ∷ w) ts m (The r ∷ row) more (ap (λ z. The r ∷ z) j))
split_by rules v _ ts (no_more {r = r} {row = w} m) (p ∷ row) more e =
    let i : Many r ≡ p = cc in
    carry rules row (p ∷ row) more v ts (λ u us q. subst (λ z. Matches rules u (z ∷ row) us) i (no_more q)) (split_by rules v w ts m row more (cc))
split_by rules v _ ts (one_more {r = r} {row = w} m) (p ∷ row) more e =
    let i : Many r ≡ p = cc in
    let j : w ≡ row ++ more = cc in
    carry rules (The r ∷ Many r ∷ row) (p ∷ row) more v ts (λ u us q. subst (λ z. Matches rules u (z ∷ row) us) i (one_more q))
    (split_by rules v (The r ∷ Many r ∷ w) ts m (The r ∷ Many r ∷ row) more (ap (λ z. The r ∷ Many r ∷ z) j))

pub split : (rules : Rule → List Row) (v : Bool) (row more : Row) (ts : List Sign) → Matches rules v (row ++ more) ts → Split rules row more v ts
split rules v row more ts m = split_by rules v (row ++ more) ts m row more refl

-- signs that only begin a row begin it with anything behind it
begins_longer : (rules : Rule → List Row) (v : Bool) (row more : Row) (ts : List Sign) → Matches rules v row ts → v ≡ false → Matches rules false (row ++ more) ts
begins_longer rules _ _ more _ whole b = absurd (true≢false b)
begins_longer rules _ row more _ ends b = ends
begins_longer rules v _ more _ (sign {row = row} {ts = ts} h m) b = sign h (begins_longer rules v row more ts m b)
begins_longer rules v _ more ts (opens {row = row} opened i m) b = opens opened i (rw (append_assoc opened row more) at (begins_longer rules v (opened ++ row) more ts m b))
begins_longer rules v _ more ts (without {row = row} m) b = without (begins_longer rules v row more ts m b)
begins_longer rules v _ more ts (with_it {r = r} {row = row} m) b = with_it (begins_longer rules v (The r ∷ row) more ts m b)
begins_longer rules v _ more ts (no_more {row = row} m) b = no_more (begins_longer rules v row more ts m b)
begins_longer rules v _ more ts (one_more {r = r} {row = row} m) b = one_more (begins_longer rules v (The r ∷ Many r ∷ row) more ts m b)

-- the whole of a row, and what follows it
join_whole : (rules : Rule → List Row) (u v : Bool) (row more : Row) (front back : List Sign) → Matches rules u row front → u ≡ true → Matches rules v more back
    → Matches rules v (row ++ more) (front ++ back)
join_whole rules _ v _ more _ back whole b q = q
join_whole rules _ v row more _ back ends b q = absurd (true≢false (sym b))
join_whole rules u v _ more _ back (sign {row = row} {ts = ts} h m) b q = sign h (join_whole rules u v row more ts back m b q)
join_whole rules u v _ more ts back (opens {row = row} opened i m) b q = opens opened i (rw (append_assoc opened row more) at (join_whole rules u v (opened ++ row) more ts back m b q))
join_whole rules u v _ more ts back (without {row = row} m) b q = without (join_whole rules u v row more ts back m b q)
join_whole rules u v _ more ts back (with_it {r = r} {row = row} m) b q = with_it (join_whole rules u v (The r ∷ row) more ts back m b q)
join_whole rules u v _ more ts back (no_more {row = row} m) b q = no_more (join_whole rules u v row more ts back m b q)
join_whole rules u v _ more ts back (one_more {r = r} {row = row} m) b q = one_more (join_whole rules u v (The r ∷ Many r ∷ row) more ts back m b q)

pub join : (rules : Rule → List Row) (v : Bool) (row more : Row) (ts : List Sign) → Split rules row more v ts → Matches rules v (row ++ more) ts
join rules v row more ts (in_two front back e p q) = subst (λ us. Matches rules v (row ++ more) us) (sym e) (join_whole rules true v row more front back p refl q)
join rules v row more ts (in_first b p) = subst (λ u. Matches rules u (row ++ more) ts) (sym b) (begins_longer rules false row more ts p refl)

-- signs begin a part and what follows it, or spell them: some of them are a phrase of the part and the others go on, or all of them only begin the part
pub part_by_part : (v : Bool) (part : Part) (more : Row) (ts : List Sign) → Matches rows v (part ∷ more) ts ↔ Split rows (part ∷ []) more v ts
part_by_part v part more ts = (split rows v (part ∷ []) more ts, join rows v (part ∷ []) more ts)

front_by : (rules : Rule → List Row) (v : Bool) (row : Row) (all : List Sign) → Matches rules v row all → (ts us : List Sign) → all ≡ ts ++ us → Matches rules false row ts
front_by rules v row all m [] us e = ends
front_by rules _ _ _ whole (t ∷ ts) us e = absurd (cc)
front_by rules _ row _ ends (t ∷ ts) us e = absurd (cc)
front_by rules v _ _ (sign {ks = ks} {row = row} {t = x} {ts = all} h m) (t ∷ ts) us e =
    let i : x ≡ t = cc in
    subst (λ z. Matches rules false (One ks ∷ row) (z ∷ ts)) i (sign h (front_by rules v row all m ts us (cc)))
front_by rules v _ all (opens {row = row} opened i m) (t ∷ ts) us e = opens opened i (front_by rules v (opened ++ row) all m (t ∷ ts) us e)
front_by rules v _ all (without {row = row} m) (t ∷ ts) us e = without (front_by rules v row all m (t ∷ ts) us e)
front_by rules v _ all (with_it {r = r} {row = row} m) (t ∷ ts) us e = with_it (front_by rules v (The r ∷ row) all m (t ∷ ts) us e)
front_by rules v _ all (no_more {row = row} m) (t ∷ ts) us e = no_more (front_by rules v row all m (t ∷ ts) us e)
front_by rules v _ all (one_more {r = r} {row = row} m) (t ∷ ts) us e = one_more (front_by rules v (The r ∷ Many r ∷ row) all m (t ∷ ts) us e)

-- a front of what begins a row, or is one, begins it
pub front_begins : (rules : Rule → List Row) (v : Bool) (row : Row) (ts us : List Sign) → Matches rules v row (ts ++ us) → Matches rules false row ts
front_begins rules v row ts us m = front_by rules v row (ts ++ us) m ts us refl

-- the whole of a row begins it
pub whole_begins : (rules : Rule → List Row) (row : Row) (ts : List Sign) → Matches rules true row ts → Matches rules false row ts
whole_begins rules row ts m = front_begins rules true row ts [] (rw append-nil m)
