-- Loops that look at one statement of a body after the other, and enter what each binds.
use Rattle.std.proofs.Common.{◌≡◌, ℕ, ◌+◌, ◌<◌, ◌≤◌, Bool, true, false, List, ◌∷◌, length, get_or, drop, map, refl, sym, ap, ◌∙◌, subst}
use Rattle.std.specs.Prelude.{◌||◌}
use Rattle.std.proofs.lemmas.List.{drop_more, drop_all}
use Rattle.pts_tree.specs.declared.loops.BodyStmt.{BodyStmt}
use Rattle.pts_rules.specs.Known.{Scope}
use Rattle.pts_rules.specs.Parts.{uses, free, without}
use Rattle.pts_names.specs.Entered.{misses, entered, IsOver}
use Rattle.pts_names.proofs.Missing.{misses_none, misses_both}
use Rattle.pts_names.proofs.Entering.{misses_without, over_same, over_entered}

-- the answer is the one for the statements that are left, in the scope that is reached
pub record Walked (before scope : Scope) (xs : List BodyStmt) (at : ℕ) : Type 0 where
  pub left : misses before (free (map uses xs)) ≡ misses scope (free (map uses (drop at xs)))
  pub over : IsOver before scope

split : (scope : Scope) (xs : List BodyStmt) (at : ℕ) (x : BodyStmt) → at < length xs → x ≡ get_or xs at x
    → misses scope (free (map uses (drop at xs))) ≡ (misses scope (uses x).used || misses (entered (uses x).bound scope) (free (map uses (drop (at + 1) xs))))
split scope xs at x within is =
    let parts : drop at xs ≡ x ∷ drop (at + 1) xs = drop_more xs at x within ∙ ap (λ y. y ∷ drop (at + 1) xs) (sym is) in
    let rest = free (map uses (drop (at + 1) xs)) in
    ap (λ zs. misses scope (free (map uses zs))) parts ∙ misses_both scope (uses x).used (without (uses x).bound rest)
    ∙ ap (λ b. misses scope (uses x).used || b) (misses_without (uses x).bound scope rest)

pub walked_none : (scope : Scope) (xs : List BodyStmt) → Walked scope scope xs 0
walked_none scope xs = record { left = refl; over = over_same scope }

pub walked_one : (before scope next : Scope) (xs : List BodyStmt) (at : ℕ) (x : BodyStmt) (r : Bool)
    → Walked before scope xs at → at < length xs → x ≡ get_or xs at x → r ≡ misses scope (uses x).used → r ≡ false
    → next ≡ entered (uses x).bound scope → Walked before next xs (at + 1)
walked_one before scope next xs at x r h within is answer passed now =
    let rest = free (map uses (drop (at + 1) xs)) in
    record {
      left = h.left ∙ split scope xs at x within is ∙ (λ i. (sym answer ∙ passed) i || misses (sym now i) rest);
      over = subst (λ s. IsOver before s) (sym now) (over_entered (uses x).bound before scope h.over);
    }

pub walked_found : (before scope : Scope) (xs : List BodyStmt) (at : ℕ) (x : BodyStmt) (r : Bool)
    → Walked before scope xs at → at < length xs → x ≡ get_or xs at x → r ≡ misses scope (uses x).used → r ≡ true → true ≡ misses before (free (map uses xs))
walked_found before scope xs at x r h within is answer failed =
    sym (h.left ∙ split scope xs at x within is ∙ ap (λ b. b || misses (entered (uses x).bound scope) (free (map uses (drop (at + 1) xs)))) (sym answer ∙ failed))

pub walked_all : (before scope : Scope) (xs : List BodyStmt) (at : ℕ) → Walked before scope xs at → length xs ≤ at → false ≡ misses before (free (map uses xs))
walked_all before scope xs at h all = sym (h.left ∙ ap (λ zs. misses scope (free (map uses zs))) (drop_all at xs all) ∙ misses_none scope)

pub walked_over : (before scope now : Scope) (xs : List BodyStmt) (at : ℕ) → Walked before scope xs at → now ≡ scope → IsOver before now
walked_over before scope now xs at h e = subst (λ s. IsOver before s) (sym e) h.over

pub ruleset turns = (walked_none, walked_one, walked_found, walked_all, walked_over)
