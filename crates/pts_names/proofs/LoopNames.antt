-- What a loop uses, in its head and in its body.
use Rattle.std.proofs.Common.{◌≡◌, Bool, List, [], ◌∷◌, ◌++◌, map, sym, ap, ◌∙◌}
use Rattle.std.specs.Prelude.{◌||◌, flat_map}
use Rattle.std.proofs.lemmas.List.Concat.{flat_map_single}
use Rattle.pts_tree.specs.declared.loops.Loop.{Loop}
use Rattle.pts_tree.specs.declared.loops.BodyStmt.{BodyStmt}
use Rattle.pts_rules.specs.Known.{Scope}
use Rattle.pts_rules.specs.Parts.{uses, free, sum_names, names_of, clause_names, head_locals, loop_names}
use Rattle.pts_names.specs.Entered.{head_names, body_names, misses, entered}
use Rattle.pts_names.proofs.Missing.{misses_both}
use Rattle.pts_names.proofs.Entering.{misses_without}

pub of_head : (scope : Scope) (x : Loop) → misses scope (head_names x) ≡
    (misses scope (sum_names x.low) || misses scope (sum_names x.high) || misses scope (names_of sum_names x.step)
    || misses scope (flat_map clause_names x.clauses))
of_head scope x =
    misses_both scope (sum_names x.low ++ sum_names x.high ++ names_of sum_names x.step) (flat_map clause_names x.clauses)
    ∙ ap (λ b. b || misses scope (flat_map clause_names x.clauses))
    (misses_both scope (sum_names x.low ++ sum_names x.high) (names_of sum_names x.step)
    ∙ ap (λ b. b || misses scope (names_of sum_names x.step)) (misses_both scope (sum_names x.low) (sum_names x.high)))

pub of_loop : (scope : Scope) (x : Loop) → misses scope (loop_names x) ≡ (misses scope (head_names x) || misses scope (body_names x))
of_loop scope x = misses_both scope (head_names x) (body_names x)

-- the body is looked at in the scope of the loop's own names
pub of_body : (scope inside : Scope) (x : Loop) (xs : List BodyStmt) (b : Bool) → inside ≡ entered (head_locals x) scope → xs ≡ x.body
    → b ≡ misses inside (free (map uses xs)) → b ≡ misses scope (body_names x)
of_body scope inside x xs b e same h =
    h ∙ (λ i. misses (e i) (free (map uses (same i)))) ∙ ap (λ us. misses (entered (head_locals x) scope) (free us)) (sym (flat_map_single uses x.body))
    ∙ sym (misses_without (head_locals x) scope (free (flat_map (λ y. uses y ∷ []) x.body)))
