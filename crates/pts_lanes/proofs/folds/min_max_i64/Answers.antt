use Rattle.std.proofs.Common.{◌≡◌, ◌-◌, ◌≤◌, ◌∷◌, [], List, ℤ, pos, length, take, drop, get_or, fold, Some, ap, ◌∙◌, arith, rules, SFits, w64}
use Rattle.std.proofs.lemmas.Int.{to_z-of_z}
use Rattle.std.proofs.lemmas.List.{take_all}
use Rattle.pts_lanes.specs.Kernels.{extremes_of}
use Rattle.pts_lanes.specs.Lanes.{widened}
use Rattle.pts_lanes.proofs.Ends.{widened-is}
use Rattle.pts_lanes.proofs.folds.min_max_i64.Goals as goal

widened-extremes : (xs : List ℤ) → 1 ≤ length xs → Some (fold widened (get_or xs 0 (pos 0), get_or xs 0 (pos 0)) (take (length xs - 1) (drop 1 xs))) ≡ extremes_of xs
widened-extremes [] le = absurd (omega arith)
widened-extremes (x ∷ xs) le =
    ap (λ l. Some (fold widened (x, x) l)) (take_all (length (x ∷ xs) - 1) xs (omega arith)) ∙ ap Some (widened-is (x, x) xs)

pub returns-in-len1-up : goal.returns-in-len1-up
returns-in-len1-up c =
    let xs = c.args.xs.now in
    let first : SFits w64 (get_or xs 0 (pos 0)) = search rules in
    let e = to_z-of_z w64 (get_or xs 0 (pos 0)) first in
    ap Some (c.fold_strips.ensures ∙ ap (λ z. fold widened (z, z) (take (length xs - 1) (drop 1 xs))) e) ∙ widened-extremes xs c.in-len1-up.len_at_least
