use Rattle.std.proofs.Common.{◌+◌, [], ◌∷◌, pos, get_or, map, refl, sym, subst, rules, SFits, w64, to_z, of_z}
use Rattle.pts_lanes.specs.Lanes.{Enclose}
use Rattle.pts_lanes.proofs.Ends.{enclose-loaded}
use Rattle.pts_lanes.proofs.Places.{eight-items}
use Rattle.pts_lanes.proofs.folds.ExtremesFoldingI64.load.Goals as goal

pub returns : goal.returns
returns c =
    let items = c.args.items.now in
    let at = c.args.at in
    let a : SFits w64 (get_or items at (pos 0)) = search rules in
    let b : SFits w64 (get_or items (at + 1) (pos 0)) = search rules in
    let d : SFits w64 (get_or items (at + 2) (pos 0)) = search rules in
    let e : SFits w64 (get_or items (at + 3) (pos 0)) = search rules in
    let f : SFits w64 (get_or items (at + 4) (pos 0)) = search rules in
    let g : SFits w64 (get_or items (at + 5) (pos 0)) = search rules in
    let h : SFits w64 (get_or items (at + 6) (pos 0)) = search rules in
    let i : SFits w64 (get_or items (at + 7) (pos 0)) = search rules in
    let eight = get_or items at (pos 0) ∷ get_or items (at + 1) (pos 0) ∷ get_or items (at + 2) (pos 0) ∷ get_or items (at + 3) (pos 0) ∷ get_or items (at + 4) (pos 0) ∷ get_or items (at + 5) (pos 0) ∷ get_or items (at + 6) (pos 0) ∷ get_or items (at + 7) (pos 0) ∷ [] in
    let lanes = map (to_z w64) (map (of_z w64) eight) in
    subst (Enclose (lanes, lanes)) (sym (eight-items (pos 0) items at c.requires.within)) (enclose-loaded eight refl (a, (b, (d, (e, (f, (g, (h, (i, tt)))))))))
