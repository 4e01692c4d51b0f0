use Rattle.pts_affine.proofs.root.+least_root.Given as goal

abbrev pub decreases-least_root : goal.decreases-least_root
decreases-least_root l = l.b
