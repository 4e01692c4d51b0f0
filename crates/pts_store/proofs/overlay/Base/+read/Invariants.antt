use Rattle.pts_store.specs.Bases.{depth_of}
use Rattle.pts_store.proofs.overlay.Base.+read.Given as goal

abbrev pub decreases-read : goal.decreases-read
decreases-read l = depth_of l.self
