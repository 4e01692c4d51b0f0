-- What an overlay lies over.
use Rattle.std.specs.Prelude.{ℕ, suc}
use Rattle.pts_store.specs.Stores.{Store}
use Rattle.pts_store.specs.declared.overlay.Base.{Base}
use Rattle.pts_store.specs.declared.overlay.Base.TheVariants.{OnStore, OnOverlay}

-- the store that it stands for
abbrev pub below : Base → Store
below (OnStore store) = store.now
below (OnOverlay lower) = lower.now.stands

-- how many overlays it has
abbrev pub depth_of : Base → ℕ
depth_of (OnStore store) = 0
depth_of (OnOverlay lower) = suc lower.now.depth
