use Rattle.pts_store.specs.Stores.{shown}
use Rattle.pts_store.specs.Stretches.{Shows}
use Rattle.pts_store.specs.Writes.{in_page}
use Rattle.pts_store.proofs.page.Page.write_into.Given as goal

abbrev pub invariant-loop-at : goal.invariant-loop-at
invariant-loop-at l = Shows shown (in_page l.slots) l.base l.at l.fn.cells l.cells
