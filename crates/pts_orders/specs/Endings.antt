-- How a run in code ends.
use Rattle.std.specs.Prelude.{◌≡◌, Option, Some, None, Result, Ok, Err, ⊤}
use Rattle.pts_orders.specs.declared.body.Stop.{Stop}
use Rattle.pts_orders.specs.declared.body.Stop.TheVariants.{Throws, NoMemory}

-- in the state of the outcome, or by its throw; want of memory says nothing of it
abbrev pub Ends : {S A : Type 0} → Option S → Result A Stop → S → Type 0
Ends outcome (Ok _) state = outcome ≡ Some state
Ends outcome (Err Throws) state = outcome ≡ None
Ends outcome (Err NoMemory) state = ⊤
