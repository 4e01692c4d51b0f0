-- Writes to the cell that an answer is put into.
use Rattle.std.proofs.Common.{◌≡◌, Option, Some, [], sym, subst}
use Rattle.pts_types.specs.declared.value.Value.{Value}
use Rattle.pts_lowering.specs.declared.forms.CellIndex.{CellIndex}
use Rattle.pts_store.specs.Steps.{AreOf}
use Rattle.pts_store.specs.Writes.{Writes, PutsCell}
use Rattle.pts_store.proofs.Together.{no_steps, one_step_more}
use Rattle.pts_eval.specs.Sums.{steps_into}

pub nothing_written : (into : Option CellIndex) (sum : Option Value) → steps_into into sum ≡ [] → AreOf (steps_into into sum) []
nothing_written into sum e = subst (λ steps. AreOf steps []) (sym e) no_steps

pub one_written : (into : Option CellIndex) (sum : Option Value) (cell : CellIndex) (value : Value) (old new : Writes) → into ≡ Some cell → sum ≡ Some value → old ≡ []
    → PutsCell old new cell.array cell.index value → AreOf (steps_into into sum) new
one_written into sum cell value old new e e' none put =
    let begun : AreOf [] old = subst (AreOf []) (sym none) no_steps in
    let own = one_step_more [] old new cell.array cell.index value begun put in
    subst (λ o. AreOf (steps_into o sum) new) (sym e) (subst (λ s. AreOf (steps_into (Some cell) s) new) (sym e') own)
