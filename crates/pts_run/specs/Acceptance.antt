-- Which scripts are run, and why another one is not.
use Rattle.std.specs.Prelude.{◌≡◌, ℕ, Some, None, unwrap_or, List, [], ◌∷◌, flat_map, slice_get}
use Rattle.pts_tree.specs.declared.script.Item.{Item}
use Rattle.pts_tree.specs.declared.script.Item.TheVariants as items
use Rattle.pts_tree.specs.declared.script.Script.{Script}
use Rattle.pts_program.specs.declared.fault.BuildFault.{BuildFault}
use Rattle.pts_program.specs.declared.fault.BuildFault.TheVariants as faults
use Rattle.pts_program.specs.declared.lists.Lists.{Lists}
use Rattle.pts_program.specs.Faults.{IsFaultAt, IsSound}
use Rattle.pts_program.specs.Lists.{lists_of}
use Rattle.pts_conflict.specs.Conflicts.{IsClear, IsLeastConflict}
use Rattle.pts_eval.specs.Built.{first_later}
use Rattle.pts_run.specs.declared.accept.Rejection.{Rejection}
use Rattle.pts_run.specs.declared.accept.Rejection.TheVariants as rejections
use Rattle.pts_run.specs.declared.refusal.Conflict.{Conflict}
use Rattle.pts_run.specs.declared.refusal.Refusal.{Refusal}
use Rattle.pts_run.specs.declared.refusal.Refusal.TheVariants as refusals

-- ---- scripts that are accepted

-- the script breaks no rule and makes these lists, and no two of its evaluations conflict
pub record IsAccepted (script : Script) (lists : Lists) : Type 0 where
  pub sound : IsSound script
  pub made : lists ≡ lists_of script
  pub clear : IsClear lists

-- the same, and all its statements are built, so that it is run
pub record IsRunnable (script : Script) (lists : Lists) : Type 0 where
  pub accepted : IsAccepted script lists
  pub built : first_later lists ≡ None

-- ---- and those that are not

-- this is the fault of the script
abbrev pub HasFault : Script → BuildFault → Type 0
HasFault script fault = (item : ℕ) × IsFaultAt script item fault

-- the script breaks no rule, and this item is the first that is not built
abbrev pub IsLater : Script → ℕ → Type 0
IsLater script item = IsSound script × (first_later (lists_of script) ≡ Some item)

abbrev pub names_in : Item → List (List ℕ)
names_in (items.Array x) = x.name ∷ []
names_in x = []

-- the name in the declaration of the array of this number, counted from 0 in text order; empty where there is none
abbrev pub array_name : Script → ℕ → List ℕ
array_name script n = unwrap_or (slice_get (flat_map names_in script.items) n) []

-- the least conflict of these lists, with the name of its array in the script
pub record IsNamedConflict (script : Script) (lists : Lists) (conflict : Conflict) : Type 0 where
  pub least : IsLeastConflict lists conflict.pair
  pub name : conflict.array ≡ array_name script conflict.pair.array

-- the reason is that conflict
abbrev pub IsConflictOf : Script → Lists → Refusal → Type 0
IsConflictOf script lists (refusals.Conflict conflict) = IsNamedConflict script lists conflict
IsConflictOf script lists reason = ⊥

-- the script breaks no rule, and this is its least conflict
pub record HasConflict (script : Script) (conflict : Conflict) : Type 0 where
  pub sound : IsSound script
  pub named : IsNamedConflict script (lists_of script) conflict

-- the script is not accepted for this reason
abbrev pub Rejects : Script → Refusal → Type 0
Rejects script (refusals.Build fault) = HasFault script fault
Rejects script (refusals.Conflict conflict) = HasConflict script conflict
Rejects script reason = ⊥

-- and not run for this one: a statement that is not built comes before a conflict
abbrev pub RejectsRun : Script → Refusal → Type 0
RejectsRun script (refusals.Build fault) = HasFault script fault
RejectsRun script (refusals.Later item) = IsLater script item
RejectsRun script (refusals.Conflict conflict) = HasConflict script conflict × (first_later (lists_of script) ≡ None)
RejectsRun script reason = ⊥

-- what a fault of the builder is for the top call
abbrev pub rejection_of : BuildFault → Rejection
rejection_of faults.NoMemory = rejections.NoMemory
rejection_of fault = rejections.Refused (refusals.Build fault)
