-- Map calls as the lists of a program show them.
use Rattle.std.specs.Prelude.{◌≡◌, ℕ, Some}
use Rattle.pts_lowering.specs.declared.forms.ForEach.{ForEach}
use Rattle.pts_lowering.specs.declared.forms.LoweredCall.TheVariants as lowered
use Rattle.pts_lowering.specs.declared.forms.Transform.{Transform}
use Rattle.std.specs.Prelude.{slice_get}
use Rattle.pts_program.specs.declared.lists.Lists.{Lists}
use Rattle.pts_program.specs.Lists.{IsProgram}
use Rattle.pts_store.specs.Stores.{Store}
use Rattle.pts_outcomes.specs.MapCalls.{as_transform, transform_call}
use Rattle.pts_clear.specs.Showing.{IsCallAt}

-- the lists of a program show each `for_each` and each `transform`
abbrev pub ForEachIsShown : Type 0
ForEachIsShown =
    (lists : Lists) (store : Store) (c : ℕ) (x : ForEach) → IsProgram lists → slice_get lists.lowered_calls c ≡ Some (lowered.ForEach x)
    → IsCallAt lists c x.policy (transform_call lists.functions store (as_transform x))

abbrev pub TransformIsShown : Type 0
TransformIsShown =
    (lists : Lists) (store : Store) (c : ℕ) (x : Transform) → IsProgram lists → slice_get lists.lowered_calls c ≡ Some (lowered.Transform x)
    → IsCallAt lists c x.policy (transform_call lists.functions store x)
