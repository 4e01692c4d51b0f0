-- Inductions that stay in their kinds, by the values that they begin with.
use Rattle.std.specs.Prelude.{ℕ, Bool, is_some, pos, ◌+ℤ◌, ◌*ℤ◌}
use Rattle.pts_types.specs.declared.value.Value.{Value}
use Rattle.pts_lowering.specs.declared.forms.Induction.{Induction}
use Rattle.pts_passes.specs.Inductions.{kept, number_of}

-- an induction that begins with this value has one of its kind at a position
abbrev pub stays_at : Induction → Value → ℕ → Bool
stays_at x begun p = is_some (kept x.kind (number_of begun +ℤ pos p *ℤ number_of x.step))
