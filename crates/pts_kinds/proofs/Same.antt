-- When the kinds of an expression are those of a definition, and what operands are together.
use Rattle.std.proofs.Common.{◌≡◌, Bool, Option, refl}
use Rattle.std.specs.Prelude.{ℤ}
use Rattle.pts_types.specs.declared.value.Kind.{Kind}
use Rattle.pts_types.specs.declared.value.Kind.TheVariants as kinds
use Rattle.pts_rules.specs.Kinds as spec
use Rattle.pts_kinds.specs.declared.kinds.Kinds.{Kinds}
use Rattle.pts_kinds.specs.declared.kinds.Typing.{Typing}
use Rattle.pts_kinds.specs.Shown.{has_kind, typing_of}

-- the same at each kind
pub same_fits : (x : Kinds) (fits : Kind → Bool) → x.i64 ≡ fits kinds.I64 → x.u64 ≡ fits kinds.U64 → x.bool ≡ fits kinds.Bool → (kind : Kind) → has_kind x kind ≡ fits kind
same_fits x fits i u b kinds.I64 = i
same_fits x fits i u b kinds.U64 = u
same_fits x fits i u b kinds.Bool = b

-- the same number, the same kind and the same answer for each kind that is asked
pub same_typing : (literal : Option ℤ) (own : Option Kind) (fits : Kinds) (s : spec.Typing) → literal ≡ s.literal → own ≡ s.own → ((asked : Kind) → has_kind fits asked ≡ s.fits asked)
    → typing_of (record { literal = literal; own = own; fits = fits }) ≡ s
unfolding typing_of
same_typing literal own fits s literal_is own_is fits_are = λ at. record { literal = literal_is at; own = own_is at; fits = λ asked. fits_are asked at }

-- ---- what the kinds of an expression give

pub literal_same : (x : Typing) → (typing_of x).literal ≡ x.literal
unfolding typing_of
literal_same x = refl

pub own_same : (x : Typing) → (typing_of x).own ≡ x.own
unfolding typing_of
own_same x = refl

pub fits_same : (x : Typing) (kind : Kind) → (typing_of x).fits kind ≡ has_kind x.fits kind
unfolding typing_of
fits_same x kind = refl

pub ruleset typing_parts = (literal_same, own_same, fits_same)
