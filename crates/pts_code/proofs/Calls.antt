-- What the functions of codes give, by their numbers.
use Rattle.std.proofs.Common.{◌≡◌, ◌⊎◌, ℕ, ◌<◌, ◌≤◌, false, if◌then◌else◌, nat_le, Option, Some, None, Ok, Err, List, [], length, get_or, take, refl, ap, ◌∙◌, inl, inr, arith}
use Rattle.std.proofs.lemmas.Bool.{le-leb}
use Rattle.std.proofs.lemmas.Bool.Decides.{leb_tells}
use Rattle.pts_types.specs.declared.value.Thrown.{Thrown}
use Rattle.pts_types.specs.declared.value.Value.{Value}
use Rattle.std.specs.Prelude.{slice_get}
use Rattle.std.proofs.lemmas.Option.{slice_get_past}
use Rattle.pts_code.specs.declared.code.Code.{Code}
use Rattle.pts_code.specs.Codes.{body_sight, gives, call_of, functions_of}
use Rattle.pts_code.specs.Outcomes.{Outcome, Gives, and_then, in_order, never}
use Rattle.pts_code.proofs.Numbering.{grown_length, grown_at}

-- a function as its code gives it, where it may call these
abbrev pub given_by : List Gives → Code → Gives
given_by functions code = λ values. gives (body_sight functions values) code

pub functions_length : (codes : List Code) → length (functions_of codes) ≡ length codes
functions_length codes = omega (arith, grown_length given_by codes [])

pub function_at : (codes : List Code) (n : ℕ) (d : Code) → n < length codes → slice_get (functions_of codes) n ≡ Some (given_by (functions_of (take n codes)) (get_or codes n d))
function_at codes n d within = grown_at given_by codes [] n n d within (omega arith)

pub no_function : (codes : List Code) (n : ℕ) → length codes ≤ n → slice_get (functions_of codes) n ≡ None
no_function codes n past = slice_get_past (functions_of codes) n (omega (arith, past, functions_length codes))

-- ---- calls

pub called : (xs : List Outcome) (o : Option Gives) (f : Gives) (values : List Value) → o ≡ Some f → length xs ≤ 8 → in_order xs ≡ Ok values → call_of xs o ≡ f values
called xs o f values is few all =
    ap (call_of xs) is
    ∙ ap (λ b. if b then and_then (in_order xs) f else never) (le-leb (length xs) 8 few)
    ∙ ap (λ r. and_then r f) all

pub call_threw : (xs : List Outcome) (o : Option Gives) (f : Gives) (e : Thrown) → o ≡ Some f → length xs ≤ 8 → in_order xs ≡ Err e → call_of xs o ≡ Err e
call_threw xs o f e is few all =
    ap (call_of xs) is
    ∙ ap (λ b. if b then and_then (in_order xs) f else never) (le-leb (length xs) 8 few)
    ∙ ap (λ r. and_then r f) all

many : (n : ℕ) → 8 < n → nat_le n 8 ≡ false
many n h = elim (leb_tells n 8) [ inl t ↦ absurd (omega (arith, t.1, h)) | inr t ↦ t.0 ]

pub not_called : (xs : List Outcome) (o : Option Gives) → (o ≡ None) ⊎ (8 < length xs) → call_of xs o ≡ never
not_called xs o (inl is) = ap (call_of xs) is
not_called xs None (inr more) = refl
not_called xs (Some f) (inr more) = ap (λ b. if b then and_then (in_order xs) f else never) (many (length xs) more)
